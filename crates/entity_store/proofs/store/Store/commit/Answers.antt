use Rattle.std.proofs.Common.{◌∙◌, ap, sym, subst}
use Rattle.std.specs.Ordering.{nat_cmp}
use Rattle.std.proofs.lemmas.Cmp.{nat_cmp_total}
use Rattle.layer_table.specs.Layers.{IsMap, laid}
use Rattle.layer_table.proofs.Laying.{rising_laid}
use Rattle.entity_store.specs.Changes.{AreTagged, entities_of, after_changes}
use Rattle.entity_store.proofs.Tagging.{tagged_laid, tagged_entities}
use Rattle.entity_store.proofs.store.Store.commit.Goals as goal

pub invariant_of-self : goal.invariant_of-self
invariant_of-self c = (
  subst AreTagged (sym c.push_layer.ensures.map) (tagged_laid c.self.inside.table.map c.staged.inside.layer c.self.invariant.0 c.staged.invariant),
  subst (IsMap nat_cmp) (sym c.push_layer.ensures.map) (rising_laid nat_cmp nat_cmp_total c.self.inside.table.map c.staged.inside.layer c.self.invariant.1),
)

pub returns-clause-entities : goal.returns-clause-entities
returns-clause-entities c =
    ap entities_of c.push_layer.ensures.map
    ∙ (λ i. entities_of (laid nat_cmp (sym (tagged_entities c.self.inside.table.map c.self.invariant.0) i) (c.staged.view_is i)))
    ∙ ap (λ s. after_changes s.entities c.args.staged) c.self.view_is

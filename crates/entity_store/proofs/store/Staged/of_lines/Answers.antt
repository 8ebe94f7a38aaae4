use Rattle.std.proofs.Common.{◌∙◌, ap, sym, subst}
use Rattle.entity_store.specs.Changes.{AreKeyed, after_changes}
use Rattle.entity_store.proofs.Tagging.{settled, settled_keyed}
use Rattle.entity_store.proofs.store.Staged.of_lines.Goals as goal

pub invariant_of-result : goal.invariant_of-result
invariant_of-result c = subst AreKeyed (sym c.in_ok-layer.ensures) (settled_keyed c.args.lines.items)

pub returns : goal.returns
returns c = λ es rising. ap (after_changes es) c.in_ok-layer.ensures ∙ settled es c.args.lines.items rising

use Rattle.std.proofs.Common.{sym, ◌∙◌, ap}
use Rattle.std.specs.Option.{option_copied, option_map}
use Rattle.layer_table.specs.Layers.{both_seen, value_of}
use Rattle.entity_store.specs.Lookups.{first_above}
use Rattle.entity_store.proofs.Tagging.{next_found}
use Rattle.entity_store.proofs.store.Store.above.Goals as goal

pub returns-in-Some : goal.returns-in-Some
returns-in-Some c =
    let last = option_copied c.args.last in
    ap (λ r. option_map value_of (option_map both_seen r)) (sym c.in-Some.is) ∙ ap (option_map value_of) c.next_after.ensures.pair
    ∙ next_found last c.self.inside.table.map c.self.invariant.0 ∙ ap (λ s. first_above last s.entities) c.self.view_is

pub returns-in-None : goal.returns-in-None
returns-in-None c =
    let last = option_copied c.args.last in
    ap (λ r. option_map value_of (option_map both_seen r)) (sym c.in-None.is) ∙ ap (option_map value_of) c.next_after.ensures.pair
    ∙ next_found last c.self.inside.table.map c.self.invariant.0 ∙ ap (λ s. first_above last s.entities) c.self.view_is

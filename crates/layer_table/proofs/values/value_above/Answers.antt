use Rattle.std.proofs.Common.{◌≡◌, ◌∙◌, ◌∷◌, Some, None, ap, map, sym}
use Rattle.std.specs.Option.{option_copied, option_map}
use Rattle.layer_table.specs.Layers.{both_seen, next_of, value_of, values_in}
use Rattle.layer_table.proofs.Going.{above_next, above_none}
use Rattle.layer_table.proofs.values.value_above.Goals as goal

pub returns-in-Some-next_after-clause-first : goal.returns-in-Some-next_after-clause-first
returns-in-Some-next_after-clause-first g c =
    let last = option_copied c.args.last in
    let ps = c.in-Some.table.now.map in
    let key = c.in-Some-next_after.key.now in
    let value = c.in-Some-next_after.value.now in
    let next : next_of g.K.Ord.cmp last ps ≡ Some (key, value) = sym c.next_after.ensures.pair ∙ ap (option_map both_seen) c.in-Some-next_after.is in
    ap (λ t. values_in g.K.Ord.cmp last (option_copied t)) c.in-Some.is
    ∙ ap (map value_of) (above_next g.K.Ord.cmp g.met.K.Ord.total last (key, value) ps c.next_after.ensures.rising next)
    ∙ sym (ap (λ t. value ∷ values_in g.K.Ord.cmp (Some key) (option_copied t)) c.in-Some.is)

pub returns-in-None-clause-none : goal.returns-in-None-clause-none
returns-in-None-clause-none g c =
    let last = option_copied c.args.last in
    let next : next_of g.K.Ord.cmp last c.in-Some.table.now.map ≡ None = sym c.next_after.ensures.pair ∙ ap (option_map both_seen) c.in-None.is in
    ap (λ t. values_in g.K.Ord.cmp last (option_copied t)) c.in-Some.is
    ∙ ap (map value_of) (above_none g.K.Ord.cmp g.met.K.Ord.total last c.in-Some.table.now.map next)

use Rattle.std.proofs.Common.{◌∙◌, ap, sym, subst, arith, length, map, zip}
use Rattle.std.specs.List.Sorted.{IsNonDecreasingBy}
use Rattle.layer_table.specs.Layers.{value_of}
use Rattle.ref_index.specs.Pairs.{users_at}
use Rattle.ref_index.proofs.Pairing.{keys_rise, parts_long, parts_zipped}
use Rattle.ref_index.proofs.pairs.Pairs.sorted.Goals as goal

pub invariant_of-result : goal.invariant_of-result
invariant_of-result c =
    let long = parts_long c.sort.new.pairs.items in
    let first = ap length c.in_ok-targets.ensures.first in
    let second = ap length c.in_ok-targets.ensures.second in
    (omega (arith, long, first, second, c.in_ok-targets.targets.ok.0, c.in_ok-targets.users.ok.0), subst (IsNonDecreasingBy (λ n. n)) (sym c.in_ok-targets.ensures.first) (keys_rise c.sort.new.pairs.items c.in_ok-sort.ensures.rising))

pub returns : goal.returns
returns c = λ k.
    (λ i. users_at k (zip (c.in_ok-targets.ensures.first i) (c.in_ok-targets.ensures.second i)))
    ∙ ap (users_at k) (parts_zipped c.sort.new.pairs.items)
    ∙ ap (map value_of) (c.in_ok-sort.ensures.turns k)

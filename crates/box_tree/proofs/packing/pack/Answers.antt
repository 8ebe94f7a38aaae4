use Rattle.std.proofs.Common.{◌≡◌, sym, subst, length, map, List}
use Rattle.std.specs.List.{range_with_len}
use Rattle.std.specs.List.Sorted.{IsPermutation}
use Rattle.std.proofs.lemmas.Result.{IfOk-weaker}
use Rattle.box_tree.specs.Packing.{Key}
use Rattle.box_tree.proofs.Keys.{each_position}
use Rattle.box_tree.proofs.packing.pack.Goals as goal

pub returns-clause-once : goal.returns-clause-once
returns-clause-once c =
    let sorted = subst (λ (ks : List Key). IsPermutation c.in_ok-keys.keys.items ks) (sym c.deref.ensures.value) c.sort_unstable.ensures.permutation in
    let moved = subst (λ (ks : List Key). IsPermutation ks c.deref.result.now) c.in_ok-keys.ensures sorted in
    IfOk-weaker c.positions.result (λ v. v.items ≡ map (λ (key : Key). key.2) c.deref.result.now) (λ v. IsPermutation (range_with_len 0 (length c.args.items.now)) v.items)
    (λ v e. each_position c.args.items.now c.deref.result.now v.items moved e) c.positions.ensures

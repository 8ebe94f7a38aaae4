use Rattle.std.proofs.Common.{◌≡◌, ◌≤◌, ◌-◌, ◌∙◌, true, false, nat_lt, nat_le, rules, ap, sym, subst, arith, length, take, drop}
use Rattle.std.specs.List.Sorted.{IsNonDecreasingBy, IsPartitionPoint}
use Rattle.std.proofs.lemmas.List.Sorted.{IsPartitionPoint-from_clause, IsPartitionedBy-ltb, IsPartitionedBy-leb}
use Rattle.ref_index.specs.Pairs.{users_at}
use Rattle.ref_index.proofs.Pairing.{from_to, part_between}
use Rattle.ref_index.proofs.pairs.Pairs.users.Goals as goal

pub between-requires-clause-rising : goal.between-requires-clause-rising
between-requires-clause-rising c =
    let k = c.args.target in
    let ks = c.self.inside.targets.items in
    let up = subst (IsNonDecreasingBy (λ n. n)) (sym c.deref.ensures.value) c.self.invariant.1 in
    let up' = subst (IsNonDecreasingBy (λ n. n)) (sym c.deref-2.ensures.value) c.self.invariant.1 in
    let low = subst (λ xs. IsPartitionPoint (λ n. nat_lt n k ≡ true) (λ n. nat_lt n k ≡ false) xs c.partition_point-from.result) c.deref.ensures.value
    (IsPartitionPoint-from_clause (λ n. nat_lt n k) c.deref.result.now c.partition_point-from.result c.partition_point-from.ensures.partitioned (IsPartitionedBy-ltb (λ n. n) c.deref.result.now k up) (λ a r q h. search rules)) in
    let high = subst (λ xs. IsPartitionPoint (λ n. nat_le n k ≡ true) (λ n. nat_le n k ≡ false) xs c.partition_point-to.result) c.deref-2.ensures.value
    (IsPartitionPoint-from_clause (λ n. nat_le n k) c.deref-2.result.now c.partition_point-to.result c.partition_point-to.ensures.partitioned (IsPartitionedBy-leb (λ n. n) c.deref-2.result.now k up') (λ a r q h. search rules)) in
    let in_from : c.partition_point-from.result ≤ length ks = subst (λ xs. c.partition_point-from.result ≤ length xs) c.deref.ensures.value c.partition_point-from.ensures.bound in
    let in_to : c.partition_point-to.result ≤ length ks = subst (λ xs. c.partition_point-to.result ≤ length xs) c.deref-2.ensures.value c.partition_point-to.ensures.bound in
    from_to k ks c.partition_point-from.result c.partition_point-to.result in_to in_from low.0 high.1

pub between-requires-clause-inside : goal.between-requires-clause-inside
between-requires-clause-inside c =
    let in_to = subst (λ xs. c.partition_point-to.result ≤ length xs) c.deref-2.ensures.value c.partition_point-to.ensures.bound in
    omega (arith, in_to, c.self.invariant.0, c.self.inside.targets.ok.0, c.self.inside.users.ok.0, c.deref-3.ensures.len)

pub returns : goal.returns
returns c =
    let k = c.args.target in
    let ks = c.self.inside.targets.items in
    let us = c.self.inside.users.items in
    let up = subst (IsNonDecreasingBy (λ n. n)) (sym c.deref.ensures.value) c.self.invariant.1 in
    let up' = subst (IsNonDecreasingBy (λ n. n)) (sym c.deref-2.ensures.value) c.self.invariant.1 in
    let low = subst (λ xs. IsPartitionPoint (λ n. nat_lt n k ≡ true) (λ n. nat_lt n k ≡ false) xs c.partition_point-from.result) c.deref.ensures.value
    (IsPartitionPoint-from_clause (λ n. nat_lt n k) c.deref.result.now c.partition_point-from.result c.partition_point-from.ensures.partitioned (IsPartitionedBy-ltb (λ n. n) c.deref.result.now k up) (λ a r q h. search rules)) in
    let high = subst (λ xs. IsPartitionPoint (λ n. nat_le n k ≡ true) (λ n. nat_le n k ≡ false) xs c.partition_point-to.result) c.deref-2.ensures.value
    (IsPartitionPoint-from_clause (λ n. nat_le n k) c.deref-2.result.now c.partition_point-to.result c.partition_point-to.ensures.partitioned (IsPartitionedBy-leb (λ n. n) c.deref-2.result.now k up') (λ a r q h. search rules)) in
    let in_from : c.partition_point-from.result ≤ length ks = subst (λ xs. c.partition_point-from.result ≤ length xs) c.deref.ensures.value c.partition_point-from.ensures.bound in
    let in_to : c.partition_point-to.result ≤ length ks = subst (λ xs. c.partition_point-to.result ≤ length xs) c.deref-2.ensures.value c.partition_point-to.ensures.bound in
    let same : length ks ≡ length us = omega (arith, c.self.invariant.0, c.self.inside.targets.ok.0, c.self.inside.users.ok.0) in
    c.between.ensures ∙ ap (λ xs. take (c.partition_point-to.result - c.partition_point-from.result) (drop c.partition_point-from.result xs)) c.deref-3.ensures.value
    ∙ part_between k ks us c.partition_point-from.result c.partition_point-to.result same in_to in_from low.0 low.1 high.0 high.1
    ∙ ap (users_at k) c.self.view_is

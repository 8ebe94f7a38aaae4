use Rattle.std.proofs.Common.{◌∙◌, [], ap, sym, subst}
use Rattle.std.specs.Ordering.{nat_cmp}
use Rattle.ordered_lists.specs.Ordered.{put_all}
use Rattle.layer_table.specs.Layers.{key_of, laid}
use Rattle.ref_index.specs.Pairs.{users_at}
use Rattle.ref_index.specs.Indexes.{Indexes}
use Rattle.ref_index.proofs.Following.{built}
use Rattle.ref_index.proofs.index.RefIndex.build.Goals as goal

pub returns-clause-index : goal.returns-clause-index
returns-clause-index c =
    let store = c.args.store.now.entities in
    let bottom = c.in_ok-reserve_layer.ensures.map ∙ c.new-table.ensures.map in
    let layer = c.in_ok-layer.ensures ∙ ap (put_all nat_cmp key_of []) c.in_ok-lists.ensures in
    subst (λ m. Indexes m store) (sym (c.push_layer.ensures.map ∙ (λ i. laid nat_cmp (bottom i) (layer i))))
    (built store c.in_ok-pairs.pairs (λ k. c.in_ok-pairs.ensures k ∙ ap (users_at k) c.in_ok-found.ensures))

use Rattle.std.proofs.Common.{◌∙◌, [], ap, sym, subst}
use Rattle.std.specs.Ordering.{nat_cmp}
use Rattle.ordered_lists.specs.Ordered.{put_all}
use Rattle.layer_table.specs.Layers.{key_of, laid}
use Rattle.ref_index.specs.Pairs.{users_at}
use Rattle.ref_index.specs.Indexes.{Indexes, lists_for, renewed}
use Rattle.ref_index.proofs.Following.{followed}
use Rattle.ref_index.proofs.index.RefIndex.stage.Goals as goal

pub returns-clause-staged : goal.returns-clause-staged
returns-clause-staged c = λ is good e indexed.
    let map = c.args.self.now.map in
    let named = c.in_ok-named.named in
    let pairs = c.in_ok-pairs.pairs in
    let changes = c.in_ok-changes.ensures ∙ ap (lists_for (renewed named pairs map)) c.in_ok-targets.ensures in
    let layer = c.in_ok-layer.ensures ∙ ap (put_all nat_cmp key_of []) changes in
    subst (λ l. Indexes (laid nat_cmp map l) c.args.after.now) (sym layer)
    (followed c.args.before.now c.args.after.now c.args.lines.now map named pairs is good e indexed
    (λ k. c.in_ok-named.ensures k ∙ ap (users_at k) c.in_ok-names.ensures)
    (λ k. c.in_ok-pairs.ensures k ∙ ap (users_at k) c.in_ok-found.ensures))

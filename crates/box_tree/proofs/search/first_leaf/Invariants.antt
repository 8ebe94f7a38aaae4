use Rattle.std.proofs.Common.{◌≡◌, ◌+◌, ◌*◌, ◌/◌, ◌^◌, ◌≤◌, None}
use Rattle.box_tree.specs.Trees.{lowest}
use Rattle.box_tree.specs.Walk.{first_between, nodes_until}
use Rattle.box_tree.proofs.search.first_leaf.Given as goal

-- nothing was found up to the end of this node, and these are the steps
abbrev pub invariant-loop-height : goal.invariant-loop-height
invariant-loop-height g l = record {
  here : l.place ≡ l.from / 8 ^ l.height;
  none : None ≡ first_between (lowest l.levels) l.rect l.from ((l.place + 1) * 8 ^ l.height);
  steps : l.steps ≤ l.fn.steps + nodes_until l.levels l.rect l.height l.from (l.place + 1);
}

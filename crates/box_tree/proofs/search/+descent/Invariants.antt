use Rattle.std.proofs.Common.{◌≡◌, ◌+◌, ◌*◌, ◌^◌, ◌≤◌, None}
use Rattle.box_tree.specs.Trees.{lowest}
use Rattle.box_tree.specs.Walk.{first_between, nodes_until}
use Rattle.box_tree.proofs.search.+descent.Given as goal

abbrev pub decreases-first_among : goal.decreases-first_among
decreases-first_among g l = 2 * l.height + 1

abbrev pub decreases-first_below : goal.decreases-first_below
decreases-first_below g l = 2 * l.height

-- nothing was found below the nodes so far, and these are the steps
abbrev pub invariant-first_among-loop-place : goal.invariant-first_among-loop-place
invariant-first_among-loop-place g l = record {
  inside : l.place ≤ l.to;
  none : None ≡ first_between (lowest l.levels) l.rect (l.from * 8 ^ l.height) (l.place * 8 ^ l.height);
  steps : l.steps ≤ l.fn.steps + nodes_until l.levels l.rect l.height (l.from * 8 ^ l.height) l.place;
}

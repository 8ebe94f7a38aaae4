use Rattle.std.proofs.Common.{sym, ap, ◌∙◌}
use Rattle.box_tree.specs.Trees.{levels_of, lowest}
use Rattle.box_tree.proofs.Levels.{lowest_again}
use Rattle.box_tree.proofs.tree.Tree.build.Goals as goal

pub invariant_of-result : goal.invariant_of-result
invariant_of-result c =
    c.in_ok-levels.ensures ∙ sym (ap levels_of (ap lowest c.in_ok-levels.ensures ∙ lowest_again c.args.leaves.now))

pub returns : goal.returns
returns c = ap lowest c.in_ok-levels.ensures ∙ lowest_again c.args.leaves.now

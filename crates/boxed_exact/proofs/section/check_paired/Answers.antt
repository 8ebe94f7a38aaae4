use Rattle.std.proofs.Common.{sym}
use Rattle.boxed_exact.specs.Sides.{beside}
use Rattle.boxed_exact.proofs.BlockWalk.{pair_some}
use Rattle.boxed_exact.proofs.section.check_paired.Goals as goal

pub returns-in-Some : goal.returns-in-Some
returns-in-Some g c fields e =
    let m = g.C.CheckClass in
    pair_some m.class m.boxing (beside c.args.around.now) c.args.at c.args.start c.in-Some.leaf.now c.args.leaves.now fields c.args.first.now c.check_with_leaf.new.first (sym c.in-Some.ensures.value) (c.check_with_leaf.ensures fields e)

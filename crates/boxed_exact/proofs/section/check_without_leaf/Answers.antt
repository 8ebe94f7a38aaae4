use Rattle.boxed_exact.specs.Sides.{beside}
use Rattle.boxed_exact.proofs.BlockWalk.{block_at, without_leaf}
use Rattle.boxed_exact.proofs.section.check_without_leaf.Goals as goal

pub returns : goal.returns
returns g c fields e =
    let m = g.C.CheckClass in
    let b = c.check_block.ensures fields e in
    without_leaf m.class m.boxing (beside c.args.around.now) c.args.at fields c.args.first.now c.check_block.new.first c.ask.new.self b.block b.is (block_at m.class m.boxing c.args.at fields b.block b.is) b.asked c.ask.ensures

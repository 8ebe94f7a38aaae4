use Rattle.boxed_exact.specs.Sides.{beside}
use Rattle.boxed_exact.proofs.BlockWalk.{block_at, with_leaf}
use Rattle.boxed_exact.proofs.section.check_with_leaf.Goals as goal

pub returns : goal.returns
returns g c fields e =
    let m = g.C.CheckClass in
    let b = c.check_block-seen.ensures fields e in
    with_leaf m.class m.boxing (beside c.args.around.now) c.args.at c.args.start c.args.leaf.now fields c.args.first.now c.check_block-seen.new.first c.ask.new.self c.ask-2.new.self b.block c.is_place.result c.check_block-seen.result.in_box b.is
    (block_at m.class m.boxing c.args.at fields b.block b.is) b.asked c.ask.ensures c.ask-2.ensures c.is_place.ensures b.in_box

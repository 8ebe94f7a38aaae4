use Rattle.std.proofs.Common.{ℕ, subst, arith}
use Rattle.obf_wire.specs.Fields.{part_of}
use Rattle.obf_wire.specs.KnownKeys.{StandsFirst}
use Rattle.obf_wire.specs.Windows.{range_of}
use Rattle.boxed_exact.specs.Sides.{beside}
use Rattle.boxed_exact.specs.Boxes.{box_of}
use Rattle.boxed_check.proofs.BlockWalk.{block_is}
use Rattle.boxed_check.proofs.blocks.see_block.Goals as goal

pub returns : goal.returns
returns g c =
    let m = g.C.CheckClass in
    let first = subst (λ (at : ℕ). StandsFirst (part_of c.args.window.bytes.now at c.args.window.to) 14 c.in-Some.texts) c.from.ensures c.in-Some.ensures in
    block_is m.class m.boxing m.key_of (beside c.args.around.now) (box_of c.args.holder.now) (range_of c.args.window) c.args.at c.in-Some.texts (record { window = c.part-range.result; count = c.in-Some-texts_in.named }) c.in-Some-records_in.count
    (record { ordered = c.args.window.ordered; within = c.args.window.within }) first c.part-range.ensures.range c.in-Some-texts_in.ensures c.in-Some-records_in.ensures (omega arith) (omega arith)

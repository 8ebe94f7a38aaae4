use Rattle.std.proofs.Common.{subst, arith}
use Rattle.obf_wire.specs.Fields.{Window}
use Rattle.boxed_exact.specs.Sides.{beside}
use Rattle.boxed_exact.specs.Boxes.{box_of}
use Rattle.boxed_exact.specs.Records.{IsGoodRecord}
use Rattle.boxed_check.proofs.BlockWalk.{records_on, records_end}
use Rattle.boxed_check.proofs.blocks.records_in.Goals as goal

pub loop-at-preserved : goal.loop-at-preserved
loop-at-preserved g c =
    let m = g.C.CheckClass in
    let w : Window = record { bytes = c.args.window.bytes.now; place = c.loop-at.at; end = c.args.window.to } in
    let good = subst (λ (v : Window). IsGoodRecord m.class m.boxing m.key_of (beside c.args.around.now) (box_of c.args.holder.now) c.loop-at.before c.args.texts c.loop-at.ordinal c.in-Some.field.at v c.in-Some-see.seen.ordinal c.in-Some-see.seen.key) c.part-payload.ensures.range c.in-Some-see.ensures.good in
    record {
      suffices = λ total l. c.loop-at.invariant.suffices total
          (records_on m.class m.boxing m.key_of (beside c.args.around.now) (box_of c.args.holder.now) w c.args.texts c.loop-at.ordinal c.loop-at.before c.in-Some.field c.in-Some-see.seen.ordinal c.in-Some-see.seen.key c.loop-at.count total
          (record { ordered = c.loop-at.invariant.inside; within = c.args.window.within }) c.in-Some.ensures good l);
      inside = c.in-Some.ensures.inside.ends;
      few = omega (arith, c.loop-at.invariant.few, c.in-Some.ensures.inside.starts, c.in-Some.ensures.inside.ordered);
      low = c.in-Some-see.ensures.few;
    }

pub returns : goal.returns
returns g c =
    let m = g.C.CheckClass in
    c.loop-at.invariant.suffices c.loop-at.count
    (records_end m.class m.boxing m.key_of (beside c.args.around.now) (box_of c.args.holder.now) (record { bytes = c.args.window.bytes.now; place = c.loop-at.at; end = c.args.window.to }) c.args.texts c.loop-at.ordinal c.loop-at.before c.loop-at.count
    (record { ordered = c.loop-at.invariant.inside; within = c.args.window.within }) (omega arith))

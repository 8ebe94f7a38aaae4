use Rattle.std.proofs.Common.{refl, arith}
use Rattle.obf_wire.specs.Varint.{varint}
use Rattle.obf_wire.proofs.Writing.{groups-next, groups-end, limit-next}
use Rattle.obf_wire.proofs.varint.spell.Goals as goal

pub loop-left-init : goal.loop-left-init
unfolding varint
loop-left-init c = record { few = omega arith; low = c.ranges.v.fits; same = refl }

pub loop-left-preserved : goal.loop-left-preserved
loop-left-preserved c =
    let kept = c.loop-left.invariant in
    let next = limit-next c.loop-left.len c.loop-left.left kept.few c.loop-left-test.true kept.low in
    record {
      few = omega (arith, next.0);
      low = next.1;
      same = groups-next c.loop-left.buffer c.loop-left.len c.loop-left.left _ next.0 (omega (arith, next.0)) c.loop-left-test.true kept.same;
    }

pub returns-clause-spelled : goal.returns-clause-spelled
returns-clause-spelled c =
    let kept = c.loop-left.invariant in
    groups-end c.loop-left.buffer c.loop-left.len c.loop-left.left _ (omega (arith, kept.few)) c.loop-left-test.false kept.same

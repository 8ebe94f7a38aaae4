use Rattle.std.proofs.Common.{ap, arith, filter, flat_map, length}
use Rattle.live_model.specs.Maps.{differs}
use Rattle.live_model.specs.Records.{records}
use Rattle.change_diff.proofs.Differing.{one_more_mark, one_more_records}
use Rattle.change_diff.proofs.comparing.changed_among.Goals as goal

pub loop-id-preserved : goal.loop-id-preserved
loop-id-preserved g c =
    let differing = differs c.args.rules.now c.args.before.now c.args.after.now in
    let made = records c.args.rules.now c.args.after.now in
    let first = c.in-Some.ensures.cases.0 in
    record {
      marks =
          one_more_mark differing made (filter differing c.args.ids.now) c.loop-id.found.marks.items c.put_if_changed.new.found.marks.items c.in-Some.id.now c.loop-id.rest.now c.in-Some.others.now first
          c.in_ok-put_if_changed.ensures.marks c.loop-id.invariant.marks;
      records =
          one_more_records differing made (flat_map made (filter differing c.args.ids.now)) c.loop-id.found.records.items c.put_if_changed.new.found.records.items c.in-Some.id.now c.loop-id.rest.now c.in-Some.others.now first
          c.in_ok-put_if_changed.ensures.records c.loop-id.invariant.records;
      fit = λ good. c.in_ok-put_if_changed.ensures.fit good (c.loop-id.invariant.fit good);
      counted = let one = ap length first in omega (arith, one, c.in_ok-put_if_changed.ensures.counted, c.loop-id.invariant.counted);
    }

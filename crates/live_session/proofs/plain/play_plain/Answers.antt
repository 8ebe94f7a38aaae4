use Rattle.std.proofs.Common.{map}
use Rattle.std.specs.Arc.{arc_value}
use Rattle.live_session.proofs.Whole.{whole}
use Rattle.live_session.proofs.plain.play_plain.Goals as goal

pub returns : goal.returns
returns c =
    whole c.args.rules.now (arc_value c.args.base) c.args.steps.now (map arc_value c.args.changes.now)
    c.in_ok-machine.machine c.play_lines.new.machine c.settle.new.machine c.new-out.result.items c.play_lines.new.out.items c.put_end.new.out.items c.set.result.now
    c.in_ok-machine.ensures c.new-out.ensures.items c.in_ok-play_lines.ensures.machine c.in_ok-play_lines.ensures.text c.in_ok-settle.ensures c.set.ensures.set c.in_ok-put_end.ensures

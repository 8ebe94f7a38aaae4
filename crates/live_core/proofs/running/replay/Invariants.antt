use Rattle.std.proofs.Common.{map, take}
use Rattle.overlay_set.specs.Events.{event_of, reply_of}
use Rattle.overlay_set.specs.Standing.{Stands}
use Rattle.live_core.specs.Running.{HasPlayed}
use Rattle.live_core.proofs.running.replay.Given as goal

-- the first events were played
abbrev pub invariant-loop-event : goal.invariant-loop-event
invariant-loop-event l =
    HasPlayed l.initial.machine (map event_of (take l.event-index l.events)) l.machine (map reply_of l.initial.replies.items) (map reply_of l.replies.items)
    × Stands l.machine.rules l.machine.base l.machine.now

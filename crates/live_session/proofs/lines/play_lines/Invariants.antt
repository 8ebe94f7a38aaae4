use Rattle.std.proofs.Common.{◌≡◌, ◌+◌, ◌++◌, length, map, drop}
use Rattle.std.specs.Arc.{arc_value}
use Rattle.overlay_set.specs.Standing.{Stands}
use Rattle.session_text.specs.Plays.{events_from}
use Rattle.live_core.specs.Running.{after_events}
use Rattle.live_session.specs.Lines.{IsAlone, lines_text}
use Rattle.live_session.specs.Scripts.{publishing}
use Rattle.live_session.proofs.lines.play_lines.Given as goal

-- what is played and put so far, with what the other lines will do, is what all lines do
abbrev pub invariant-loop-index : goal.invariant-loop-index
invariant-loop-index l =
    let whats = map (λ s. s.what) l.steps in
    let changes = map arc_value l.changes in record {
      alone : IsAlone l.machine;
      stands : Stands l.machine.rules l.machine.base l.machine.now;
      count : l.used + length (publishing (drop l.index whats)) ≡ length l.changes;
      machine : after_events l.initial.machine (events_from 1 whats changes) ≡ after_events l.machine (events_from (l.index + 1) (drop l.index whats) (drop l.used changes));
      text : l.initial.out.items ++ lines_text 1 l.initial.machine whats changes ≡ l.out.items ++ lines_text (l.index + 1) l.machine (drop l.index whats) (drop l.used changes);
    }

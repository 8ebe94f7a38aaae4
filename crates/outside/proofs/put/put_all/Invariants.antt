use Rattle.std.proofs.Common.{◌≡◌, ◌++◌, ◌-◌, ◌≤◌, length, take}
use Rattle.outside.proofs.put.put_all.Given as goal

abbrev pub invariant-loop-done : goal.invariant-loop-done
invariant-loop-done g l = record {
  within : l.done ≤ length l.bytes;
  received : (g.K.Sink.state l.sink).received ≡ (g.K.Sink.state l.initial.sink).received ++ take l.done l.bytes;
  faults : (g.K.Sink.state l.initial.sink).faults ≤ (g.K.Sink.state l.sink).faults;
}

abbrev pub decreases-loop-done : goal.decreases-loop-done
decreases-loop-done g l = length l.bytes - l.done

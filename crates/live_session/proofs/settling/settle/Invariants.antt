use Rattle.std.proofs.Common.{◌*◌, ◌-◌, length}
use Rattle.overlay_set.specs.Sets.{age}
use Rattle.overlay_set.specs.Standing.{Stands}
use Rattle.live_session.specs.Folding.{HasWorker, IsSameMap}
use Rattle.live_session.proofs.settling.settle.Given as goal

-- the map is the same
abbrev pub invariant-loop-alloc : goal.invariant-loop-alloc
invariant-loop-alloc l = record {
  map : IsSameMap l.initial.machine l.machine;
  worker : HasWorker l.machine;
  stands : Stands l.machine.rules l.machine.base l.machine.now;
}

-- the greatest number rises
abbrev pub decreases-loop-alloc : goal.decreases-loop-alloc
decreases-loop-alloc l = 4 * length l.machine.now.history - age l.machine.now

-- Why publications do not come in.
use Rattle.std.specs.Prelude.{ℕ}
use Rattle.overlay_set.specs.Machines.{Reply, Late, HistoryFull, FilesFull}
use Rattle.set_events.specs.declared.causes.Cause.{Cause}
use Rattle.set_events.specs.declared.causes.Cause.TheVariants as cause

-- what a publication is answered for a cause, by a set whose history has so many publications
abbrev pub refusal_for : ℕ → Cause → Reply
refusal_for front (cause.Late last) = Late front last
refusal_for front cause.HistoryFull = HistoryFull front
refusal_for front cause.FilesFull = FilesFull front

-- A machine that folds, one fold after another, until nothing is to be folded.
use Rattle.std.specs.Prelude.{◌≡◌, ◌+◌, ◌<◌, length, None}
use Rattle.overlay_set.specs.Sets.{age}
use Rattle.overlay_set.specs.Periods.{foldable}
use Rattle.overlay_set.specs.Standing.{Stands}
use Rattle.live_core.specs.Running.{Running}

-- there is a worker
abbrev pub HasWorker : Running → Type 0
HasWorker r = 0 < length r.plans

-- the same rules and base, and the same history
pub record IsSameMap (before after : Running) : Type 0 where
  pub rules : after.rules ≡ before.rules
  pub base : after.base ≡ before.base
  pub history : after.now.history ≡ before.now.history

-- a fold came in, under the number above the greatest
pub record IsFoldedOn (before after : Running) : Type 0 where
  pub map : IsSameMap before after
  pub workers : length after.plans ≡ length before.plans
  pub older : age after.now ≡ age before.now + 1

-- nothing is to be folded any more
pub record IsSettledOn (before after : Running) : Type 0 where
  pub map : IsSameMap before after
  pub settled : foldable after.now ≡ None
  pub stands : Stands after.rules after.base after.now

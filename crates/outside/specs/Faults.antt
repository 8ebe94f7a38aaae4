-- Why a call on the outside may fail.
use Rattle.std.specs.Prelude.{ℕ, ◌+◌, ◌-◌, ◌^◌, ◌≤◌, min, Result, OnErr}
use Rattle.outside.specs.declared.failed.Failed.{Failed}

-- a count of faults has risen, or stands at the last value of its type
abbrev pub Rose : ℕ → ℕ → Type 0
Rose before after = min (before + 1) (2 ^ 64 - 1) ≤ after

-- the count does not fall, and rose where the call failed
pub record Blames {T : Type 0} (before after : ℕ) (result : Result T Failed) : Type 0 where
  pub kept : before ≤ after
  pub failed : OnErr result (Rose before after)

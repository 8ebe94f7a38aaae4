-- What passes stand for.
use Rattle.std.specs.Prelude.{ℕ, List, []}
use Rattle.overlay_set.specs.Swaps.{Swap}

-- the journal that a pass has seen, how many publications it had accepted, and its parts of the ledger of them
pub record Known : Type 0 where
  pub log : List Swap
  pub parts : ℕ
  pub made : ℕ

-- a new pass
abbrev pub fresh : Known
fresh = record { log = []; parts = 1; made = 0 }

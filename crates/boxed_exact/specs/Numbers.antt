-- Numbers of a list, one after another.
use Rattle.std.specs.Prelude.{◌≡◌, ◌*◌, ℤ, pos, neg_ℤ, ◌≤ℤ◌, ℕ, List, [], ◌∷◌, Option, Some, None, Ok}
use Rattle.obf_wire.specs.Fields.{Window}
use Rattle.obf_wire.specs.Zigzag.{unzigzag}
use Rattle.file_grammar.specs.Readings.{numbers_at}
use Rattle.boxed_exact.specs.declared.points.Step.{Step}

-- of these numbers the first is this one, and the others stand from the next place on
pub record Continues (w : Window) (numbers : List ℕ) (n next : ℕ) : Type 0 where
  pub rest : List ℕ
  pub is : numbers ≡ n ∷ rest
  pub others : numbers_at (record w { place = next }) ≡ Ok rest

-- of these numbers the first two are a step, and the others stand behind it
pub record StepsOn (w : Window) (numbers : List ℕ) (step : Step) : Type 0 where
  pub x : ℕ
  pub y : ℕ
  pub rest : List ℕ
  pub is : numbers ≡ x ∷ y ∷ rest
  pub east : step.east ≡ unzigzag x
  pub south : step.south ≡ unzigzag y
  pub others : numbers_at (record w { place = step.next }) ≡ Ok rest

-- less than two
abbrev pub AreFew : List ℕ → Type 0
AreFew [] = Unit {0}
AreFew (n ∷ []) = Unit {0}
AreFew (m ∷ n ∷ ns) = ⊥

-- the first two numbers are this step, or there are less than two
abbrev pub IsStep : Window → List ℕ → Option Step → Type 0
IsStep w numbers None = AreFew numbers
IsStep w numbers (Some step) = StepsOn w numbers step

-- so many steps of 64 bits lead as far as this
abbrev pub IsReached : ℕ → ℤ → Type 0
IsReached steps z = (neg_ℤ (pos (9223372036854775808 * steps)) ≤ℤ z) × (z ≤ℤ pos (9223372036854775808 * steps))

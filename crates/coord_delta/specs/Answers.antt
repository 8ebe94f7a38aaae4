-- What the answers of a reader mean.
use Rattle.std.specs.Prelude.{◌≡◌, ℕ, List, Result, Ok, Err, slice_range}
use Rattle.std.specs.Global.{Vec}
use Rattle.live_model.specs.declared.points.Point.{Point}
use Rattle.coord_delta.specs.declared.error.CoordError.{CoordError}
use Rattle.coord_delta.specs.declared.error.CoordError.TheVariants as errors
use Rattle.coord_delta.specs.Steps.{ArePairs, IsFirstBreak, IsFirstOffGrid}

-- why the bytes of a range give no points; want of memory has no cause in them
abbrev pub Explains : List ℕ → ℕ → ℕ → CoordError → Type 0
Explains bytes from to errors.NoMemory = Unit {0}
Explains bytes from to (errors.Wire b) = IsFirstBreak bytes from to b
Explains bytes from to (errors.OffGrid index) = IsFirstOffGrid (slice_range bytes from to) index

-- this is what was answered, unless memory was refused
abbrev pub Answers : Result (Vec Point) CoordError → Result (List Point) CoordError → Type 0
Answers (Ok points) answer = answer ≡ Ok points.items
Answers (Err errors.NoMemory) answer = Unit {0}
Answers (Err (errors.Wire b)) answer = answer ≡ Err (errors.Wire b)
Answers (Err (errors.OffGrid index)) answer = answer ≡ Err (errors.OffGrid index)

-- the bytes are numbers in pairs
abbrev pub ArePairsOfSome : List ℕ → Type 0
ArePairsOfSome bytes = (numbers : List ℕ) × ArePairs bytes numbers

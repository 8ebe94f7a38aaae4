-- What one turn of reading a file whole does.
use Rattle.std.specs.Prelude.{◌≡◌, ◌⊎◌, ℕ, ◌+◌, ◌≤◌, ◌<◌, List, [], ◌∷◌, ◌++◌, length}
use Rattle.outside.specs.declared.whole.WholeError.{WholeError}
use Rattle.outside.specs.declared.whole.WholeError.TheVariants as error
use Rattle.outside.specs.Faults.{Rose}
use Rattle.outside.specs.Readings.{reading}
use Rattle.outside.specs.Files.{FilesState, IsPartIn, Lacks}

-- one read, with room for a byte at least, gave this piece of the file, from the place on
pub record GavePiece (before after : FilesState) (name : List ℕ) (place : ℕ) (piece : List ℕ) : Type 0 where
  pub room : ℕ
  pub some_room : 0 < room
  pub given : after.given ≡ before.given ++ reading name place room piece ∷ []
  pub told : IsPartIn before.contents name place room piece

-- a read gave a piece of this length, and it went behind the bytes
pub record Takes (before after : FilesState) (name : List ℕ) (most : ℕ) (old new : List ℕ) (count : ℕ) : Type 0 where
  pub piece : List ℕ
  pub gave : GavePiece before after name (length old) piece
  pub joined : new ≡ old ++ piece
  pub counted : length piece ≡ count
  pub within : length new ≤ most

-- a read gave a piece, and for it there was no memory
pub record IsRefused (before after : FilesState) (name : List ℕ) (most : ℕ) (old : List ℕ) : Type 0 where
  pub piece : List ℕ
  pub gave : GavePiece before after name (length old) piece
  pub some : 0 < length piece
  pub within : length old + length piece ≤ most

-- a read gave the one byte that is too many
pub record Overruns (before after : FilesState) (name : List ℕ) (most : ℕ) (old : List ℕ) : Type 0 where
  pub piece : List ℕ
  pub gave : GavePiece before after name (length old) piece
  pub count : length old + length piece ≡ most + 1

-- a read failed
pub record Breaks (before after : FilesState) (name : List ℕ) : Type 0 where
  pub given : after.given ≡ before.given
  pub cause : Rose before.read_faults after.read_faults ⊎ Lacks before.contents name

abbrev pub Stops : FilesState → FilesState → List ℕ → ℕ → List ℕ → WholeError → Type 0
Stops before after name most old error.NoMemory = IsRefused before after name most old
Stops before after name most old error.Failed = Breaks before after name
Stops before after name most old error.OverLimit = Overruns before after name most old

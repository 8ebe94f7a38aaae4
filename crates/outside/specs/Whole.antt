-- What it means that a file was read whole.
use Rattle.std.specs.Prelude.{◌≡◌, ◌⊎◌, ℕ, ◌+◌, ◌≤◌, ◌<◌, List, [], ◌∷◌, ◌++◌, length, Option, Some, None, Result, IsErrOf, IsOkUnless}
use Rattle.outside.specs.declared.whole.WholeError.{WholeError}
use Rattle.outside.specs.declared.whole.WholeError.TheVariants as error
use Rattle.outside.specs.Faults.{Rose}
use Rattle.outside.specs.Readings.{Reading, bytes_given, reading}
use Rattle.outside.specs.Files.{Contents, FilesState, Has, Lacks}

-- readings of one name from an offset on, each from where the one before it ended, and each of at least one byte
abbrev pub Follow : List ℕ → ℕ → List Reading → Type 0
Follow name place [] = Unit {0}
Follow name place (r ∷ rs) = (r.name ≡ name) × (r.place ≡ place) × (0 < length r.bytes) × Follow name (place + length r.bytes) rs

-- the reads in between gave these bytes of the name, from its start on
pub record Gave (before after : FilesState) (name bytes : List ℕ) : Type 0 where
  pub readings : List Reading
  pub given : after.given ≡ before.given ++ readings
  pub follow : Follow name 0 readings
  pub joined : bytes ≡ bytes_given readings

-- and a last read, after them, had room for a byte and gave nothing
pub record GaveAll (before after : FilesState) (name bytes : List ℕ) : Type 0 where
  pub readings : List Reading
  pub room : ℕ
  pub some_room : 0 < room
  pub given : after.given ≡ before.given ++ (readings ++ reading name (length bytes) room [] ∷ [])
  pub follow : Follow name 0 readings
  pub joined : bytes ≡ bytes_given readings

-- where contents are told, the name has these bytes
abbrev pub Tells : Option Contents → List ℕ → List ℕ → Type 0
Tells None name bytes = Unit {0}
Tells (Some contents) name bytes = contents name ≡ Some bytes

-- where contents are told, the name has more bytes than that
abbrev pub Exceeds : Option Contents → List ℕ → ℕ → Type 0
Exceeds None name most = Unit {0}
Exceeds (Some contents) name most = (file : List ℕ) × (contents name ≡ Some file) × (most < length file)

-- the bytes are the whole file
pub record IsWhole (before after : FilesState) (name : List ℕ) (most : ℕ) (bytes : List ℕ) : Type 0 where
  pub within : length bytes ≤ most
  pub gave : GaveAll before after name bytes
  pub told : Tells before.contents name bytes

-- the reads gave one byte more than may be
pub record IsOverLimit (before after : FilesState) (name : List ℕ) (most : ℕ) : Type 0 where
  pub bytes : List ℕ
  pub gave : Gave before after name bytes
  pub count : length bytes ≡ most + 1
  pub told : Exceeds before.contents name most

-- the reads stopped short of that
pub record StopsWithin (before after : FilesState) (name : List ℕ) (most : ℕ) : Type 0 where
  pub bytes : List ℕ
  pub gave : Gave before after name bytes
  pub count : length bytes ≤ most

-- a read failed
pub record ReadFailed (before after : FilesState) (name : List ℕ) (most : ℕ) : Type 0 where
  pub stopped : StopsWithin before after name most
  pub cause : Rose before.read_faults after.read_faults ⊎ Lacks before.contents name

-- what each error says
abbrev pub Explains : FilesState → FilesState → List ℕ → ℕ → WholeError → Type 0
Explains before after name most error.NoMemory = StopsWithin before after name most
Explains before after name most error.Failed = ReadFailed before after name most
Explains before after name most error.OverLimit = IsOverLimit before after name most

-- where the file is told and no read failed, only memory may be wanting
pub record Settles {T : Type 0} (before after : FilesState) (name : List ℕ) (most : ℕ) (result : Result T WholeError) : Type 0 where
  pub short : (file : List ℕ) → Has before.contents name file → ¬ Rose before.read_faults after.read_faults →
      length file ≤ most → IsOkUnless result error.NoMemory
  pub long : (file : List ℕ) → Has before.contents name file → ¬ Rose before.read_faults after.read_faults →
      most < length file → IsErrOf result error.OverLimit ⊎ IsErrOf result error.NoMemory

-- What is known wherever a reading of the name broke off: first bytes of it were given, at most one more than may be, or all of it.
pub record ReadsPart (before after : FilesState) (name : List ℕ) (most : ℕ) : Type 0 where
  pub bytes : List ℕ
  pub gave : Gave before after name bytes ⊎ GaveAll before after name bytes
  pub count : length bytes ≤ most + 1

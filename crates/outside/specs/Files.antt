-- What can be told of files, and what a read and a write change.
use Rattle.std.specs.Prelude.{◌≡◌, ◌≢◌, ◌⊎◌, ℕ, ◌≤◌, List, [], ◌∷◌, ◌++◌, length, take, drop, Option, Some, None, Result, Ok, Err, OnErr, IsErr, is_ok}
use Rattle.outside.specs.declared.failed.Failed.{Failed}
use Rattle.outside.specs.Faults.{Rose}
use Rattle.outside.specs.Readings.{Reading, Writing, writing}

-- the bytes of each name that has a file
abbrev pub Contents : Type 0
Contents = List ℕ → Option (List ℕ)

-- What can be told of files: nothing of the contents where these are not told; two counts of faults; what the reads gave; and the
-- writes that were tried.
pub record FilesState : Type 0 where
  pub contents : Option Contents
  pub read_faults : ℕ
  pub write_faults : ℕ
  pub given : List Reading
  pub writes : List Writing

-- the contents are told, and the name has these bytes
abbrev pub Has : Option Contents → List ℕ → List ℕ → Type 0
Has None name bytes = ⊥
Has (Some contents) name bytes = contents name ≡ Some bytes

-- the contents are told, and the name has no file
abbrev pub Lacks : Option Contents → List ℕ → Type 0
Lacks None name = ⊥
Lacks (Some contents) name = contents name ≡ None

-- reading changes no file, writes nothing, and raises no count but its own
pub record OnlyReads (before after : FilesState) : Type 0 where
  pub contents : after.contents ≡ before.contents
  pub writes : after.writes ≡ before.writes
  pub write_faults : after.write_faults ≡ before.write_faults
  pub read_faults : before.read_faults ≤ after.read_faults

-- a read fails only where its count rose, or a told name is missing; there it fails, and the count stays
pub record FailsToRead (before after : FilesState) (name : List ℕ) (result : Result ℕ Failed) : Type 0 where
  pub failed : OnErr result (Rose before.read_faults after.read_faults ⊎ Lacks before.contents name)
  pub missing : Lacks before.contents name → IsErr result
  pub missing_stays : Lacks before.contents name → after.read_faults ≡ before.read_faults

-- the first bytes of the file from a place on, and none only at its end or where there is no room
pub record IsPart (file : List ℕ) (place room : ℕ) (part : List ℕ) : Type 0 where
  pub bytes : part ≡ take (length part) (drop place file)
  pub none : length part ≡ 0 → (room ≡ 0) ⊎ (length file ≤ place)

abbrev pub IsPartOf : Option (List ℕ) → ℕ → ℕ → List ℕ → Type 0
IsPartOf None place room part = ⊥
IsPartOf (Some file) place room part = IsPart file place room part

-- where contents are told, the part is of the file of this name
abbrev pub IsPartIn : Option Contents → List ℕ → ℕ → ℕ → List ℕ → Type 0
IsPartIn None name place room part = Unit {0}
IsPartIn (Some contents) name place room part = IsPartOf (contents name) place room part

-- all names but this one have what they had
abbrev pub OthersStay : Contents → Contents → List ℕ → Type 0
OthersStay old new name = (other : List ℕ) → other ≢ name → new other ≡ old other

-- the name has these bytes, and all others what they had
pub record Replaces (old new : Contents) (name bytes : List ℕ) : Type 0 where
  pub written : new name ≡ Some bytes
  pub others : OthersStay old new name

-- whether contents are told stays; of told ones a write replaces the bytes of its name, or fails and changes no other
abbrev pub Writes : Option Contents → Option Contents → List ℕ → List ℕ → Result (Unit {0}) Failed → Type 0
Writes None new name bytes result = new ≡ None
Writes (Some old) None name bytes result = ⊥
Writes (Some old) (Some new) name bytes (Ok u) = Replaces old new name bytes
Writes (Some old) (Some new) name bytes (Err e) = OthersStay old new name

-- one more write was tried, of these bytes under the name
abbrev pub NotesWrite : List Writing → List Writing → List ℕ → List ℕ → Result (Unit {0}) Failed → Type 0
NotesWrite old new name bytes result = new ≡ old ++ writing name bytes (is_ok result) ∷ []

-- writing gives nothing, and raises no count but its own
pub record OnlyWrites (before after : FilesState) : Type 0 where
  pub given : after.given ≡ before.given
  pub read_faults : after.read_faults ≡ before.read_faults

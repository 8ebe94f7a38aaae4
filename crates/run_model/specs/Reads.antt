-- Files that are read one after another, and where that ends.
use Rattle.std.specs.Prelude.{◌≡◌, ◌⊎◌, ℕ, List, [], ◌∷◌, Some, None}
use Rattle.outside.specs.Files.{FilesState, OnlyReads}
use Rattle.outside.specs.Whole.{IsOverLimit, IsWhole, ReadFailed, ReadsPart}
use Rattle.run_model.specs.declared.breaks.Break.{Break}
use Rattle.run_model.specs.Inputs.{Input, Plan, break_in, no_more, reads}
use Rattle.run_model.specs.Endings.{Ending, refused, read_fault, no_memory, over_limit}

-- the most bytes that a file may have, read or written
abbrev pub limit : ℕ
limit = 268435456

-- the file was read whole, is within the limit and in its grammar, and nothing else happened to the files
pub record ReadsGood (before after : FilesState) (file : Input) (text : List ℕ) : Type 0 where
  pub whole : IsWhole before after file.name limit text
  pub good : break_in file.grammar text ≡ None
  pub only : OnlyReads before after

-- the files of a plan were read so, one after another, and these are their texts
abbrev pub ReadInOrder : FilesState → FilesState → Plan → List (List ℕ) → Type 0
ReadInOrder before after no_more [] = after ≡ before
ReadInOrder before after (reads file rest) (text ∷ texts) =
    (between : FilesState) × ReadsGood before between file text × ReadInOrder between after (rest text) texts
ReadInOrder before after plan texts = ⊥

-- the file was read whole, and this is its first break
pub record ReadsBroken (before after : FilesState) (file : Input) (first : Break) : Type 0 where
  pub text : List ℕ
  pub whole : IsWhole before after file.name limit text
  pub breaks : break_in file.grammar text ≡ Some first

-- The run ended at this file: it has a break, a read of it failed, or it is over the limit. Out of memory it ended wherever the reading
-- of the file stood.
abbrev pub EndsAt : Input → FilesState → FilesState → Ending → Type 0
EndsAt file before after (refused name first) = (name ≡ file.name) × ReadsBroken before after file first
EndsAt file before after (read_fault name) = (name ≡ file.name) × ReadFailed before after file.name limit
EndsAt file before after (over_limit name) = (name ≡ file.name) × IsOverLimit before after file.name limit
EndsAt file before after no_memory = ReadsPart before after file.name limit
EndsAt file before after e = ⊥

-- The run ended at the first of these files, and nothing was written; or it read this file, found it good, and ended later. Where no
-- more files are to be read, it ended only out of memory.
abbrev pub EndsAmong : Plan → FilesState → FilesState → Ending → Type 0
EndsAmong no_more before after e = (e ≡ no_memory) × (after ≡ before)
EndsAmong (reads file rest) before after e =
    (EndsAt file before after e × OnlyReads before after)
    ⊎ ((text : List ℕ) × (between : FilesState) × ReadsGood before between file text × EndsAmong (rest text) between after e)

-- the file was read whole and is good, and of its text a fact holds
pub record HasRead (before after : FilesState) (file : Input) (P : List ℕ → Type 0) : Type 0 where
  pub text : List ℕ
  pub read : ReadsGood before after file text
  pub holds : P text

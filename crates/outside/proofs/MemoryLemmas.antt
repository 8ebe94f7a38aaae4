-- Files in memory, where one takes the place of another.
use Rattle.std.proofs.Common.{◌≡◌, ◌≢◌, ℕ, Bool, true, false, not, List, [], ◌∷◌, ◌++◌, Some, None, filter, refl, sym, ◌∙◌, append-nil}
use Rattle.std.specs.Str.{bytes_eq}
use Rattle.std.proofs.lemmas.Slice.Eq.{bytes_eq-Decides}
use Rattle.outside.specs.Files.{Replaces, OthersStay}
use Rattle.outside.specs.Memory.{contents_of}
use Rattle.outside.specs.declared.named_file.NamedFile.{NamedFile}

-- a file of another name
abbrev pub other_than : List ℕ → NamedFile → Bool
other_than name file = not (bytes_eq file.name name)

pub same_name : (xs ys : List ℕ) → bytes_eq xs ys ≡ true → xs ≡ ys
same_name xs ys = (bytes_eq-Decides xs ys).0

pub is_same : (xs ys : List ℕ) → xs ≡ ys → bytes_eq xs ys ≡ true
is_same xs ys = (bytes_eq-Decides xs ys).1

-- one file of another name or of this one, before files of which the same is known
keeps_other : (file : NamedFile) (files more : List NamedFile) (name other : List ℕ) (b d : Bool) → other ≢ name → bytes_eq file.name name ≡ b → bytes_eq file.name other ≡ d →
    contents_of (filter (other_than name) files ++ more) other ≡ contents_of files other →
    contents_of (filter (other_than name) (file ∷ files) ++ more) other ≡ contents_of (file ∷ files) other
keeps_other file files more name other true true differs p q rest = absurd (differs (sym (same_name file.name other q) ∙ same_name file.name name p))
keeps_other file files more name other true false differs p q rest = rw (p, q) rest
keeps_other file files more name other false true differs p q rest = rw (p, q) refl
keeps_other file files more name other false false differs p q rest = rw (p, q) rest

-- what is left after the files of a name were taken away, and others put at the end
pub contents_of-other : (files more : List NamedFile) (name other : List ℕ) → other ≢ name → contents_of more other ≡ None →
    contents_of (filter (other_than name) files ++ more) other ≡ contents_of files other
contents_of-other [] more name other differs none = none
contents_of-other (file ∷ files) more name other differs none =
    keeps_other file files more name other (bytes_eq file.name name) (bytes_eq file.name other) differs refl refl (contents_of-other files more name other differs none)

-- a file by these two
abbrev pub a_file : List ℕ → List ℕ → NamedFile
a_file name bytes = record { name = name; bytes = bytes }

skips_same : (file : NamedFile) (files : List NamedFile) (name bytes : List ℕ) (b : Bool) → bytes_eq file.name name ≡ b →
    contents_of (filter (other_than name) files ++ a_file name bytes ∷ []) name ≡ Some bytes →
    contents_of (filter (other_than name) (file ∷ files) ++ a_file name bytes ∷ []) name ≡ Some bytes
skips_same file files name bytes true p rest = rw p rest
skips_same file files name bytes false p rest = rw (p, p) rest

-- the file at the end is then the only one of its name
pub contents_of-same : (files : List NamedFile) (name bytes : List ℕ) → contents_of (filter (other_than name) files ++ a_file name bytes ∷ []) name ≡ Some bytes
contents_of-same [] name bytes = rw (is_same name name refl) refl
contents_of-same (file ∷ files) name bytes = skips_same file files name bytes (bytes_eq file.name name) refl (contents_of-same files name bytes)

one_by : (name other bytes : List ℕ) (b : Bool) → other ≢ name → bytes_eq name other ≡ b → contents_of (a_file name bytes ∷ []) other ≡ None
one_by name other bytes true differs p = absurd (differs (sym (same_name name other p)))
one_by name other bytes false differs p = rw p refl

-- one file has no other name
pub contents_of-one : (name other bytes : List ℕ) → other ≢ name → contents_of (a_file name bytes ∷ []) other ≡ None
contents_of-one name other bytes differs = one_by name other bytes (bytes_eq name other) differs refl

-- with one put at the end
pub replaced : (files : List NamedFile) (name bytes : List ℕ) → Replaces (contents_of files) (contents_of (filter (other_than name) files ++ a_file name bytes ∷ [])) name bytes
replaced files name bytes = record {
  written = contents_of-same files name bytes;
  others = λ other differs. contents_of-other files (a_file name bytes ∷ []) name other differs (contents_of-one name other bytes differs);
}

-- with none put there
pub others_stay : (files : List NamedFile) (name : List ℕ) → OthersStay (contents_of files) (contents_of (filter (other_than name) files)) name
others_stay files name other differs = rw (append-nil (filter (other_than name) files)) at (contents_of-other files [] name other differs refl)

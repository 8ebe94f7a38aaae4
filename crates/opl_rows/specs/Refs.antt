-- References that stand at the front of bytes.
use Rattle.std.specs.Prelude.{◌≡◌, ℕ, List, [], ◌∷◌, ◌++◌, drop, Some, None, ℤ}
use Rattle.live_model.specs.declared.opl.Letter.TheVariants.{Refs}
use Rattle.live_model.specs.FieldValues.{ref_of, refs_of}
use Rattle.live_model.specs.LineTests.{value_tests, failure_kind}
use Rattle.opl_rows.specs.Fronts.{front, back, id_text, behind_id}

-- `n` and an id
abbrev pub ref_text : List ℕ → List ℕ
ref_text bytes = 110 ∷ id_text (drop 1 bytes)

-- the bytes behind a reference
abbrev pub behind_ref : List ℕ → List ℕ
behind_ref bytes = behind_id (drop 1 bytes)

-- the reference at the front of bytes is this number
pub record RefRead (bytes rest : List ℕ) (number : ℤ) : Type 0 where
  pub rest_is : rest ≡ behind_ref bytes
  pub first : bytes ≡ 110 ∷ drop 1 bytes
  pub item : ref_of (ref_text bytes) ≡ Some number

-- the reference at the front of bytes is put behind those before it
pub record RefAdded (bytes rest : List ℕ) (old new : List ℤ) : Type 0 where
  pub number : ℤ
  pub read : RefRead bytes rest number
  pub behind : new ≡ old ++ number ∷ []

-- the value at the front of bytes is a good one of references, which are these
pub record RefsRead (bytes rest : List ℕ) (new : List ℤ) : Type 0 where
  pub rest_is : rest ≡ back bytes
  pub good : failure_kind (value_tests Refs (front bytes)) ≡ None
  pub refs : refs_of (front bytes) ≡ Some new

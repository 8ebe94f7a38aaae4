-- What a reader of object lines owes besides the lines themselves.
use Rattle.std.specs.Prelude.{◌≡◌, ◌≤◌, ℕ, ◌+◌, List, [], length, Option, Some, None, IsTrue}
use Rattle.std.specs.List.{AllByRecursion}
use Rattle.std.specs.Str.{is_utf8}
use Rattle.live_model.specs.declared.ids.Kind.{Kind}
use Rattle.live_model.specs.declared.objects.Line.{Line}
use Rattle.live_model.specs.declared.opl.OplKind.{OplKind}
use Rattle.live_model.specs.LineTests.{break_of, fields_tests, failure_in}
use Rattle.live_model.specs.OplTexts.{OplText, row_break, text_break}
use Rattle.opl_reader.specs.declared.OplError.{OplError}
use Rattle.opl_reader.specs.declared.OplError.TheVariants.{NoMemory, Broken}
use Rattle.opl_reader.specs.declared.value_error.ValueError.{ValueError}
use Rattle.opl_reader.specs.declared.value_error.ValueError.TheVariants as bad

-- a text is called broken at its first break alone
abbrev pub IsCause : List ℕ → OplError → Type 0
IsCause bytes NoMemory = Unit {0}
IsCause bytes (Broken b) = text_break bytes ≡ Some b

-- a text spells one list of lines or none, and it spells one exactly where it has no break
pub record IsExact (bytes : List ℕ) : Type 0 where
  pub one : (a b : List Line) → OplText bytes a → OplText bytes b → a ≡ b
  pub unbroken : (lines : List Line) → OplText bytes lines → text_break bytes ≡ None
  pub spelled : text_break bytes ≡ None → (lines : List Line) × OplText bytes lines

-- Lines.

-- the break of a line, counted from its first byte
abbrev pub IsRowCause : List ℕ → OplError → Type 0
IsRowCause row NoMemory = Unit {0}
IsRowCause row (Broken b) = (break_of row ≡ Some (b.at, b.kind)) × (b.at ≤ length row)

-- the break of the fields of an object, none of them behind a place
abbrev pub IsFieldsCause : Kind → List (ℕ × List ℕ) → ℕ → OplError → Type 0
IsFieldsCause kind fs end NoMemory = Unit {0}
IsFieldsCause kind fs end (Broken b) = (failure_in (fields_tests kind [] fs) ≡ Some (b.at, b.kind)) × (b.at ≤ end)

-- each field is UTF-8
abbrev pub AreTexts : List (ℕ × List ℕ) → Type 0
AreTexts fs = AllByRecursion (λ f. IsTrue (is_utf8 f.1)) fs

-- the break of a line that begins at a place of a text, and has n object lines before it
abbrev pub IsCauseAt : ℕ → ℕ → List ℕ → OplError → Type 0
IsCauseAt n start row NoMemory = Unit {0}
IsCauseAt n start row (Broken b) = (k : ℕ) × (row_break n row ≡ Some (k, b.kind)) × (b.at ≡ start + k)

-- memory was refused, or a field failed so
abbrev pub FailsWith : Option OplKind → ValueError → Type 0
FailsWith failure bad.NoMemory = Unit {0}
FailsWith failure (bad.Bad kind) = failure ≡ Some kind

-- Object lines that are read one after another.
use Rattle.std.specs.Prelude.{◌≡◌, ℕ, ◌+◌, List, [], ◌∷◌, ◌++◌, length, Some, None}
use Rattle.std.specs.Str.Lines.{strip_carriage_return}
use Rattle.live_model.specs.declared.objects.Line.{Line}
use Rattle.live_model.specs.OplTexts.{object_lines_in, spelled_lines, break_from}
use Rattle.opl_reader.specs.declared.OplError.{OplError}
use Rattle.opl_reader.specs.declared.OplError.TheVariants.{NoMemory, Broken}

-- the object line of the bytes before a line feed, which begin at an offset; none where they are a line that is skipped
abbrev pub row_of : ℕ → List ℕ → List (ℕ × List ℕ)
row_of at bytes = object_lines_in ((at, strip_carriage_return bytes) ∷ [])

-- Object lines that have n object lines before them, and with which there are m, are read: none of them breaks, and what they spell is put behind the lines.
pub record AreRead (n : ℕ) (rows : List (ℕ × List ℕ)) (m : ℕ) (before after : List Line) : Type 0 where
  pub more : List Line
  pub behind : after ≡ before ++ more
  pub spelled : spelled_lines rows ≡ Some more
  pub unbroken : break_from n rows ≡ None
  pub count : m ≡ n + length rows

-- memory was refused, or this is the first break of object lines that have n object lines before them
abbrev pub IsRowsCause : ℕ → List (ℕ × List ℕ) → OplError → Type 0
IsRowsCause n rows NoMemory = Unit {0}
IsRowsCause n rows (Broken b) = break_from n rows ≡ Some b

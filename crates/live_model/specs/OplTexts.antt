-- Texts of object lines: the lines that they spell, and where they break.
use Rattle.std.specs.Prelude.{◌≡◌, ℕ, ◌+◌, ◌≤◌, List, [], ◌∷◌, codes, length, Bool, ◌||◌, not, nat_le, ◌==◌, Option, Some, None, if◌then◌else◌, filter}
use Rattle.std.specs.Option.{option_map, option_or}
use Rattle.std.specs.List.{list_all}
use Rattle.text_pieces.specs.Lines.{is_blank, lines_from}
use Rattle.live_model.specs.declared.objects.Line.{Line}
use Rattle.live_model.specs.declared.opl.OplBreak.{OplBreak}
use Rattle.live_model.specs.declared.opl.OplKind.{OplKind}
use Rattle.live_model.specs.declared.opl.OplKind.TheVariants.{NotUtf8, BadId, BadField, Twice, BadEscape, BadNumber, LocatedRef, BadList, OverLimit}
use Rattle.live_model.specs.FieldValues.{prepended}
use Rattle.live_model.specs.ObjectLines.{first_of, line_of}
use Rattle.live_model.specs.LineTests.{break_of}

-- a line of blanks, and a line that begins with `#`
abbrev pub is_skipped : List ℕ → Bool
is_skipped row = list_all is_blank row || (first_of row == 35)

-- the object lines among lines with their places
abbrev pub object_lines_in : List (ℕ × List ℕ) → List (ℕ × List ℕ)
object_lines_in rows = filter (λ r. not (is_skipped r.1)) rows

-- the object lines of a text, each with the place of its first byte
abbrev pub object_lines : List ℕ → List (ℕ × List ℕ)
object_lines bytes = object_lines_in (lines_from 0 bytes)

-- what object lines spell, where each spells a line
abbrev pub spelled_lines : List (ℕ × List ℕ) → Option (List Line)
spelled_lines [] = Some []
spelled_lines (r ∷ rs) = prepended (line_of r.1) (spelled_lines rs)

-- the text spells these lines, at most 4,000,000 of them
pub record OplText (bytes : List ℕ) (lines : List Line) : Type 0 where
  pub spelled : spelled_lines (object_lines bytes) ≡ Some lines
  pub within : length lines ≤ 4000000

-- the name of a kind of break
abbrev pub kind_name : OplKind → List ℕ
kind_name NotUtf8 = codes "NotUtf8"
kind_name BadId = codes "BadId"
kind_name BadField = codes "BadField"
kind_name Twice = codes "Twice"
kind_name BadEscape = codes "BadEscape"
kind_name BadNumber = codes "BadNumber"
kind_name LocatedRef = codes "LocatedRef"
kind_name BadList = codes "BadList"
kind_name OverLimit = codes "OverLimit"

-- the break of an object line that has n object lines before it: the 4,000,001st is over the limit
abbrev pub row_break : ℕ → List ℕ → Option (ℕ × OplKind)
row_break n row = if nat_le 4000000 n then Some (0, OverLimit) else break_of row

-- the break of a line, counted from the start of the text
abbrev pub break_at : ℕ → ℕ × OplKind → OplBreak
break_at start b = record { at = start + b.0; kind = b.1 }

-- the break of the first object line that has one, where n object lines stand before all of them
abbrev pub break_from : ℕ → List (ℕ × List ℕ) → Option OplBreak
break_from n [] = None
break_from n (r ∷ rs) = option_or (option_map (break_at r.0) (row_break n r.1)) (break_from (n + 1) rs)

-- the break of a text; none where it has none
unfoldable pub text_break : List ℕ → Option OplBreak
text_break bytes = break_from 0 (object_lines bytes)

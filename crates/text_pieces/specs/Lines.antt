-- The lines of a text, and the fields of a line, each with the place of its first byte.
use Rattle.std.specs.Prelude.{ℕ, ◌+◌, List, [], ◌∷◌, length, Bool, ◌||◌, ◌==◌, not, filter, if◌then◌else◌}
use Rattle.std.specs.List.{slice_split, onto_first}
use Rattle.std.specs.Str.Lines.{strip_carriage_return}

-- a space or a tab
abbrev pub is_blank : ℕ → Bool
is_blank c = (c == 32) || (c == 9)

-- what stands before each line feed, and behind the last one where anything does
abbrev pub cut_at_line_feeds : List ℕ → List (List ℕ)
cut_at_line_feeds [] = []
cut_at_line_feeds (c ∷ cs) = if c == 10 then [] ∷ cut_at_line_feeds cs else onto_first c (cut_at_line_feeds cs)

-- pieces that stand one byte apart, each with its place, where the first begins at a place
abbrev pub placed : ℕ → List (List ℕ) → List (ℕ × List ℕ)
placed at [] = []
placed at (piece ∷ pieces) = (at, piece) ∷ placed (at + (length piece + 1)) pieces

-- one carriage return directly before the end of a line is no part of it
abbrev pub without_returns : List (ℕ × List ℕ) → List (ℕ × List ℕ)
without_returns [] = []
without_returns (line ∷ lines) = (line.0, strip_carriage_return line.1) ∷ without_returns lines

-- the lines of bytes that begin at a place of a text
unfoldable pub lines_from : ℕ → List ℕ → List (ℕ × List ℕ)
lines_from at bytes = without_returns (placed at (cut_at_line_feeds bytes))

-- the longest pieces without blanks, of bytes that begin at a place
unfoldable pub fields_from : ℕ → List ℕ → List (ℕ × List ℕ)
fields_from at bytes = filter (λ field. not (length field.1 == 0)) (placed at (slice_split is_blank bytes))

-- A stream of bytes cut at its last line feed: the lines that it completes, and the line that it begins.
use Rattle.std.specs.Prelude.{ℕ, List, [], ◌∷◌, Bool, ◌==◌, if◌then◌else◌}
use Rattle.std.specs.List.{list_any}
use Rattle.text_pieces.specs.Lines.{lines_from}
use Rattle.live_model.specs.OplTexts.{object_lines_in}

-- a line feed is among the bytes
abbrev pub has_line_feed : List ℕ → Bool
has_line_feed bytes = list_any (λ c. c == 10) bytes

-- the bytes up to the last line feed and with it, or none where there is none
abbrev pub completed : List ℕ → List ℕ
completed [] = []
completed (c ∷ cs) = if has_line_feed (c ∷ cs) then c ∷ completed cs else []

-- the bytes behind the last line feed, or all where there is none
abbrev pub begun : List ℕ → List ℕ
begun [] = []
begun (c ∷ cs) = if has_line_feed (c ∷ cs) then begun cs else c ∷ cs

-- the object lines that bytes complete, where the first of the bytes stands at an offset of a stream
abbrev pub completed_rows : ℕ → List ℕ → List (ℕ × List ℕ)
completed_rows at bytes = object_lines_in (lines_from at (completed bytes))

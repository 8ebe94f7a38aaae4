-- The book of a journal: its rule, and what the step that adds to it says.
use Rattle.std.specs.Prelude.{ℕ, ◌≡◌, ◌==◌, true, List, [], ◌∷◌, ◌++◌, length, MatchBool}
use Rattle.logbook.specs.Pages.{Cell, Step, View, Book, Named}
use Rattle.overlay_set.specs.Swaps.{Swap}

-- the first word is the length of the journal; a book has two words, of which the second stays 0
abbrev pub IsKept : List Cell → List Swap → Type 0
IsKept cells log = cells ≡ (length log, true) ∷ (0, true) ∷ []

-- the first word of a book
abbrev pub head_of : Book → Named
head_of b = record { tracked = true; key = 0; book = b }

-- the name of no book
abbrev pub no_book : Book
no_book = record { number = 0; log_name = 0; cells_name = 0 }

-- the swap was added to all that had been seen; or the journal was longer
abbrev pub Adds : Step Swap → View Swap ℕ → ℕ → View Swap ℕ → Type 0
Adds s v found w = MatchBool (found == s.old) (w.0 ≡ v.0 ++ s.ask ∷ []) (length w.0 ≡ found)

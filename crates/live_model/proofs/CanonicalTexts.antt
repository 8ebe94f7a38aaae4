-- The canonical lines of good objects spell these objects in their order.
use Rattle.std.proofs.Common.{◌≡◌, ℕ, ◌+◌, ◌-◌, ◌<◌, ◌≤◌, ◌^◌, Bool, false, List, [], ◌∷◌, ◌++◌, length, get_or, refl, ap, ◌∙◌, arith, append_assoc, eqb, Some, length-append}
use Rattle.std.specs.Prelude.{map}
use Rattle.std.specs.List.{AllByRecursion, position_or_len}
use Rattle.std.specs.Str.Lines.{strip_carriage_return}
use Rattle.std.proofs.lemmas.Bool.{ne_eqb}
use Rattle.std.proofs.lemmas.List.{length-map}
use Rattle.std.proofs.lemmas.List.Concat.{flat_map-cons}
use Rattle.std.proofs.lemmas.List.Elements.{All-from_recursion, All-get_or}
use Rattle.text_pieces.specs.Lines.{lines_from}
use Rattle.text_pieces.proofs.LineSteps.{lines_first, lines_none}
use Rattle.live_model.specs.declared.objects.Entity.{Entity}
use Rattle.live_model.specs.declared.objects.Line.TheVariants.{Live}
use Rattle.live_model.specs.Objects.{IsGood}
use Rattle.live_model.specs.OplTexts.{is_skipped, object_lines_in, spelled_lines}
use Rattle.live_model.specs.CanonicalLines.{row_text, line_text, lines_text, HasTexts, CanonicalTextLaw}
use Rattle.live_model.proofs.CanonicalBytes.{all_weaker}
use Rattle.live_model.proofs.CanonicalParts.{position_or_len_at, before_first_at, after_first_at}
use Rattle.live_model.proofs.CanonicalRows.{row_back, row_printable, row_unskipped}

abbrev is_line_feed : ℕ → Bool
is_line_feed c = eqb c 10

-- a line without control bytes keeps its last byte
strip_kept : (row : List ℕ) → AllByRecursion (λ c. 32 ≤ c) row → strip_carriage_return row ≡ row
strip_kept [] all = refl
strip_kept (c ∷ cs) all =
    let last : 32 ≤ get_or (c ∷ cs) (length (c ∷ cs) - 1) 0 = All-get_or (λ b. 32 ≤ b) (c ∷ cs) (length (c ∷ cs) - 1) 0 (omega arith) (All-from_recursion (λ b. 32 ≤ b) (c ∷ cs) all) in
    rw (ne_eqb (get_or (c ∷ cs) (length (c ∷ cs) - 1) 0) 13 (λ e. omega arith)) refl

-- such a line, its line feed, and the lines behind it
line_step : (at : ℕ) (row rest : List ℕ) → AllByRecursion (λ c. 32 ≤ c) row → lines_from at (row ++ 10 ∷ rest) ≡ (at, row) ∷ lines_from (at + (length row + 1)) rest
line_step at row rest all =
    let none = all_weaker (λ c. 32 ≤ c) (λ c. is_line_feed c ≡ false) (λ c high. ne_eqb c 10 (λ e. omega arith)) row all in
    let place = position_or_len_at is_line_feed row rest 10 none refl in
    let within : position_or_len is_line_feed (row ++ 10 ∷ rest) < length (row ++ 10 ∷ rest) = omega (arith, place, length-append row (10 ∷ rest)) in
    lines_first at (row ++ 10 ∷ rest) within
    ∙ rw (before_first_at is_line_feed row rest 10 none refl, after_first_at is_line_feed row rest 10 none refl, place)
    (ap (λ line. (at, line) ∷ lines_from (at + (length row + 1)) rest) (strip_kept row all))

object_step : (at : ℕ) (row : List ℕ) (rows : List (ℕ × List ℕ)) → is_skipped row ≡ false → object_lines_in ((at, row) ∷ rows) ≡ (at, row) ∷ object_lines_in rows
object_step at row rows e = rw e refl

lines_back : (at : ℕ) (es : List Entity) → AllByRecursion IsGood es → AllByRecursion HasTexts es → AllByRecursion (λ e. e.version < 2 ^ 32) es
    → spelled_lines (object_lines_in (lines_from at (lines_text es))) ≡ Some (map Live es)
unfolding line_text
lines_back at [] good texts fits = ap (λ rows. spelled_lines (object_lines_in rows)) (lines_none at [] refl)
lines_back at (e ∷ es) good texts fits =
    ap (λ bytes. spelled_lines (object_lines_in (lines_from at bytes))) (flat_map-cons line_text e es ∙ append_assoc (row_text e) (10 ∷ []) (lines_text es))
    ∙ ap (λ rows. spelled_lines (object_lines_in rows)) (line_step at (row_text e) (lines_text es) (row_printable e good.0 texts.0 fits.0))
    ∙ ap spelled_lines (object_step at (row_text e) (lines_from (at + (length (row_text e) + 1)) (lines_text es)) (row_unskipped e))
    ∙ rw (row_back e good.0 texts.0 fits.0, lines_back (at + (length (row_text e) + 1)) es good.1 texts.1 fits.1) refl

-- The canonical lines of good objects spell these objects in their order.
pub text_back : CanonicalTextLaw
text_back es good texts fits few = record { spelled = lines_back 0 es good texts fits; within = (let count = length-map es Live in omega arith) }

-- A text line by line: what was spelled so far, and where it breaks.
use Rattle.std.proofs.Common.{◌≡◌, ℕ, ◌+◌, ◌<◌, List, [], ◌∷◌, ◌++◌, true, false, cond, Option, Some, None, refl, sym, ap, ◌∙◌, append_assoc, subst, arith, length, length-append, ◌≤◌}
use Rattle.std.specs.Prelude.{is_some, is_none}
use Rattle.std.specs.Option.{option_map, option_or}
use Rattle.std.proofs.lemmas.Bool.{le-leb, lt-leb}
use Rattle.std.proofs.lemmas.List.{append-nil}
use Rattle.live_model.specs.declared.objects.Line.{Line}
use Rattle.live_model.specs.declared.opl.OplBreak.{OplBreak}
use Rattle.live_model.specs.declared.opl.OplKind.{OplKind}
use Rattle.live_model.specs.declared.opl.OplKind.TheVariants.{OverLimit}
use Rattle.live_model.specs.FieldValues.{prepended}
use Rattle.live_model.specs.ObjectLines.{line_of}
use Rattle.live_model.specs.LineTests.{break_of}
use Rattle.live_model.specs.OplTexts.{OplText, is_skipped, object_lines, object_lines_in, spelled_lines, break_at, break_from, text_break}
use Rattle.opl_reader.specs.declared.OplError.{OplError}
use Rattle.opl_reader.specs.declared.OplError.TheVariants.{NoMemory, Broken}
use Rattle.opl_reader.specs.Readings.{IsCause, IsCauseAt}
use Rattle.live_model.proofs.LineLaw.{break_law}

-- these lines and those that are left
abbrev pub behind : List Line → Option (List Line) → Option (List Line)
behind lines None = None
behind lines (Some more) = Some (lines ++ more)

-- a line that is skipped
pub skipped : (row : ℕ × List ℕ) (rows : List (ℕ × List ℕ)) → is_skipped row.1 ≡ true → object_lines_in (row ∷ rows) ≡ object_lines_in rows
skipped row rows e = rw e refl

-- an object line
pub object_first : (row : ℕ × List ℕ) (rows : List (ℕ × List ℕ)) → is_skipped row.1 ≡ false → object_lines_in (row ∷ rows) ≡ row ∷ object_lines_in rows
object_first row rows e = rw e refl

-- one more line is spelled
pub spelled_more : (lines : List Line) (line : Line) (row : ℕ × List ℕ) (rows : List (ℕ × List ℕ)) → line_of row.1 ≡ Some line
    → behind lines (spelled_lines (row ∷ rows)) ≡ behind (lines ++ line ∷ []) (spelled_lines rows)
spelled_more lines line row rows e = ap (λ l. behind lines (prepended l (spelled_lines rows))) e ∙ one (spelled_lines rows)
  where
    one : (o : Option (List Line)) → behind lines (prepended (Some line) o) ≡ behind (lines ++ line ∷ []) o
    one None = refl
    one (Some more) = ap Some (sym (append_assoc lines (line ∷ []) more))

no_break : (row : List ℕ) (line : Line) → line_of row ≡ Some line → break_of row ≡ None
no_break row line e = one (break_of row) (break_law row ∙ ap is_some e)
  where
    one : (o : Option (ℕ × OplKind)) → is_none o ≡ true → o ≡ None
    one None e = refl
    one (Some x) e = absurd (cc)

-- no break in a line that is spelled
pub unbroken_row : (n : ℕ) (line : Line) (row : ℕ × List ℕ) (rows : List (ℕ × List ℕ)) → n < 4000000 → line_of row.1 ≡ Some line
    → break_from n (row ∷ rows) ≡ break_from (n + 1) rows
unbroken_row n line row rows few e =
    let over : ℕ × OplKind = (0, OverLimit) in
    ap (λ b. option_or (option_map (break_at row.0) (cond b (Some over) (break_of row.1))) (break_from (n + 1) rows)) (lt-leb 4000000 n few)
    ∙ ap (λ o. option_or (option_map (break_at row.0) o) (break_from (n + 1) rows)) (no_break row.1 line e)

-- the break of the first line that is left is that of the text
pub broken_row : (bytes : List ℕ) (n at : ℕ) (line : List ℕ) (rows : List (ℕ × List ℕ)) (e : OplError) → break_from n ((at, line) ∷ rows) ≡ text_break bytes → IsCauseAt n at line e → IsCause bytes e
broken_row bytes n at line rows NoMemory is cause = tt
broken_row bytes n at line rows (Broken b) is cause =
    sym is
    ∙ ap (λ o. option_or (option_map (break_at at) o) (break_from (n + 1) rows)) cause.1
    ∙ ap (λ k. Some (record { at = k; kind = b.kind })) (sym cause.2)

-- the 4,000,001st object line
pub row_over : (n at : ℕ) (line : List ℕ) (e : OplError) → n ≡ 4000000 → e ≡ Broken (record { at = at; kind = OverLimit }) → IsCauseAt n at line e
row_over n at line e many is =
    subst (IsCauseAt n at line) (sym is) (0, ap (λ b. cond b (Some (0, OverLimit)) (break_of line)) (le-leb 4000000 n (omega arith)), omega arith)

-- the break of a line that is not over the limit
pub row_broken : (n at : ℕ) (line : List ℕ) (e : OplError) (b : OplBreak) → n < 4000000 → e ≡ Broken (record { at = at + b.at; kind = b.kind }) → break_of line ≡ Some (b.at, b.kind) → IsCauseAt n at line e
row_broken n at line e b few is broken =
    subst (IsCauseAt n at line) (sym is) (b.at, ap (λ t. cond t (Some (0, OverLimit)) (break_of line)) (lt-leb 4000000 n few) ∙ broken, refl)

-- what is kept from line to line: what these lines and the rows that are left spell is what all rows spell, and so is the first break
pub record Kept (all : List (ℕ × List ℕ)) (lines : List Line) (rows : List (ℕ × List ℕ)) : Type 0 where
  pub spelled : behind lines (spelled_lines (object_lines_in rows)) ≡ spelled_lines all
  pub unbroken : break_from (length lines) (object_lines_in rows) ≡ break_from 0 all
  pub few : length lines ≤ 4000000

-- one row more that spells a line
pub kept_read : (all : List (ℕ × List ℕ)) (lines new : List Line) (line : Line) (row : ℕ × List ℕ) (rows : List (ℕ × List ℕ)) → is_skipped row.1 ≡ false → line_of row.1 ≡ Some line
    → new ≡ lines ++ line ∷ [] → length lines < 4000000 → Kept all lines (row ∷ rows) → Kept all new rows
kept_read all lines new line row rows kept read pushed few k =
    let more = object_first row rows kept in
    let long : length new ≡ length lines + 1 = ap length pushed ∙ length-append lines (line ∷ []) in record {
      spelled = ap (λ xs. behind xs (spelled_lines (object_lines_in rows))) pushed ∙ sym (spelled_more lines line row (object_lines_in rows) read) ∙ sym (ap (λ rs. behind lines (spelled_lines rs)) more) ∙ k.spelled;
      unbroken = ap (λ n. break_from n (object_lines_in rows)) long ∙ sym (unbroken_row (length lines) line row (object_lines_in rows) few read) ∙ sym (ap (break_from (length lines)) more) ∙ k.unbroken;
      few = omega arith;
    }

-- one row more that is no object line
pub kept_skipped : (all : List (ℕ × List ℕ)) (lines new : List Line) (row : ℕ × List ℕ) (rows : List (ℕ × List ℕ)) → is_skipped row.1 ≡ true → new ≡ lines → Kept all lines (row ∷ rows) → Kept all new rows
kept_skipped all lines new row rows e same k =
    let fewer = skipped row rows e in
    subst (λ (xs : List Line). Kept all xs rows) (sym same) (record {
      spelled = sym (ap (λ rs. behind lines (spelled_lines rs)) fewer) ∙ k.spelled;
      unbroken = sym (ap (break_from (length lines)) fewer) ∙ k.unbroken;
      few = k.few;
    })

-- no row is left
pub kept_all : (bytes : List ℕ) (lines : List Line) (rows : List (ℕ × List ℕ)) → rows ≡ [] → Kept (object_lines bytes) lines rows → OplText bytes lines
kept_all bytes lines rows none k = record {
  spelled = sym k.spelled ∙ ap (λ rs. behind lines (spelled_lines (object_lines_in rs))) none ∙ ap Some (append-nil lines);
  within = k.few;
}

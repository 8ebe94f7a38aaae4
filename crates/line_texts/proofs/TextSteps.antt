-- A text line by line: what was spelled so far, and where it breaks.
use Rattle.std.proofs.Common.{◌≡◌, ℕ, ◌+◌, ◌<◌, List, [], ◌∷◌, ◌++◌, true, false, cond, Option, Some, None, refl, sym, ap, ◌∙◌, append_assoc, subst, arith, length, length-append, ◌≤◌}
use Rattle.std.specs.Prelude.{is_some, is_none}
use Rattle.std.specs.List.{AllByRecursion}
use Rattle.std.specs.Option.{option_map, option_or}
use Rattle.std.proofs.lemmas.Bool.{le-leb, lt-leb}
use Rattle.std.proofs.lemmas.List.{append-nil}
use Rattle.live_model.specs.FieldValues.{prepended}
use Rattle.live_model.specs.OplTexts.{is_skipped, object_lines, object_lines_in}
use Rattle.live_model.proofs.CanonicalBytes.{all_append}
use Rattle.line_texts.specs.declared.errors.LineError.{LineError}
use Rattle.line_texts.specs.declared.errors.LineError.TheVariants.{NoMemory, Broken}
use Rattle.line_texts.specs.declared.errors.TextBreak.{TextBreak}
use Rattle.line_texts.specs.Forms.{Form, IsForm, IsText, spelled_by, break_at, break_after, break_from, text_break}
use Rattle.line_texts.specs.Readings.{IsCause, IsCauseAt, IsRead}

-- a line that is skipped
pub skipped : (row : ℕ × List ℕ) (rows : List (ℕ × List ℕ)) → is_skipped row.1 ≡ true → object_lines_in (row ∷ rows) ≡ object_lines_in rows
skipped row rows e = rw e refl

-- a line that counts
pub counted_first : (row : ℕ × List ℕ) (rows : List (ℕ × List ℕ)) → is_skipped row.1 ≡ false → object_lines_in (row ∷ rows) ≡ row ∷ object_lines_in rows
counted_first row rows e = rw e refl

module _ {A K : Type 0} (form : Form A K) (is_good : A → Type 0) where
  -- these items and those of the lines that are left
  abbrev pub joined : List A → Option (List A) → Option (List A)
  joined items None = None
  joined items (Some more) = Some (items ++ more)

  -- one more item is spelled
  spelled_more : (items : List A) (item : A) (row : ℕ × List ℕ) (rows : List (ℕ × List ℕ)) → form.spells row.1 ≡ Some item
      → joined items (spelled_by form (row ∷ rows)) ≡ joined (items ++ item ∷ []) (spelled_by form rows)
  spelled_more items item row rows e = ap (λ l. joined items (prepended l (spelled_by form rows))) e ∙ one (spelled_by form rows)
    where
      one : (o : Option (List A)) → joined items (prepended (Some item) o) ≡ joined (items ++ item ∷ []) o
      one None = refl
      one (Some more) = ap Some (sym (append_assoc items (item ∷ []) more))

  no_break : IsForm form → (row : List ℕ) (item : A) → form.spells row ≡ Some item → form.breaks row ≡ None
  no_break exact row item e = one (form.breaks row) (exact row ∙ ap is_some e)
    where
      one : (o : Option (ℕ × K)) → is_none o ≡ true → o ≡ None
      one None e = refl
      one (Some x) e = absurd (cc)

  -- no break in a line that is spelled
  unbroken_row : IsForm form → (n : ℕ) (item : A) (row : ℕ × List ℕ) (rows : List (ℕ × List ℕ)) → n < form.most → form.spells row.1 ≡ Some item
      → break_from form n (row ∷ rows) ≡ break_from form (n + 1) rows
  unbroken_row exact n item row rows few e =
      let over : ℕ × K = (0, form.over) in
      ap (λ b. option_or (option_map (break_at form row.0) (cond b (Some over) (form.breaks row.1))) (break_from form (n + 1) rows)) (lt-leb form.most n few)
      ∙ ap (λ o. option_or (option_map (break_at form row.0) o) (break_from form (n + 1) rows)) (no_break exact row.1 item e)

  -- the break of the first line that is left is that of the text
  pub broken_row : (bytes : List ℕ) (n at : ℕ) (line : List ℕ) (rows : List (ℕ × List ℕ)) (e : LineError K) → break_from form n ((at, line) ∷ rows) ≡ text_break form bytes → IsCauseAt form n at line e → IsCause form bytes e
  broken_row bytes n at line rows NoMemory is cause = tt
  broken_row bytes n at line rows (Broken b) is cause =
      sym is
      ∙ ap (λ o. option_or (option_map (break_at form at) o) (break_from form (n + 1) rows)) cause.1
      ∙ ap (λ (k : ℕ). Some (k, b.kind)) (sym cause.2)

  -- one line more than a text may have
  pub row_over : (n at : ℕ) (line : List ℕ) (e : LineError K) → n ≡ form.most → e ≡ Broken (record { at = at; kind = form.over }) → IsCauseAt form n at line e
  row_over n at line e many is =
      subst (IsCauseAt form n at line) (sym is) (0, ap (λ b. cond b (Some (0, form.over)) (form.breaks line)) (le-leb form.most n (omega arith)), omega arith)

  -- the break of a line that is not over the limit
  pub row_broken : (n at : ℕ) (line : List ℕ) (e : LineError K) (b : TextBreak K) → n < form.most → e ≡ Broken (record { at = at + b.at; kind = b.kind }) → form.breaks line ≡ Some (b.at, b.kind) → IsCauseAt form n at line e
  row_broken n at line e b few is broken =
      subst (IsCauseAt form n at line) (sym is) (b.at, ap (λ t. cond t (Some (0, form.over)) (form.breaks line)) (lt-leb form.most n few) ∙ broken, refl)

  -- what is kept from line to line: what these items and the rows that are left spell is what all rows spell, and so is the first break
  pub record Kept (all : List (ℕ × List ℕ)) (items : List A) (rows : List (ℕ × List ℕ)) : Type 0 where
    pub spelled : joined items (spelled_by form (object_lines_in rows)) ≡ spelled_by form all
    pub unbroken : break_from form (length items) (object_lines_in rows) ≡ break_from form 0 all
    pub good : AllByRecursion is_good items
    pub few : length items ≤ form.most

  -- one row more that spells an item
  pub kept_read : IsForm form → (all : List (ℕ × List ℕ)) (items new : List A) (item : A) (row : ℕ × List ℕ) (rows : List (ℕ × List ℕ)) → is_skipped row.1 ≡ false → IsRead form is_good row.1 item
      → new ≡ items ++ item ∷ [] → length items < form.most → Kept all items (row ∷ rows) → Kept all new rows
  kept_read exact all items new item row rows kept read pushed few k =
      let more = counted_first row rows kept in
      let long : length new ≡ length items + 1 = ap length pushed ∙ length-append items (item ∷ []) in record {
        spelled = ap (λ xs. joined xs (spelled_by form (object_lines_in rows))) pushed ∙ sym (spelled_more items item row (object_lines_in rows) read.spelled) ∙ sym (ap (λ rs. joined items (spelled_by form rs)) more) ∙ k.spelled;
        unbroken = ap (λ n. break_from form n (object_lines_in rows)) long ∙ sym (unbroken_row exact (length items) item row (object_lines_in rows) few read.spelled) ∙ sym (ap (break_from form (length items)) more) ∙ k.unbroken;
        good = subst (AllByRecursion is_good) (sym pushed) (all_append is_good items (item ∷ []) k.good (read.good, tt));
        few = omega arith;
      }

  -- one row more that is skipped
  pub kept_skipped : (all : List (ℕ × List ℕ)) (items new : List A) (row : ℕ × List ℕ) (rows : List (ℕ × List ℕ)) → is_skipped row.1 ≡ true → new ≡ items → Kept all items (row ∷ rows) → Kept all new rows
  kept_skipped all items new row rows e same k =
      let fewer = skipped row rows e in
      subst (λ (xs : List A). Kept all xs rows) (sym same) (record {
        spelled = sym (ap (λ rs. joined items (spelled_by form rs)) fewer) ∙ k.spelled;
        unbroken = sym (ap (break_from form (length items)) fewer) ∙ k.unbroken;
        good = k.good;
        few = k.few;
      })

  -- no row is left
  pub kept_all : (bytes : List ℕ) (items : List A) (rows : List (ℕ × List ℕ)) → rows ≡ [] → Kept (object_lines bytes) items rows → IsText form bytes items
  kept_all bytes items rows none k = record {
    spelled = sym k.spelled ∙ ap (λ rs. joined items (spelled_by form (object_lines_in rs))) none ∙ ap Some (append-nil items);
    within = k.few;
  }

-- A text spells items exactly where it has no break.
use Rattle.std.proofs.Common.{◌≡◌, ℕ, ◌+◌, ◌≤◌, List, [], ◌∷◌, Bool, true, false, cond, length, Option, Some, None, refl, ap, arith, nat_le}
use Rattle.std.specs.Prelude.{is_some, is_none}
use Rattle.std.specs.Option.{option_map, option_or}
use Rattle.std.proofs.lemmas.Bool.{leb-false, lt-leb}
use Rattle.live_model.specs.FieldValues.{prepended}
use Rattle.live_model.specs.OplTexts.{object_lines}
use Rattle.line_texts.specs.Forms.{Form, IsForm, IsText, spelled_by, break_at, break_after, break_from, text_break}

module _ {A K : Type 0} (form : Form A K) where
  -- two readings of one text are one
  pub one_reading : (bytes : List ℕ) (a b : List A) → IsText form bytes a → IsText form bytes b → a ≡ b
  one_reading bytes a b s t = let p = s.spelled in let q = t.spelled in cc

  -- each line that is read has no break, and is not over the limit
  no_break : IsForm form → (n : ℕ) (rs : List (ℕ × List ℕ)) (items : List A) → spelled_by form rs ≡ Some items → n + length items ≤ form.most → break_from form n rs ≡ None
  no_break exact n [] items e few = refl
  no_break exact n (r ∷ rs) items e few = one (form.spells r.1) (spelled_by form rs) (form.breaks r.1) (exact r.1) refl e (no_break exact (n + 1) rs)
    where
      one : (l : Option A) (ls : Option (List A)) (b : Option (ℕ × K)) → is_none b ≡ is_some l → spelled_by form rs ≡ ls → prepended l ls ≡ Some items
          → ((xs : List A) → spelled_by form rs ≡ Some xs → n + 1 + length xs ≤ form.most → break_from form (n + 1) rs ≡ None)
          → option_or (option_map (break_at form r.0) (cond (nat_le form.most n) (Some (0, form.over)) b)) (break_from form (n + 1) rs) ≡ None
      one None ls b law rest e again = absurd (cc)
      one (Some x) None b law rest e again = absurd (cc)
      one (Some x) (Some xs) (Some y) law rest e again = absurd (cc)
      one (Some x) (Some xs) None law rest e again =
          let same : x ∷ xs ≡ items = cc in
          let long : length (x ∷ xs) ≡ length items = ap length same in
          rw (lt-leb form.most n (omega arith)) (again xs rest (omega arith))

  -- what is read has no break
  pub read_has_none : IsForm form → (bytes : List ℕ) (items : List A) → IsText form bytes items → text_break form bytes ≡ None
  read_has_none exact bytes items t = no_break exact 0 (object_lines bytes) items t.spelled (let few = t.within in omega arith)

  -- where there is no break, items are spelled
  spelled : IsForm form → (n : ℕ) (rs : List (ℕ × List ℕ)) → n ≤ form.most → break_from form n rs ≡ None → (items : List A) × (spelled_by form rs ≡ Some items) × (n + length items ≤ form.most)
  spelled exact n [] few e = ([], refl, omega arith)
  spelled exact n (r ∷ rs) few e = one (form.spells r.1) (form.breaks r.1) (nat_le form.most n) (exact r.1) refl e (spelled exact (n + 1) rs)
    where
      one : (l : Option A) (b : Option (ℕ × K)) (over : Bool) → is_none b ≡ is_some l → nat_le form.most n ≡ over
          → option_or (option_map (break_at form r.0) (cond over (Some (0, form.over)) b)) (break_from form (n + 1) rs) ≡ None
          → (n + 1 ≤ form.most → break_from form (n + 1) rs ≡ None → (items : List A) × (spelled_by form rs ≡ Some items) × (n + 1 + length items ≤ form.most))
          → (items : List A) × (prepended l (spelled_by form rs) ≡ Some items) × (n + length items ≤ form.most)
      one l b true law over e again = absurd (cc)
      one l (Some y) false law over e again = absurd (cc)
      one None None false law over e again = absurd (cc)
      one (Some x) None false law over e again =
          let below = leb-false form.most n over in
          let rest = again (omega arith) e in
          let few = rest.2 in
          (x ∷ rest.0, ap (prepended (Some x)) rest.1, omega arith)

  -- a text without a break spells items
  pub unbroken_is_read : IsForm form → (bytes : List ℕ) → text_break form bytes ≡ None → (items : List A) × IsText form bytes items
  unbroken_is_read exact bytes e =
      let all = spelled exact 0 (object_lines bytes) (omega arith) e in
      (all.0, record { spelled = all.1; within = (let few = all.2 in omega arith) })

-- A text spells lines exactly where it has no break, and it spells one list of them.
use Rattle.std.proofs.Common.{◌≡◌, ℕ, ◌+◌, ◌≤◌, List, [], ◌∷◌, Bool, true, false, cond, length, Option, Some, None, refl, ap, arith, nat_le}
use Rattle.std.specs.Prelude.{is_some, is_none}
use Rattle.std.specs.Option.{option_map, option_or}
use Rattle.std.proofs.lemmas.Bool.{leb-false, lt-leb}
use Rattle.live_model.specs.declared.objects.Line.{Line}
use Rattle.live_model.specs.declared.opl.OplKind.{OplKind}
use Rattle.live_model.specs.declared.opl.OplKind.TheVariants.{OverLimit}
use Rattle.live_model.specs.FieldValues.{prepended}
use Rattle.live_model.specs.ObjectLines.{line_of}
use Rattle.live_model.specs.LineTests.{break_of}
use Rattle.live_model.specs.OplTexts.{object_lines, spelled_lines, OplText, break_at, break_from, text_break}
use Rattle.live_model.proofs.LineLaw.{break_law}

-- two readings of one text are one
pub one_reading : (bytes : List ℕ) (a b : List Line) → OplText bytes a → OplText bytes b → a ≡ b
one_reading bytes a b s t = let p = s.spelled in let q = t.spelled in cc

-- each line that is read has no break, and is not over the limit
no_break : (n : ℕ) (rs : List (ℕ × List ℕ)) (lines : List Line) → spelled_lines rs ≡ Some lines → n + length lines ≤ 4000000 → break_from n rs ≡ None
no_break n [] lines e few = refl
no_break n (r ∷ rs) lines e few = one (line_of r.1) (spelled_lines rs) (break_of r.1) (break_law r.1) refl e (no_break (n + 1) rs)
  where
    one : (l : Option Line) (ls : Option (List Line)) (b : Option (ℕ × OplKind)) → is_none b ≡ is_some l → spelled_lines rs ≡ ls → prepended l ls ≡ Some lines
        → ((xs : List Line) → spelled_lines rs ≡ Some xs → n + 1 + length xs ≤ 4000000 → break_from (n + 1) rs ≡ None)
        → option_or (option_map (break_at r.0) (cond (nat_le 4000000 n) (Some (0, OverLimit)) b)) (break_from (n + 1) rs) ≡ None
    one None ls b law rest e again = absurd (cc)
    one (Some x) None b law rest e again = absurd (cc)
    one (Some x) (Some xs) (Some y) law rest e again = absurd (cc)
    one (Some x) (Some xs) None law rest e again =
        let same : x ∷ xs ≡ lines = cc in
        let long : length (x ∷ xs) ≡ length lines = ap length same in
        rw (lt-leb 4000000 n (omega arith)) (again xs rest (omega arith))

-- what is read has no break
pub read_has_none : (bytes : List ℕ) (lines : List Line) → OplText bytes lines → text_break bytes ≡ None
unfolding text_break
read_has_none bytes lines t = no_break 0 (object_lines bytes) lines t.spelled (let few = t.within in omega arith)

-- where there is no break, lines are spelled
spelled : (n : ℕ) (rs : List (ℕ × List ℕ)) → n ≤ 4000000 → break_from n rs ≡ None → (lines : List Line) × (spelled_lines rs ≡ Some lines) × (n + length lines ≤ 4000000)
spelled n [] few e = ([], refl, omega arith)
spelled n (r ∷ rs) few e = one (line_of r.1) (break_of r.1) (nat_le 4000000 n) (break_law r.1) refl e (spelled (n + 1) rs)
  where
    one : (l : Option Line) (b : Option (ℕ × OplKind)) (over : Bool) → is_none b ≡ is_some l → nat_le 4000000 n ≡ over
        → option_or (option_map (break_at r.0) (cond over (Some (0, OverLimit)) b)) (break_from (n + 1) rs) ≡ None
        → (n + 1 ≤ 4000000 → break_from (n + 1) rs ≡ None → (lines : List Line) × (spelled_lines rs ≡ Some lines) × (n + 1 + length lines ≤ 4000000))
        → (lines : List Line) × (prepended l (spelled_lines rs) ≡ Some lines) × (n + length lines ≤ 4000000)
    one l b true law over e again = absurd (cc)
    one l (Some y) false law over e again = absurd (cc)
    one None None false law over e again = absurd (cc)
    one (Some x) None false law over e again =
        let below = leb-false 4000000 n over in
        let rest = again (omega arith) e in
        let few = rest.2 in
        (x ∷ rest.0, ap (prepended (Some x)) rest.1, omega arith)

-- a text without a break spells lines
pub unbroken_is_read : (bytes : List ℕ) → text_break bytes ≡ None → (lines : List Line) × OplText bytes lines
unfolding text_break
unbroken_is_read bytes e =
    let got = spelled 0 (object_lines bytes) (omega arith) e in
    (got.0, record { spelled = got.1; within = (let few = got.2 in omega arith) })

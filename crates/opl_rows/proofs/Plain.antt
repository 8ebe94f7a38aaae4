-- Values without escapes.
use Rattle.std.proofs.Common.{◌≡◌, Option, Some, None, ℕ, ◌&&◌, ◌||◌, Bool, true, false, cond, not, nat_le, eqb, List, [], ◌∷◌, length, refl, ap, arith}
use Rattle.std.specs.Prelude.{◌==◌, is_some}
use Rattle.std.specs.List.{position_or_len, list_all}
use Rattle.std.proofs.lemmas.Bool.{eqb-true}
use Rattle.text_pieces.specs.Lines.{is_blank}
use Rattle.text_pieces.specs.Numbers.{are_digits, decimal, number_of, without_minus}
use Rattle.text_pieces.specs.Escapes.{is_text_byte, text_of, unescaped}
use Rattle.text_pieces.proofs.EscapeSteps.{unescaped_none}
use Rattle.live_model.specs.FieldValues.{is_count}
use Rattle.live_model.specs.LineTests.{value_tests, failure_kind}
use Rattle.live_model.specs.declared.opl.Letter.TheVariants.{UserName}
use Rattle.live_model.specs.declared.opl.OplKind.TheVariants.{BadEscape, BadList}
use Rattle.opl_rows.specs.Fronts.{front, back, is_end, is_plain, plain_of, behind_plain}

-- no plain byte is a blank
pub plain_solid : (c : ℕ) → is_plain c ≡ true → is_blank c ≡ false
plain_solid c e = one (eqb c 32) (eqb c 9) (eqb c 10) (eqb c 44) (eqb c 61) (eqb c 37) e
  where
    one : (a b d f g h : Bool) → ((not a && (not b && (not d && (not f && not g)))) && not h) ≡ true → (a || b) ≡ false
    one false false d f g h e = refl
    one true b d f g h e = absurd (cc)
    one false true d f g h e = absurd (cc)

-- each is a text byte
pub plain_text : (c : ℕ) → is_plain c ≡ true → is_text_byte c ≡ true
plain_text c e = one (is_text_byte c) (eqb c 37) e
  where
    one : (a b : Bool) → (a && not b) ≡ true → a ≡ true
    one true b e = refl
    one false b e = absurd (cc)

plain_no_percent : (c : ℕ) → is_plain c ≡ true → eqb c 37 ≡ false
plain_no_percent c e = one (is_text_byte c) (eqb c 37) e
  where
    one : (a b : Bool) → (a && not b) ≡ true → b ≡ false
    one true false e = refl
    one true true e = absurd (cc)
    one false b e = absurd (cc)

-- plain bytes are the value, where a blank or nothing follows
pub plain_front : (bytes : List ℕ) → is_end (behind_plain bytes) ≡ true → front bytes ≡ plain_of bytes
plain_front [] e = refl
plain_front (c ∷ cs) e =
    elim (is_plain c) as (λ d. (d ≡ true → is_blank c ≡ false) → is_end (cond d (behind_plain cs) (c ∷ cs)) ≡ true → cond (is_blank c) [] (c ∷ front cs) ≡ cond d (c ∷ plain_of cs) []) [
      | true ↦ λ n h. rw (n refl) (ap (λ x. c ∷ x) (plain_front cs h))
      | false ↦ λ n h. rw h refl
    ] (plain_solid c) e

-- and what stands behind them is what stands behind the value
pub plain_back : (bytes : List ℕ) → is_end (behind_plain bytes) ≡ true → back bytes ≡ behind_plain bytes
plain_back [] e = refl
plain_back (c ∷ cs) e =
    elim (is_plain c) as (λ d. (d ≡ true → is_blank c ≡ false) → is_end (cond d (behind_plain cs) (c ∷ cs)) ≡ true → cond (is_blank c) (c ∷ cs) (back cs) ≡ cond d (behind_plain cs) (c ∷ cs)) [
      | true ↦ λ n h. rw (n refl) (plain_back cs h)
      | false ↦ λ n h. rw h refl
    ] (plain_solid c) e

plain_texts : (bytes : List ℕ) → list_all is_text_byte (plain_of bytes) ≡ true
plain_texts [] = refl
plain_texts (c ∷ cs) =
    elim (is_plain c) as (λ d. is_plain c ≡ d → list_all is_text_byte (cond d (c ∷ plain_of cs) []) ≡ true) [
      | true ↦ λ h. rw (plain_text c h) (plain_texts cs)
      | false ↦ λ h. refl
    ] refl

abbrev is_percent : ℕ → Bool
is_percent c = c == 37

no_percent : (bytes : List ℕ) → position_or_len is_percent (plain_of bytes) ≡ length (plain_of bytes)
no_percent [] = refl
no_percent (c ∷ cs) =
    elim (is_plain c) as (λ d. is_plain c ≡ d → position_or_len is_percent (cond d (c ∷ plain_of cs) []) ≡ length (cond d (c ∷ plain_of cs) [])) [
      | true ↦ λ h. let more = no_percent cs in rw (plain_no_percent c h) (omega arith)
      | false ↦ λ h. refl
    ] refl

-- plain bytes spell themselves
pub plain_unescaped : (bytes : List ℕ) → unescaped (plain_of bytes) ≡ Some (plain_of bytes)
plain_unescaped bytes = unescaped_none (plain_of bytes) (no_percent bytes)

-- as a text too
pub plain_is : (bytes : List ℕ) → text_of (plain_of bytes) ≡ Some (plain_of bytes)
unfolding text_of
plain_is bytes = rw (plain_texts bytes) (unescaped_none (plain_of bytes) (no_percent bytes))

-- a text is a good name
pub name_good : (v t : List ℕ) → text_of v ≡ Some t → failure_kind (value_tests UserName v) ≡ None
unfolding text_of
name_good v t e = one (list_all is_text_byte v) (unescaped v) e
  where
    nothing : Option (List ℕ)
    nothing = None

    one : (b : Bool) (o : Option (List ℕ)) → cond b o None ≡ Some t → cond (is_some o) (cond (is_some (cond b o nothing)) None (Some BadList)) (Some BadEscape) ≡ None
    one true (Some x) e = refl
    one true None e = absurd (cc)
    one false o e = absurd (cc)

-- plain bytes are a good name
pub name_is : (bytes : List ℕ) → is_end (behind_plain bytes) ≡ true → failure_kind (value_tests UserName (front bytes)) ≡ None
name_is bytes e = rw (plain_front bytes e) (name_good (plain_of bytes) (plain_of bytes) (plain_is bytes))

-- Counts.

counted : (most top n : ℕ) (ds : List ℕ) → number_of most top ds ≡ Some n → are_digits most ds ≡ true
unfolding number_of
counted most top n ds e = one (are_digits most ds) (nat_le (decimal ds) top) e
  where
    one : (a b : Bool) → cond (a && b) (Some (decimal ds)) None ≡ Some n → a ≡ true
    one true b e = refl
    one false b e = absurd (cc)

without_front : (bytes : List ℕ) → without_minus (front bytes) ≡ front (without_minus bytes)
without_front [] = refl
without_front (c ∷ cs) =
    elim (eqb c 45) as (λ m. eqb c 45 ≡ m → without_minus (cond (is_blank c) [] (c ∷ front cs)) ≡ front (cond m cs (c ∷ cs))) [
      | true ↦ λ m. rw (eqb-true c 45 m) refl
      | false ↦ λ m. elim (is_blank c) as (λ b. without_minus (cond b [] (c ∷ front cs)) ≡ cond b [] (c ∷ front cs)) [
        | true ↦ refl
        | false ↦ rw m refl
      ]
    ] refl

-- a number of at most 19 digits is a count
pub count_is : (bytes : List ℕ) (top n : ℕ) → number_of 19 top (front (without_minus bytes)) ≡ Some n → is_count (front bytes) ≡ true
unfolding is_count
count_is bytes top n e = rw (without_front bytes) (counted 19 top n (front (without_minus bytes)) e)

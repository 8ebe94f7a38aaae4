-- Values that end at a blank, and the fields of a line.
use Rattle.std.proofs.Common.{◌≡◌, Some, ℕ, ◌+◌, ◌<◌, true, false, cond, not, List, [], ◌∷◌, ◌++◌, length, length-append, drop, take, refl, sym, ap, ◌∙◌, append-nil, arith, suc, one-add}
use Rattle.std.specs.Option.{option_map}
use Rattle.std.specs.List.{position_or_len, before_first, after_first, list_all}
use Rattle.std.proofs.lemmas.Bool.{ne_eqb, eqb-true}
use Rattle.text_pieces.specs.Lines.{is_blank, fields_from}
use Rattle.text_pieces.specs.Numbers.{is_digit, has_minus, without_minus, number_of, id_of, signed}
use Rattle.text_pieces.proofs.FieldSteps.{fields_none, fields_blank, fields_first, fields_last}
use Rattle.opl_rows.specs.Fronts.{front, back, is_end, digits_of, behind_digits, id_text, behind_id}

-- no digit is a blank
pub digit_solid : (c : ℕ) → is_digit c ≡ true → is_blank c ≡ false
digit_solid c e = grind arith

-- the digits are the value, where a blank or nothing follows
pub digits_front : (bytes : List ℕ) → is_end (behind_digits bytes) ≡ true → front bytes ≡ digits_of bytes
digits_front [] e = refl
digits_front (c ∷ cs) e =
    elim (is_digit c) as (λ d. (d ≡ true → is_blank c ≡ false) → is_end (cond d (behind_digits cs) (c ∷ cs)) ≡ true → cond (is_blank c) [] (c ∷ front cs) ≡ cond d (c ∷ digits_of cs) []) [
      | true ↦ λ n h. rw (n refl) (ap (λ x. c ∷ x) (digits_front cs h))
      | false ↦ λ n h. rw h refl
    ] (digit_solid c) e

-- and what stands behind them is what stands behind the value
pub digits_back : (bytes : List ℕ) → is_end (behind_digits bytes) ≡ true → back bytes ≡ behind_digits bytes
digits_back [] e = refl
digits_back (c ∷ cs) e =
    elim (is_digit c) as (λ d. (d ≡ true → is_blank c ≡ false) → is_end (cond d (behind_digits cs) (c ∷ cs)) ≡ true → cond (is_blank c) (c ∷ cs) (back cs) ≡ cond d (behind_digits cs) (c ∷ cs)) [
      | true ↦ λ n h. rw (n refl) (digits_back cs h)
      | false ↦ λ n h. rw h refl
    ] (digit_solid c) e

-- digits are digits
pub all_digits : (bytes : List ℕ) → list_all is_digit (digits_of bytes) ≡ true
all_digits [] = refl
all_digits (c ∷ cs) =
    elim (is_digit c) as (λ d. is_digit c ≡ d → list_all is_digit (cond d (c ∷ digits_of cs) []) ≡ true) [
      | true ↦ λ h. rw h (all_digits cs)
      | false ↦ λ h. refl
    ] refl

-- the place of the first blank is the length of what stands before it
front_long : (bytes : List ℕ) → position_or_len is_blank bytes ≡ length (front bytes)
front_long [] = refl
front_long (c ∷ cs) =
    elim (is_blank c) as (λ b. cond (not b) (1 + position_or_len is_blank cs) 0 ≡ length (cond b [] (c ∷ front cs))) [
      | true ↦ refl
      | false ↦ let more = front_long cs in omega arith
    ]

front_is : (bytes : List ℕ) → before_first is_blank bytes ≡ front bytes
front_is [] = refl
front_is (c ∷ cs) =
    elim (is_blank c) as (λ b. take (cond (not b) (1 + position_or_len is_blank cs) 0) (c ∷ cs) ≡ cond b [] (c ∷ front cs)) [
      | true ↦ refl
      | false ↦ rw (one-add (position_or_len is_blank cs)) (ap (λ x. c ∷ x) (front_is cs))
    ]

-- the front and the back are the bytes
pub front_back : (bytes : List ℕ) → front bytes ++ back bytes ≡ bytes
front_back [] = refl
front_back (c ∷ cs) =
    elim (is_blank c) as (λ b. cond b [] (c ∷ front cs) ++ cond b (c ∷ cs) (back cs) ≡ c ∷ cs) [
      | true ↦ refl
      | false ↦ ap (λ x. c ∷ x) (front_back cs)
    ]

-- a value ends where its front does
pub back_end : (bytes : List ℕ) → is_end (back bytes) ≡ true
back_end [] = refl
back_end (c ∷ cs) =
    elim (is_blank c) as (λ b. is_blank c ≡ b → is_end (cond b (c ∷ cs) (back cs)) ≡ true) [
      | true ↦ λ h. h
      | false ↦ λ h. back_end cs
    ] refl

back_is : (bytes : List ℕ) → drop (position_or_len is_blank bytes) bytes ≡ back bytes
back_is [] = refl
back_is (c ∷ cs) =
    elim (is_blank c) as (λ b. drop (cond (not b) (1 + position_or_len is_blank cs) 0) (c ∷ cs) ≡ cond b (c ∷ cs) (back cs)) [
      | true ↦ refl
      | false ↦ rw (one-add (position_or_len is_blank cs)) (back_is cs)
    ]

after_is : (bytes : List ℕ) → after_first is_blank bytes ≡ drop 1 (back bytes)
after_is [] = refl
after_is (c ∷ cs) =
    elim (is_blank c) as (λ b. drop (cond (not b) (1 + position_or_len is_blank cs) 0 + 1) (c ∷ cs) ≡ drop 1 (cond b (c ∷ cs) (back cs))) [
      | true ↦ refl
      | false ↦
          let past : 1 + position_or_len is_blank cs + 1 ≡ suc (position_or_len is_blank cs + 1) = omega arith in
          rw past (after_is cs)
    ]

-- what is left behind the first field
pub fields_front : (at : ℕ) (bytes : List ℕ) → 0 < length (front bytes) → fields_from at bytes ≡ (at, front bytes) ∷ fields_from (at + length (front bytes)) (back bytes)
fields_front at bytes some = one (back bytes) refl
  where
    long : length (front bytes) + length (back bytes) ≡ length bytes
    long = sym (length-append (front bytes) (back bytes)) ∙ ap length (front_back bytes)

    one : (rest : List ℕ) → back bytes ≡ rest → fields_from at bytes ≡ (at, front bytes) ∷ fields_from (at + length (front bytes)) rest
    one [] e =
        let l = long in
        let p = front_long bytes in
        let none : length (back bytes) ≡ 0 = ap length e in
        let whole : bytes ≡ front bytes = sym (front_back bytes) ∙ ap (λ r. front bytes ++ r) e ∙ append-nil (front bytes) in
        fields_last at bytes (omega arith) (omega arith) ∙ ap (λ w. (at, w) ∷ []) whole ∙ ap (λ fs. (at, front bytes) ∷ fs) (sym (fields_none (at + length (front bytes)) [] refl))
    one (b ∷ rest) e =
        let l = long in
        let p = front_long bytes in
        let more : length (back bytes) ≡ length (b ∷ rest) = ap length e in
        let blank : is_blank b ≡ true = sym (ap is_end e) ∙ back_end bytes in
        let first : position_or_len is_blank (b ∷ rest) ≡ 0 = ap (λ x. cond (not x) (1 + position_or_len is_blank rest) 0) blank in
        let behind : after_first is_blank bytes ≡ rest = after_is bytes ∙ ap (drop 1) e in
        let at_is : at + (position_or_len is_blank bytes + 1) ≡ at + length (front bytes) + 1 = omega arith in
        fields_first at bytes (omega arith) (omega arith)
        ∙ ap (λ w. (at, w) ∷ fields_from (at + (position_or_len is_blank bytes + 1)) (after_first is_blank bytes)) (front_is bytes)
        ∙ ap (λ r. (at, front bytes) ∷ fields_from (at + (position_or_len is_blank bytes + 1)) r) behind
        ∙ ap (λ n. (at, front bytes) ∷ fields_from n rest) at_is
        ∙ ap (λ fs. (at, front bytes) ∷ fs) (sym (fields_blank (at + length (front bytes)) (b ∷ rest) first (omega arith)))

-- nothing and blanks alone
pub fields_blank_first : (at : ℕ) (c : ℕ) (cs : List ℕ) → is_blank c ≡ true → fields_from at (c ∷ cs) ≡ fields_from (at + 1) cs
fields_blank_first at c cs blank = fields_blank at (c ∷ cs) (ap (λ x. cond (not x) (1 + position_or_len is_blank cs) 0) blank) (omega arith)

-- Ids.

unsigned_first : (bytes : List ℕ) → has_minus (digits_of bytes) ≡ false
unsigned_first [] = refl
unsigned_first (c ∷ cs) =
    elim (is_digit c) as (λ d. is_digit c ≡ d → has_minus (cond d (c ∷ digits_of cs) []) ≡ false) [
      | true ↦ λ h. ne_eqb c 45 (λ e. not_minus c h e)
      | false ↦ λ h. refl
    ] refl
  where
    not_minus : (c : ℕ) → is_digit c ≡ true → c ≡ 45 → ⊥
    not_minus c h e = grind arith

-- an id, by its sign and its digits
pub id_is : (bytes : List ℕ) (n : ℕ) → number_of 15 281474976710656 (digits_of (without_minus bytes)) ≡ Some n → id_of (id_text bytes) ≡ Some (signed (has_minus bytes) n)
unfolding id_of
id_is bytes n e =
    elim (has_minus bytes) as (λ m. number_of 15 281474976710656 (digits_of (cond m (drop 1 bytes) bytes)) ≡ Some n → option_map (signed (has_minus (cond m (45 ∷ digits_of (drop 1 bytes)) (digits_of bytes)))) (number_of 15 281474976710656 (without_minus (cond m (45 ∷ digits_of (drop 1 bytes)) (digits_of bytes)))) ≡ Some (signed m n)) [
      | true ↦ λ h. ap (option_map (signed true)) h
      | false ↦ λ h. rw (unsigned_first bytes) (ap (option_map (signed false)) h)
    ] e

-- a minus is the first byte
pub minus_first : (bytes : List ℕ) → has_minus bytes ≡ true → bytes ≡ 45 ∷ drop 1 bytes
minus_first [] e = cc
minus_first (c ∷ cs) e = ap (λ x. x ∷ cs) (eqb-true c 45 e)

-- an id is the value, where a blank or nothing follows
pub id_front : (bytes : List ℕ) → is_end (behind_id bytes) ≡ true → front bytes ≡ id_text bytes
id_front bytes e =
    elim (has_minus bytes) as (λ m. has_minus bytes ≡ m → is_end (behind_digits (cond m (drop 1 bytes) bytes)) ≡ true → front bytes ≡ cond m (45 ∷ digits_of (drop 1 bytes)) (digits_of bytes)) [
      | true ↦ λ m h. ap front (minus_first bytes m) ∙ ap (λ x. 45 ∷ x) (digits_front (drop 1 bytes) h)
      | false ↦ λ m h. digits_front bytes h
    ] refl e

-- and what stands behind it is what stands behind the value
pub id_back : (bytes : List ℕ) → is_end (behind_id bytes) ≡ true → back bytes ≡ behind_id bytes
id_back bytes e =
    elim (has_minus bytes) as (λ m. has_minus bytes ≡ m → is_end (behind_digits (cond m (drop 1 bytes) bytes)) ≡ true → back bytes ≡ behind_digits (cond m (drop 1 bytes) bytes)) [
      | true ↦ λ m h. ap back (minus_first bytes m) ∙ digits_back (drop 1 bytes) h
      | false ↦ λ m h. digits_back bytes h
    ] refl e

-- A text with escapes, run by run.
use Rattle.std.proofs.Common.{◌≡◌, ℕ, ◌+◌, ◌/◌, ◌%◌, ◌<◌, Bool, true, false, cond, not, List, [], ◌∷◌, ◌++◌, length, take, drop, get_or, refl, ap, ◌∙◌, sym, append_assoc, arith, suc, one-add}
use Rattle.std.specs.List.{position_or_len, before_first, after_first, flat_map}
use Rattle.std.proofs.lemmas.List.Concat.{flat_map-cons}
use Rattle.std.proofs.Math.Seq.{take-length}
use Rattle.text_pieces.specs.Escapes.{escaped, escaped_byte, needs_escape, hexadecimal_digit}

abbrev written : ℕ → List ℕ
written c = 37 ∷ hexadecimal_digit (c / 16) ∷ hexadecimal_digit (c % 16) ∷ 37 ∷ []

-- where no byte needs an escape, the text stands as it is
pub escaped_none : (xs : List ℕ) → position_or_len needs_escape xs ≡ length xs → escaped xs ≡ xs
unfolding escaped
escaped_none [] e = refl
escaped_none (x ∷ xs) e = rw (flat_map-cons escaped_byte x xs) (one (needs_escape x) e (escaped_none xs))
  where
    one : (b : Bool) → cond (not b) (1 + position_or_len needs_escape xs) 0 ≡ length (x ∷ xs) → (position_or_len needs_escape xs ≡ length xs → flat_map escaped_byte xs ≡ xs) → cond b (written x) (x ∷ []) ++ flat_map escaped_byte xs ≡ x ∷ xs
    one true h rest = absurd (omega arith)
    one false h rest = ap (λ ys. x ∷ ys) (rest (omega arith))

-- up to the first byte that needs an escape, and from there on
pub escaped_first : (xs : List ℕ) → position_or_len needs_escape xs < length xs
    → escaped xs ≡ before_first needs_escape xs ++ (written (get_or xs (position_or_len needs_escape xs) 0) ++ escaped (after_first needs_escape xs))
unfolding escaped
escaped_first [] h = absurd (omega arith)
escaped_first (x ∷ xs) h = rw (flat_map-cons escaped_byte x xs) (one (needs_escape x) h (escaped_first xs))
  where
    one : (b : Bool) → cond (not b) (1 + position_or_len needs_escape xs) 0 < length (x ∷ xs)
        → (position_or_len needs_escape xs < length xs → flat_map escaped_byte xs ≡ before_first needs_escape xs ++ (written (get_or xs (position_or_len needs_escape xs) 0) ++ flat_map escaped_byte (after_first needs_escape xs)))
        → cond b (written x) (x ∷ []) ++ flat_map escaped_byte xs
        ≡ take (cond (not b) (1 + position_or_len needs_escape xs) 0) (x ∷ xs) ++ (written (get_or (x ∷ xs) (cond (not b) (1 + position_or_len needs_escape xs) 0) 0) ++ flat_map escaped_byte (drop (cond (not b) (1 + position_or_len needs_escape xs) 0 + 1) (x ∷ xs)))
    one true h rest = refl
    one false h rest =
        let past : 1 + position_or_len needs_escape xs + 1 ≡ suc (position_or_len needs_escape xs + 1) = omega arith in
        rw (past, one-add (position_or_len needs_escape xs)) (ap (λ ys. x ∷ ys) (rest (omega arith)))

-- what is put last, where no escape is left
pub put_last : (out rest all : List ℕ) (i : ℕ) → i ≡ position_or_len needs_escape rest → i ≡ length rest → out ++ escaped rest ≡ all → out ++ take i rest ≡ all
put_last out rest all i place end e =
    let whole : take i rest ≡ rest = ap (λ n. take n rest) end ∙ take-length rest in
    rw whole (rw (escaped_none rest (sym place ∙ end)) at e)

-- what is put up to an escape, and the escape
pub put_run : (out rest all : List ℕ) (i : ℕ) → i ≡ position_or_len needs_escape rest → i < length rest → out ++ escaped rest ≡ all
    → ((out ++ take i rest) ++ written (get_or rest i 0)) ++ escaped (drop (i + 1) rest) ≡ all
put_run out rest all i place some e =
    let first : escaped rest ≡ take i rest ++ (written (get_or rest i 0) ++ escaped (drop (i + 1) rest)) = rw place (escaped_first rest (omega arith)) in
    rw (append_assoc (out ++ take i rest) (written (get_or rest i 0)) (escaped (drop (i + 1) rest)), append_assoc out (take i rest) (written (get_or rest i 0) ++ escaped (drop (i + 1) rest)), ← first) e

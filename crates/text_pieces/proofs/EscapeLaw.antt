-- The canonical spelling of a text spells it.
use Rattle.std.proofs.Common.{◌≡◌, ℕ, ◌≤◌, ◌<◌, ◌/◌, ◌%◌, List, [], ◌∷◌, ◌++◌, refl, sym, ap, ◌∙◌, arith, Some, None, Option, Bool, true, false, cond, suc, zero, not, eqb}
use Rattle.std.specs.Prelude.{◌&&◌, ◌||◌, ◌==◌, nat_lt, encode_utf8}
use Rattle.std.specs.List.{list_all, slice_split, onto_first, flat_map}
use Rattle.std.proofs.Math.Utf8.{encode}
use Rattle.std.proofs.lemmas.Bool.{ne_eqb, eqb-true, eqb-false, ltb-true, ltb-false, le-ltb}
use Rattle.std.proofs.lemmas.List.Concat.{flat_map-cons}
use Rattle.text_pieces.specs.Escapes.{character_of, joined, unescaped_from, unescaped, is_text_byte, text_of, escaped, escaped_byte, needs_escape, hexadecimal_digit}

abbrev is_percent : ℕ → Bool
is_percent c = c == 37

abbrev pieces_of : List ℕ → List (List ℕ)
pieces_of bytes = slice_split is_percent bytes

-- a byte put before the first piece stands before the text
onto_text : (c : ℕ) (pieces : List (List ℕ)) (text : List ℕ) → unescaped_from pieces ≡ Some text → unescaped_from (onto_first c pieces) ≡ Some (c ∷ text)
onto_text c [] text e = cc
onto_text c (piece ∷ []) text e = let same : piece ≡ text = cc in ap (λ t. Some (c ∷ t)) same
onto_text c (piece ∷ code ∷ rest) text e = one (character_of code) (unescaped_from rest) e
  where
    one : (o : Option ℕ) (r : Option (List ℕ)) → joined piece o r ≡ Some text → joined (c ∷ piece) o r ≡ Some (c ∷ text)
    one None r e = cc
    one (Some x) None e = cc
    one (Some x) (Some r) e = let same : piece ++ encode_utf8 x ++ r ≡ text = cc in ap (λ t. Some (c ∷ t)) same

-- Bytes below 128, one by one.

abbrev same_code : ℕ → Option ℕ → Bool
same_code c None = false
same_code c (Some d) = d == c

abbrev is_alone : ℕ → List ℕ → Bool
is_alone c [] = false
is_alone c (d ∷ []) = d == c
is_alone c (d ∷ e ∷ es) = false

abbrev is_plain_digit : ℕ → Bool
is_plain_digit c = not (is_percent c) && is_text_byte c

-- an escaped byte's two digits spell it
abbrev is_code : ℕ → Bool
is_code c = not (needs_escape c) || (same_code c (character_of (hexadecimal_digit (c / 16) ∷ hexadecimal_digit (c % 16) ∷ [])) && (is_alone c (encode_utf8 c) && (is_plain_digit (hexadecimal_digit (c / 16)) && is_plain_digit (hexadecimal_digit (c % 16)))))

abbrev up_to : (ℕ → Bool) → ℕ → Bool
up_to p zero = true
up_to p (suc n) = p n && up_to p n

codes_hold : up_to is_code 128 ≡ true
unfolding character_of encode
codes_hold = refl

both_true : (a b : Bool) → (a && b) ≡ true → (a ≡ true) × (b ≡ true)
both_true true b e = (refl, e)
both_true false b e = cc

up_to-at : (p : ℕ → Bool) (n : ℕ) → up_to p n ≡ true → (c : ℕ) → c < n → p c ≡ true
up_to-at p zero e c lt = absurd (omega arith)
up_to-at p (suc n) e c lt = one (eqb c n) refl (up_to-at p n two.1 c)
  where
    two : (p n ≡ true) × (up_to p n ≡ true)
    two = both_true (p n) (up_to p n) e

    one : (b : Bool) → eqb c n ≡ b → (c < n → p c ≡ true) → p c ≡ true
    one true same below = let is = eqb-true c n same in rw is two.0
    one false other below = let is = eqb-false c n other in below (omega arith)

-- an escaped byte is below 128
escaped_low : (c : ℕ) → needs_escape c ≡ true → c < 128
escaped_low c e = one (nat_lt c 128) refl
  where
    one : (b : Bool) → nat_lt c 128 ≡ b → c < 128
    one true lt = ltb-true c 128 lt
    one false above =
        let high : 128 ≤ c = ltb-false c 128 above in
        let none : needs_escape c ≡ false = rw (le-ltb c 33 (omega arith), ne_eqb c 127 (λ h. omega arith), ne_eqb c 37 (λ h. omega arith), ne_eqb c 44 (λ h. omega arith), ne_eqb c 61 (λ h. omega arith), ne_eqb c 64 (λ h. omega arith)) refl in
        absurd (let a : true ≡ false = sym e ∙ none in cc)

pub record IsEscape (c : ℕ) : Type 0 where
  pub code : character_of (hexadecimal_digit (c / 16) ∷ hexadecimal_digit (c % 16) ∷ []) ≡ Some c
  pub bytes : encode_utf8 c ≡ c ∷ []
  pub high : is_percent (hexadecimal_digit (c / 16)) ≡ false
  pub low : is_percent (hexadecimal_digit (c % 16)) ≡ false
  pub high_text : is_text_byte (hexadecimal_digit (c / 16)) ≡ true
  pub low_text : is_text_byte (hexadecimal_digit (c % 16)) ≡ true

code_from : (c : ℕ) (o : Option ℕ) → same_code c o ≡ true → o ≡ Some c
code_from c None e = cc
code_from c (Some d) e = ap Some (eqb-true d c e)

alone_from : (c : ℕ) (ds : List ℕ) → is_alone c ds ≡ true → ds ≡ c ∷ []
alone_from c [] e = cc
alone_from c (d ∷ []) e = ap (λ x. x ∷ []) (eqb-true d c e)
alone_from c (d ∷ f ∷ fs) e = cc

not_from : (b : Bool) → not b ≡ true → b ≡ false
not_from true e = cc
not_from false e = refl

escape_at : (c : ℕ) → needs_escape c ≡ true → IsEscape c
escape_at c e =
    let all : is_code c ≡ true = up_to-at is_code 128 codes_hold c (escaped_low c e) in
    let parts = both_true _ _ (rw e at all) in
    let rest = both_true _ _ parts.1 in
    let digits = both_true _ _ rest.1 in
    let high = both_true _ _ digits.0 in
    let low = both_true _ _ digits.1 in
    record { code = code_from c _ parts.0; bytes = alone_from c _ rest.0; high = not_from _ high.0; low = not_from _ low.0; high_text = high.1; low_text = low.1 }

none_true : (a b : Bool) → (a || b) ≡ false → (a ≡ false) × (b ≡ false)
none_true true b e = cc
none_true false b e = (refl, e)

-- a byte that stands as it is
plain_at : (c : ℕ) → needs_escape c ≡ false → (is_percent c ≡ false) × (is_text_byte c ≡ true)
plain_at c e =
    let a = none_true (nat_lt c 33) _ e in
    let b = none_true (c == 127) _ a.1 in
    let d = none_true (c == 37) _ b.1 in
    let f = none_true (c == 44) _ d.1 in
    let g = none_true (c == 61) (c == 64) f.1 in
    let low : 33 ≤ c = ltb-false c 33 a.0 in
    let comma : (c == 44) ≡ false = f.0 in
    let equals : (c == 61) ≡ false = g.0 in
    (d.0, rw (ne_eqb c 32 (λ h. omega arith), ne_eqb c 9 (λ h. omega arith), ne_eqb c 10 (λ h. omega arith), comma, equals) refl)

-- the pieces of a canonical spelling
spelled_pieces : (text : List ℕ) → unescaped_from (pieces_of (flat_map escaped_byte text)) ≡ Some text
spelled_pieces [] = refl
spelled_pieces (c ∷ cs) = rw (flat_map-cons escaped_byte c cs) (one (needs_escape c) refl (spelled_pieces cs))
  where
    one : (b : Bool) → needs_escape c ≡ b → unescaped_from (pieces_of (flat_map escaped_byte cs)) ≡ Some cs → unescaped_from (pieces_of (cond b (37 ∷ hexadecimal_digit (c / 16) ∷ hexadecimal_digit (c % 16) ∷ 37 ∷ []) (c ∷ []) ++ flat_map escaped_byte cs)) ≡ Some (c ∷ cs)
    one true e rest = let at = escape_at c e in rw (at.high, at.low, at.code, rest, at.bytes) refl
    one false e rest = rw (plain_at c e).0 (onto_text c (pieces_of (flat_map escaped_byte cs)) cs rest)

spelled_bytes : (text : List ℕ) → list_all is_text_byte (flat_map escaped_byte text) ≡ true
spelled_bytes [] = refl
spelled_bytes (c ∷ cs) = rw (flat_map-cons escaped_byte c cs) (one (needs_escape c) refl (spelled_bytes cs))
  where
    one : (b : Bool) → needs_escape c ≡ b → list_all is_text_byte (flat_map escaped_byte cs) ≡ true → list_all is_text_byte (cond b (37 ∷ hexadecimal_digit (c / 16) ∷ hexadecimal_digit (c % 16) ∷ 37 ∷ []) (c ∷ []) ++ flat_map escaped_byte cs) ≡ true
    one true e rest = let at = escape_at c e in rw (at.high_text, at.low_text) rest
    one false e rest = rw (plain_at c e).1 rest

-- The canonical spelling of a text spells it.
pub text_of-escaped : (text : List ℕ) → text_of (escaped text) ≡ Some text
unfolding text_of unescaped escaped
text_of-escaped text = rw (spelled_bytes text) (spelled_pieces text)

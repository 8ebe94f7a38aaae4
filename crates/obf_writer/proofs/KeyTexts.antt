-- The key of a text is a text.
use Rattle.std.proofs.Common.{◌≡◌, ℕ, ◌+◌, ◌-◌, ◌/◌, ◌%◌, ◌<◌, ◌≤◌, Bool, true, false, cond, List, [], ◌∷◌, ◌++◌, flat_map, refl, sym, ap, ◌∙◌, arith}
use Rattle.std.specs.Prelude.{◌&&◌, ◌==◌, encode_utf8_all, chars, nat_le, nat_lt}
use Rattle.std.specs.List.{list_all}
use Rattle.std.specs.Str.{is_utf8}
use Rattle.std.proofs.lemmas.Bool.{and_from, and_parts, leb-true, ltb-true}
use Rattle.std.proofs.lemmas.Str.{is_utf8-from_IsUtf8}
use lib.Utf8.{scalar, scalars, low_scalar}
use Rattle.ucd_table.proofs.Computing.{tables}
use Rattle.ucd_table.proofs.RangedFacts.{values_ok, Stepped-at_values}
use Rattle.ucd_case.specs.CaseFolding.{full_fold, full_folding, or_itself as or_unfolded}
use Rattle.ucd_case.proofs.CaseFoldingLemmas.{full_folding_stepped}
use Rattle.ucd_normal.specs.Decomposition.{canonical_decomposition, or_itself}
use Rattle.ucd_normal.specs.declared.forms.Form.TheVariants.{Nfd}
use Rattle.ucd_normal.proofs.DecompositionLemmas.{canonical_decomposition_stepped}
use Rattle.unicode_normalization.specs.Decompose.{decompose}
use Rattle.unicode_normalization.specs.Forms.{nfd, normalize}
use Rattle.unicode_normalization.specs.Hangul.{decompose_hangul, is_syllable}
use Rattle.unicode_normalization.proofs.KeptLemmas.{list_all-decomposed}
use Rattle.caseless.specs.Caseless.{default_case_fold}
use Rattle.name_fold.specs.Keys.{key}

-- each is a character
tested : (cs : List ℕ) → scalars cs ≡ list_all scalar cs
tested [] = refl
tested (c ∷ cs) = ap (λ (b : Bool). scalar c && b) (tested cs)

-- what a table says of a character
mapped : (c : ℕ) → list_all scalar (canonical_decomposition c) ≡ true
unfolding tables values_ok canonical_decomposition_stepped
mapped c = Stepped-at_values canonical_decomposition canonical_decomposition_stepped (λ v. list_all scalar v) refl c

folded : (c : ℕ) → list_all scalar (full_folding c) ≡ true
unfolding tables values_ok full_folding_stepped
folded c = Stepped-at_values full_folding full_folding_stepped (λ v. list_all scalar v) refl c

or_same : (c : ℕ) (v : List ℕ) → scalar c ≡ true → list_all scalar v ≡ true → list_all scalar (or_itself c v) ≡ true
or_same c [] one all = and_from (scalar c) true one refl
or_same c (x ∷ xs) one all = all

or_kept : (c : ℕ) (v : List ℕ) → scalar c ≡ true → list_all scalar v ≡ true → list_all scalar (or_unfolded c v) ≡ true
or_kept c [] one all = and_from (scalar c) true one refl
or_kept c (x ∷ xs) one all = all

-- the jamo of a syllable lie below the surrogates
hangul : (c : ℕ) → is_syllable c ≡ true → list_all scalar (decompose_hangul c) ≡ true
unfolding decompose_hangul
hangul c among =
    let p = and_parts (nat_le 0xAC00 c) (nat_lt c (0xAC00 + 11172)) among in
    let least : 0xAC00 ≤ c = leb-true 0xAC00 c p.0 in
    let most : c < 0xAC00 + 11172 = ltb-true c (0xAC00 + 11172) p.1 in
    let index : ℕ = c - 0xAC00 in
    let l : scalar (0x1100 + index / 588) ≡ true = low_scalar (0x1100 + index / 588) (omega arith) in
    let v : scalar (0x1161 + index % 588 / 28) ≡ true = low_scalar (0x1161 + index % 588 / 28) (omega arith) in
    let t : scalar (0x11A7 + index % 28) ≡ true = low_scalar (0x11A7 + index % 28) (omega arith) in
    two_or_three (index % 28 == 0) (0x1100 + index / 588) (0x1161 + index % 588 / 28) (0x11A7 + index % 28) l v t
  where
    two_or_three : (b : Bool) (l v t : ℕ) → scalar l ≡ true → scalar v ≡ true → scalar t ≡ true → list_all scalar (cond b (l ∷ v ∷ []) (l ∷ v ∷ t ∷ [])) ≡ true
    two_or_three true l v t e f g = and_from (scalar l) _ e (and_from (scalar v) true f refl)
    two_or_three false l v t e f g = and_from (scalar l) _ e (and_from (scalar v) _ f (and_from (scalar t) true g refl))

decomposing : (c : ℕ) → scalar c ≡ true → list_all scalar (decompose Nfd c) ≡ true
unfolding decompose
decomposing c one = by_kind (is_syllable c) refl
  where
    by_kind : (b : Bool) → is_syllable c ≡ b → list_all scalar (cond b (decompose_hangul c) (or_itself c (canonical_decomposition c))) ≡ true
    by_kind true e = hangul c e
    by_kind false e = or_same c (canonical_decomposition c) one (mapped c)

decomposed_scalars : (cs : List ℕ) → list_all scalar cs ≡ true → list_all scalar (nfd cs) ≡ true
unfolding normalize
decomposed_scalars cs all = list_all-decomposed Nfd scalar decomposing cs all

appended : (xs ys : List ℕ) → list_all scalar xs ≡ true → list_all scalar ys ≡ true → list_all scalar (xs ++ ys) ≡ true
appended [] ys a b = b
appended (x ∷ xs) ys a b = let p = and_parts (scalar x) (list_all scalar xs) a in and_from (scalar x) (list_all scalar (xs ++ ys)) p.0 (appended xs ys p.1 b)

folded_scalars : (cs : List ℕ) → list_all scalar cs ≡ true → list_all scalar (default_case_fold cs) ≡ true
unfolding default_case_fold
folded_scalars [] all = refl
folded_scalars (c ∷ cs) all =
    let p = and_parts (scalar c) (list_all scalar cs) all in
    appended (full_fold c) (flat_map full_fold cs) (or_kept c (full_folding c) p.0 (folded c)) (folded_scalars cs p.1)

-- the key of a text is a text
pub key_utf8 : (name : List ℕ) → is_utf8 name ≡ true → is_utf8 (key name) ≡ true
unfolding key is_utf8
key_utf8 name utf8 =
    let all = sym (tested (chars name)) ∙ (and_parts (scalars (chars name)) _ utf8).0 in
    let cs : List ℕ = nfd (default_case_fold (nfd (chars name))) in
    let good = decomposed_scalars (default_case_fold (nfd (chars name))) (folded_scalars (nfd (chars name)) (decomposed_scalars (chars name) all)) in
    is_utf8-from_IsUtf8 (encode_utf8_all cs) (cs, (tested cs ∙ good, refl))

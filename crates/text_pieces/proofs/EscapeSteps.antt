-- How a reader goes through a text with escapes, from percent sign to percent sign.
use Rattle.std.proofs.Common.{◌≡◌, ℕ, ◌+◌, ◌*◌, ◌≤◌, ◌<◌, List, [], ◌∷◌, ◌++◌, refl, sym, ap, ◌∙◌, arith, Some, None, Option, Bool, true, false, length, append_assoc}
use Rattle.std.specs.Prelude.{◌&&◌, ◌==◌, is_some, encode_utf8}
use Rattle.std.specs.Char.{digit_value}
use Rattle.std.specs.Option.{option_map}
use Rattle.std.proofs.Math.Utf8.{scalar, scalar_cases}
use Rattle.std.specs.List.{position_or_len, before_first, after_first}
use Rattle.std.proofs.lemmas.List.Splits.{slice_split_first}
use Rattle.text_pieces.proofs.FieldSteps.{split_none}
use Rattle.text_pieces.specs.Escapes.{character_of, joined, unescaped_from, unescaped, hexadecimal_after}

abbrev is_percent : ℕ → Bool
is_percent c = c == 37

-- without a percent sign a text is itself
pub unescaped_none : (xs : List ℕ) → position_or_len is_percent xs ≡ length xs → unescaped xs ≡ Some xs
unfolding unescaped
unescaped_none xs e = ap unescaped_from (split_none is_percent xs e)

-- a single percent sign is a bad escape
pub unescaped_single : (xs : List ℕ) → position_or_len is_percent xs < length xs → position_or_len is_percent (after_first is_percent xs) ≡ length (after_first is_percent xs) → unescaped xs ≡ None
unfolding unescaped
unescaped_single xs first last = ap unescaped_from (slice_split_first is_percent xs 0 first ∙ ap (λ ps. before_first is_percent xs ∷ ps) (split_none is_percent (after_first is_percent xs) last)) ∙ none (character_of (after_first is_percent xs))
  where
    none : (o : Option ℕ) → joined (before_first is_percent xs) o None ≡ None
    none None = refl
    none (Some c) = refl

-- what stands before a pair, the pair, and the rest
pub unescaped_pair : (xs : List ℕ) → position_or_len is_percent xs < length xs → position_or_len is_percent (after_first is_percent xs) < length (after_first is_percent xs)
    → unescaped xs ≡ joined (before_first is_percent xs) (character_of (before_first is_percent (after_first is_percent xs))) (unescaped (after_first is_percent (after_first is_percent xs)))
unfolding unescaped
unescaped_pair xs first second =
    ap unescaped_from (slice_split_first is_percent xs 0 first ∙ ap (λ ps. before_first is_percent xs ∷ ps) (slice_split_first is_percent (after_first is_percent xs) 0 second))

-- the same, as tests
pub escapes_none : (xs : List ℕ) → position_or_len is_percent xs ≡ length xs → is_some (unescaped xs) ≡ true
escapes_none xs e = ap is_some (unescaped_none xs e)

pub escapes_single : (xs : List ℕ) → position_or_len is_percent xs < length xs → position_or_len is_percent (after_first is_percent xs) ≡ length (after_first is_percent xs) → is_some (unescaped xs) ≡ false
escapes_single xs first last = ap is_some (unescaped_single xs first last)

is_some-joined : (p : List ℕ) (o : Option ℕ) (r : Option (List ℕ)) → is_some (joined p o r) ≡ (is_some o && is_some r)
is_some-joined p None r = refl
is_some-joined p (Some c) None = refl
is_some-joined p (Some c) (Some t) = refl

pub escapes_pair : (xs : List ℕ) → position_or_len is_percent xs < length xs → position_or_len is_percent (after_first is_percent xs) < length (after_first is_percent xs)
    → is_some (unescaped xs) ≡ (is_some (character_of (before_first is_percent (after_first is_percent xs))) && is_some (unescaped (after_first is_percent (after_first is_percent xs))))
escapes_pair xs first second = ap is_some (unescaped_pair xs first second) ∙ is_some-joined _ _ _

-- digits make a number no smaller
pub hexadecimal_after_ge : (n : ℕ) (ds : List ℕ) → n ≤ hexadecimal_after n ds
hexadecimal_after_ge n [] = omega arith
hexadecimal_after_ge n (d ∷ ds) = omega (arith, hexadecimal_after_ge (16 * n + digit_value d) ds)

-- a character's code is at most the last one's
pub scalar_low : (n : ℕ) → 1114111 < n → scalar n ≡ false
scalar_low n high = one (scalar n) refl
  where
    one : (b : Bool) → scalar n ≡ b → scalar n ≡ false
    one false e = e
    one true e = let cases = scalar_cases n e in absurd (grind arith)

-- what stands before a pair, the pair and the rest, each cut out
pub record IsPair (text piece code rest : List ℕ) (c : ℕ) : Type 0 where
  pub behind : List ℕ
  pub first : position_or_len is_percent text < length text
  pub second : position_or_len is_percent behind < length behind
  pub piece_is : piece ≡ before_first is_percent text
  pub behind_is : behind ≡ after_first is_percent text
  pub code_is : code ≡ before_first is_percent behind
  pub rest_is : rest ≡ after_first is_percent behind
  pub character : Some c ≡ character_of code

unescaped_cut : (text piece code rest : List ℕ) (c : ℕ) → IsPair text piece code rest c → unescaped text ≡ joined piece (Some c) (unescaped rest)
unescaped_cut text piece code rest c p =
    let first : position_or_len is_percent text < length text = p.first in
    let second : position_or_len is_percent (after_first is_percent text) < length (after_first is_percent text) = rw (← p.behind_is) p.second in
    let pair = unescaped_pair text first second in
    rw (p.character, p.code_is, p.rest_is, p.piece_is, p.behind_is) pair

spelled_pair : (out piece : List ℕ) (c : ℕ) (o : Option (List ℕ)) → option_map (λ t. out ++ t) (joined piece (Some c) o) ≡ option_map (λ t. ((out ++ piece) ++ encode_utf8 c) ++ t) o
spelled_pair out piece c None = refl
spelled_pair out piece c (Some rest) =
    ap Some (ap (λ t. out ++ t) (append_assoc piece (encode_utf8 c) rest) ∙ sym (append_assoc out piece (encode_utf8 c ++ rest)) ∙ sym (append_assoc (out ++ piece) (encode_utf8 c) rest))

-- what is spelled so far stands before what the rest spells
pub spelled_step : (out new text piece code rest : List ℕ) (c : ℕ) (all : Option (List ℕ)) → IsPair text piece code rest c → new ≡ (out ++ piece) ++ encode_utf8 c
    → option_map (λ t. out ++ t) (unescaped text) ≡ all → option_map (λ t. new ++ t) (unescaped rest) ≡ all
spelled_step out new text piece code rest c all p grown before =
    rw grown (sym (spelled_pair out piece c (unescaped rest)) ∙ ap (option_map (λ t. out ++ t)) (sym (unescaped_cut text piece code rest c p)) ∙ before)

-- the escapes of the rest are good
pub good_step : (text piece code rest : List ℕ) (c : ℕ) → IsPair text piece code rest c → is_some (unescaped text) ≡ true → is_some (unescaped rest) ≡ true
good_step text piece code rest c p good =
    sym (is_some-joined piece (Some c) (unescaped rest)) ∙ ap is_some (sym (unescaped_cut text piece code rest c p)) ∙ good

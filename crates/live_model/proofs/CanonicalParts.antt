-- How canonical lines part: words at spaces, lists at commas, items at their first `=` or `@`, and escapes.
use Rattle.std.proofs.Common.{◌≡◌, ◌≢◌, ℕ, ◌+◌, ◌<◌, ◌≤◌, ◌/◌, ◌%◌, Bool, true, false, cond, not, List, [], ◌∷◌, ◌++◌, length, take, drop, refl, sym, ap, ◌∙◌, arith, zero, suc, append_assoc, subst, eqb, filter, Option, Some, None, length-append}
use Rattle.std.specs.Prelude.{◌&&◌, ◌||◌, ◌==◌, map, All, nat_lt, is_some}
use Rattle.std.specs.List.{slice_split, onto_first, position_or_len, before_first, after_first, flat_map, AllByRecursion}
use Rattle.std.proofs.lemmas.Bool.{ne_eqb, eqb-true, eqb-false, ltb-false, ltb-true, le-ltb}
use Rattle.std.proofs.lemmas.List.Splits.{slice_split_none, slice_split_at, slice_split-cons_no}
use Rattle.std.proofs.lemmas.List.Concat.{flat_map-cons}
use Rattle.std.proofs.lemmas.List.Elements.{All-from_recursion}
use Rattle.std.proofs.lemmas.List.{append-nil}
use Rattle.std.proofs.Math.Seq.{take-append_seam, drop-append-add}
use Rattle.text_pieces.specs.Lines.{is_blank, placed, fields_from}
use Rattle.text_pieces.specs.Escapes.{character_of, joined, unescaped_from, unescaped, escaped, escaped_byte, needs_escape, hexadecimal_digit}
use Rattle.text_pieces.proofs.NumberLaw.{both_true}
use Rattle.live_model.specs.FieldValues.{items_of, each_of, parted_at}
use Rattle.live_model.specs.CanonicalLines.{listed}
use Rattle.live_model.proofs.CanonicalBytes.{all_weaker, all_append}

-- Words.

-- a word has a byte, and no blank and no control byte
pub record IsWord (word : List ℕ) : Type 0 where
  pub some : 0 < length word
  pub visible : AllByRecursion (λ c. 33 ≤ c) word

abbrev pub spaced : List (List ℕ) → List ℕ
spaced [] = []
spaced (word ∷ []) = word
spaced (word ∷ next ∷ words) = word ++ 32 ∷ spaced (next ∷ words)

no_blank : (c : ℕ) → 33 ≤ c → is_blank c ≡ false
no_blank c visible = rw (ne_eqb c 32 (λ e. omega arith), ne_eqb c 9 (λ e. omega arith)) refl

unblank : (word : List ℕ) → AllByRecursion (λ c. 33 ≤ c) word → All (λ c. is_blank c ≡ false) word
unblank word all = All-from_recursion (λ c. is_blank c ≡ false) word (all_weaker (λ c. 33 ≤ c) (λ c. is_blank c ≡ false) no_blank word all)

split_spaced : (word : List ℕ) (words : List (List ℕ)) → AllByRecursion IsWord (word ∷ words) → slice_split is_blank (spaced (word ∷ words)) ≡ word ∷ words
split_spaced word [] all = slice_split_none is_blank word (unblank word all.0.visible)
split_spaced word (next ∷ words) all =
    slice_split_at is_blank word 32 (spaced (next ∷ words)) (unblank word all.0.visible) refl
    ∙ ap (λ ps. word ∷ ps) (split_spaced next words all.1)

kept_words : (at : ℕ) (words : List (List ℕ)) → AllByRecursion IsWord words → filter (λ field. not (length field.1 == 0)) (placed at words) ≡ placed at words
kept_words at [] all = refl
kept_words at (word ∷ words) all =
    let some : 0 < length word = all.0.some in
    rw (ne_eqb (length word) 0 (λ e. omega arith)) (ap (λ fs. (at, word) ∷ fs) (kept_words (at + (length word + 1)) words all.1))

-- The fields of words with a space between them are these words.
pub fields_spaced : (at : ℕ) (word : List ℕ) (words : List (List ℕ)) → AllByRecursion IsWord (word ∷ words) → fields_from at (spaced (word ∷ words)) ≡ placed at (word ∷ words)
unfolding fields_from
fields_spaced at word words all =
    ap (λ ps. filter (λ field. not (length field.1 == 0)) (placed at ps)) (split_spaced word words all) ∙ kept_words at (word ∷ words) all

-- Lists.

-- an item that is read back from its text, which is not empty and holds no comma
pub record IsItem {A : Type 0} (read : List ℕ → Option A) (text : A → List ℕ) (x : A) : Type 0 where
  pub back : read (text x) ≡ Some x
  pub whole : AllByRecursion (λ c. c ≢ 44) (text x)
  pub some : 0 < length (text x)

abbrev is_comma : ℕ → Bool
is_comma c = c == 44

uncomma : (text : List ℕ) → AllByRecursion (λ c. c ≢ 44) text → All (λ c. is_comma c ≡ false) text
uncomma text all = All-from_recursion (λ c. is_comma c ≡ false) text (all_weaker (λ c. c ≢ 44) (λ c. is_comma c ≡ false) (λ c other. ne_eqb c 44 other) text all)

items_some : (bytes : List ℕ) → 0 < length bytes → items_of bytes ≡ slice_split is_comma bytes
items_some [] some = absurd (omega arith)
items_some (c ∷ cs) some = refl

module _ {A : Type 0} (read : List ℕ → Option A) (text : A → List ℕ) where
  split_listed : (x : A) (xs : List A) → IsItem read text x → AllByRecursion (IsItem read text) xs → slice_split is_comma (text x ++ flat_map (λ y. 44 ∷ text y) xs) ≡ text x ∷ map text xs
  split_listed x [] item items = ap (slice_split is_comma) (append-nil (text x)) ∙ slice_split_none is_comma (text x) (uncomma (text x) item.whole)
  split_listed x (y ∷ ys) item items =
      ap (λ bytes. slice_split is_comma (text x ++ bytes)) (flat_map-cons (λ z. 44 ∷ text z) y ys)
      ∙ slice_split_at is_comma (text x) 44 (text y ++ flat_map (λ z. 44 ∷ text z) ys) (uncomma (text x) item.whole) refl
      ∙ ap (λ ps. text x ∷ ps) (split_listed y ys items.0 items.1)

  -- The items of a list as it is written are the texts of its items.
  pub items_of-listed : (xs : List A) → AllByRecursion (IsItem read text) xs → items_of (listed text xs) ≡ map text xs
  items_of-listed [] items = refl
  items_of-listed (x ∷ xs) items =
      let some : 0 < length (text x) = items.0.some in
      let long : 0 < length (text x ++ flat_map (λ y. 44 ∷ text y) xs) = omega (arith, length-append (text x) (flat_map (λ y. 44 ∷ text y) xs)) in
      items_some (text x ++ flat_map (λ y. 44 ∷ text y) xs) long ∙ split_listed x xs items.0 items.1

  each_back : (xs : List A) → AllByRecursion (IsItem read text) xs → each_of read (map text xs) ≡ Some xs
  each_back [] items = refl
  each_back (x ∷ xs) items = rw (items.0.back, each_back xs items.1) refl

  -- The list as it is written spells it.
  pub each_of-listed : (xs : List A) → AllByRecursion (IsItem read text) xs → each_of read (items_of (listed text xs)) ≡ Some xs
  each_of-listed xs items = ap (each_of read) (items_of-listed xs items) ∙ each_back xs items

-- What holds of the bytes of each item and of a comma holds of the list's.
module _ {A : Type 0} (text : A → List ℕ) where
  pub all_listed : (P : ℕ → Type 0) → P 44 → (xs : List A) → AllByRecursion (λ x. AllByRecursion P (text x)) xs → AllByRecursion P (listed text xs)
  all_listed P comma [] all = tt
  all_listed P comma (x ∷ xs) all = all_append P (text x) (flat_map (λ y. 44 ∷ text y) xs) all.0 (rest xs all.1)
    where
      rest : (ys : List A) → AllByRecursion (λ y. AllByRecursion P (text y)) ys → AllByRecursion P (flat_map (λ y. 44 ∷ text y) ys)
      rest [] all = tt
      rest (y ∷ ys) all = subst (AllByRecursion P) (sym (flat_map-cons (λ z. 44 ∷ text z) y ys)) (comma, all_append P (text y) (flat_map (λ z. 44 ∷ text z) ys) all.0 (rest ys all.1))

-- Items with two parts.

-- the first byte that passes, behind bytes of which none does
pub position_or_len_at : (p : ℕ → Bool) (front rest : List ℕ) (c : ℕ) → AllByRecursion (λ b. p b ≡ false) front → p c ≡ true → position_or_len p (front ++ c ∷ rest) ≡ length front
position_or_len_at p [] rest c none here = rw here refl
position_or_len_at p (b ∷ bs) rest c none here = let e = position_or_len_at p bs rest c none.1 here in rw none.0 (omega arith)

pub before_first_at : (p : ℕ → Bool) (front rest : List ℕ) (c : ℕ) → AllByRecursion (λ b. p b ≡ false) front → p c ≡ true → before_first p (front ++ c ∷ rest) ≡ front
before_first_at p front rest c none here =
    ap (λ n. take n (front ++ c ∷ rest)) (position_or_len_at p front rest c none here) ∙ take-append_seam front (c ∷ rest)

pub after_first_at : (p : ℕ → Bool) (front rest : List ℕ) (c : ℕ) → AllByRecursion (λ b. p b ≡ false) front → p c ≡ true → after_first p (front ++ c ∷ rest) ≡ rest
after_first_at p front rest c none here =
    ap (λ n. drop (n + 1) (front ++ c ∷ rest)) (position_or_len_at p front rest c none here) ∙ drop-append-add front (c ∷ rest) 1

-- What stands before and behind the first of these bytes.
pub parted_at-first : (c : ℕ) (front rest : List ℕ) → (c == c) ≡ true → AllByRecursion (λ b. b ≢ c) front → parted_at c (front ++ c ∷ rest) ≡ Some (front, rest)
parted_at-first c front rest same none =
    let others = all_weaker (λ b. b ≢ c) (λ b. (b == c) ≡ false) (λ b other. ne_eqb b c other) front none in
    let long : length (front ++ c ∷ rest) ≡ length front + (length rest + 1) = omega (arith, length-append front (c ∷ rest)) in
    let short : (length front == length (front ++ c ∷ rest)) ≡ false = ne_eqb _ _ (λ e. omega arith) in
    rw (before_first_at (λ b. b == c) front rest c others same, after_first_at (λ b. b == c) front rest c others same, short) refl

-- Escapes.

abbrev is_percent : ℕ → Bool
is_percent c = c == 37

-- bytes before which good escapes stay good
abbrev pub KeepsEscapes : List ℕ → Type 0
KeepsEscapes bytes = (rest : List ℕ) → is_some (unescaped rest) ≡ true → is_some (unescaped (bytes ++ rest)) ≡ true

pub keeps_append : (xs ys : List ℕ) → KeepsEscapes xs → KeepsEscapes ys → KeepsEscapes (xs ++ ys)
keeps_append xs ys front back rest good = rw (append_assoc xs ys rest) (front (ys ++ rest) (back rest good))

onto_good : (c : ℕ) (pieces : List (List ℕ)) → is_some (unescaped_from pieces) ≡ true → is_some (unescaped_from (onto_first c pieces)) ≡ true
onto_good c [] e = cc
onto_good c (piece ∷ []) e = refl
onto_good c (piece ∷ code ∷ rest) e = one (character_of code) (unescaped_from rest) e
  where
    one : (o : Option ℕ) (r : Option (List ℕ)) → is_some (joined piece o r) ≡ true → is_some (joined (c ∷ piece) o r) ≡ true
    one None r e = e
    one (Some x) None e = e
    one (Some x) (Some r) e = refl

pub keeps_byte : (c : ℕ) → c ≢ 37 → KeepsEscapes (c ∷ [])
unfolding unescaped
keeps_byte c other rest good =
    rw (slice_split-cons_no is_percent c rest (ne_eqb c 37 other)) (onto_good c (slice_split is_percent rest) good)

pub keeps_bytes : (bytes : List ℕ) → AllByRecursion (λ c. c ≢ 37) bytes → KeepsEscapes bytes
keeps_bytes [] all rest good = good
keeps_bytes (c ∷ cs) all rest good = keeps_byte c all.0 (cs ++ rest) (keeps_bytes cs all.1 rest good)

-- an escape of two digits spells a character
abbrev is_code : ℕ → Bool
is_code c = not (needs_escape c) || (is_some (character_of (hexadecimal_digit (c / 16) ∷ hexadecimal_digit (c % 16) ∷ [])) && (not (is_percent (hexadecimal_digit (c / 16))) && not (is_percent (hexadecimal_digit (c % 16)))))

abbrev up_to : (ℕ → Bool) → ℕ → Bool
up_to p zero = true
up_to p (suc n) = p n && up_to p n

codes_hold : up_to is_code 128 ≡ true
unfolding character_of
codes_hold = refl

up_to-at : (p : ℕ → Bool) (n : ℕ) → up_to p n ≡ true → (c : ℕ) → c < n → p c ≡ true
up_to-at p zero e c lt = absurd (omega arith)
up_to-at p (suc n) e c lt = one (eqb c n) refl (up_to-at p n two.1 c)
  where
    two : (p n ≡ true) × (up_to p n ≡ true)
    two = both_true (p n) (up_to p n) e

    one : (b : Bool) → eqb c n ≡ b → (c < n → p c ≡ true) → p c ≡ true
    one true same below = let is = eqb-true c n same in rw is two.0
    one false other below = let is = eqb-false c n other in below (omega arith)

low_escaped : (c : ℕ) → needs_escape c ≡ true → c < 128
low_escaped c e = one (nat_lt c 128) refl
  where
    one : (b : Bool) → nat_lt c 128 ≡ b → c < 128
    one true lt = ltb-true c 128 lt
    one false above =
        let high : 128 ≤ c = ltb-false c 128 above in
        let none : needs_escape c ≡ false = rw (le-ltb c 33 (omega arith), ne_eqb c 127 (λ h. omega arith), ne_eqb c 37 (λ h. omega arith), ne_eqb c 44 (λ h. omega arith), ne_eqb c 61 (λ h. omega arith), ne_eqb c 64 (λ h. omega arith)) refl in
        absurd (let a : true ≡ false = sym e ∙ none in cc)

not_from : (b : Bool) → not b ≡ true → b ≡ false
not_from true e = cc
not_from false e = refl

good_joined : (o : Option ℕ) (r : Option (List ℕ)) → is_some o ≡ true → is_some r ≡ true → is_some (joined [] o r) ≡ true
good_joined None r e f = e
good_joined (Some c) None e f = f
good_joined (Some c) (Some t) e f = refl

keeps_escape : (c : ℕ) → needs_escape c ≡ true → KeepsEscapes (37 ∷ hexadecimal_digit (c / 16) ∷ hexadecimal_digit (c % 16) ∷ 37 ∷ [])
unfolding unescaped
keeps_escape c e rest good =
    let all : is_code c ≡ true = up_to-at is_code 128 codes_hold c (low_escaped c e) in
    let parts = both_true _ _ (rw e at all) in
    let digits = both_true _ _ parts.1 in
    let high : is_percent (hexadecimal_digit (c / 16)) ≡ false = not_from _ digits.0 in
    let low : is_percent (hexadecimal_digit (c % 16)) ≡ false = not_from _ digits.1 in
    rw (high, low) (good_joined (character_of (hexadecimal_digit (c / 16) ∷ hexadecimal_digit (c % 16) ∷ [])) (unescaped_from (slice_split is_percent rest)) parts.0 good)

keeps_escaped_byte : (c : ℕ) → KeepsEscapes (escaped_byte c)
keeps_escaped_byte c = one (needs_escape c) refl
  where
    kept : (c : ℕ) → needs_escape c ≡ false → c ≢ 37
    kept c e same = let e' : needs_escape 37 ≡ false = rw same at e in absurd (cc)

    one : (b : Bool) → needs_escape c ≡ b → KeepsEscapes (cond b (37 ∷ hexadecimal_digit (c / 16) ∷ hexadecimal_digit (c % 16) ∷ 37 ∷ []) (c ∷ []))
    one true e = keeps_escape c e
    one false e = keeps_byte c (kept c e)

pub keeps_escaped : (text : List ℕ) → KeepsEscapes (escaped text)
unfolding escaped
keeps_escaped [] rest good = good
keeps_escaped (c ∷ cs) rest good =
    rw (flat_map-cons escaped_byte c cs) (keeps_append (escaped_byte c) (flat_map escaped_byte cs) (keeps_escaped_byte c) (keeps_escaped cs) rest good)

pub keeps_listed : (A : Type 0) (text : A → List ℕ) (xs : List A) → AllByRecursion (λ x. KeepsEscapes (text x)) xs → KeepsEscapes (listed text xs)
keeps_listed A text [] each = λ rest good. good
keeps_listed A text (x ∷ xs) each = keeps_append (text x) (flat_map (λ y. 44 ∷ text y) xs) each.0 (more xs each.1)
  where
    more : (ys : List A) → AllByRecursion (λ y. KeepsEscapes (text y)) ys → KeepsEscapes (flat_map (λ y. 44 ∷ text y) ys)
    more [] each = λ rest good. good
    more (y ∷ ys) each =
        subst KeepsEscapes (sym (flat_map-cons (λ z. 44 ∷ text z) y ys))
        (keeps_append (44 ∷ text y) (flat_map (λ z. 44 ∷ text z) ys) (λ after ok. keeps_byte 44 (λ e. omega arith) (text y ++ after) (each.0 after ok)) (more ys each.1))

-- such bytes alone have good escapes
pub good_alone : (bytes : List ℕ) → KeepsEscapes bytes → is_some (unescaped bytes) ≡ true
unfolding unescaped
good_alone bytes keeps = let e = keeps [] refl in rw append-nil at e

-- The items of a list, one by one.
use Rattle.std.proofs.Common.{◌≡◌, ℕ, ◌+◌, ◌<◌, List, [], ◌∷◌, ◌++◌, length, Bool, true, false, Option, Some, None, refl, sym, ap, ◌∙◌, append_assoc, append-nil, arith, IsTrue, nat_le, nat_lt, Bor, MatchOption}
use Rattle.std.specs.Prelude.{◌==◌, is_some}
use Rattle.std.specs.List.{slice_split, count_by, position_or_len, before_first, after_first}
use Rattle.std.proofs.lemmas.Bool.Decides.{nat_tests}
use Rattle.std.proofs.lemmas.List.Splits.{length-slice_split, slice_split_first}
use Rattle.text_pieces.proofs.FieldSteps.{split_none}
use Rattle.text_pieces.specs.Escapes.{text_of, unescaped}
use Rattle.live_model.specs.FieldValues.{each_of, prepended, items_of, is_few}
use Rattle.opl_reader.specs.declared.value_error.ValueError.{ValueError}
use Rattle.opl_reader.specs.declared.value_error.ValueError.TheVariants.{NoMemory, Bad}
use Rattle.opl_reader.specs.Lists.{OnBadList, Adds}

abbrev pub split : List ℕ → List (List ℕ)
split bytes = slice_split (λ b. b == 44) bytes

pub items_some : (value : List ℕ) → 0 < length value → items_of value ≡ split value
items_some [] some = absurd (omega arith)
items_some (c ∷ cs) some = refl

-- one item more than commas
pub few_commas : (value : List ℕ) → 0 < length value → is_few value ≡ nat_lt (count_by (λ b. b == 44) value) 65535
few_commas value some =
    ap (λ items. nat_le (length items) 65535) (items_some value some)
    ∙ ap (λ n. nat_le n 65535) (length-slice_split (λ b. b == 44) value)
    ∙ below (count_by (λ b. b == 44) value)
  where
    below : (n : ℕ) → nat_le (n + 1) 65535 ≡ nat_lt n 65535
    below n = grind (arith, nat_tests)

-- a text with a bad escape is none
pub no_text : (bytes : List ℕ) → unescaped bytes ≡ None → text_of bytes ≡ None
unfolding text_of
no_text bytes e = grind arith

-- Readers of lists.

-- the same cause by another fact
pub bad_by : {P Q : Type 0} (e : ValueError) → (P → Q) → OnBadList P e → OnBadList Q e
bad_by NoMemory f h = tt
bad_by (Bad kind) f h = (h.0, f h.1)

-- what later items spell behind earlier ones, where each does
abbrev pub behind : {A : Type 0} → List A → Option (List A) → Option (List A)
behind xs None = None
behind xs (Some ys) = Some (xs ++ ys)

-- where a reader stands in a value: what was kept, and the items that are left
pub record IsAt {A : Type 0} (read : List ℕ → Option A) (value : List ℕ) (keep : Bool) (kept : List A) (left : List (List ℕ)) : Type 0 where
  pub formed : is_some (each_of read left) ≡ is_some (each_of read (items_of value))
  pub spelled : IsTrue keep → behind kept (each_of read left) ≡ each_of read (items_of value)

module _ {A : Type 0} (read : List ℕ → Option A) (value : List ℕ) (keep : Bool) where
  -- before the first item
  pub at_first : (kept : List A) → kept ≡ [] → 0 < length value → IsAt read value keep kept (split value)
  at_first kept none some =
      let all = items_some value some in record {
        formed = ap (λ items. is_some (each_of read items)) (sym all);
        spelled = λ _. ap (λ xs. behind xs (each_of read (split value))) none ∙ nothing (each_of read (split value)) ∙ ap (each_of read) (sym all);
      }
    where
      nothing : (o : Option (List A)) → behind [] o ≡ o
      nothing None = refl
      nothing (Some ys) = refl

  formed_more : (item : List ℕ) (items : List (List ℕ)) → is_some (read item) ≡ true → is_some (each_of read (item ∷ items)) ≡ is_some (each_of read items)
  formed_more item items some = one (read item) (each_of read items) some
    where
      one : (o : Option A) (r : Option (List A)) → is_some o ≡ true → is_some (prepended o r) ≡ is_some r
      one None r e = cc
      one (Some x) None e = refl
      one (Some x) (Some xs) e = refl

  spelled_more : (kept more : List A) (item : List ℕ) (items : List (List ℕ)) → Adds (read item) kept more → behind kept (each_of read (item ∷ items)) ≡ behind more (each_of read items)
  spelled_more kept more item items adds = one (read item) (each_of read items) adds
    where
      one : (o : Option A) (r : Option (List A)) → Adds o kept more → behind kept (prepended o r) ≡ behind more r
      one None r h = absurd h
      one (Some x) None h = refl
      one (Some x) (Some xs) h = ap Some (sym (ap (λ ys. ys ++ xs) h ∙ append_assoc kept (x ∷ []) xs))

  -- behind one more item
  pub at_more : (kept more : List A) (item : List ℕ) (now left : List (List ℕ)) → now ≡ item ∷ left → is_some (read item) ≡ true → (IsTrue keep → Adds (read item) kept more)
      → IsAt read value keep kept now → IsAt read value keep more left
  at_more kept more item now left is some adds at = record {
    formed = sym (formed_more item left some) ∙ ap (λ items. is_some (each_of read items)) (sym is) ∙ at.formed;
    spelled = λ k. sym (spelled_more kept more item left (adds k)) ∙ ap (λ items. behind kept (each_of read items)) (sym is) ∙ at.spelled k;
  }

  -- an item that spells nothing
  pub at_bad : (kept : List A) (item : List ℕ) (now left : List (List ℕ)) → now ≡ item ∷ left → IsAt read value keep kept now → read item ≡ None → each_of read (items_of value) ≡ None
  at_bad kept item now left is at none =
      none_from (each_of read (items_of value)) (sym at.formed ∙ ap (λ items. is_some (each_of read items)) is ∙ ap (λ o. is_some (prepended o (each_of read left))) none)
    where
      none_from : (o : Option (List A)) → is_some o ≡ false → o ≡ None
      none_from None e = refl
      none_from (Some xs) e = cc

  -- behind the last item
  pub at_end-formed : (kept : List A) → IsAt read value keep kept [] → is_some (each_of read (items_of value)) ≡ true
  at_end-formed kept at = sym at.formed

  pub at_end-spelled : (kept : List A) → IsAt read value keep kept [] → IsTrue keep → each_of read (items_of value) ≡ Some kept
  at_end-spelled kept at k = sym (at.spelled k) ∙ ap Some (append-nil kept)

-- the parts of a text round its first comma are its first item and the others
pub first_parts : (text : List ℕ) (r : Option (Bor (List ℕ) × Bor (List ℕ)))
    → MatchOption r (position_or_len (λ b. b == 44) text ≡ length text) (λ parts. (position_or_len (λ b. b == 44) text < length text) × (parts.0.now ≡ before_first (λ b. b == 44) text) × (parts.1.now ≡ after_first (λ b. b == 44) text))
    → MatchOption r (split text ≡ text ∷ []) (λ parts. split text ≡ parts.0.now ∷ split parts.1.now)
first_parts text None whole = split_none (λ b. b == 44) text whole
first_parts text (Some parts) cut =
    slice_split_first (λ b. b == 44) text 0 cut.0
    ∙ ap (λ item. item ∷ split (after_first (λ b. b == 44) text)) (sym cut.1)
    ∙ ap (λ rest. parts.0.now ∷ split rest) (sym cut.2)

-- nothing stands in the empty value
pub none_in : {A : Type 0} (read : List ℕ → Option A) (value : List ℕ) → length value ≡ 0 → each_of read (items_of value) ≡ Some []
none_in read [] e = refl
none_in read (c ∷ cs) e = absurd (omega arith)

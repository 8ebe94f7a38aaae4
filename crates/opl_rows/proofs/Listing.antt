-- What the items of a list spell, one after another.
use Rattle.std.proofs.Common.{◌≡◌, ℕ, List, [], ◌∷◌, ◌++◌, Option, Some, None, length, refl, sym, ap, ◌∙◌, arith, append_assoc}
use Rattle.std.specs.Prelude.{◌==◌}
use Rattle.std.specs.Option.{option_map}
use Rattle.std.specs.List.{slice_split}
use Rattle.live_model.specs.FieldValues.{each_of, prepended}
use Rattle.opl_rows.proofs.Items.{NoComma, split_last, split_more}

-- what the items spell that are parted by commas
abbrev pub listed : {A : Type 0} → (List ℕ → Option A) → List ℕ → Option (List A)
listed read xs = each_of read (slice_split (λ b. b == 44) xs)

put_more : {A : Type 0} (old : List A) (x : A) (r : Option (List A)) → option_map (λ xs. old ++ xs) (prepended (Some x) r) ≡ option_map (λ xs. (old ++ x ∷ []) ++ xs) r
put_more old x None = refl
put_more old x (Some xs) = ap Some (sym (append_assoc old (x ∷ []) xs))

-- an item before others
pub listed_more : {A : Type 0} (read : List ℕ → Option A) (item more : List ℕ) (x : A) (old new : List A) → NoComma item → read item ≡ Some x → new ≡ old ++ x ∷ []
    → option_map (λ xs. new ++ xs) (listed read more) ≡ option_map (λ xs. old ++ xs) (listed read (item ++ 44 ∷ more))
listed_more read item more x old new plain e is =
    sym (ap (λ items. option_map (λ xs. old ++ xs) (each_of read items)) (split_more item more plain)
    ∙ ap (λ o. option_map (λ xs. old ++ xs) (prepended o (listed read more))) e
    ∙ put_more old x (listed read more)
    ∙ ap (λ ys. option_map (λ xs. ys ++ xs) (listed read more)) (sym is))

-- the last item
pub listed_last : {A : Type 0} (read : List ℕ → Option A) (item : List ℕ) (x : A) (old new : List A) → NoComma item → read item ≡ Some x → new ≡ old ++ x ∷ []
    → option_map (λ xs. old ++ xs) (listed read item) ≡ Some new
listed_last read item x old new plain e is =
    ap (λ items. option_map (λ xs. old ++ xs) (each_of read items)) (split_last item plain)
    ∙ ap (λ o. option_map (λ xs. old ++ xs) (prepended o (Some []))) e
    ∙ ap Some (sym is)

-- nothing stands before the first
pub listed_first : {A : Type 0} (o : Option (List A)) → option_map (λ xs. [] ++ xs) o ≡ o
listed_first None = refl
listed_first (Some xs) = refl

-- each item spells one
pub listed_length : {A : Type 0} (read : List ℕ → Option A) (items : List (List ℕ)) (xs : List A) → each_of read items ≡ Some xs → length xs ≡ length items
listed_length read [] xs e = let none : [] ≡ xs = cc in ap length (sym none)
listed_length {A} read (item ∷ items) xs e = one (read item) (each_of read items) e (listed_length read items)
  where
    one : (o : Option A) (r : Option (List A)) → prepended o r ≡ Some xs → ((ys : List A) → r ≡ Some ys → length ys ≡ length items) → length xs ≡ length (item ∷ items)
    one None r e again = absurd (cc)
    one (Some y) None e again = absurd (cc)
    one (Some y) (Some ys) e again = let same : y ∷ ys ≡ xs = cc in let long = ap length same in let more = again ys refl in omega arith

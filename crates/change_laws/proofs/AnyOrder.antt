-- Records of good ids have one order, however they stood.
use Rattle.std.proofs.Common.{◌≡◌, ℕ, ◌+◌, List, [], ◌∷◌, Bool, true, false, cond, refl, sym, ◌∙◌, length, arith}
use Rattle.std.specs.Prelude.{filter}
use Rattle.std.specs.List.{AllByRecursion, sum_by}
use Rattle.std.specs.Ordering.{is_eq}
use Rattle.std.specs.declared.cmp.Ordering.{Ordering}
use Rattle.std.specs.declared.cmp.Ordering.TheVariants.{Less, Equal, Greater}
use Rattle.std.proofs.lemmas.List.Sorted.{sum_by-IsPermutation, sum_by_popped, IsPermutation-refl}
use Rattle.live_model.specs.declared.records.Rec.{Rec}
use Rattle.live_model.specs.Ids.{IsId}
use Rattle.live_model.specs.Records.{record_id, record_cmp}
use Rattle.map_laws.proofs.RecordOrder.{record_total, same_record}
use Rattle.map_laws.proofs.InOrder.{ranked, alike}
use Rattle.change_laws.specs.Answers.{PermutedLaw}

equal : (r : Ordering) → is_eq r ≡ true → r ≡ Equal
equal Less e = absurd (cc)
equal Equal e = refl
equal Greater e = absurd (cc)

-- one for an item that passes
abbrev one_if : Bool → ℕ
one_if true = 1
one_if false = 0

counted : (p : Rec → Bool) (xs : List Rec) → length (filter p xs) ≡ sum_by (λ x. one_if (p x)) xs
counted p [] = refl
counted p (x ∷ xs) = one (p x) (counted p xs) ∙ sum_by_popped (λ x. one_if (p x)) x (x ∷ xs) xs (IsPermutation-refl (x ∷ xs))
  where
    one : (b : Bool) → length (filter p xs) ≡ sum_by (λ x. one_if (p x)) xs → length (cond b (x ∷ filter p xs) (filter p xs)) ≡ sum_by (λ x. one_if (p x)) xs + one_if b
    one true again = omega (arith, again)
    one false again = omega (arith, again)

abbrev GoodRanked : Rec → Rec → Type 0
GoodRanked z r = IsId (record_id r) × (ranked z r ≡ true)

good_ranked : (z : Rec) (xs : List Rec) → AllByRecursion (λ r. IsId (record_id r)) xs → AllByRecursion (GoodRanked z) (filter (ranked z) xs)
good_ranked z [] good = tt
good_ranked z (x ∷ xs) good = one (ranked z x) refl (good_ranked z xs good.1)
  where
    one : (b : Bool) → ranked z x ≡ b → AllByRecursion (GoodRanked z) (filter (ranked z) xs) → AllByRecursion (GoodRanked z) (cond b (x ∷ filter (ranked z) xs) (filter (ranked z) xs))
    one true e again = ((good.0, e), again)
    one false e again = again

-- good records of one rank are one record
one_record : (z x y : Rec) → GoodRanked z x → GoodRanked z y → x ≡ y
one_record z x y gx gy =
    same_record x y gx.0 gy.0 (sym (record_total.congr z x y (equal (record_cmp z x) gx.1)) ∙ equal (record_cmp z y) gy.1)

as_many : (z : Rec) (xs ys : List Rec) → AllByRecursion (GoodRanked z) xs → AllByRecursion (GoodRanked z) ys → length xs ≡ length ys → xs ≡ ys
as_many z [] [] gx gy e = refl
as_many z [] (y ∷ ys) gx gy e = absurd (omega (arith, e))
as_many z (x ∷ xs) [] gx gy e = absurd (omega (arith, e))
as_many z (x ∷ xs) (y ∷ ys) gx gy e =
    let first = one_record z x y gx.0 gy.0 in
    let rest = as_many z xs ys gx.1 gy.1 (omega (arith, e)) in
    λ i. first i ∷ rest i

pub permuted : PermutedLaw
permuted = λ xs ys gx gy moved.
    alike xs ys (λ z.
    as_many z (filter (ranked z) xs) (filter (ranked z) ys) (good_ranked z xs gx) (good_ranked z ys gy)
    (counted (ranked z) xs ∙ sym (sum_by-IsPermutation (λ x. one_if (ranked z x)) xs ys moved) ∙ sym (counted (ranked z) ys)))

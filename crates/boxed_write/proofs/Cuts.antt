-- Cuts of a list.
use Rattle.std.proofs.Common.{◌≡◌, ℕ, zero, suc, ◌+◌, ◌*◌, List, [], ◌∷◌, ◌++◌, ◌-◌, ◌<◌, length, map, take, drop, sym, ap, ◌∙◌, arith}
use Rattle.std.specs.List.{range_with_len, AllByRecursion}
use Rattle.std.proofs.lemmas.List.{map-append, take-map, drop-map, take_all, take_rest}
use Rattle.std.proofs.lemmas.List.FromFn.{map-range_with_len_more}
use Rattle.boxed_write.specs.Packed.{cut}

-- one cut more, and what is made of it
pub cuts_more : {A B : Type 0} (f : List A → B) (size n : ℕ) (xs : List A) → map f (map (cut size xs) (range_with_len 0 (n + 1))) ≡ map f (map (cut size xs) (range_with_len 0 n)) ++ f (cut size xs n) ∷ []
cuts_more f size n xs =
    ap (map f) (map-range_with_len_more (cut size xs) 0 n n (omega arith)) ∙ map-append f (map (cut size xs) (range_with_len 0 n)) (cut size xs n ∷ [])

-- a cut that reaches to the end
pub short_cut : {A : Type 0} (size n : ℕ) (xs : List A) → length (take (length xs - n) (drop n xs)) < size → take (length xs - n) (drop n xs) ≡ take size (drop n xs)
short_cut size n xs short = let whole = ap length (take_rest xs n) in take_rest xs n ∙ sym (take_all size (drop n xs) (omega arith))

pub cut_map : {A B : Type 0} (f : A → B) (size place : ℕ) (xs : List A) → cut size (map f xs) place ≡ map f (cut size xs place)
cut_map f size place xs = ap (take size) (drop-map f (size * place) xs) ∙ take-map f size (drop (size * place) xs)

module _ {A : Type 0} (P : A → Type 0) where
  all_drop : (n : ℕ) (xs : List A) → AllByRecursion P xs → AllByRecursion P (drop n xs)
  all_drop zero xs all = all
  all_drop (suc n) [] all = tt
  all_drop (suc n) (x ∷ xs) all = all_drop n xs all.1

  all_take : (n : ℕ) (xs : List A) → AllByRecursion P xs → AllByRecursion P (take n xs)
  all_take zero xs all = tt
  all_take (suc n) [] all = tt
  all_take (suc n) (x ∷ xs) all = (all.0, all_take n xs all.1)

  pub all_cut : (size place : ℕ) (xs : List A) → AllByRecursion P xs → AllByRecursion P (cut size xs place)
  all_cut size place xs all = all_take size (drop (size * place) xs) (all_drop (size * place) xs all)

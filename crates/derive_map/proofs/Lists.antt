-- What holds of each item of a list, and of each item together with all later ones.
use Rattle.std.proofs.Common.{◌≡◌, ℕ, ◌+◌, ◌<◌, ◌≤◌, List, [], ◌∷◌, ◌++◌, Bool, true, false, cond, length, Some, filter, find, map, slice_get, refl, ◌∙◌, ap, subst, arith, append_assoc, length-append}
use Rattle.std.proofs.lemmas.List.Elements.{All-from_recursion}
use Rattle.std.proofs.lemmas.List.Kept.{AllPairs-cons}
use Rattle.std.specs.List.{AllByRecursion, AllPairs, enumerate_from}
use Rattle.std.specs.Option.{IfSome}

module _ {A : Type 0} (P : A → Type 0) where
  pub all_append : (xs ys : List A) → AllByRecursion P xs → AllByRecursion P ys → AllByRecursion P (xs ++ ys)
  all_append [] ys front behind = behind
  all_append (x ∷ xs) ys front behind = (front.0, all_append xs ys front.1 behind)

  pub all_filter : (p : A → Bool) (xs : List A) → AllByRecursion P xs → AllByRecursion P (filter p xs)
  all_filter p [] all = tt
  all_filter p (x ∷ xs) all = elim (p x) as (λ b. AllByRecursion P (cond b (x ∷ filter p xs) (filter p xs))) [ true ↦ (all.0, all_filter p xs all.1) | false ↦ all_filter p xs all.1 ]

  pub all_map : {B : Type 0} (f : B → A) (ys : List B) → AllByRecursion (λ y. P (f y)) ys → AllByRecursion P (map f ys)
  all_map f [] all = tt
  all_map f (y ∷ ys) all = (all.0, all_map f ys all.1)

  pub all_each : ((x : A) → P x) → (xs : List A) → AllByRecursion P xs
  all_each h [] = tt
  all_each h (x ∷ xs) = (h x, all_each h xs)

  pub found : (p : A → Bool) (xs : List A) → AllByRecursion P xs → IfSome (find p xs) P
  found p [] all = tt
  found p (x ∷ xs) all = elim (p x) as (λ b. IfSome (cond b (Some x) (find p xs)) P) [ true ↦ all.0 | false ↦ found p xs all.1 ]

  pub all_weaker : (Q : A → Type 0) → ((x : A) → P x → Q x) → (xs : List A) → AllByRecursion P xs → AllByRecursion Q xs
  all_weaker Q h [] all = tt
  all_weaker Q h (x ∷ xs) all = (h x all.0, all_weaker Q h xs all.1)

-- what follows of each item from two facts of it
pub all_join : {A : Type 0} (P Q R : A → Type 0) → ((x : A) → P x → Q x → R x) → (xs : List A) → AllByRecursion P xs → AllByRecursion Q xs → AllByRecursion R xs
all_join P Q R h [] all also = tt
all_join P Q R h (x ∷ xs) all also = (h x all.0 also.0, all_join P Q R h xs all.1 also.1)

pub all_pass : {A : Type 0} (p : A → Bool) (xs : List A) → AllByRecursion (λ x. p x ≡ true) (filter p xs)
all_pass p [] = tt
all_pass p (x ∷ xs) =
    elim (p x) as (λ b. p x ≡ b → AllByRecursion (λ y. p y ≡ true) (cond b (x ∷ filter p xs) (filter p xs))) [ true ↦ λ e. (e, all_pass p xs) | false ↦ λ e. all_pass p xs ] refl

module _ {A : Type 0} (R : A → A → Type 0) where
  -- each item stands so to all later ones
  abbrev pub InTurn : List A → Type 0
  InTurn [] = Unit {0}
  InTurn (x ∷ xs) = AllByRecursion (R x) xs × InTurn xs

  pub in_turn_append : (xs ys : List A) → InTurn xs → InTurn ys → AllByRecursion (λ x. AllByRecursion (R x) ys) xs → InTurn (xs ++ ys)
  in_turn_append [] ys front behind across = behind
  in_turn_append (x ∷ xs) ys front behind across = (all_append (R x) xs ys front.0 across.0, in_turn_append xs ys front.1 behind across.1)

  pub in_turn_filter : (p : A → Bool) (xs : List A) → InTurn xs → InTurn (filter p xs)
  in_turn_filter p [] turn = tt
  in_turn_filter p (x ∷ xs) turn =
      elim (p x) as (λ b. InTurn (cond b (x ∷ filter p xs) (filter p xs))) [ true ↦ (all_filter (R x) p xs turn.0, in_turn_filter p xs turn.1) | false ↦ in_turn_filter p xs turn.1 ]

  pub pairs_in_turn : (xs : List A) → InTurn xs → AllPairs R xs
  pairs_in_turn [] turn = λ i j d le lt. absurd (omega arith)
  pairs_in_turn (x ∷ xs) turn = AllPairs-cons R x xs (All-from_recursion (R x) xs turn.0) (pairs_in_turn xs turn.1)

pub in_turn_map : {A B : Type 0} (Q : A → A → Type 0) (R : B → B → Type 0) (f : A → B) → ((x y : A) → Q x y → R (f x) (f y)) → (xs : List A) → InTurn Q xs → InTurn R (map f xs)
in_turn_map Q R f h [] turn = tt
in_turn_map Q R f h (x ∷ xs) turn = (all_map (R (f x)) f xs (all_weaker (Q x) (λ y. R (f x) (f y)) (h x) xs turn.0), in_turn_map Q R f h xs turn.1)

numbers_from : {A : Type 0} (n : ℕ) (xs : List A) → AllByRecursion (λ r. n ≤ r.0) (enumerate_from n xs)
numbers_from n [] = tt
numbers_from n (x ∷ xs) = (omega arith, all_weaker (λ r. n + 1 ≤ r.0) (λ r. n ≤ r.0) (λ r le. omega arith) (enumerate_from (n + 1) xs) (numbers_from (n + 1) xs))

-- numbers rise
pub numbers_in_turn : {A : Type 0} (n : ℕ) (xs : List A) → InTurn (λ r s. r.0 < s.0) (enumerate_from n xs)
numbers_in_turn n [] = tt
numbers_in_turn n (x ∷ xs) = (all_weaker (λ s. n + 1 ≤ s.0) (λ s. n < s.0) (λ s le. omega arith) (enumerate_from (n + 1) xs) (numbers_from (n + 1) xs), numbers_in_turn (n + 1) xs)

slice_get-behind : {A : Type 0} (front : List A) (x : A) (xs : List A) → slice_get (front ++ x ∷ xs) (length front) ≡ Some x
slice_get-behind [] x xs = refl
slice_get-behind (y ∷ front) x xs = slice_get-behind front x xs

numbered_from : {A : Type 0} (all front xs : List A) (n : ℕ) → length front ≡ n → front ++ xs ≡ all → AllByRecursion (λ r. slice_get all r.0 ≡ Some r.1) (enumerate_from n xs)
numbered_from all front [] n at whole = tt
numbered_from all front (x ∷ xs) n at whole =
    let here : slice_get all n ≡ Some x = subst (λ k. slice_get all k ≡ Some x) at (subst (λ ys. slice_get ys (length front) ≡ Some x) whole (slice_get-behind front x xs)) in
    (here, numbered_from all (front ++ x ∷ []) xs (n + 1) (length-append front (x ∷ []) ∙ ap (λ k. k + 1) at) (append_assoc front (x ∷ []) xs ∙ whole))

-- numbered items stand at their numbers
pub numbered : {A : Type 0} (xs : List A) → AllByRecursion (λ r. slice_get xs r.0 ≡ Some r.1) (enumerate_from 0 xs)
numbered xs = numbered_from xs [] xs 0 refl refl

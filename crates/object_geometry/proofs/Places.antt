-- The first and the next of numbered items.
use Rattle.std.proofs.Common.{◌≡◌, ℕ, zero, suc, ◌+◌, ◌-◌, ◌<◌, ◌≤◌, List, [], ◌∷◌, length, drop, Bool, true, false, cond, ◌||◌, Option, Some, None, find, filter, slice_get, refl, sym, ◌∙◌, ap, subst, arith, min, inl, inr}
use Rattle.std.proofs.lemmas.Bool.{cases_lt}
use Rattle.std.proofs.lemmas.List.{drop-drop, drop_all, length-drop}
use Rattle.std.specs.Option.{option_map, IfSome}
use Rattle.std.specs.List.{enumerate_from}
use Rattle.object_geometry.specs.Matching.{lesser}

-- behind the first of numbered items stand the later ones, numbered on
pub drop-enumerate_from : {A : Type 0} (k n : ℕ) (xs : List A) → drop k (enumerate_from n xs) ≡ enumerate_from (n + k) (drop k xs)
drop-enumerate_from zero n xs = let e : n ≡ n + 0 = omega arith in ap (λ m. enumerate_from m xs) e
drop-enumerate_from (suc k) n [] = refl
drop-enumerate_from (suc k) n (x ∷ xs) =
    let e : n + 1 + k ≡ n + suc k = omega arith in
    drop-enumerate_from k (n + 1) xs ∙ ap (λ m. enumerate_from m (drop k xs)) e

slice_get-drop : {A : Type 0} (n i : ℕ) (xs : List A) → slice_get (drop n xs) i ≡ slice_get xs (n + i)
slice_get-drop zero i xs = let e : i ≡ 0 + i = omega arith in ap (slice_get xs) e
slice_get-drop (suc n) i [] = refl
slice_get-drop (suc n) i (x ∷ xs) =
    let e : suc (n + i) ≡ suc n + i = omega arith in
    slice_get-drop n i xs ∙ ap (slice_get (x ∷ xs)) e

lesser_than : (n : ℕ) (b : Option ℕ) → IfSome b (λ m. n ≤ m) → lesser (Some n) b ≡ Some n
lesser_than n None le = refl
lesser_than n (Some m) le = let e : min n m ≡ n = omega arith in ap Some e

lesser_below : (n : ℕ) (a : Option ℕ) → IfSome a (λ m. n ≤ m) → lesser a (Some n) ≡ Some n
lesser_below n None le = refl
lesser_below n (Some m) le = let e : min m n ≡ n = omega arith in ap Some e

pub lesser_assoc : (a b c : Option ℕ) → lesser (lesser a b) c ≡ lesser a (lesser b c)
lesser_assoc None b c = refl
lesser_assoc (Some a) None c = refl
lesser_assoc (Some a) (Some b) None = refl
lesser_assoc (Some a) (Some b) (Some c) = let e : min (min a b) c ≡ min a (min b c) = omega arith in ap Some e

if_some_weaker : (P Q : ℕ → Type 0) → ((m : ℕ) → P m → Q m) → (o : Option ℕ) → IfSome o P → IfSome o Q
if_some_weaker P Q h None p = tt
if_some_weaker P Q h (Some m) p = h m p

found_in : {A : Type 0} (p : ℕ × A → Bool) (n : ℕ) (xs : List A) → IfSome (option_map (λ r. r.0) (find p (enumerate_from n xs))) (λ i. n ≤ i)
found_in p n [] = tt
found_in p n (x ∷ xs) =
    elim (p (n, x)) as (λ b. IfSome (option_map (λ r. r.0) (cond b (Some (n, x)) (find p (enumerate_from (n + 1) xs)))) (λ i. n ≤ i)) [
      | true ↦ omega arith
      | false ↦ if_some_weaker (λ i. n + 1 ≤ i) (λ i. n ≤ i) (λ i le. omega arith) _ (found_in p (n + 1) xs)
    ]

module _ {A : Type 0} (p : ℕ × A → Bool) where
  -- what is found among numbered items has one of their numbers
  found_from : (n : ℕ) (xs : List A) → IfSome (option_map (λ r. r.0) (find p (enumerate_from n xs))) (λ i. n ≤ i)
  found_from n xs = found_in p n xs

  found_below : (n : ℕ) (xs : List A) → IfSome (option_map (λ r. r.0) (find p (enumerate_from n xs))) (λ i. i < n + length xs)
  found_below n [] = tt
  found_below n (x ∷ xs) =
      elim (p (n, x)) as (λ b. IfSome (option_map (λ r. r.0) (cond b (Some (n, x)) (find p (enumerate_from (n + 1) xs)))) (λ i. i < n + length (x ∷ xs))) [
        | true ↦ omega arith
        | false ↦ if_some_weaker (λ i. i < n + 1 + length xs) (λ i. i < n + length (x ∷ xs)) (λ i le. omega arith) _ (found_below (n + 1) xs)
      ]

  none_passes : (es : List (ℕ × A)) → option_map (λ r. r.0) (find p es) ≡ None → filter p es ≡ []
  none_passes [] none = refl
  none_passes (r ∷ es) none =
      elim (p r) as (λ b. option_map (λ r. r.0) (cond b (Some r) (find p es)) ≡ None → cond b (r ∷ filter p es) (filter p es) ≡ []) [
        | true ↦ λ bad. cc
        | false ↦ λ e. none_passes es e
      ] none

  -- behind the first that passes come those of the items behind it
  next_passes : (n i j : ℕ) (x : A) (xs : List A) → option_map (λ r. r.0) (find p (enumerate_from n xs)) ≡ Some i → n + j ≡ i → slice_get xs j ≡ Some x → filter p (enumerate_from n xs) ≡ (i, x) ∷ filter p (enumerate_from (i + 1) (drop (j + 1) xs))
  next_passes n i j x [] found place there = cc
  next_passes n i zero x (y ∷ ys) found place there =
      let here : n ≡ i = omega arith in
      let same : y ≡ x = cc in
      elim (p (n, y)) as (λ b. option_map (λ r. r.0) (cond b (Some (n, y)) (find p (enumerate_from (n + 1) ys))) ≡ Some i → cond b ((n, y) ∷ filter p (enumerate_from (n + 1) ys)) (filter p (enumerate_from (n + 1) ys)) ≡ (i, x) ∷ filter p (enumerate_from (i + 1) ys)) [
        | true ↦ λ e. ap (λ m. (m, y) ∷ filter p (enumerate_from (m + 1) ys)) here ∙ ap (λ z. (i, z) ∷ filter p (enumerate_from (i + 1) ys)) same
        | false ↦ λ e. let low : IfSome (Some i) (λ m. n + 1 ≤ m) = subst (λ o. IfSome o (λ m. n + 1 ≤ m)) e (found_from (n + 1) ys) in absurd (omega arith)
      ] found
  next_passes n i (suc j) x (y ∷ ys) found place there =
      let more : suc j + 1 ≡ suc (j + 1) = omega arith in
      elim (p (n, y)) as (λ b. option_map (λ r. r.0) (cond b (Some (n, y)) (find p (enumerate_from (n + 1) ys))) ≡ Some i → cond b ((n, y) ∷ filter p (enumerate_from (n + 1) ys)) (filter p (enumerate_from (n + 1) ys)) ≡ (i, x) ∷ filter p (enumerate_from (i + 1) (drop (suc j + 1) (y ∷ ys)))) [
        | true ↦ λ e. let same : n ≡ i = cc in absurd (omega arith)
        | false ↦ λ e. next_passes (n + 1) i j x ys e (omega arith) there ∙ ap (λ m. (i, x) ∷ filter p (enumerate_from (i + 1) (drop m (y ∷ ys)))) (sym more)
      ] found

  -- the same from a place on

  pub none_to_come : (from : ℕ) (xs : List A) → option_map (λ r. r.0) (find p (drop from (enumerate_from 0 xs))) ≡ None → filter p (drop from (enumerate_from 0 xs)) ≡ []
  none_to_come from xs none = none_passes (drop from (enumerate_from 0 xs)) none

  pub next_to_come : (from i : ℕ) (x : A) (xs : List A) → option_map (λ r. r.0) (find p (drop from (enumerate_from 0 xs))) ≡ Some i → slice_get xs i ≡ Some x → filter p (drop from (enumerate_from 0 xs)) ≡ (i, x) ∷ filter p (drop (i + 1) (enumerate_from 0 xs))
  next_to_come from i x xs found there =
      let front = drop-enumerate_from from 0 xs in
      let behind = drop-enumerate_from (i + 1) 0 xs in
      let found' : option_map (λ r. r.0) (find p (enumerate_from (0 + from) (drop from xs))) ≡ Some i = subst (λ es. option_map (λ r. r.0) (find p es) ≡ Some i) front found in
      let low : IfSome (Some i) (λ m. 0 + from ≤ m) = subst (λ o. IfSome o (λ m. 0 + from ≤ m)) found' (found_from (0 + from) (drop from xs)) in
      let j : ℕ = i - from in
      let place : 0 + from + j ≡ i = omega arith in
      let index : from + j ≡ i = omega arith in
      let there' : slice_get (drop from xs) j ≡ Some x = slice_get-drop from j xs ∙ ap (slice_get xs) index ∙ there in
      let after : from + (j + 1) ≡ i + 1 = omega arith in
      let start : i + 1 ≡ 0 + (i + 1) = omega arith in
      ap (filter p) front
      ∙ next_passes (0 + from) i j x (drop from xs) found' place there'
      ∙ ap (λ ys. (i, x) ∷ filter p (enumerate_from (i + 1) ys)) (drop-drop (j + 1) from xs ∙ ap (λ m. drop m xs) after)
      ∙ ap (λ es. (i, x) ∷ filter p es) (ap (λ m. enumerate_from m (drop (i + 1) xs)) start ∙ sym behind)

  pub within : (from : ℕ) (xs : List A) → IfSome (option_map (λ r. r.0) (find p (drop from (enumerate_from 0 xs)))) (λ i. i < length xs)
  within from xs =
      subst (λ es. IfSome (option_map (λ r. r.0) (find p es)) (λ i. i < length xs)) (sym (drop-enumerate_from from 0 xs))
      (elim (cases_lt from (length xs)) [
        | inl lt ↦
            let left = length-drop from xs in
            if_some_weaker (λ i. i < 0 + from + length (drop from xs)) (λ i. i < length xs) (λ i h. omega arith) _ (found_below (0 + from) (drop from xs))
        | inr le ↦ subst (λ ys. IfSome (option_map (λ r. r.0) (find p (enumerate_from (0 + from) ys))) (λ i. i < length xs)) (sym (drop_all from xs le)) tt
      ])

  -- two tests

  pub either : (q : ℕ × A → Bool) (n : ℕ) (xs : List A) → lesser (option_map (λ r. r.0) (find p (enumerate_from n xs))) (option_map (λ r. r.0) (find q (enumerate_from n xs))) ≡ option_map (λ r. r.0) (find (λ r. p r || q r) (enumerate_from n xs))
  either q n [] = refl
  either q n (x ∷ xs) =
      elim (p (n, x)) as (λ b. lesser (option_map (λ r. r.0) (cond b (Some (n, x)) (find p (enumerate_from (n + 1) xs)))) (option_map (λ r. r.0) (find q (enumerate_from n (x ∷ xs)))) ≡ option_map (λ r. r.0) (cond (b || q (n, x)) (Some (n, x)) (find (λ r. p r || q r) (enumerate_from (n + 1) xs)))) [
        | true ↦ lesser_than n _ (found_in q n (x ∷ xs))
        | false ↦ elim (q (n, x)) as (λ b. lesser (option_map (λ r. r.0) (find p (enumerate_from (n + 1) xs))) (option_map (λ r. r.0) (cond b (Some (n, x)) (find q (enumerate_from (n + 1) xs)))) ≡ option_map (λ r. r.0) (cond b (Some (n, x)) (find (λ r. p r || q r) (enumerate_from (n + 1) xs)))) [
          | true ↦ lesser_below n _ (if_some_weaker (λ m. n + 1 ≤ m) (λ m. n ≤ m) (λ m le. omega arith) _ (found_from (n + 1) xs))
          | false ↦ either q (n + 1) xs
        ]
      ]

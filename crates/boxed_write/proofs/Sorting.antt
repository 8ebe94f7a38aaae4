-- Lists in order: what a sort leaves is determined, where items that tie are one.
use Rattle.std.proofs.Common.{◌≡◌, ℕ, zero, suc, ◌+◌, ◌<◌, true, false, cond, List, [], ◌∷◌, length, map, refl, sym, ap, ◌∙◌, arith, get_or}
use Rattle.std.specs.List.{AllByRecursion, count_by, All}
use Rattle.std.specs.List.Sorted.{IsPermutation, IsSorted}
use Rattle.std.specs.Ordering.{is_lt, is_gt, is_le, is_eq, ordering_reverse}
use Rattle.std.specs.declared.cmp.Ordering.{Ordering}
use Rattle.std.specs.declared.cmp.Ordering.TheVariants.{Less, Equal, Greater}
use Rattle.std.specs.Cmp.{IsTotalOrder}
use Rattle.std.proofs.lemmas.Cmp.{upto, tied_itself}
use Rattle.std.proofs.lemmas.List.Sums.{sum_by-cons}
use Rattle.std.proofs.lemmas.List.Sorted.{sorted_far, ranks_by, sum_by-IsPermutation, All-permutation}
use Rattle.boxed_write.specs.Packed.{placed, sorted_by}

module _ {A : Type 0} where
  all_from_reads : (P : A → Type 0) (xs : List A) (d : A) → ((k : ℕ) → k < length xs → P (get_or xs k d)) → AllByRecursion P xs
  all_from_reads P [] d at = tt
  all_from_reads P (x ∷ xs) d at = (at 0 (omega arith), all_from_reads P xs d (λ k below. at (suc k) (omega arith)))

  reads_from_all : (P : A → Type 0) (xs : List A) → AllByRecursion P xs → All P xs
  reads_from_all P [] all = λ k d below. absurd (omega arith)
  reads_from_all P (x ∷ xs) all = one (reads_from_all P xs all.1)
    where
      one : All P xs → (k : ℕ) (d : A) → k < length (x ∷ xs) → P (get_or (x ∷ xs) k d)
      one rest zero d below = all.0
      one rest (suc k) d below = rest k d (omega arith)

  all_from : (P : A → Type 0) (xs : List A) → All P xs → AllByRecursion P xs
  all_from P [] at = tt
  all_from P (x ∷ xs) at = (at 0 x (omega arith), all_from P xs (λ k d below. at (suc k) d (omega arith)))

  -- what holds of each item still does in another order
  pub all_moved : (P : A → Type 0) (xs ys : List A) → IsPermutation xs ys → AllByRecursion P xs → AllByRecursion P ys
  all_moved P xs ys moved all = all_from P ys (All-permutation P xs ys moved (reads_from_all P xs all))

  pub all_more : (P Q : A → Type 0) (xs : List A) → ((x : A) → P x → Q x) → AllByRecursion P xs → AllByRecursion Q xs
  all_more P Q [] f all = tt
  all_more P Q (x ∷ xs) f all = (f x all.0, all_more P Q xs f all.1)

  pub all_both : (P Q : A → Type 0) (xs : List A) → AllByRecursion P xs → AllByRecursion Q xs → AllByRecursion (λ x. P x × Q x) xs
  all_both P Q [] a b = tt
  all_both P Q (x ∷ xs) a b = ((a.0, b.0), all_both P Q xs a.1 b.1)

less_is : (r : Ordering) → is_lt r ≡ true → r ≡ Less
less_is Less e = refl
less_is Equal e = absurd (cc)
less_is Greater e = absurd (cc)

not_less_back : (r : Ordering) → is_lt r ≡ false → is_gt (ordering_reverse r) ≡ false
not_less_back Less e = absurd (cc)
not_less_back Equal e = refl
not_less_back Greater e = refl

le_is : (r : Ordering) → is_le r ≡ true → is_gt r ≡ false
le_is Less e = refl
le_is Equal e = refl
le_is Greater e = absurd (cc)

not_le_back : (r : Ordering) → is_le r ≡ false → is_gt (ordering_reverse r) ≡ false
not_le_back Less e = absurd (cc)
not_le_back Equal e = absurd (cc)
not_le_back Greater e = refl

module _ {A : Type 0} (cmp : A → A → Ordering) where
  -- no item comes behind one that stands after it
  abbrev pub AreUp : List A → Type 0
  AreUp [] = Unit {0}
  AreUp (x ∷ xs) = AllByRecursion (λ y. is_gt (cmp x y) ≡ false) xs × AreUp xs

  -- how many items tie with one
  abbrev tied : A → List A → ℕ
  tied z xs = count_by (λ y. is_eq (cmp z y)) xs

  tied_cons : (z x : A) (xs : List A) → tied z (x ∷ xs) ≡ cond (is_eq (cmp z x)) 1 0 + tied z xs
  tied_cons z x xs = sum_by-cons (λ y. cond (is_eq (cmp z y)) 1 0) x xs

  module _ (o : IsTotalOrder cmp) where
    pub up_from_sorted : (xs : List A) → IsSorted cmp xs → AreUp xs
    up_from_sorted [] sorted = tt
    up_from_sorted (x ∷ xs) sorted = (
      all_from_reads (λ y. is_gt (cmp x y) ≡ false) xs x
          (λ k below.
          let far : is_lt (cmp (get_or xs k x) x) ≡ false = sorted_far (λ a b. is_lt (cmp a b)) (ranks_by o (λ a. a)) (x ∷ xs) sorted 0 (suc k) x (omega arith) (omega arith) in
          rw (o.antisymm x (get_or xs k x)) (not_less_back (cmp (get_or xs k x) x) far)),
      up_from_sorted xs (λ k d low high.
          let e : suc k + 1 ≡ suc (k + 1) = omega arith in
          rw e at (sorted (suc k) d (omega arith) (omega arith))),
    )

    none_tied : (z : A) (xs : List A) → AllByRecursion (λ w. cmp z w ≡ Less) xs → tied z xs ≡ 0
    none_tied z [] all = refl
    none_tied z (x ∷ xs) all =
        let here : cond {A = ℕ} (is_eq (cmp z x)) 1 0 ≡ 0 = ap (λ (r : Ordering). cond {A = ℕ} (is_eq r) 1 0) all.0 in
        let rest = none_tied z xs all.1 in
        let e = tied_cons z x xs in
        omega arith

    -- what is not before something over z is over z
    past : (a b c : A) → cmp a b ≡ Less → is_gt (cmp b c) ≡ false → cmp a c ≡ Less
    past a b c less up = one (cmp b c) refl
      where
        one : (r : Ordering) → cmp b c ≡ r → cmp a c ≡ Less
        one Less e = o.trans a b c less e
        one Equal e = o.antisymm a c ∙ ap ordering_reverse (sym (o.congr b c a e)) ∙ sym (o.antisymm a b) ∙ less
        one Greater e = let f : is_gt (cmp b c) ≡ true = ap is_gt e in absurd (cc)

    all_past : (a b : A) (xs : List A) → cmp a b ≡ Less → AllByRecursion (λ w. is_gt (cmp b w) ≡ false) xs → AllByRecursion (λ w. cmp a w ≡ Less) xs
    all_past a b xs less all = all_more (λ w. is_gt (cmp b w) ≡ false) (λ w. cmp a w ≡ Less) xs (λ w up. past a b w less up) all

    -- two lists in order that hold the same items
    pub one_order : (P : A → Type 0) → ((x y : A) → P x → P y → cmp x y ≡ Equal → x ≡ y) → (xs ys : List A) → AllByRecursion P xs → AllByRecursion P ys → AreUp xs → AreUp ys → ((z : A) → tied z xs ≡ tied z ys) → xs ≡ ys
    one_order P same [] [] ax ay ux uy alike = refl
    one_order P same [] (y ∷ ys) ax ay ux uy alike =
        let self : cond {A = ℕ} (is_eq (cmp y y)) 1 0 ≡ 1 = ap (λ (r : Ordering). cond {A = ℕ} (is_eq r) 1 0) (tied_itself o y) in
        let e = tied_cons y y ys in
        let f : 0 ≡ tied y (y ∷ ys) = alike y in
        absurd (omega arith)
    one_order P same (x ∷ xs) [] ax ay ux uy alike =
        let self : cond {A = ℕ} (is_eq (cmp x x)) 1 0 ≡ 1 = ap (λ (r : Ordering). cond {A = ℕ} (is_eq r) 1 0) (tied_itself o x) in
        let e = tied_cons x x xs in
        let f : tied x (x ∷ xs) ≡ 0 = alike x in
        absurd (omega arith)
    one_order P same (x ∷ xs) (y ∷ ys) ax ay ux uy alike = one (one_order P same xs ys ax.1 ay.1 ux.1 uy.1) (cmp x y) refl
      where
        one : (((z : A) → tied z xs ≡ tied z ys) → xs ≡ ys) → (r : Ordering) → cmp x y ≡ r → x ∷ xs ≡ y ∷ ys
        one rest Less e =
            let self : cond {A = ℕ} (is_eq (cmp x x)) 1 0 ≡ 1 = ap (λ (r : Ordering). cond {A = ℕ} (is_eq r) 1 0) (tied_itself o x) in
            let c = tied_cons x x xs in
            let none : tied x (y ∷ ys) ≡ 0 = none_tied x (y ∷ ys) (e, all_past x y ys e uy.0) in
            let f = alike x in
            absurd (omega arith)
        one rest Greater e =
            let back : cmp y x ≡ Less = o.antisymm y x ∙ ap ordering_reverse e in
            let self : cond {A = ℕ} (is_eq (cmp y y)) 1 0 ≡ 1 = ap (λ (r : Ordering). cond {A = ℕ} (is_eq r) 1 0) (tied_itself o y) in
            let c = tied_cons y y ys in
            let none : tied y (x ∷ xs) ≡ 0 = none_tied y (x ∷ xs) (back, all_past y x xs back ux.0) in
            let f = alike y in
            absurd (omega arith)
        one rest Equal e =
            let is : x ≡ y = same x y ax.0 ay.0 e in
            let tails : xs ≡ ys = rest (λ z.
            let a = tied_cons z x xs in
            let b = tied_cons z y ys in
            let k : cond {A = ℕ} (is_eq (cmp z x)) 1 0 ≡ cond {A = ℕ} (is_eq (cmp z y)) 1 0 = ap (λ (w : A). cond {A = ℕ} (is_eq (cmp z w)) 1 0) is in
            let f = alike z in
            omega arith) in
            ap (λ (w : A). w ∷ xs) is ∙ ap (λ (ws : List A). y ∷ ws) tails

    tied_placed : (z x : A) (xs : List A) → tied z (placed cmp x xs) ≡ tied z (x ∷ xs)
    tied_placed z x [] = refl
    tied_placed z x (y ∷ ys) =
        elim (is_le (cmp x y)) as (λ b. tied z (cond b (x ∷ y ∷ ys) (y ∷ placed cmp x ys)) ≡ tied z (x ∷ y ∷ ys)) [
          | true ↦ refl
          | false ↦
              let ih = tied_placed z x ys in
              let a = tied_cons z y (placed cmp x ys) in
              let b = tied_cons z x ys in
              let c = tied_cons z x (y ∷ ys) in
              let d = tied_cons z y ys in
              omega arith
        ]

    tied_sorted : (z : A) (xs : List A) → tied z (sorted_by cmp xs) ≡ tied z xs
    tied_sorted z [] = refl
    tied_sorted z (x ∷ xs) =
        let ih = tied_sorted z xs in
        let a = tied_cons z x (sorted_by cmp xs) in
        let b = tied_cons z x xs in
        let c = tied_placed z x (sorted_by cmp xs) in
        omega arith

    all_placed : (P : A → Type 0) (x : A) (xs : List A) → P x → AllByRecursion P xs → AllByRecursion P (placed cmp x xs)
    all_placed P x [] one all = (one, tt)
    all_placed P x (y ∷ ys) one all =
        elim (is_le (cmp x y)) as (λ b. AllByRecursion P (cond b (x ∷ y ∷ ys) (y ∷ placed cmp x ys))) [
          | true ↦ (one, all)
          | false ↦ (all.0, all_placed P x ys one all.1)
        ]

    pub all_sorted : (P : A → Type 0) (xs : List A) → AllByRecursion P xs → AllByRecursion P (sorted_by cmp xs)
    all_sorted P [] all = tt
    all_sorted P (x ∷ xs) all = all_placed P x (sorted_by cmp xs) all.0 (all_sorted P xs all.1)

    up_placed : (x : A) (xs : List A) → AreUp xs → AreUp (placed cmp x xs)
    up_placed x [] up = (tt, tt)
    up_placed x (y ∷ ys) up =
        elim (is_le (cmp x y)) as (λ b. is_le (cmp x y) ≡ b → AreUp (cond b (x ∷ y ∷ ys) (y ∷ placed cmp x ys))) [
          | true ↦ λ t.
              let first : is_gt (cmp x y) ≡ false = le_is (cmp x y) t in
              ((first, all_more (λ w. is_gt (cmp y w) ≡ false) (λ w. is_gt (cmp x w) ≡ false) ys (λ w le. upto o x y w first le) up.0), up)
          | false ↦ λ f.
              let back : is_gt (cmp y x) ≡ false = rw (o.antisymm y x) (not_le_back (cmp x y) f) in
              (all_placed (λ w. is_gt (cmp y w) ≡ false) x ys back up.0, up_placed x ys up.1)
        ] refl

    up_sorted : (xs : List A) → AreUp (sorted_by cmp xs)
    up_sorted [] = tt
    up_sorted (x ∷ xs) = up_placed x (sorted_by cmp xs) (up_sorted xs)

    -- What holds the same items in order is the sorted list.
    pub sorted_is : (P : A → Type 0) → ((x y : A) → P x → P y → cmp x y ≡ Equal → x ≡ y) → (xs ys : List A) → AllByRecursion P xs → IsPermutation xs ys → AreUp ys → ys ≡ sorted_by cmp xs
    sorted_is P same xs ys all moved up =
        one_order P same ys (sorted_by cmp xs) (all_moved P xs ys moved all) (all_sorted P xs all) up (up_sorted xs)
        (λ z. sum_by-IsPermutation (λ y. cond (is_eq (cmp z y)) 1 0) xs ys moved ∙ sym (tied_sorted z xs))

-- an order along a list is one along its image, where it is kept
module _ {A B : Type 0} (R : A → A → Ordering) (S : B → B → Ordering) (f : A → B) (Q : A → Type 0) (keeps : (a b : A) → Q a → Q b → is_gt (R a b) ≡ false → is_gt (S (f a) (f b)) ≡ false) where
  all_image : (a : A) (xs : List A) → Q a → AllByRecursion Q xs → AllByRecursion (λ b. is_gt (R a b) ≡ false) xs → AllByRecursion (λ b. is_gt (S (f a) b) ≡ false) (map f xs)
  all_image a [] q all up = tt
  all_image a (x ∷ xs) q all up = (keeps a x q all.0 up.0, all_image a xs q all.1 up.1)

  pub up_image : (xs : List A) → AllByRecursion Q xs → AreUp R xs → AreUp S (map f xs)
  up_image [] all up = tt
  up_image (x ∷ xs) all up = (all_image x xs all.0 all.1 up.0, up_image xs all.1 up.1)

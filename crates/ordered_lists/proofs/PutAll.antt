-- Lists that are put in order item by item: they rise, they are no longer than what was put, and of the
-- items with one key they hold the last. So a stable sort of the items as they stand from the last to the
-- first, of which the first of each key is kept, is the same list.
use Rattle.std.proofs.Common.{◌≡◌, ℕ, ◌+◌, ◌≤◌, List, [], ◌∷◌, ◌++◌, length, Bool, true, false, not, cond, ◌&&◌, refl, sym, ap, ◌∙◌, arith, reverse, length-append, append_assoc, ◌<◌, suc, get_or}
use Rattle.std.specs.Prelude.{filter}
use Rattle.std.specs.List.{AllByRecursion, dedup, dedup_from}
use Rattle.std.specs.List.Sorted.{ties, IsSortedBy}
use Rattle.std.specs.Ordering.{is_lt, is_gt, is_eq, ordering_reverse}
use Rattle.std.specs.declared.cmp.Ordering.{Ordering}
use Rattle.std.specs.declared.cmp.Ordering.TheVariants.{Less, Equal, Greater}
use Rattle.std.specs.Cmp.{IsTotalOrder}
use Rattle.std.proofs.lemmas.List.Sorted.{sorted_far, ranks_by}
use Rattle.std.proofs.lemmas.List.Elements.{filter-append}
use Rattle.std.proofs.lemmas.List.{reverse-append, append-nil}
use Rattle.ordered_lists.specs.Ordered.{IsRisingBy, below, above, put_by, without_by, put_all}

module _ {A : Type 0} where
  -- what holds of each item holds of each that is kept
  pub all_filter : (P : A → Type 0) (q : A → Bool) (xs : List A) → AllByRecursion P xs → AllByRecursion P (filter q xs)
  all_filter P q [] all = tt
  all_filter P q (x ∷ xs) all =
      elim (q x) as (λ b. AllByRecursion P (cond b (x ∷ filter q xs) (filter q xs))) [
        | true ↦ (all.0, all_filter P q xs all.1)
        | false ↦ all_filter P q xs all.1
      ]

  pub all_append : (P : A → Type 0) (xs ys : List A) → AllByRecursion P xs → AllByRecursion P ys → AllByRecursion P (xs ++ ys)
  all_append P [] ys a b = b
  all_append P (x ∷ xs) ys a b = (a.0, all_append P xs ys a.1 b)

  pub all_map : (P Q : A → Type 0) (xs : List A) → ((x : A) → P x → Q x) → AllByRecursion P xs → AllByRecursion Q xs
  all_map P Q [] f all = tt
  all_map P Q (x ∷ xs) f all = (f x all.0, all_map P Q xs f all.1)

  -- nothing is kept where no item passes
  pub filter_no : (q : A → Bool) (xs : List A) → AllByRecursion (λ x. q x ≡ false) xs → filter q xs ≡ []
  filter_no q [] all = refl
  filter_no q (x ∷ xs) all = rw all.0 (filter_no q xs all.1)

  pub filter_all : (q : A → Bool) (xs : List A) → AllByRecursion (λ x. q x ≡ true) xs → filter q xs ≡ xs
  filter_all q [] all = refl
  filter_all q (x ∷ xs) all = rw all.0 (ap (λ ys. x ∷ ys) (filter_all q xs all.1))

  filter_length : (q : A → Bool) (xs : List A) → length (filter q xs) ≤ length xs
  filter_length q [] = omega arith
  filter_length q (x ∷ xs) =
      let rest = filter_length q xs in
      elim (q x) as (λ b. length (cond b (x ∷ filter q xs) (filter q xs)) ≤ length (x ∷ xs)) [
        | true ↦ omega arith
        | false ↦ omega arith
      ]

  -- a test that the first test implies is not touched by it
  pub filter_weak : (p q : A → Bool) (xs : List A) → ((x : A) → p x ≡ true → q x ≡ true) → filter p (filter q xs) ≡ filter p xs
  filter_weak p q [] imply = refl
  filter_weak p q (x ∷ xs) imply = one (p x) (q x) refl refl (filter_weak p q xs imply)
    where
      one : (s t : Bool) → p x ≡ s → q x ≡ t → filter p (filter q xs) ≡ filter p xs → filter p (cond t (x ∷ filter q xs) (filter q xs)) ≡ cond s (x ∷ filter p xs) (filter p xs)
      one true true e f again = rw e (ap (λ ys. x ∷ ys) again)
      one false true e f again = rw e again
      one false false e f again = again
      one true false e f again = let g = imply x e in absurd (cc)

  -- two tests that exclude each other keep nothing
  pub filter_apart : (p q : A → Bool) (xs : List A) → ((x : A) → q x ≡ true → p x ≡ false) → filter p (filter q xs) ≡ []
  filter_apart p q [] apart = refl
  filter_apart p q (x ∷ xs) apart = one (q x) refl (filter_apart p q xs apart)
    where
      one : (t : Bool) → q x ≡ t → filter p (filter q xs) ≡ [] → filter p (cond t (x ∷ filter q xs) (filter q xs)) ≡ []
      one true f again = rw (apart x f) again
      one false f again = again

  -- the first item alone, and the last item alone or what was there
  abbrev pub first_alone : List A → List A
  first_alone [] = []
  first_alone (x ∷ xs) = x ∷ []

  abbrev pub last_alone : List A → List A → List A
  last_alone old [] = old
  last_alone old (x ∷ xs) = last_alone (x ∷ []) xs

  first_reversed : (q : A → Bool) (xs old : List A) → first_alone (filter q (reverse xs) ++ old) ≡ last_alone (first_alone old) (filter q xs)
  first_reversed q [] old = refl
  first_reversed q (x ∷ xs) old =
      ap (λ ys. first_alone (filter q ys ++ old)) (reverse-append (x ∷ []) xs)
      ∙ ap (λ ys. first_alone (ys ++ old)) (filter-append q (reverse xs) (x ∷ []))
      ∙ ap first_alone (append_assoc (filter q (reverse xs)) (filter q (x ∷ [])) old)
      ∙ first_reversed q xs (filter q (x ∷ []) ++ old)
      ∙ elim (q x) as (λ b. last_alone (first_alone (cond b (x ∷ []) [] ++ old)) (filter q xs) ≡ last_alone (first_alone old) (cond b (x ∷ filter q xs) (filter q xs))) [
        | true ↦ refl
        | false ↦ refl
      ]

  pub filter_alike : (p q : A → Bool) (xs : List A) → ((x : A) → p x ≡ q x) → filter p xs ≡ filter q xs
  filter_alike p q [] alike = refl
  filter_alike p q (x ∷ xs) alike = rw (alike x, filter_alike p q xs alike) refl

  all_from_reads : (P : A → Type 0) (xs : List A) (d : A) → ((k : ℕ) → k < length xs → P (get_or xs k d)) → AllByRecursion P xs
  all_from_reads P [] d at = tt
  all_from_reads P (x ∷ xs) d at = (at 0 (omega arith), all_from_reads P xs d (λ k below. at (suc k) (omega arith)))

self_reverse : (r : Ordering) → r ≡ ordering_reverse r → is_eq r ≡ true
self_reverse Less e = absurd (cc)
self_reverse Equal e = refl
self_reverse Greater e = absurd (cc)

pub lt_less : (r : Ordering) → is_lt r ≡ true → r ≡ Less
lt_less Less e = refl
lt_less Equal e = absurd (cc)
lt_less Greater e = absurd (cc)

gt_reversed : (r : Ordering) → is_gt r ≡ true → ordering_reverse r ≡ Less
gt_reversed Less e = absurd (cc)
gt_reversed Equal e = absurd (cc)
gt_reversed Greater e = refl

eq_equal : (r : Ordering) → is_eq r ≡ true → r ≡ Equal
eq_equal Less e = absurd (cc)
eq_equal Equal e = refl
eq_equal Greater e = absurd (cc)

eq_reverse : (r : Ordering) → is_eq (ordering_reverse r) ≡ is_eq r
eq_reverse Less = refl
eq_reverse Equal = refl
eq_reverse Greater = refl

neither_eq : (r : Ordering) → (not (is_lt r) && not (is_lt (ordering_reverse r))) ≡ is_eq r
neither_eq Less = refl
neither_eq Equal = refl
neither_eq Greater = refl

module _ {A K : Type 0} (cmp : K → K → Ordering) (key : A → K) (o : IsTotalOrder cmp) where
  -- items with one key
  abbrev pub same : A → A → Bool
  same x y = is_eq (cmp (key x) (key y))

  same_self : (x : A) → same x x ≡ true
  same_self x = self_reverse (cmp (key x) (key x)) (o.antisymm (key x) (key x))

  -- what has the key of x compares as x does
  same_compares : (x y : A) (k : K) → same x y ≡ true → cmp (key y) k ≡ cmp (key x) k
  same_compares x y k e = sym (o.congr (key x) (key y) k (eq_equal (cmp (key x) (key y)) e))

  same_right : (z x y : A) → cmp (key x) (key y) ≡ Equal → same z x ≡ same z y
  same_right z x y e =
      ap is_eq (o.antisymm (key z) (key x)) ∙ eq_reverse (cmp (key x) (key z)) ∙ ap is_eq (o.congr (key x) (key y) (key z) e)
      ∙ sym (eq_reverse (cmp (key y) (key z))) ∙ sym (ap is_eq (o.antisymm (key z) (key y)))

  -- what is over a key that is over that of z has another key than z
  none_same : (z x : A) (xs : List A) → cmp (key z) (key x) ≡ Less → AllByRecursion (λ y. cmp (key x) (key y) ≡ Less) xs → filter (same z) xs ≡ []
  none_same z x [] less all = refl
  none_same z x (y ∷ ys) less all = rw (o.trans (key z) (key x) (key y) less all.0) (none_same z x ys less all.1)

  pub none_same_over : (z x : A) (xs : List A) → same z x ≡ true → AllByRecursion (λ y. cmp (key x) (key y) ≡ Less) xs → filter (same z) xs ≡ []
  none_same_over z x [] e all = refl
  none_same_over z x (y ∷ ys) e all = rw (sym (same_compares z x (key y) e) ∙ all.0) (none_same_over z x ys e all.1)

  -- A rising list is told by its items key by key.
  pub rising_unique : (xs ys : List A) → IsRisingBy cmp key xs → IsRisingBy cmp key ys → ((z : A) → filter (same z) xs ≡ filter (same z) ys) → xs ≡ ys
  rising_unique [] [] rx ry alike = refl
  rising_unique [] (y ∷ ys) rx ry alike = let e : [] ≡ y ∷ filter (same y) ys = rw (same_self y) at (alike y) in absurd (cc)
  rising_unique (x ∷ xs) [] rx ry alike = let e : x ∷ filter (same x) xs ≡ [] = rw (same_self x) at (alike x) in absurd (cc)
  rising_unique (x ∷ xs) (y ∷ ys) rx ry alike = one (cmp (key x) (key y)) refl (rising_unique xs ys rx.1 ry.1)
    where
      one : (r : Ordering) → cmp (key x) (key y) ≡ r → (((z : A) → filter (same z) xs ≡ filter (same z) ys) → xs ≡ ys) → x ∷ xs ≡ y ∷ ys
      one Less e again =
          let none : filter (same x) ys ≡ [] = none_same x y ys e ry.0 in
          let bad : x ∷ filter (same x) xs ≡ filter (same x) ys = rw (same_self x, e) at (alike x) in
          absurd (cc)
      one Greater e again =
          let less : cmp (key y) (key x) ≡ Less = o.antisymm (key y) (key x) ∙ ap ordering_reverse e in
          let none : filter (same y) xs ≡ [] = none_same y x xs less rx.0 in
          let bad : filter (same y) xs ≡ y ∷ filter (same y) ys = rw (same_self y, less) at (alike y) in
          absurd (cc)
      one Equal e again =
          let heads : x ∷ filter (same x) xs ≡ y ∷ filter (same x) ys = rw (same_self x, e) at (alike x) in
          let first : x ≡ y = cc in
          let tails : (z : A) → filter (same z) xs ≡ filter (same z) ys = (λ z. tail z (same z x) refl) in
          let rest : xs ≡ ys = again tails in
          cc
        where
          tail : (z : A) (b : Bool) → same z x ≡ b → filter (same z) xs ≡ filter (same z) ys
          tail z true s =
              let t : same z y ≡ true = ap is_eq (o.congr (key z) (key x) (key y) (eq_equal (cmp (key z) (key x)) s) ∙ e) in
              none_same_over z x xs s rx.0 ∙ sym (none_same_over z y ys t ry.0)
          tail z false s =
              let t : same z y ≡ false = sym (same_right z x y e) ∙ s in
              rw (s, t) at (alike z)

  -- What is put.

  below_other : (x y z : A) → same x y ≡ true → is_lt (cmp (key z) (key y)) ≡ true → same x z ≡ false
  below_other x y z e lt =
      let less : cmp (key z) (key y) ≡ Less = lt_less (cmp (key z) (key y)) lt in
      let over : cmp (key x) (key z) ≡ Greater = same_over x y z e less in
      rw over refl
    where
      same_over : (x y z : A) → same x y ≡ true → cmp (key z) (key y) ≡ Less → cmp (key x) (key z) ≡ Greater
      same_over x y z e less =
          sym (same_compares x y (key z) e) ∙ o.antisymm (key y) (key z) ∙ ap ordering_reverse less

  above_other : (x y z : A) → same x y ≡ true → is_gt (cmp (key z) (key y)) ≡ true → same x z ≡ false
  above_other x y z e gt =
      let less : cmp (key x) (key z) ≡ Less = sym (same_compares x y (key z) e) ∙ o.antisymm (key y) (key z) ∙ gt_reversed (cmp (key z) (key y)) gt in
      rw less refl

  -- the items of one key in what was put: the new item, or those that there were
  put_same : (x y : A) (xs : List A) → filter (same x) (put_by cmp key y xs) ≡ cond (same x y) (y ∷ []) (filter (same x) xs)
  put_same x y xs =
      filter-append (same x) (below cmp key (key y) xs) (y ∷ above cmp key (key y) xs)
      ∙ one (cmp (key x) (key y)) refl
    where
      weak_below : cmp (key x) (key y) ≡ Less → (z : A) → same x z ≡ true → is_lt (cmp (key z) (key y)) ≡ true
      weak_below e z s = ap is_lt (same_compares x z (key y) s ∙ e)

      weak_above : cmp (key x) (key y) ≡ Greater → (z : A) → same x z ≡ true → is_gt (cmp (key z) (key y)) ≡ true
      weak_above e z s = ap is_gt (same_compares x z (key y) s ∙ e)

      apart_below : cmp (key x) (key y) ≡ Greater → (z : A) → is_lt (cmp (key z) (key y)) ≡ true → same x z ≡ false
      apart_below e z lt = two (same x z) refl
        where
          two : (b : Bool) → same x z ≡ b → b ≡ false
          two false s = refl
          two true s = let t : is_lt (cmp (key z) (key y)) ≡ false = ap is_lt (same_compares x z (key y) s ∙ e) in absurd (cc)

      apart_above : cmp (key x) (key y) ≡ Less → (z : A) → is_gt (cmp (key z) (key y)) ≡ true → same x z ≡ false
      apart_above e z gt = two (same x z) refl
        where
          two : (b : Bool) → same x z ≡ b → b ≡ false
          two false s = refl
          two true s = let t : is_gt (cmp (key z) (key y)) ≡ false = ap is_gt (same_compares x z (key y) s ∙ e) in absurd (cc)

      one : (r : Ordering) → cmp (key x) (key y) ≡ r
          → filter (same x) (below cmp key (key y) xs) ++ cond (is_eq r) (y ∷ filter (same x) (above cmp key (key y) xs)) (filter (same x) (above cmp key (key y) xs))
          ≡ cond (is_eq r) (y ∷ []) (filter (same x) xs)
      one Equal e =
          let lower : filter (same x) (below cmp key (key y) xs) ≡ [] = filter_apart (same x) (λ z. is_lt (cmp (key z) (key y))) xs (λ z lt. below_other x y z (ap is_eq e) lt) in
          let upper : filter (same x) (above cmp key (key y) xs) ≡ [] = filter_apart (same x) (λ z. is_gt (cmp (key z) (key y))) xs (λ z gt. above_other x y z (ap is_eq e) gt) in
          rw (lower, upper) refl
      one Less e =
          let lower : filter (same x) (below cmp key (key y) xs) ≡ filter (same x) xs = filter_weak (same x) (λ z. is_lt (cmp (key z) (key y))) xs (weak_below e) in
          let upper : filter (same x) (above cmp key (key y) xs) ≡ [] = filter_apart (same x) (λ z. is_gt (cmp (key z) (key y))) xs (apart_above e) in
          rw (lower, upper) (append-nil (filter (same x) xs))
      one Greater e =
          let lower : filter (same x) (below cmp key (key y) xs) ≡ [] = filter_apart (same x) (λ z. is_lt (cmp (key z) (key y))) xs (apart_below e) in
          let upper : filter (same x) (above cmp key (key y) xs) ≡ filter (same x) xs = filter_weak (same x) (λ z. is_gt (cmp (key z) (key y))) xs (weak_above e) in
          rw (lower, upper) refl

  pub put_all_same : (z : A) (xs ps : List A) → filter (same z) (put_all cmp key xs ps) ≡ last_alone (filter (same z) xs) (filter (same z) ps)
  put_all_same z xs [] = refl
  put_all_same z xs (y ∷ ys) =
      put_all_same z (put_by cmp key y xs) ys
      ∙ ap (λ old. last_alone old (filter (same z) ys)) (put_same z y xs)
      ∙ elim (same z y) as (λ b. last_alone (cond b (y ∷ []) (filter (same z) xs)) (filter (same z) ys) ≡ last_alone (filter (same z) xs) (cond b (y ∷ filter (same z) ys) (filter (same z) ys))) [
        | true ↦ refl
        | false ↦ refl
      ]

  -- What is put rises.

  pub rising_filter : (q : A → Bool) (xs : List A) → IsRisingBy cmp key xs → IsRisingBy cmp key (filter q xs)
  rising_filter q [] rising = tt
  rising_filter q (x ∷ xs) rising =
      elim (q x) as (λ b. IsRisingBy cmp key (cond b (x ∷ filter q xs) (filter q xs))) [
        | true ↦ (all_filter (λ y. cmp (key x) (key y) ≡ Less) q xs rising.0, rising_filter q xs rising.1)
        | false ↦ rising_filter q xs rising.1
      ]

  -- a rising list, all of it below what comes behind it, which rises too
  rising_joined : (xs ys : List A) → IsRisingBy cmp key xs → IsRisingBy cmp key ys → AllByRecursion (λ x. AllByRecursion (λ y. cmp (key x) (key y) ≡ Less) ys) xs → IsRisingBy cmp key (xs ++ ys)
  rising_joined [] ys rx ry past = ry
  rising_joined (x ∷ xs) ys rx ry past =
      (all_append (λ y. cmp (key x) (key y) ≡ Less) xs ys rx.0 past.0, rising_joined xs ys rx.1 ry past.1)

  below_kept : (k : K) (xs : List A) → AllByRecursion (λ x. cmp (key x) k ≡ Less) (below cmp key k xs)
  below_kept k [] = tt
  below_kept k (x ∷ xs) =
      elim (is_lt (cmp (key x) k)) as (λ b. is_lt (cmp (key x) k) ≡ b → AllByRecursion (λ x. cmp (key x) k ≡ Less) (cond b (x ∷ below cmp key k xs) (below cmp key k xs))) [
        | true ↦ λ e. (lt_less (cmp (key x) k) e, below_kept k xs)
        | false ↦ λ e. below_kept k xs
      ] refl

  above_kept : (k : K) (xs : List A) → AllByRecursion (λ y. cmp k (key y) ≡ Less) (above cmp key k xs)
  above_kept k [] = tt
  above_kept k (x ∷ xs) =
      elim (is_gt (cmp (key x) k)) as (λ b. is_gt (cmp (key x) k) ≡ b → AllByRecursion (λ y. cmp k (key y) ≡ Less) (cond b (x ∷ above cmp key k xs) (above cmp key k xs))) [
        | true ↦ λ e. (o.antisymm k (key x) ∙ gt_reversed (cmp (key x) k) e, above_kept k xs)
        | false ↦ λ e. above_kept k xs
      ] refl

  pub rising-put_by : (y : A) (xs : List A) → IsRisingBy cmp key xs → IsRisingBy cmp key (put_by cmp key y xs)
  rising-put_by y xs rising =
      let more = above_kept (key y) xs in
      rising_joined (below cmp key (key y) xs) (y ∷ above cmp key (key y) xs) (rising_filter _ xs rising) (more, rising_filter _ xs rising)
      (all_map (λ x. cmp (key x) (key y) ≡ Less) (λ x. AllByRecursion (λ z. cmp (key x) (key z) ≡ Less) (y ∷ above cmp key (key y) xs)) (below cmp key (key y) xs)
      (λ x less. (less, all_map (λ z. cmp (key y) (key z) ≡ Less) (λ z. cmp (key x) (key z) ≡ Less) (above cmp key (key y) xs) (λ z over. o.trans (key x) (key y) (key z) less over) more))
      (below_kept (key y) xs))

  pub rising-without_by : (k : K) (xs : List A) → IsRisingBy cmp key xs → IsRisingBy cmp key (without_by cmp key k xs)
  rising-without_by k xs rising =
      let more = above_kept k xs in
      rising_joined (below cmp key k xs) (above cmp key k xs) (rising_filter _ xs rising) (rising_filter _ xs rising)
      (all_map (λ x. cmp (key x) k ≡ Less) (λ x. AllByRecursion (λ z. cmp (key x) (key z) ≡ Less) (above cmp key k xs)) (below cmp key k xs)
      (λ x less. all_map (λ z. cmp k (key z) ≡ Less) (λ z. cmp (key x) (key z) ≡ Less) (above cmp key k xs) (λ z over. o.trans (key x) k (key z) less over) more)
      (below_kept k xs))

  -- A list that is put in order rises.
  pub rising-put_all : (xs ps : List A) → IsRisingBy cmp key xs → IsRisingBy cmp key (put_all cmp key xs ps)
  rising-put_all xs [] rising = rising
  rising-put_all xs (y ∷ ys) rising = rising-put_all (put_by cmp key y xs) ys (rising-put_by y xs rising)

  -- What is put makes a list longer by one at most.

  parts_length : (k : K) (xs : List A) → length (below cmp key k xs) + length (above cmp key k xs) ≤ length xs
  parts_length k [] = omega arith
  parts_length k (x ∷ xs) =
      let rest = parts_length k xs in
      elim (cmp (key x) k) as (λ r. length (cond (is_lt r) (x ∷ below cmp key k xs) (below cmp key k xs)) + length (cond (is_gt r) (x ∷ above cmp key k xs) (above cmp key k xs)) ≤ length (x ∷ xs)) [
        | Less ↦ omega arith
        | Equal ↦ omega arith
        | Greater ↦ omega arith
      ]

  pub length-put_all : (xs ps : List A) → length (put_all cmp key xs ps) ≤ length xs + length ps
  length-put_all xs [] = omega arith
  length-put_all xs (y ∷ ys) =
      let rest = length-put_all (put_by cmp key y xs) ys in
      let one = parts_length (key y) xs in
      let long = length-append (below cmp key (key y) xs) (y ∷ above cmp key (key y) xs) in
      omega arith

  -- A list that rises is in order.

  rising_last : (z : A) (xs : List A) → IsRisingBy cmp key xs → last_alone [] (filter (same z) xs) ≡ filter (same z) xs
  rising_last z [] rising = refl
  rising_last z (x ∷ xs) rising = one (same z x) refl (rising_last z xs rising.1)
    where
      one : (b : Bool) → same z x ≡ b → last_alone [] (filter (same z) xs) ≡ filter (same z) xs → last_alone [] (cond b (x ∷ filter (same z) xs) (filter (same z) xs)) ≡ cond b (x ∷ filter (same z) xs) (filter (same z) xs)
      one true e again = rw (none_same_over z x xs e rising.0) refl
      one false e again = again

  pub put_all-rising : (xs : List A) → IsRisingBy cmp key xs → put_all cmp key [] xs ≡ xs
  put_all-rising xs rising =
      rising_unique (put_all cmp key [] xs) xs (rising-put_all [] xs tt) rising (λ z. put_all_same z [] xs ∙ rising_last z xs rising)

  -- an item in front of a rising list whose first item is over it
  pub rising-cons : (x y : A) (ys : List A) → cmp (key x) (key y) ≡ Less → IsRisingBy cmp key (y ∷ ys) → IsRisingBy cmp key (x ∷ y ∷ ys)
  rising-cons x y ys less rising =
      ((less, all_map (λ z. cmp (key y) (key z) ≡ Less) (λ z. cmp (key x) (key z) ≡ Less) ys (λ z over. o.trans (key x) (key y) (key z) less over) rising.0), rising)

  -- A sorted list, of which the first of each key is kept.

  -- no item comes before one that stands in front of it
  abbrev AreUp : List A → Type 0
  AreUp [] = Unit {0}
  AreUp (x ∷ xs) = AllByRecursion (λ y. is_lt (cmp (key y) (key x)) ≡ false) xs × AreUp xs

  abbrev lt : A → A → Bool
  lt x y = is_lt (cmp (key x) (key y))

  up_from_sorted : (xs : List A) → IsSortedBy lt xs → AreUp xs
  up_from_sorted [] sorted = tt
  up_from_sorted (x ∷ xs) sorted = (
    all_from_reads (λ y. is_lt (cmp (key y) (key x)) ≡ false) xs x
        (λ k below. sorted_far lt (ranks_by o key) (x ∷ xs) sorted 0 (suc k) x (omega arith) (omega arith)),
    up_from_sorted xs (λ k d low high.
        let e : suc k + 1 ≡ suc (k + 1) = omega arith in
        rw e at (sorted (suc k) d (omega arith) (omega arith))),
  )

  abbrev kept : A → List A → List A
  kept k xs = dedup_from (λ x y. is_eq (cmp (key x) (key y))) k xs

  all_kept : (P : A → Type 0) (k : A) (xs : List A) → P k → AllByRecursion P xs → AllByRecursion P (kept k xs)
  all_kept P k [] one all = (one, tt)
  all_kept P k (x ∷ xs) one all =
      elim (same x k) as (λ b. AllByRecursion P (cond b (kept k xs) (k ∷ kept x xs))) [
        | true ↦ all_kept P k xs one all.1
        | false ↦ (one, all_kept P x xs all.0 all.1)
      ]

  -- what does not come before one that is over a key is over it
  past : (a b c : K) → cmp a b ≡ Less → is_lt (cmp c b) ≡ false → cmp a c ≡ Less
  past a b c less not_less = one (cmp c b) refl
    where
      one : (r : Ordering) → cmp c b ≡ r → cmp a c ≡ Less
      one Less e = let t : is_lt (cmp c b) ≡ true = ap is_lt e in absurd (cc)
      one Equal e = o.antisymm a c ∙ ap ordering_reverse (o.congr c b a e) ∙ sym (o.antisymm a b) ∙ less
      one Greater e = o.trans a b c less (o.antisymm b c ∙ ap ordering_reverse e)

  -- a first item that is over another one puts all behind it over that one
  all_past : (k x : A) (xs : List A) → cmp (key k) (key x) ≡ Less → AllByRecursion (λ y. is_lt (cmp (key y) (key x)) ≡ false) xs → AllByRecursion (λ y. cmp (key k) (key y) ≡ Less) (x ∷ xs)
  all_past k x xs less up = (less, all_map (λ y. is_lt (cmp (key y) (key x)) ≡ false) (λ y. cmp (key k) (key y) ≡ Less) xs (λ y not_less. past (key k) (key x) (key y) less not_less) up)

  rising-kept : (k : A) (xs : List A) → AreUp (k ∷ xs) → IsRisingBy cmp key (kept k xs)
  rising-kept k [] up = (tt, tt)
  rising-kept k (x ∷ xs) up = one (cmp (key x) (key k)) refl (rising-kept k xs (up.0.1, up.1.1)) (rising-kept x xs up.1)
    where
      one : (r : Ordering) → cmp (key x) (key k) ≡ r → IsRisingBy cmp key (kept k xs) → IsRisingBy cmp key (kept x xs) → IsRisingBy cmp key (cond (is_eq r) (kept k xs) (k ∷ kept x xs))
      one Less e same_key other_key = let t : is_lt (cmp (key x) (key k)) ≡ true = ap is_lt e in let f = up.0.0 in absurd (cc)
      one Equal e same_key other_key = same_key
      one Greater e same_key other_key =
          let less : cmp (key k) (key x) ≡ Less = o.antisymm (key k) (key x) ∙ ap ordering_reverse e in
          let over = all_past k x xs less up.1.0 in
          (all_kept (λ y. cmp (key k) (key y) ≡ Less) x xs over.0 over.1, other_key)

  kept_same : (z k : A) (xs : List A) → AreUp (k ∷ xs) → filter (same z) (kept k xs) ≡ first_alone (filter (same z) (k ∷ xs))
  kept_same z k [] up =
      elim (same z k) as (λ b. cond b (k ∷ []) [] ≡ first_alone (cond b (k ∷ []) [])) [
        | true ↦ refl
        | false ↦ refl
      ]
  kept_same z k (x ∷ xs) up = one (cmp (key x) (key k)) refl (same z k) refl (kept_same z k xs (up.0.1, up.1.1)) (kept_same z x xs up.1)
    where
      one : (r : Ordering) → cmp (key x) (key k) ≡ r → (b : Bool) → same z k ≡ b
          → filter (same z) (kept k xs) ≡ first_alone (filter (same z) (k ∷ xs))
          → filter (same z) (kept x xs) ≡ first_alone (filter (same z) (x ∷ xs))
          → filter (same z) (cond (is_eq r) (kept k xs) (k ∷ kept x xs)) ≡ first_alone (cond b (k ∷ filter (same z) (x ∷ xs)) (filter (same z) (x ∷ xs)))
      one Less e b s same_key other_key = let t : is_lt (cmp (key x) (key k)) ≡ true = ap is_lt e in let f = up.0.0 in absurd (cc)
      one Equal e true s same_key other_key = same_key ∙ rw s refl
      one Equal e false s same_key other_key =
          let t : same z x ≡ false = same_right z x k e ∙ s in
          same_key ∙ rw (s, t) refl
      one Greater e true s same_key other_key =
          let less : cmp (key k) (key x) ≡ Less = o.antisymm (key k) (key x) ∙ ap ordering_reverse e in
          let none : filter (same z) (x ∷ xs) ≡ [] = none_same_over z k (x ∷ xs) s (all_past k x xs less up.1.0) in
          rw s (ap (λ ys. k ∷ ys) (other_key ∙ ap first_alone none))
      one Greater e false s same_key other_key = rw s other_key

  ties_are_same : (x y : A) → ties lt x y ≡ same x y
  ties_are_same x y = ap (λ r. not (is_lt (cmp (key x) (key y))) && not (is_lt r)) (o.antisymm (key y) (key x)) ∙ neither_eq (cmp (key x) (key y))

  -- Items that a stable sort put in order, those written later first, and of which the first of each key was kept.
  pub put_all-sorted : (ps ys : List A) → ((x : A) → filter (ties lt x) ys ≡ filter (ties lt x) (reverse ps)) → IsSortedBy lt ys
      → dedup (λ x y. is_eq (cmp (key x) (key y))) ys ≡ put_all cmp key [] ps
  put_all-sorted ps ys stable sorted =
      rising_unique (dedup (λ x y. is_eq (cmp (key x) (key y))) ys) (put_all cmp key [] ps) (rises ys (up_from_sorted ys sorted)) (rising-put_all [] ps tt)
      (λ z.
      firsts z ys (up_from_sorted ys sorted)
      ∙ ap first_alone (sym (filter_alike (ties lt z) (same z) ys (ties_are_same z)) ∙ stable z ∙ filter_alike (ties lt z) (same z) (reverse ps) (ties_are_same z))
      ∙ ap first_alone (sym (append-nil (filter (same z) (reverse ps))))
      ∙ first_reversed (same z) ps []
      ∙ sym (put_all_same z [] ps))
    where
      rises : (ys : List A) → AreUp ys → IsRisingBy cmp key (dedup (λ x y. is_eq (cmp (key x) (key y))) ys)
      rises [] up = tt
      rises (y ∷ ys) up = rising-kept y ys up

      firsts : (z : A) (ys : List A) → AreUp ys → filter (same z) (dedup (λ x y. is_eq (cmp (key x) (key y))) ys) ≡ first_alone (filter (same z) ys)
      firsts z [] up = refl
      firsts z (y ∷ ys) up = kept_same z y ys up

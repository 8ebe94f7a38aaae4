-- What a binary search finds where no item fails a test before one that passes it.
use Rattle.std.proofs.Common.{◌≡◌, ◌≤◌, ◌<◌, ◌+◌, ℕ, zero, suc, Bool, true, false, cond, List, [], ◌∷◌, length, get_or, refl, sym, ap, arith, ◌∙◌}
use Rattle.std.specs.List.{AllByRecursion, AllWithin, prefix_len}
use Rattle.std.specs.List.Sorted.{IsPartitionedBy}
use Rattle.ordered_lists.proofs.PutAll.{all_map}
use Rattle.addr_section.specs.declared.kept.EntryKept.{EntryKept}
use Rattle.addr_read.specs.Searching.{AreRising, IsAhead, begins_by, ends_before, text_in}
use Rattle.addr_read.proofs.TextOrder.{below_front, reached_below, reached_front}

module _ {A : Type 0} where
  -- what holds of all holds of each by its index
  at_index : (P : A → Type 0) (xs : List A) → AllByRecursion P xs → (j : ℕ) (d : A) → j < length xs → P (get_or xs j d)
  at_index P [] all j d inside = absurd (omega (arith, inside))
  at_index P (x ∷ xs) all zero d inside = all.0
  at_index P (x ∷ xs) all (suc j) d inside = at_index P xs all.1 j d (omega (arith, inside))

  module _ (p : A → Bool) where
    -- each item passes where a later one does
    abbrev pub ArePassed : List A → Type 0
    ArePassed [] = Unit {0}
    ArePassed (x ∷ xs) = AllByRecursion (λ y. p y ≡ true → p x ≡ true) xs × ArePassed xs

    pub parted : (xs : List A) → ArePassed xs → IsPartitionedBy p xs
    parted [] h i j d le inside e = absurd (omega (arith, inside))
    parted (x ∷ xs) h zero zero d le inside e = e
    parted (x ∷ xs) h zero (suc j) d le inside e = at_index (λ y. p y ≡ true → p x ≡ true) xs h.0 j d (omega (arith, inside)) e
    parted (x ∷ xs) h (suc i) zero d le inside e = absurd (omega (arith, le))
    parted (x ∷ xs) h (suc i) (suc j) d le inside e = parted xs h.1 i j d (omega (arith, le)) (omega (arith, inside)) e

    -- the place between those that pass and those that fail is after those that pass at the front
    pub place_is : (xs : List A) (n : ℕ) → n ≤ length xs → AllWithin (λ y. p y ≡ true) xs 0 n → AllWithin (λ y. p y ≡ false) xs n (length xs) → n ≡ prefix_len p xs
    place_is [] n le low high = omega (arith, le)
    place_is (x ∷ xs) zero le low high = sym (ap (λ (b : Bool). cond b (1 + prefix_len p xs) 0) (high 0 x (omega arith) (omega arith)))
    place_is (x ∷ xs) (suc n) le low high =
        let again = place_is xs n (omega (arith, le)) (λ k d lo hi. low (suc k) d (omega (arith, lo)) (omega (arith, hi))) (λ k d lo hi. high (suc k) d (omega (arith, lo)) (omega (arith, hi))) in
        let one : suc n ≡ 1 + prefix_len p xs = omega (arith, again) in
        one ∙ sym (ap (λ (b : Bool). cond b (1 + prefix_len p xs) 0) (low 0 x (omega arith) (omega arith)))

  -- where each item that passes one test passes another, no more pass it at the front
  pub fewer : (p q : A → Bool) (xs : List A) → AllByRecursion (λ x. p x ≡ true → q x ≡ true) xs → prefix_len p xs ≤ prefix_len q xs
  fewer p q [] all = omega arith
  fewer p q (x ∷ xs) all = one (p x) (q x) refl refl (all.0) (fewer p q xs all.1)
    where
      one : (s t : Bool) → p x ≡ s → q x ≡ t → (p x ≡ true → q x ≡ true) → prefix_len p xs ≤ prefix_len q xs → prefix_len p (x ∷ xs) ≤ prefix_len q (x ∷ xs)
      one false t e f on again = rw e (omega arith)
      one true true e f on again = rw e rw f (omega (arith, again))
      one true false e f on again = absurd (let g = on e in cc)

-- ---- of entries

module _ (bytes k : List ℕ) where
  pub ended_at_front : (es : List EntryKept) → AreRising bytes es → ArePassed (ends_before bytes k) es
  ended_at_front [] r = tt
  ended_at_front (e ∷ es) r = (
    all_map (IsAhead bytes e) (λ f. ends_before bytes k f ≡ true → ends_before bytes k e ≡ true) es (λ f ahead. below_front (text_in bytes e.last) (text_in bytes f.last) k ahead.1) r.1,
    ended_at_front es r.2,
  )

  pub begun_at_front : (houses : Bool) (es : List EntryKept) → AreRising bytes es → ArePassed (begins_by bytes houses k) es
  begun_at_front houses [] r = tt
  begun_at_front houses (e ∷ es) r = (
    all_map (IsAhead bytes e) (λ f. begins_by bytes houses k f ≡ true → begins_by bytes houses k e ≡ true) es (λ f ahead. reached_front houses (text_in bytes e.first) (text_in bytes f.first) k ahead.0) r.1,
    begun_at_front houses es r.2,
  )

  -- an entry that ends before the key begins before it
  pub begun_where_ended : (houses : Bool) (es : List EntryKept) → AreRising bytes es → AllByRecursion (λ e. ends_before bytes k e ≡ true → begins_by bytes houses k e ≡ true) es
  begun_where_ended houses [] r = tt
  begun_where_ended houses (e ∷ es) r = (reached_below houses (text_in bytes e.first) (text_in bytes e.last) k r.0, begun_where_ended houses es r.2)

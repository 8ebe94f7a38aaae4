-- Addresses are packed to the same bytes in whatever order they are given.
use Rattle.std.proofs.Common.{◌≡◌, ℕ, Bool, true, false, cond, List, [], ◌∷◌, ◌++◌, refl, sym, ap, ◌∙◌}
use Rattle.std.specs.Prelude.{filter}
use Rattle.std.specs.List.{AllByRecursion}
use Rattle.std.specs.List.Sorted.{IsPermutation}
use Rattle.std.specs.Cmp.{IsTotalOrder}
use Rattle.std.specs.Ordering.{is_gt, is_le, ordering_reverse}
use Rattle.std.specs.declared.cmp.Ordering.{Ordering}
use Rattle.std.specs.declared.cmp.Ordering.TheVariants.{Less, Equal, Greater}
use Rattle.std.proofs.lemmas.List.Sorted.{IsPermutation-trans}
use Rattle.live_model.specs.declared.addresses.AddrRec.{AddrRec}
use Rattle.live_model.specs.Fits.{FitsAddress}
use Rattle.ordered_lists.proofs.PutAll.{all_filter}
use Rattle.boxed_write.specs.Packed.{cuts, placed, sorted_by}
use Rattle.boxed_write.proofs.Sorting.{AreUp, sorted_is}
use Rattle.boxed_laws.proofs.KeptItems.{moved_sorted, up_in_order}
use Rattle.obf_wire.specs.Fields.{section}
use Rattle.addr_section.specs.Laws.{AnyOrderLaw}
use Rattle.addr_section.specs.Packed.{is_listed, keyed_blocks, keyed_cmp, packed_addresses, packed_list}
use Rattle.addr_section.proofs.Orders.{keyed_total, same_keyed}

not_above : (r : Ordering) → is_gt r ≡ false → is_le r ≡ true
not_above Less e = refl
not_above Equal e = refl
not_above Greater e = absurd cc

-- ---- a sort of some of the items is some of the sorted items

module _ {A : Type 0} (cmp : A → A → Ordering) (o : IsTotalOrder cmp) where
  -- what is not above what comes next is not above what comes later
  pub later : (x y z : A) → is_le (cmp x y) ≡ true → is_gt (cmp y z) ≡ false → is_le (cmp x z) ≡ true
  later x y z le up = first (cmp x y) refl le
    where
      second : (r : Ordering) → cmp x y ≡ Less → cmp y z ≡ r → is_gt r ≡ false → is_le (cmp x z) ≡ true
      second Less less e low = ap is_le (o.trans x y z less e)
      second Equal less e low = ap is_le (o.antisymm x z ∙ ap ordering_reverse (sym (o.congr y z x e)) ∙ sym (o.antisymm x y) ∙ less)
      second Greater less e low = absurd cc

      first : (r : Ordering) → cmp x y ≡ r → is_le r ≡ true → is_le (cmp x z) ≡ true
      first Less e t = second (cmp y z) e refl up
      first Equal e t = not_above (cmp x z) (ap is_gt (o.congr x y z e) ∙ up)
      first Greater e t = absurd cc

  all_later : (x y : A) (ys : List A) → is_le (cmp x y) ≡ true → AllByRecursion (λ z. is_gt (cmp y z) ≡ false) ys → AllByRecursion (λ z. is_le (cmp x z) ≡ true) ys
  all_later x y [] le all = tt
  all_later x y (z ∷ zs) le all = (later x y z le all.0, all_later x y zs le all.1)

  placed_front : (x : A) (zs : List A) → AllByRecursion (λ z. is_le (cmp x z) ≡ true) zs → placed cmp x zs ≡ x ∷ zs
  placed_front x [] all = refl
  placed_front x (z ∷ zs) all = rw (all.0) refl

  module _ (p : A → Bool) where
    filter_placed : (x : A) (xs : List A) → AreUp cmp xs → filter p (placed cmp x xs) ≡ cond (p x) (placed cmp x (filter p xs)) (filter p xs)
    filter_placed x [] up = refl
    filter_placed x (y ∷ ys) up = one (filter_placed x ys up.1) (is_le (cmp x y)) refl
      where
        kept : List A
        kept = filter p (y ∷ ys)

        four : (a b : Bool) → is_le (cmp x y) ≡ false → cond b (y ∷ cond a (placed cmp x (filter p ys)) (filter p ys)) (cond a (placed cmp x (filter p ys)) (filter p ys))
            ≡ cond a (placed cmp x (cond b (y ∷ filter p ys) (filter p ys))) (cond b (y ∷ filter p ys) (filter p ys))
        four true true e = rw e refl
        four true false e = refl
        four false true e = refl
        four false false e = refl

        one : filter p (placed cmp x ys) ≡ cond (p x) (placed cmp x (filter p ys)) (filter p ys) → (b : Bool) → is_le (cmp x y) ≡ b → filter p (cond b (x ∷ y ∷ ys) (y ∷ placed cmp x ys)) ≡ cond (p x) (placed cmp x kept) kept
        one rest true e = ap (λ (zs : List A). cond (p x) zs kept) (sym (placed_front x kept (all_filter (λ z. is_le (cmp x z) ≡ true) p (y ∷ ys) (e, all_later x y ys e up.0))))
        one rest false e = ap (λ (zs : List A). cond (p y) (y ∷ zs) zs) rest ∙ four (p x) (p y) e

    sorted_filter : (xs : List A) → sorted_by cmp (filter p xs) ≡ filter p (sorted_by cmp xs)
    sorted_filter [] = refl
    sorted_filter (x ∷ xs) = two (sorted_filter xs) (p x) ∙ sym (filter_placed x (sorted_by cmp xs) (up_in_order cmp o xs))
      where
        two : sorted_by cmp (filter p xs) ≡ filter p (sorted_by cmp xs) → (b : Bool) → sorted_by cmp (cond b (x ∷ filter p xs) (filter p xs)) ≡ cond b (placed cmp x (filter p (sorted_by cmp xs))) (filter p (sorted_by cmp xs))
        two rest true = ap (placed cmp x) rest
        two rest false = rest

-- ---- addresses

-- sorted they are the same
same_order : (a b : List AddrRec) → AllByRecursion FitsAddress a → IsPermutation a b → sorted_by keyed_cmp a ≡ sorted_by keyed_cmp b
same_order a b all moved =
    sym (sorted_is keyed_cmp keyed_total FitsAddress same_keyed a (sorted_by keyed_cmp b) all
    (IsPermutation-trans a b (sorted_by keyed_cmp b) moved (moved_sorted keyed_cmp b)) (up_in_order keyed_cmp keyed_total b))

same_list : (houses : Bool) (a b : List AddrRec) → AllByRecursion FitsAddress a → IsPermutation a b → packed_list (filter (is_listed houses) a) ≡ packed_list (filter (is_listed houses) b)
same_list houses a b all moved =
    ap (λ (xs : List AddrRec). keyed_blocks (cuts 64 xs))
    (sorted_filter keyed_cmp keyed_total (is_listed houses) a ∙ ap (filter (is_listed houses)) (same_order a b all moved) ∙ sym (sorted_filter keyed_cmp keyed_total (is_listed houses) b))

pub any_order : AnyOrderLaw
unfolding packed_addresses
any_order a b all moved =
    ap (λ (names : List ℕ). section 1 names ++ section 2 (packed_list (filter (is_listed true) a))) (same_list false a b all moved)
    ∙ ap (λ (houses : List ℕ). section 1 (packed_list (filter (is_listed false) b)) ++ section 2 houses) (same_list true a b all moved)

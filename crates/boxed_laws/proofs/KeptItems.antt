-- Sorting and cutting keep each item.
use Rattle.std.proofs.Common.{◌≡◌, ℕ, zero, suc, ◌+◌, ◌*◌, ◌/◌, ◌≤◌, true, false, cond, List, [], ◌∷◌, ◌++◌, length, map, take, drop, refl, sym, ap, subst, ◌∙◌, arith, append_assoc}
use Rattle.std.specs.Prelude.{flat_map}
use Rattle.std.specs.List.{AllByRecursion, range_with_len}
use Rattle.std.specs.List.Sorted.{IsPermutation}
use Rattle.std.specs.Ordering.{is_le, is_gt, ordering_reverse}
use Rattle.std.specs.declared.cmp.Ordering.{Ordering}
use Rattle.std.specs.declared.cmp.Ordering.TheVariants.{Less, Equal, Greater}
use Rattle.std.specs.Cmp.{IsTotalOrder}
use Rattle.std.proofs.lemmas.Cmp.{upto}
use Rattle.std.proofs.lemmas.List.{take-append-drop, drop-drop, drop_all}
use Rattle.std.proofs.lemmas.List.Sorted.{IsPermutation-refl, IsPermutation-cons, IsPermutation-trans, IsPermutation-append, IsPermutation-middle}
use Rattle.boxed_write.specs.Packed.{Packing, placed, sorted_by, cut, cuts, packing_cmp}
use Rattle.boxed_laws.specs.Laws.{KeptLaw, in_blocks}
use Rattle.boxed_write.proofs.Sorting.{AreUp, all_more}

-- ---- sorting

module _ {A : Type 0} (cmp : A → A → Ordering) where
  pub moved_placed : (x : A) (xs : List A) → IsPermutation (x ∷ xs) (placed cmp x xs)
  moved_placed x [] = IsPermutation-refl (x ∷ [])
  moved_placed x (y ∷ ys) =
      elim (is_le (cmp x y)) as (λ b. IsPermutation (x ∷ y ∷ ys) (cond b (x ∷ y ∷ ys) (y ∷ placed cmp x ys))) [
        | true ↦ IsPermutation-refl (x ∷ y ∷ ys)
        | false ↦
            IsPermutation-trans (x ∷ y ∷ ys) (y ∷ x ∷ ys) (y ∷ placed cmp x ys) (IsPermutation-middle (x ∷ []) y ys) (IsPermutation-cons y (x ∷ ys) (placed cmp x ys) (moved_placed x ys))
      ]

  pub moved_sorted : (xs : List A) → IsPermutation xs (sorted_by cmp xs)
  moved_sorted [] = IsPermutation-refl []
  moved_sorted (x ∷ xs) =
      IsPermutation-trans (x ∷ xs) (x ∷ sorted_by cmp xs) (placed cmp x (sorted_by cmp xs)) (IsPermutation-cons x xs (sorted_by cmp xs) (moved_sorted xs)) (moved_placed x (sorted_by cmp xs))

  -- what is sorted in parts is moved within them
  pub moved_parts : (parts : List (List A)) → IsPermutation (flat_map (λ part. part) parts) (flat_map (λ part. part) (map (sorted_by cmp) parts))
  moved_parts [] = IsPermutation-refl []
  moved_parts (part ∷ parts) =
      IsPermutation-append part (sorted_by cmp part) (flat_map (λ p. p) parts) (flat_map (λ p. p) (map (sorted_by cmp) parts)) (moved_sorted part) (moved_parts parts)

  module _ (o : IsTotalOrder cmp) where
    le_up : (r : Ordering) → is_le r ≡ true → is_gt r ≡ false
    le_up Less e = refl
    le_up Equal e = refl
    le_up Greater e = absurd (cc)

    not_le_up : (r : Ordering) → is_le r ≡ false → is_gt (ordering_reverse r) ≡ false
    not_le_up Less e = absurd (cc)
    not_le_up Equal e = absurd (cc)
    not_le_up Greater e = refl

    all_with : (P : A → Type 0) (x : A) (xs : List A) → P x → AllByRecursion P xs → AllByRecursion P (placed cmp x xs)
    all_with P x [] one all = (one, tt)
    all_with P x (y ∷ ys) one all =
        elim (is_le (cmp x y)) as (λ b. AllByRecursion P (cond b (x ∷ y ∷ ys) (y ∷ placed cmp x ys))) [
          | true ↦ (one, all)
          | false ↦ (all.0, all_with P x ys one all.1)
        ]

    up_with : (x : A) (xs : List A) → AreUp cmp xs → AreUp cmp (placed cmp x xs)
    up_with x [] up = (tt, tt)
    up_with x (y ∷ ys) up =
        elim (is_le (cmp x y)) as (λ b. is_le (cmp x y) ≡ b → AreUp cmp (cond b (x ∷ y ∷ ys) (y ∷ placed cmp x ys))) [
          | true ↦ λ t.
              let first : is_gt (cmp x y) ≡ false = le_up (cmp x y) t in
              ((first, all_more (λ w. is_gt (cmp y w) ≡ false) (λ w. is_gt (cmp x w) ≡ false) ys (λ w le. upto o x y w first le) up.0), up)
          | false ↦ λ f.
              let back : is_gt (cmp y x) ≡ false = rw (o.antisymm y x) (not_le_up (cmp x y) f) in
              (all_with (λ w. is_gt (cmp y w) ≡ false) x ys back up.0, up_with x ys up.1)
        ] refl

    -- a sorted list is in order
    pub up_in_order : (xs : List A) → AreUp cmp (sorted_by cmp xs)
    up_in_order [] = tt
    up_in_order (x ∷ xs) = up_with x (sorted_by cmp xs) (up_in_order xs)

-- ---- cutting

module _ {A B : Type 0} (f : A → List B) where
  pub flat_join : (xs ys : List A) → flat_map f (xs ++ ys) ≡ flat_map f xs ++ flat_map f ys
  flat_join [] ys = refl
  flat_join (x ∷ xs) ys = ap (λ (zs : List B). f x ++ zs) (flat_join xs ys) ∙ sym (append_assoc (f x) (flat_map f xs) (flat_map f ys))

  parts_join : (size : ℕ) (n from : ℕ) (xs : List A) → length xs ≤ size * (from + n) → flat_map (λ place. flat_map f (cut size xs place)) (range_with_len from n) ≡ flat_map f (drop (size * from) xs)
  parts_join size zero from xs enough =
      let past : size * (from + 0) ≡ size * from = omega arith in
      ap (flat_map f) (sym (drop_all (size * from) xs (omega arith)))
  parts_join size (suc n) from xs enough =
      let here : List A = drop (size * from) xs in
      let far : size * (from + suc n) ≡ size * ((from + 1) + n) = ap (λ (k : ℕ). size * k) (omega arith) in
      let next : size * (from + 1) ≡ size * from + size = omega arith in
      let rest = parts_join size n (from + 1) xs (omega arith) in
      let behind : drop (size * (from + 1)) xs ≡ drop size here = ap (λ (k : ℕ). drop k xs) next ∙ sym (drop-drop size (size * from) xs) in
      ap (λ (zs : List B). flat_map f (take size here) ++ zs) (rest ∙ ap (flat_map f) behind)
      ∙ sym (flat_join (take size here) (drop size here))
      ∙ ap (flat_map f) (take-append-drop size here)

  flat_of_map : {C : Type 0} (g : C → List A) (cs : List C) → flat_map (λ part. flat_map f part) (map g cs) ≡ flat_map (λ c. flat_map f (g c)) cs
  flat_of_map g [] = refl
  flat_of_map g (c ∷ cs) = ap (λ (zs : List B). flat_map f (g c) ++ zs) (flat_of_map g cs)

  pub cuts_of_eight : (xs : List A) → flat_map (λ part. flat_map f part) (cuts 8 xs) ≡ flat_map f xs
  cuts_of_eight xs =
      flat_of_map (cut 8 xs) (range_with_len 0 ((length xs + 7) / 8)) ∙ parts_join 8 ((length xs + 7) / 8) 0 xs (omega arith)

  pub cuts_of_sixty_four : (xs : List A) → flat_map (λ part. flat_map f part) (cuts 64 xs) ≡ flat_map f xs
  cuts_of_sixty_four xs =
      flat_of_map (cut 64 xs) (range_with_len 0 ((length xs + 63) / 64)) ∙ parts_join 64 ((length xs + 63) / 64) 0 xs (omega arith)

flat_one : {A : Type 0} (xs : List A) → flat_map (λ x. x ∷ []) xs ≡ xs
flat_one [] = refl
flat_one (x ∷ xs) = ap (λ (ys : List _). x ∷ ys) (flat_one xs)

flat_ones : {A : Type 0} (parts : List (List A)) → flat_map (λ part. flat_map (λ x. x ∷ []) part) parts ≡ flat_map (λ part. part) parts
flat_ones {A} [] = refl
flat_ones {A} (part ∷ parts) = ap (λ (ys : List A). ys ++ flat_map (λ p. flat_map (λ x. x ∷ []) p) parts) (flat_one part) ∙ ap (λ (ys : List A). part ++ ys) (flat_ones parts)

joined : {A : Type 0} (xs : List A) → flat_map (λ part. part) (cuts 64 xs) ≡ xs
joined xs = sym (flat_ones (cuts 64 xs)) ∙ cuts_of_sixty_four (λ x. x ∷ []) xs ∙ flat_one xs

pub kept : {A : Type 0} (packing : Packing A) → KeptLaw packing
kept {A} packing records =
    let order : List A = sorted_by (packing_cmp packing) records in
    IsPermutation-trans records order (in_blocks packing records) (moved_sorted (packing_cmp packing) records)
    (subst (λ (ms : List A). IsPermutation ms (in_blocks packing records)) (joined order) (moved_parts packing.cmp (cuts 64 order)))

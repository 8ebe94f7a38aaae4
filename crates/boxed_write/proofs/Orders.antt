-- The order in which records are packed, and the order within a block.
use Rattle.std.proofs.Common.{◌≡◌, ℕ, List, [], ◌∷◌, map, false, subst}
use Rattle.std.specs.List.{AllByRecursion}
use Rattle.std.specs.List.Sorted.{IsPermutation, IsSorted}
use Rattle.std.specs.Ordering.{nat_cmp, ordering_then, is_gt}
use Rattle.std.specs.declared.cmp.Ordering.{Ordering}
use Rattle.std.specs.declared.cmp.Ordering.TheVariants.{Less, Equal, Greater}
use Rattle.std.specs.Cmp.{IsTotalOrder}
use Rattle.std.proofs.lemmas.Cmp.{nat_cmp_total, on_total, then_total}
use Rattle.std.proofs.lemmas.List.Sorted.{IsPermutation-map}
use Rattle.live_model.specs.Geometry.{middle}
use Rattle.box_tree.specs.Packing.{code}
use Rattle.boxed_write.specs.Packed.{Packing, sorted_by, packing_cmp}
use Rattle.boxed_write.specs.Classes.{IsPackedBy, Placed, IsPlaced, placed_cmp, items_of}
use Rattle.boxed_write.proofs.Sorting.{up_from_sorted, up_image, all_moved, sorted_is}

then_equal : (o p : Ordering) → ordering_then o p ≡ Equal → p ≡ Equal
then_equal Less p e = absurd (cc)
then_equal Equal p e = e
then_equal Greater p e = absurd (cc)

all_unit : {A : Type 0} (xs : List A) → AllByRecursion (λ x. Unit {0}) xs
all_unit [] = tt
all_unit (x ∷ xs) = (tt, all_unit xs)

module _ {A : Type 0} {packing : Packing A} {fits : A → Type 0} (laws : IsPackedBy packing fits) where
  pub items_total : IsTotalOrder (λ (a b : Placed A). packing.cmp a.2.now b.2.now)
  items_total = on_total (λ (p : Placed A). p.2.now) laws.total

  -- what was sorted by its records has them in their order
  pub items_sorted : (before after : List (Placed A)) → AllByRecursion fits (items_of before) → IsPermutation before after → IsSorted (λ (a b : Placed A). packing.cmp a.2.now b.2.now) after → items_of after ≡ sorted_by packing.cmp (items_of before)
  items_sorted before after all moved sorted =
      sorted_is packing.cmp laws.total fits laws.same (items_of before) (items_of after) all (IsPermutation-map (λ (p : Placed A). p.2.now) before after moved)
      (up_image (λ (a b : Placed A). packing.cmp a.2.now b.2.now) packing.cmp (λ (p : Placed A). p.2.now) (λ p. Unit {0}) (λ a b _ _ h. h) after (all_unit after)
      (up_from_sorted (λ (a b : Placed A). packing.cmp a.2.now b.2.now) items_total after sorted))

  pub packing_total : IsTotalOrder (packing_cmp packing)
  packing_total = then_total (on_total (λ (r : A). code (middle (packing.box r))) nat_cmp_total) laws.total

  pub placed_total : IsTotalOrder (placed_cmp packing)
  placed_total = then_total (on_total (λ (p : Placed A). p.0) nat_cmp_total) (on_total (λ (p : Placed A). p.2.now) laws.total)

  pub same_packed : (a b : A) → fits a → fits b → packing_cmp packing a b ≡ Equal → a ≡ b
  same_packed a b ga gb e = laws.same a b ga gb (then_equal (nat_cmp (code (middle (packing.box a))) (code (middle (packing.box b)))) (packing.cmp a b) e)

  keeps : (a b : Placed A) → IsPlaced packing a → IsPlaced packing b → is_gt (placed_cmp packing a b) ≡ false → is_gt (packing_cmp packing a.2.now b.2.now) ≡ false
  keeps a b pa pb up =
      subst (λ (n : ℕ). is_gt (ordering_then (nat_cmp n (code (middle (packing.box b.2.now)))) (packing.cmp a.2.now b.2.now)) ≡ false) pa.0
      (subst (λ (n : ℕ). is_gt (ordering_then (nat_cmp a.0 n) (packing.cmp a.2.now b.2.now)) ≡ false) pb.0 up)

  -- what was sorted beside its codes is in packing order
  pub placed_sorted : (records : List A) (before after : List (Placed A)) → AllByRecursion fits records → items_of before ≡ records → AllByRecursion (IsPlaced packing) before → IsPermutation before after → IsSorted (placed_cmp packing) after → items_of after ≡ sorted_by (packing_cmp packing) records
  placed_sorted records before after all is placed moved sorted =
      let f : Placed A → A = λ p. p.2.now in
      sorted_is (packing_cmp packing) packing_total fits same_packed records (map f after) all
      (subst (λ (rs : List A). IsPermutation rs (map f after)) is (IsPermutation-map f before after moved))
      (up_image (placed_cmp packing) (packing_cmp packing) f (IsPlaced packing) keeps after (all_moved (IsPlaced packing) before after moved placed)
      (up_from_sorted (placed_cmp packing) placed_total after sorted))

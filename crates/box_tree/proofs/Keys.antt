-- The positions in the keys of items.
use Rattle.std.proofs.Common.{◌≡◌, ℕ, ◌+◌, List, [], ◌∷◌, length, map, refl, sym, ap, subst}
use Rattle.std.specs.List.{range_with_len, enumerate_from}
use Rattle.std.specs.List.Sorted.{IsPermutation}
use Rattle.std.proofs.lemmas.List.Sorted.{IsPermutation-map}
use Rattle.live_model.specs.declared.points.Rect.{Rect}
use Rattle.box_tree.specs.Packing.{Key, key_of, keys_of}

numbered : (n : ℕ) (items : List (Rect × ℕ)) → map (λ (key : Key). key.2) (map key_of (enumerate_from n items)) ≡ range_with_len n (length items)
numbered n [] = refl
numbered n (item ∷ items) = ap (λ (ks : List ℕ). n ∷ ks) (numbered (n + 1) items)

-- keys in another order hold each position once
pub each_position : (items : List (Rect × ℕ)) (order : List Key) (positions : List ℕ) → IsPermutation (keys_of items) order → positions ≡ map (λ (key : Key). key.2) order → IsPermutation (range_with_len 0 (length items)) positions
each_position items order positions moved are =
    subst (λ (ks : List ℕ). IsPermutation (range_with_len 0 (length items)) ks) (sym are)
    (subst (λ (ks : List ℕ). IsPermutation ks (map (λ (key : Key). key.2) order)) (numbered 0 items) (IsPermutation-map (λ (key : Key). key.2) (keys_of items) order moved))

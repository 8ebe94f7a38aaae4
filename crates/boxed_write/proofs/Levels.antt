-- The levels of a tree.
use Rattle.std.proofs.Common.{◌≡◌, ℕ, zero, suc, ◌+◌, ◌/◌, ◌<◌, ◌≤◌, List, [], ◌∷◌, length, map, refl, ◌∙◌, arith}
use Rattle.std.proofs.lemmas.List.{length-map}
use Rattle.std.proofs.lemmas.List.FromFn.{length-map-range_with_len}
use Rattle.boxed_write.specs.Packed.{Node, cut, cuts, node_above, root_within, tree}

-- the nodes above some others
level : List Node → List Node
level nodes = map node_above (cuts 8 nodes)

pub length_level : (nodes : List Node) → length (map node_above (cuts 8 nodes)) ≡ (length nodes + 7) / 8
length_level nodes = length-map (cuts 8 nodes) node_above ∙ length-map-range_with_len (cut 8 nodes) 0 ((length nodes + 7) / 8)

-- a tree is the same where enough levels are allowed
enough : (m n : ℕ) (nodes : List Node) → length nodes ≤ m → length nodes ≤ n → root_within m nodes ≡ root_within n nodes
enough zero zero nodes a b = refl
enough zero (suc n) [] a b = refl
enough zero (suc n) (x ∷ xs) a b = absurd (omega arith)
enough (suc m) zero [] a b = refl
enough (suc m) zero (x ∷ xs) a b = absurd (omega arith)
enough (suc m) (suc n) [] a b = refl
enough (suc m) (suc n) (x ∷ []) a b = refl
enough (suc m) (suc n) (x ∷ y ∷ ys) a b =
    let long = length_level (x ∷ y ∷ ys) in
    enough m n (map node_above (cuts 8 (x ∷ y ∷ ys))) (omega arith) (omega arith)

pub tree_above : (nodes : List Node) → 1 < length nodes → tree (map node_above (cuts 8 nodes)) ≡ tree nodes
tree_above [] many = absurd (omega arith)
tree_above (x ∷ []) many = absurd (omega arith)
tree_above (x ∷ y ∷ ys) many =
    let long = length_level (x ∷ y ∷ ys) in
    let above : List Node = map node_above (cuts 8 (x ∷ y ∷ ys)) in
    enough (length above) (suc (length ys)) above (omega arith) (omega arith)

pub tree_of_none : (nodes : List Node) → length nodes ≡ 0 → tree nodes ≡ []
tree_of_none [] none = refl
tree_of_none (x ∷ xs) some = absurd (omega arith)

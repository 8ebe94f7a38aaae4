-- The levels of a tree up to its root: nodes over good ones are good, and the root has the leaves of all.
use Rattle.std.proofs.Common.{◌≡◌, ℕ, zero, suc, ◌+◌, ◌*◌, ◌/◌, ◌<◌, ◌≤◌, List, [], ◌∷◌, ◌++◌, length, map, drop, None, refl, sym, ap, ◌∙◌, arith}
use Rattle.std.specs.Prelude.{flat_map}
use Rattle.std.specs.List.{AllByRecursion, range_with_len}
use Rattle.std.proofs.lemmas.List.{length-map, length-take, length-drop}
use Rattle.live_model.specs.declared.points.Rect.{Rect}
use Rattle.file_grammar.specs.declared.parts.Part.TheVariants.{Tree}
use Rattle.boxed_write.specs.Packed.{Node, cut, cuts, node_above, tree}
use Rattle.boxed_write.proofs.Cuts.{cut_map, all_cut}
use Rattle.boxed_write.proofs.Levels.{tree_above}
use Rattle.boxed_laws.proofs.KeptItems.{cuts_of_eight}
use Rattle.boxed_laws.specs.Bare.{bytes_of, AreFormed}
use Rattle.boxed_laws.specs.Classes.{IsBox}
use Rattle.boxed_laws.proofs.BoxesAround.{around_box}
use Rattle.boxed_laws.proofs.BareTrees.{Built, boxes_of, built_above, packed_node, above_is, Stands, StandAll, above_stands, IsFormed, above_formed}

-- ---- cuts

-- a part of a list: not empty, no longer than the size, and of items that are so
pub record IsPart {A : Type 0} (size : ℕ) (P : A → Type 0) (part : List A) : Type 0 where
  pub some : 0 < length part
  pub most : length part ≤ size
  pub all : AllByRecursion P part

module _ {A : Type 0} (size : ℕ) (P : A → Type 0) (xs : List A) where
  cut_part : (place : ℕ) → 0 < size → size * place < length xs → AllByRecursion P xs → IsPart size P (cut size xs place)
  cut_part place some inside all =
      let taken = length-take size (drop (size * place) xs) in
      let left = length-drop (size * place) xs in
      record { some = omega arith; most = omega arith; all = all_cut P size place xs all }

  pub cuts_are_parts : (n from : ℕ) → 0 < size → ((k : ℕ) → k < from + n → size * k < length xs) → AllByRecursion P xs → AllByRecursion (IsPart size P) (map (cut size xs) (range_with_len from n))
  cuts_are_parts zero from some inside all = tt
  cuts_are_parts (suc n) from some inside all =
      (cut_part from some (inside from (omega arith)) all, cuts_are_parts n (from + 1) some (λ k below. inside k (omega arith)) all)

module _ {A B : Type 0} (f : A → B) (P : B → Type 0) where
  pub all_mapped : (xs : List A) → AllByRecursion (λ x. P (f x)) xs → AllByRecursion P (map f xs)
  all_mapped [] all = tt
  all_mapped (x ∷ xs) all = (all.0, all_mapped xs all.1)

-- ---- a level

-- so many levels below it, in the grid, and right wherever it stands
pub record IsGood (height : ℕ) (n : Built) : Type 0 where
  pub box : IsBox n.box
  pub formed : IsFormed height n
  pub stands : (at : ℕ) → Stands n at

module _ (height : ℕ) where
  good_boxes : (ns : List Built) → AllByRecursion (IsGood height) ns → AllByRecursion IsBox (boxes_of ns)
  good_boxes [] all = tt
  good_boxes (n ∷ ns) all = (all.0.box, good_boxes ns all.1)

  good_formed : (ns : List Built) → AllByRecursion (IsGood height) ns → AllByRecursion (IsFormed height) ns
  good_formed [] all = tt
  good_formed (n ∷ ns) all = (all.0.formed, good_formed ns all.1)

  good_stand : (ns : List Built) → AllByRecursion (IsGood height) ns → StandAll ns
  good_stand [] all = tt
  good_stand (n ∷ ns) all = (all.0.stands, good_stand ns all.1)

  above_good : (ns : List Built) → IsPart 8 (IsGood height) ns → IsGood (suc height) (built_above ns)
  above_good ns part =
      let box = around_box (boxes_of ns) (good_boxes ns part.all) in record {
        box = box;
        formed = above_formed height ns part.some box (good_formed ns part.all);
        stands = λ at. above_stands ns at part.most box (good_stand ns part.all);
      }

  above_each : (parts : List (List Built)) → AllByRecursion (IsPart 8 (IsGood height)) parts → AllByRecursion (IsGood (suc height)) (map built_above parts)
  above_each [] all = tt
  above_each (part ∷ parts) all = (above_good part all.0, above_each parts all.1)

-- the nodes above some others
abbrev level : List Built → List Built
level ns = map built_above (cuts 8 ns)

level_good : (height : ℕ) (ns : List Built) → AllByRecursion (IsGood height) ns → AllByRecursion (IsGood (suc height)) (level ns)
level_good height ns all = above_each height (cuts 8 ns) (cuts_are_parts 8 (IsGood height) ns ((length ns + 7) / 8) 0 (omega arith) (λ k below. omega arith) all)

level_leaves : (ns : List Built) → flat_map (λ n. n.leaves) (level ns) ≡ flat_map (λ n. n.leaves) ns
level_leaves ns = over (cuts 8 ns) ∙ cuts_of_eight (λ (n : Built). n.leaves) ns
  where
    over : (parts : List (List Built)) → flat_map (λ n. n.leaves) (map built_above parts) ≡ flat_map (λ part. flat_map (λ n. n.leaves) part) parts
    over [] = refl
    over (part ∷ parts) = ap (λ (ls : List (Rect × ℕ)). flat_map (λ n. n.leaves) part ++ ls) (over parts)

level_length : (ns : List Built) → length (level ns) ≡ (length ns + 7) / 8
level_length ns = length-map (cuts 8 ns) built_above ∙ length-map (range_with_len 0 ((length ns + 7) / 8)) (cut 8 ns) ∙ long 0 ((length ns + 7) / 8)
  where
    long : (from n : ℕ) → length (range_with_len from n) ≡ n
    long from zero = refl
    long from (suc n) = ap suc (long (from + 1) n)

level_packed : (ns : List Built) → map packed_node (level ns) ≡ map node_above (cuts 8 (map packed_node ns))
level_packed ns =
    each (range_with_len 0 ((length ns + 7) / 8))
    ∙ ap (λ (n : ℕ). map node_above (map (cut 8 (map packed_node ns)) (range_with_len 0 ((n + 7) / 8)))) (sym (length-map ns packed_node))
  where
    each : (places : List ℕ) → map packed_node (map built_above (map (cut 8 ns) places)) ≡ map node_above (map (cut 8 (map packed_node ns)) places)
    each [] = refl
    each (p ∷ ps) =
        ap (λ (node : Node). node ∷ map packed_node (map built_above (map (cut 8 ns) ps))) (above_is (cut 8 ns p) ∙ ap node_above (sym (cut_map packed_node 8 p ns)))
        ∙ ap (λ (nodes : List Node). node_above (cut 8 (map packed_node ns) p) ∷ nodes) (each ps)

-- ---- the root

-- the root over some nodes
pub record HasRoot (ns : List Built) : Type 0 where
  pub root : Built
  pub formed : AreFormed Tree None root.bare
  pub stands : (at : ℕ) → Stands root at
  pub leaves : root.leaves ≡ flat_map (λ n. n.leaves) ns
  pub packed : bytes_of root.bare ≡ tree (map packed_node ns)

-- eight times eight, so many times
abbrev pub eights : ℕ → ℕ
eights zero = 1
eights (suc n) = 8 * eights n

one_root : (height : ℕ) (n : Built) → height ≤ 23 → IsGood height n → HasRoot (n ∷ [])
one_root height n low good = record { root = n; formed = good.formed.as_root low; stands = good.stands; leaves = sym (none_behind n.leaves); packed = refl }
  where
    none_behind : (ls : List (Rect × ℕ)) → ls ++ [] ≡ ls
    none_behind [] = refl
    none_behind (l ∷ ls) = ap (λ (t : List (Rect × ℕ)). l ∷ t) (none_behind ls)

lower_root : (ns : List Built) → 1 < length ns → HasRoot (level ns) → HasRoot ns
lower_root ns many r =
    let long : length (map packed_node ns) ≡ length ns = length-map ns packed_node in record {
      root = r.root;
      formed = r.formed;
      stands = r.stands;
      leaves = r.leaves ∙ level_leaves ns;
      packed = r.packed ∙ ap tree (level_packed ns) ∙ tree_above (map packed_node ns) (omega arith);
    }

pub has_root : (more height : ℕ) (ns : List Built) → 0 < length ns → length ns ≤ eights more → height + more ≤ 23 → AllByRecursion (IsGood height) ns → HasRoot ns
has_root zero height [] some few low all = absurd (omega arith)
has_root zero height (n ∷ []) some few low all = one_root height n (omega arith) all.0
has_root zero height (n ∷ m ∷ ns) some few low all = absurd (omega arith)
has_root (suc more) height [] some few low all = absurd (omega arith)
has_root (suc more) height (n ∷ []) some few low all = one_root height n (omega arith) all.0
has_root (suc more) height (n ∷ m ∷ ns) some few low all =
    let long = level_length (n ∷ m ∷ ns) in
    lower_root (n ∷ m ∷ ns) (omega arith) (has_root more (suc height) (level (n ∷ m ∷ ns)) (omega arith) (omega arith) (omega arith) (level_good height (n ∷ m ∷ ns) all))

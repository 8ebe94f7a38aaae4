-- The leaves and the bytes of blocks, one block after another.
use Rattle.std.proofs.Common.{◌≡◌, ℕ, ◌+◌, List, [], ◌∷◌, ◌++◌, length, map, sym, ap, subst, ◌∙◌, arith, append_assoc, length-append}
use Rattle.std.specs.Prelude.{flat_map}
use Rattle.std.specs.List.{AllByRecursion, range_with_len}
use Rattle.std.proofs.lemmas.List.{append-nil}
use Rattle.obf_wire.specs.Fields.{section}
use Rattle.box_tree.specs.Trees.{around}
use Rattle.boxed_write.specs.Packed.{Packing, Node, cut, cuts, leaf, leaves_from, block, sorted_by, tree, packed, packing_cmp}
use Rattle.boxed_write.specs.Classes.{Placed, IsPlaced, items_of, boxes_of}
use Rattle.live_model.specs.declared.points.Rect.{Rect}
use Rattle.boxed_write.proofs.Cuts.{cuts_more, cut_map, all_cut}
use Rattle.boxed_write.proofs.Steps.{boxes_are}

module _ {A : Type 0} (packing : Packing A) where
  -- the bytes of one more block
  pub bytes_more : (bs : List (List A)) (b : List A) → flat_map (block packing) (bs ++ b ∷ []) ≡ flat_map (block packing) bs ++ block packing b
  bytes_more [] b = append-nil (block packing b)
  bytes_more (x ∷ xs) b = ap (λ (bytes : List ℕ). block packing x ++ bytes) (bytes_more xs b) ∙ sym (append_assoc (block packing x) (flat_map (block packing) xs) (block packing b))

  -- the leaf of one more block
  pub leaves_more : (place : ℕ) (bs : List (List A)) (b : List A) → leaves_from packing place (bs ++ b ∷ []) ≡ leaves_from packing place bs ++ leaf (place + length (flat_map (block packing) bs)) (around (map packing.box b)) ∷ []
  leaves_more place [] b =
      let e : place ≡ place + 0 = omega arith in
      ap (λ (n : ℕ). leaf n (around (map packing.box b)) ∷ []) e
  leaves_more place (x ∷ xs) b =
      let e : (place + length (block packing x)) + length (flat_map (block packing) xs) ≡ place + length (block packing x ++ flat_map (block packing) xs) =
      omega (arith, length-append (block packing x) (flat_map (block packing) xs)) in
      ap (λ (ns : List Node). leaf place (around (map packing.box x)) ∷ ns)
      (leaves_more (place + length (block packing x)) xs b
      ∙ ap (λ (n : ℕ). leaves_from packing (place + length (block packing x)) xs ++ leaf n (around (map packing.box b)) ∷ []) e)

-- the leaf of a block whose records were put in order
pub leaf_of_placed : {A : Type 0} (packing : Packing A) (out : List ℕ) (offset : ℕ) (rect : Rect) (found held : List (Placed A)) (sorted : List A) → offset ≡ length out → rect ≡ around (boxes_of held) → held ≡ found → AllByRecursion (IsPlaced packing) found → items_of found ≡ sorted
    → leaf offset rect ≡ leaf (length out) (around (map packing.box sorted))
leaf_of_placed {A} packing out offset rect found held sorted at box same placed is =
    ap (λ (n : ℕ). leaf n rect) at
    ∙ ap (leaf (length out))
    (box ∙ ap (λ (ps : List (Placed A)). around (boxes_of ps)) same ∙ ap around (boxes_are packing found placed) ∙ ap (λ (ms : List A). around (map packing.box ms)) is)

pub placed_cut : {A : Type 0} (P : A → Type 0) (size place : ℕ) (order : List (Placed A)) → AllByRecursion P (items_of order) → AllByRecursion P (items_of (cut size order place))
placed_cut {A} P size place order all = subst (AllByRecursion P) (cut_map (λ (r : Placed A). r.2.now) size place order) (all_cut P size place (items_of order) all)

module _ {A : Type 0} (packing : Packing A) (order : List (Placed A)) (place : ℕ) where
  abbrev pub blocks_before : ℕ → List (List A)
  blocks_before n = map (sorted_by packing.cmp) (map (cut 64 (items_of order)) (range_with_len 0 n))

  next_is : (found : List (Placed A)) → found ≡ cut 64 order place → sorted_by packing.cmp (items_of found) ≡ sorted_by packing.cmp (cut 64 (items_of order) place)
  next_is found is = ap (λ (rs : List (Placed A)). sorted_by packing.cmp (items_of rs)) is ∙ ap (sorted_by packing.cmp) (sym (cut_map (λ (r : Placed A). r.2.now) 64 place order))

  pub leaves_on : (start out0 : List ℕ) (leaves0 leaves1 : List Node) (node : Node) (found : List (Placed A)) → found ≡ cut 64 order place → leaves0 ≡ leaves_from packing (length start) (blocks_before place) → out0 ≡ start ++ flat_map (block packing) (blocks_before place) → leaves1 ≡ leaves0 ++ node ∷ [] → node ≡ leaf (length out0) (around (map packing.box (sorted_by packing.cmp (items_of found)))) → leaves1 ≡ leaves_from packing (length start) (blocks_before (place + 1))
  leaves_on start out0 leaves0 leaves1 node found is done bytes pushed is_leaf =
      let next : List A = sorted_by packing.cmp (cut 64 (items_of order) place) in
      let place_is : length out0 ≡ length start + length (flat_map (block packing) (blocks_before place)) = ap length bytes ∙ length-append start (flat_map (block packing) (blocks_before place)) in
      pushed ∙ ap (λ (nodes : List Node). nodes ++ node ∷ []) done
      ∙ ap (λ (n : Node). leaves_from packing (length start) (blocks_before place) ++ n ∷ [])
      (is_leaf ∙ ap (λ (ms : List A). leaf (length out0) (around (map packing.box ms))) (next_is found is) ∙ ap (λ (n : ℕ). leaf n (around (map packing.box next))) place_is)
      ∙ sym (leaves_more packing (length start) (blocks_before place) next)
      ∙ ap (leaves_from packing (length start)) (sym (cuts_more (sorted_by packing.cmp) 64 place (items_of order)))

  pub bytes_on : (start out0 out1 : List ℕ) (found : List (Placed A)) → found ≡ cut 64 order place → out0 ≡ start ++ flat_map (block packing) (blocks_before place) → out1 ≡ out0 ++ block packing (sorted_by packing.cmp (items_of found)) → out1 ≡ start ++ flat_map (block packing) (blocks_before (place + 1))
  bytes_on start out0 out1 found is bytes put =
      let next : List A = sorted_by packing.cmp (cut 64 (items_of order) place) in
      put ∙ ap (λ (bs : List ℕ). bs ++ block packing (sorted_by packing.cmp (items_of found))) bytes
      ∙ ap (λ (ms : List A). (start ++ flat_map (block packing) (blocks_before place)) ++ block packing ms) (next_is found is)
      ∙ append_assoc start (flat_map (block packing) (blocks_before place)) (block packing next)
      ∙ ap (λ (bs : List ℕ). start ++ bs) (sym (bytes_more packing (blocks_before place) next))
      ∙ ap (λ (bs : List (List A)). start ++ flat_map (block packing) bs) (sym (cuts_more (sorted_by packing.cmp) 64 place (items_of order)))

pub whole_section : {A : Type 0} (packing : Packing A) (records : List A) (order : List (Placed A)) (none blocks front root : List ℕ) (leaves : List Node) → items_of order ≡ sorted_by (packing_cmp packing) records → none ≡ []
    → leaves ≡ leaves_from packing (length none) (map (sorted_by packing.cmp) (cuts 64 (items_of order))) → blocks ≡ none ++ flat_map (block packing) (map (sorted_by packing.cmp) (cuts 64 (items_of order))) → root ≡ tree leaves → front ≡ section 1 root → front ++ blocks ≡ packed packing records
unfolding packed
whole_section {A} packing records order none blocks front root leaves is empty leaves_are bytes_are tree_is front_is =
    let all : List (List A) = map (sorted_by packing.cmp) (cuts 64 (sorted_by (packing_cmp packing) records)) in
    let l : leaves ≡ leaves_from packing 0 all =
    leaves_are ∙ ap (λ (before : List ℕ). leaves_from packing (length before) (map (sorted_by packing.cmp) (cuts 64 (items_of order)))) empty ∙ ap (λ (ms : List A). leaves_from packing 0 (map (sorted_by packing.cmp) (cuts 64 ms))) is in
    let b : blocks ≡ flat_map (block packing) all =
    bytes_are ∙ ap (λ (before : List ℕ). before ++ flat_map (block packing) (map (sorted_by packing.cmp) (cuts 64 (items_of order)))) empty ∙ ap (λ (ms : List A). flat_map (block packing) (map (sorted_by packing.cmp) (cuts 64 ms))) is in
    let f : front ≡ section 1 (tree (leaves_from packing 0 all)) = front_is ∙ ap (section 1) (tree_is ∙ ap tree l) in
    ap (λ (bs : List ℕ). bs ++ blocks) f ∙ ap (λ (bs : List ℕ). section 1 (tree (leaves_from packing 0 all)) ++ bs) b

-- What is packed of records that suit the rules is a section of these records, and every rule holds of it.
use Rattle.std.proofs.Common.{◌≡◌, ℕ, suc, ◌+◌, ◌*◌, ◌/◌, ◌^◌, ◌<◌, ◌≤◌, true, List, [], ◌∷◌, ◌++◌, length, map, None, Some, refl, sym, ap, ◌∙◌, arith}
use Rattle.std.specs.Prelude.{flat_map, nat_le, IsUtf8}
use Rattle.std.specs.List.{AllByRecursion, list_all, Contains}
use Rattle.std.specs.Int.{w64, to_be_bytes}
use Rattle.std.proofs.lemmas.Bool.{and_from, le-leb, eq-eqb}
use Rattle.std.proofs.lemmas.List.{length-append}
use Rattle.std.proofs.lemmas.List.Sorted.{length_permutation}
use Rattle.std.proofs.lemmas.List.Elements.{Contains-append_right}
use Rattle.live_model.specs.declared.points.Rect.{Rect}
use Rattle.live_model.specs.declared.rules.Rule.{Rule}
use Rattle.obf_wire.specs.Varint as X
use Rattle.obf_wire.specs.Varint.{varint}
use Rattle.obf_wire.specs.Fields.{Window, IsWindow, left_of, content, section}
use Rattle.coord_delta.proofs.NumberLists.{length-range}
use Rattle.box_tree.specs.Trees.{around}
use Rattle.file_grammar.specs.declared.parts.Part.TheVariants.{Boxes, Tree}
use Rattle.file_grammar.specs.Messages.{inside, beyond}
use Rattle.file_grammar.specs.Facts.{AllHold}
use Rattle.file_grammar.specs.Sections.{Block, Leaf, texts_in, messages_in, entries_from, blocks_in, nodes_in, leaves_in, section_in}
use Rattle.file_grammar.specs.BoxRules.{holds_place, leaf_facts, paired_facts, first_place, points_in, block_facts, node_facts, section_facts}
use Rattle.boxed_write.specs.Classes.{IsPackedBy, IsNamedIn}
use Rattle.boxed_write.specs.Packed.{block, blocks_of, leaf, leaves_from, tree, texts_of, packing_cmp, sorted_by, cuts, packed}
use Rattle.boxed_write.proofs.Sorting.{AreUp, all_moved, all_more}
use Rattle.boxed_write.proofs.UsedTexts.{all_named}
use Rattle.boxed_laws.specs.Bare.{Bare, no_more, a_message, bytes_of, stood, AreFormed}
use Rattle.boxed_laws.specs.Classes.{BoxedClass, IsLawful, StandsIn, HasNumber, IsBox, without_marks}
use Rattle.file_grammar.specs.Listed.{block_records}
use Rattle.boxed_laws.specs.Laws.{IsSection, PackedLaw}
use Rattle.boxed_laws.proofs.BareFields.{spelled, formed}
use Rattle.boxed_laws.proofs.KeptItems.{moved_sorted, up_in_order}
use Rattle.boxed_laws.proofs.BareBlocks.{bare_records, bare_texts, bare_block, bare_blocks, block_bytes, blocks_bytes, IsBlockFormed, blocks_formed}
use Rattle.boxed_laws.proofs.BlockTexts.{all_join, texts_good, texts_rising, texts_few, numbered, texts_again, texts_hold}
use Rattle.boxed_laws.proofs.BlockRecords.{records_hold, records_again, points_contained, entries_length}
use Rattle.boxed_laws.proofs.BoxesAround.{around_each, around_box}
use Rattle.boxed_laws.proofs.BareTrees.{Built, built_leaf, packed_node, leaf_is, pair_in, leaf_stands, leaf_formed}
use Rattle.boxed_laws.proofs.BareLevels.{IsPart, cuts_are_parts, IsGood, HasRoot, has_root}

-- ---- the tree

-- a tree over some leaves, empty where there are none
record HasTree (ns : List Built) : Type 0 where
  top : Bare
  form : AreFormed Tree None top
  facts : (at : ℕ) → AllHold (flat_map node_facts (nodes_in (stood at top)))
  leaves : (at : ℕ) → map pair_in (leaves_in (nodes_in (stood at top))) ≡ flat_map (λ n. n.leaves) ns
  bytes : bytes_of top ≡ tree (map packed_node ns)

root_tree : (ns : List Built) → HasRoot ns → HasTree ns
root_tree ns r = record {
  top = r.root.bare;
  form = r.formed;
  facts = λ at. (r.stands at).facts;
  leaves = λ at. (r.stands at).leaves ∙ r.leaves;
  bytes = r.packed;
}

has_tree : (ns : List Built) → length ns < 2 ^ 64 → AllByRecursion (IsGood 0) ns → HasTree ns
has_tree [] few all = record { top = no_more; form = refl; facts = λ at. tt; leaves = λ at. refl; bytes = refl }
has_tree (n ∷ ns) few all = root_tree (n ∷ ns) (has_root 22 0 (n ∷ ns) (omega arith) (omega arith) (omega arith) all)

-- ---- numbers of texts

-- each text of a record that is among these has its number
all_numbered : (all texts : List (List ℕ)) (among : (text : List ℕ) → Contains texts text → HasNumber all text) → AllByRecursion (HasNumber all) texts
all_numbered all [] among = tt
all_numbered all (t ∷ ts) among = (among t (0, omega arith, refl), all_numbered all ts (λ text found. among text (Contains-append_right (t ∷ []) ts text found)))

-- ---- sections

some_key : 0 < length (varint 22)
unfolding varint X.groups
some_key = omega arith

window_length : (w : Window) → IsWindow w → length (left_of w) ≤ length w.bytes
window_length w window = let e = length-range w.bytes w.place w.end window.ordered window.within in omega (arith, window.within)

module _ {A : Type 0} (c : BoxedClass A) (suits : List Rule → A → Type 0) (laws : IsLawful c suits) where
  -- ---- blocks as they are packed

  -- 1 to 64 records in order that suit the rules
  record IsPackedBlock (rules : List Rule) (b : List A) : Type 0 where
    some : 0 < length b
    few : length b ≤ 64
    up : AreUp c.packing.cmp b
    suit : AllByRecursion (suits rules) b

  module _ {fits : A → Type 0} (packs : IsPackedBy c.packing fits) (rules : List Rule) where
    sort_part : (part : List A) → IsPart 64 (suits rules) part → IsPackedBlock rules (sorted_by c.packing.cmp part)
    sort_part part p =
        let moved = moved_sorted c.packing.cmp part in
        let same = length_permutation part (sorted_by c.packing.cmp part) moved in record {
          some = omega (arith, p.some);
          few = omega (arith, p.most);
          up = up_in_order c.packing.cmp packs.total part;
          suit = all_moved (suits rules) part (sorted_by c.packing.cmp part) moved p.all;
        }

    sort_parts : (parts : List (List A)) → AllByRecursion (IsPart 64 (suits rules)) parts → AllByRecursion (IsPackedBlock rules) (map (sorted_by c.packing.cmp) parts)
    sort_parts [] all = tt
    sort_parts (part ∷ parts) all = (sort_part part all.0, sort_parts parts all.1)

    blocks_packed : (records : List A) → AllByRecursion (suits rules) records → AllByRecursion (IsPackedBlock rules) (blocks_of c.packing records)
    blocks_packed records suit =
        let order : List A = sorted_by (packing_cmp c.packing) records in
        sort_parts (cuts 64 order)
        (cuts_are_parts 64 (suits rules) order ((length order + 63) / 64) 0 (omega arith) (λ k below. omega arith) (all_moved (suits rules) records order (moved_sorted (packing_cmp c.packing) records) suit))

  -- ---- the records of one block

  module _ (rules : List Rule) where
    all_utf8 : (ms : List A) → AllByRecursion (suits rules) ms → AllByRecursion (λ r. AllByRecursion IsUtf8 (c.packing.texts r)) ms
    all_utf8 ms suit = all_more (suits rules) (λ r. AllByRecursion IsUtf8 (c.packing.texts r)) ms (λ r good. laws.utf8 rules r good) suit

    stand_all : (b ms : List A) → AllByRecursion (suits rules) ms → AllByRecursion (IsNamedIn c.packing (texts_of c.packing b)) ms → AllByRecursion (StandsIn c suits rules (texts_of c.packing b)) ms
    stand_all b [] suit named = tt
    stand_all b (m ∷ ms) suit named = (
      record {
        suits_rules = suit.0;
        named = all_numbered (texts_of c.packing b) (c.packing.texts m) (λ text found. numbered (texts_of c.packing b) text (texts_rising c.packing b) (named.0 text found));
      },
      stand_all b ms suit.1 named.1,
    )

    block_stands : (b : List A) → IsPackedBlock rules b → AllByRecursion (StandsIn c suits rules (texts_of c.packing b)) b
    block_stands b p = stand_all b b p.suit (all_named c.packing b)

    block_formed : (b : List A) → IsPackedBlock rules b → IsBlockFormed c suits laws rules b
    block_formed b p =
        let texts = texts_few c.packing (2 ^ 32) laws.few b in
        let many : length b * 2 ^ 32 ≤ 64 * 2 ^ 32 = omega (arith, p.few) in
        record { short = omega arith; stands = block_stands b p }

    all_formed : (bs : List (List A)) → AllByRecursion (IsPackedBlock rules) bs → AllByRecursion (IsBlockFormed c suits laws rules) bs
    all_formed [] all = tt
    all_formed (b ∷ bs) all = (block_formed b all.0, all_formed bs all.1)

  -- ---- where blocks stand

  -- the offset of the payload of a block, and the offset after the block
  abbrev payload_at : ℕ → List A → ℕ
  payload_at at b = inside at 22 (length (bytes_of (bare_block c (texts_of c.packing b) b)))

  abbrev behind_at : ℕ → List A → ℕ
  behind_at at b = beyond at 22 (length (bytes_of (bare_block c (texts_of c.packing b) b)))

  -- the offsets of its texts and of its records
  abbrev texts_at : ℕ → List A → ℕ
  texts_at at b = inside (payload_at at b) 14 (length (bytes_of (bare_texts (texts_of c.packing b))))

  abbrev records_at : ℕ → List A → ℕ
  records_at at b = beyond (payload_at at b) 14 (length (bytes_of (bare_texts (texts_of c.packing b))))

  -- the block as it is read
  abbrev the_block : ℕ → List A → Block
  the_block at b = record {
    at = at;
    texts = texts_in (stood (texts_at at b) (bare_texts (texts_of c.packing b)));
    entries = entries_from 0 (messages_in (stood (records_at at b) (bare_records c (texts_of c.packing b) 0 b)));
  }

  -- the blocks as they are read
  abbrev the_blocks : ℕ → List (List A) → List Block
  the_blocks at bs = blocks_in (messages_in (stood at (bare_blocks c bs)))

  module _ (rules : List Rule) where
    block_holds : (at : ℕ) (b : List A) → IsPackedBlock rules b → AllHold (block_facts c.boxing (without_marks rules) (the_block at b))
    block_holds at b p =
        let texts : List (List ℕ) = texts_of c.packing b in
        let long = entries_length c suits laws texts b 0 0 (records_at at b) in
        let n : ℕ = length (the_block at b).entries in (
          and_from (nat_le 1 n) (nat_le n 64) (le-leb 1 n (omega (arith, p.some))) (le-leb n 64 (omega (arith, p.few))),
          all_join (λ f. f.holds ≡ true) _ _ (texts_hold (texts_at at b) texts (texts_rising c.packing b) (texts_good c.packing b (all_utf8 rules b p.suit)))
              (records_hold c suits laws rules texts (the_block at b) (texts_again (texts_of c.packing b) (texts_at at b)) b (records_at at b) p.up (block_stands rules b p)),
        )

    blocks_hold : (bs : List (List A)) (at : ℕ) → AllByRecursion (IsPackedBlock rules) bs → AllHold (flat_map (block_facts c.boxing (without_marks rules)) (the_blocks at bs))
    blocks_hold [] at all = tt
    blocks_hold (b ∷ bs) at all = all_join (λ f. f.holds ≡ true) (block_facts c.boxing (without_marks rules) (the_block at b)) _ (block_holds at b all.0) (blocks_hold bs (behind_at at b) all.1)

    -- ---- their records

    least_all : (b : List A) → AllByRecursion (λ r. 0 ≤ c.packing.ordinal r) b
    least_all [] = tt
    least_all (r ∷ rs) = (omega arith, least_all rs)

    block_again : (at : ℕ) (b : List A) → IsPackedBlock rules b → block_records c.reads (the_block at b) ≡ b
    block_again at b p =
        records_again c suits laws rules (texts_of c.packing b) (the_block at b) (texts_again (texts_of c.packing b) (texts_at at b)) b 0 0 (records_at at b) refl (least_all b) p.up (block_stands rules b p)

    blocks_again : (bs : List (List A)) (at : ℕ) → AllByRecursion (IsPackedBlock rules) bs → flat_map (block_records c.reads) (the_blocks at bs) ≡ flat_map (λ block. block) bs
    blocks_again [] at all = refl
    blocks_again (b ∷ bs) at all =
        ap (λ (ms : List A). ms ++ flat_map (block_records c.reads) (the_blocks (behind_at at b) bs)) (block_again at b all.0)
        ∙ ap (λ (ms : List A). b ++ ms) (blocks_again bs (behind_at at b) all.1)

  -- ---- how long they are

  block_length : (b : List A) → length (block c.packing b) ≡ length (varint 22 ++ content 22 (length (bytes_of (bare_block c (texts_of c.packing b) b)))) + length (bytes_of (bare_block c (texts_of c.packing b) b))
  block_length b =
      let payload : List ℕ = bytes_of (bare_block c (texts_of c.packing b) b) in
      ap length (sym (block_bytes c suits laws b)) ∙ length-append (varint 22 ++ to_be_bytes w64 (length payload)) payload

  some_bytes : (b : List A) → 0 < length (block c.packing b)
  some_bytes b =
      let n : ℕ = length (bytes_of (bare_block c (texts_of c.packing b) b)) in
      let long = block_length b in
      let key = length-append (varint 22) (content 22 n) in
      let some = some_key in
      omega arith

  behind_is : (at : ℕ) (b : List A) → behind_at at b ≡ at + length (block c.packing b)
  behind_is at b = let long = block_length b in omega arith

  blocks_length : (b : List A) (bs : List (List A)) → length (flat_map (block c.packing) (b ∷ bs)) ≡ length (block c.packing b) + length (flat_map (block c.packing) bs)
  blocks_length b bs = length-append (block c.packing b) (flat_map (block c.packing) bs)

  many_bytes : (bs : List (List A)) → length bs ≤ length (flat_map (block c.packing) bs)
  many_bytes [] = omega arith
  many_bytes (b ∷ bs) =
      let rest = many_bytes bs in
      let here = some_bytes b in
      let long = blocks_length b bs in
      omega arith

  -- ---- leaves

  abbrev box_around : List A → Rect
  box_around b = around (map c.packing.box b)

  -- the leaves over blocks
  abbrev built_from : ℕ → List (List A) → List Built
  built_from offset [] = []
  built_from offset (b ∷ bs) = built_leaf offset (box_around b) ∷ built_from (offset + length (block c.packing b)) bs

  -- their boxes and the offsets that they name
  abbrev pairs_from : ℕ → List (List A) → List (Rect × ℕ)
  pairs_from offset [] = []
  pairs_from offset (b ∷ bs) = (box_around b, offset) ∷ pairs_from (offset + length (block c.packing b)) bs

  built_packed : (bs : List (List A)) (offset : ℕ) → map packed_node (built_from offset bs) ≡ leaves_from c.packing offset bs
  built_packed [] offset = refl
  built_packed (b ∷ bs) offset =
      ap (λ (node : Rect × List ℕ). node ∷ map packed_node (built_from (offset + length (block c.packing b)) bs)) (leaf_is offset (box_around b))
      ∙ ap (λ (nodes : List (Rect × List ℕ)). leaf offset (box_around b) ∷ nodes) (built_packed bs (offset + length (block c.packing b)))

  built_pairs : (bs : List (List A)) (offset : ℕ) → flat_map (λ n. n.leaves) (built_from offset bs) ≡ pairs_from offset bs
  built_pairs [] offset = refl
  built_pairs (b ∷ bs) offset = ap (λ (ls : List (Rect × ℕ)). (box_around b, offset) ∷ ls) (built_pairs bs (offset + length (block c.packing b)))

  built_length : (bs : List (List A)) (offset : ℕ) → length (built_from offset bs) ≡ length bs
  built_length [] offset = refl
  built_length (b ∷ bs) offset = ap suc (built_length bs (offset + length (block c.packing b)))

  -- ---- leaves and blocks

  module _ (rules : List Rule) where
    grid_boxes : (b : List A) → AllByRecursion (suits rules) b → AllByRecursion IsBox (map c.packing.box b)
    grid_boxes [] suit = tt
    grid_boxes (m ∷ ms) suit = (laws.box rules m suit.0, grid_boxes ms suit.1)

    built_good : (bs : List (List A)) (offset : ℕ) → offset + length (flat_map (block c.packing) bs) < 2 ^ 64 → AllByRecursion (IsPackedBlock rules) bs → AllByRecursion (IsGood 0) (built_from offset bs)
    built_good [] offset short all = tt
    built_good (b ∷ bs) offset short all =
        let box = around_box (map c.packing.box b) (grid_boxes b all.0.suit) in
        let long = blocks_length b bs in (
          record { box = box; formed = leaf_formed offset (box_around b) box (omega arith); stands = λ at. leaf_stands offset (box_around b) at box },
          built_good bs (offset + length (block c.packing b)) (omega arith) all.1,
        )

    block_contained : (at : ℕ) (b : List A) → list_all (holds_place (box_around b)) (points_in c.boxing (without_marks rules) (the_block at b)) ≡ true
    block_contained at b = points_contained c suits laws (texts_of c.packing b) (box_around b) b 0 0 (records_at at b) (around_each (map c.packing.box b))

    one_paired : (first offset at : ℕ) (l : Leaf) (b : List A) → at ≡ first + offset → pair_in l ≡ (box_around b, offset) → AllHold (leaf_facts c.boxing (without_marks rules) first l (the_block at b))
    one_paired first offset at l b e same =
        let box : l.node.box ≡ box_around b = ap (λ (p : Rect × ℕ). p.0) same in
        let names : l.place.value ≡ offset = ap (λ (p : Rect × ℕ). p.1) same in (
          eq-eqb (first + l.place.value) at (omega arith),
          (ap (λ (r : Rect). list_all (holds_place r) (points_in c.boxing (without_marks rules) (the_block at b))) box ∙ block_contained at b, tt),
        )

    paired : (bs : List (List A)) (ls : List Leaf) (first offset at : ℕ) → at ≡ first + offset → map pair_in ls ≡ pairs_from offset bs → AllHold (paired_facts c.boxing (without_marks rules) first ls (the_blocks at bs))
    paired [] [] first offset at e same = tt
    paired [] (l ∷ ls) first offset at e same = absurd (cc)
    paired (b ∷ bs) [] first offset at e same = absurd (cc)
    paired (b ∷ bs) (l ∷ ls) first offset at e same =
        let here : pair_in l ≡ (box_around b, offset) = cc in
        let rest : map pair_in ls ≡ pairs_from (offset + length (block c.packing b)) bs = cc in
        let next = behind_is at b in
        all_join (λ f. f.holds ≡ true) (leaf_facts c.boxing (without_marks rules) first l (the_block at b)) _ (one_paired first offset at l b e here)
        (paired bs ls first (offset + length (block c.packing b)) (behind_at at b) (omega arith) rest)

    all_paired : (bs : List (List A)) (ls : List Leaf) (at : ℕ) → map pair_in ls ≡ pairs_from 0 bs → AllHold (paired_facts c.boxing (without_marks rules) (first_place c.boxing (without_marks rules) (the_blocks at bs)) ls (the_blocks at bs))
    all_paired [] ls at same = paired [] ls 0 0 0 refl same
    all_paired (b ∷ bs) ls at same = paired (b ∷ bs) ls at 0 at (omega arith) same

  -- ---- the section

  -- the fields of the section
  abbrev bare_section : Bare → List (List A) → Bare
  bare_section top bs = a_message 14 top (bare_blocks c bs)

  section_bytes : (bs : List (List A)) (t : HasTree (built_from 0 bs)) → bytes_of (bare_section t.top bs) ≡ section 1 (tree (leaves_from c.packing 0 bs)) ++ flat_map (block c.packing) bs
  section_bytes bs t =
      ap (λ (bytes : List ℕ). section 1 bytes ++ bytes_of (bare_blocks c bs)) (t.bytes ∙ ap tree (built_packed bs 0))
      ∙ ap (λ (bytes : List ℕ). section 1 (tree (leaves_from c.packing 0 bs)) ++ bytes) (blocks_bytes c suits laws bs)

  module _ (rules : List Rule) where
    section_formed : (bs : List (List A)) (t : HasTree (built_from 0 bs)) → length rules < 2 ^ 64 → AllByRecursion (IsPackedBlock rules) bs → AreFormed (Boxes c.class) None (bare_section t.top bs)
    section_formed bs t few all = (refl, t.form, blocks_formed c suits laws rules few (Some 14) bs refl refl (all_formed rules bs all))

    section_holds : (bs : List (List A)) (t : HasTree (built_from 0 bs)) (at : ℕ) → AllByRecursion (IsPackedBlock rules) bs → AllHold (section_facts c.boxing (without_marks rules) (section_in (stood at (bare_section t.top bs))))
    unfolding section_facts
    section_holds bs t at all =
        let tree_at : ℕ = inside at 14 (length (bytes_of t.top)) in
        let blocks_at : ℕ = beyond at 14 (length (bytes_of t.top)) in
        all_join (λ f. f.holds ≡ true) _ _
        (all_join (λ f. f.holds ≡ true) (flat_map node_facts (nodes_in (stood tree_at t.top))) _ (t.facts tree_at)
        (all_paired rules bs (leaves_in (nodes_in (stood tree_at t.top))) blocks_at (t.leaves tree_at ∙ built_pairs bs 0)))
        (blocks_hold rules bs blocks_at all)

    is_section : (bs : List (List A)) (w : Window) → length rules < 2 ^ 64 → AllByRecursion (IsPackedBlock rules) bs → HasTree (built_from 0 bs)
        → left_of w ≡ section 1 (tree (leaves_from c.packing 0 bs)) ++ flat_map (block c.packing) bs → IsSection c (without_marks rules) w (flat_map (λ block. block) bs)
    is_section bs w few all t bytes =
        let bare : Bare = bare_section t.top bs in record {
          fields = stood w.place bare;
          form = record {
            form = formed bare (Boxes c.class) None w.place (section_formed bs t few all);
            spelled = bytes ∙ sym (section_bytes bs t) ∙ sym (spelled w.place bare);
          };
          sound = section_holds bs t w.place all;
          records_are = sym (blocks_again rules bs (beyond w.place 14 (length (bytes_of t.top))) all);
        }

  pub packed_law : {fits : A → Type 0} → IsPackedBy c.packing fits → PackedLaw c suits
  unfolding packed
  packed_law packs rules records w few suit window memory bytes =
      let bs : List (List A) = blocks_of c.packing records in
      let all = blocks_packed packs rules records suit in
      let long = window_length w window in
      let size : length (left_of w) ≡ length (section 1 (tree (leaves_from c.packing 0 bs))) + length (flat_map (block c.packing) bs) =
      ap length bytes ∙ length-append (section 1 (tree (leaves_from c.packing 0 bs))) (flat_map (block c.packing) bs) in
      let many = many_bytes bs in
      let same = built_length bs 0 in
      is_section rules bs w few all (has_tree (built_from 0 bs) (omega arith) (built_good rules bs 0 (omega arith) all)) bytes

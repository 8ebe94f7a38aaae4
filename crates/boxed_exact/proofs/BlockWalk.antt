-- Blocks and the leaves that name them, one after another.
use Rattle.std.proofs.Common.{◌≡◌, ℕ, ◌+◌, Bool, false, List, [], ◌∷◌, ◌++◌, map, filter_map, flat_map, drop, Option, Some, None, Ok, refl, sym, ap, subst, ◌∙◌, append_assoc}
use Rattle.std.specs.Prelude.{◌==◌, slice_get}
use Rattle.std.specs.List.{list_all}
use Rattle.std.proofs.lemmas.List.{append-nil}
use Rattle.boxed_exact.specs.Boxes.{box_of}
use Rattle.obf_wire.specs.declared.field.Field.{Field}
use Rattle.obf_wire.specs.declared.file.FileBreak.{FileBreak}
use Rattle.obf_wire.specs.declared.file.FileKind.TheVariants.{BadBox, BadPlace}
use Rattle.file_grammar.specs.declared.parts.Boxed.{Boxed}
use Rattle.file_grammar.specs.declared.parts.Content.{Content}
use Rattle.file_grammar.specs.declared.parts.Content.TheVariants.{Message}
use Rattle.file_grammar.specs.declared.parts.Part.{Part}
use Rattle.file_grammar.specs.declared.parts.Part.TheVariants.{Block as BlockPart, Boxes, Tree}
use Rattle.file_grammar.specs.BoxRules.{Beside, Boxing, block_facts, first_place, holds_place, leaf_facts, node_facts, points_in, paired_facts, section_facts}
use Rattle.file_grammar.specs.Facts.{Fact, fact, earlier, failing, first_failing}
use Rattle.file_grammar.specs.Messages.{Fields, ends, has_number, has_bytes, has_numbers, has_message}
use Rattle.file_grammar.specs.Readings.{message_at, payload_of}
use Rattle.file_grammar.specs.Sections.{Block, Leaf, Placed, block_with, blocks_in, messages_in, leaves_in, nodes_in, section_in}
use Rattle.file_grammar.specs.Tables.{content_of}
use Rattle.file_grammar.specs.Walks.{IsNext, HoldsMessage, Standing, left_in}
use Rattle.file_grammar.proofs.Earlier.{and_before, and_last, and_more, and_one, earlier_joined, earlier_none, earlier_swap, first_joined}
use Rattle.boxed_exact.specs.declared.nodes.LeafSeen.{LeafSeen}
use Rattle.boxed_exact.specs.Pairs.{AreBlocks, IsPairChecked, leaf_of, pair_facts, place_or}
use Rattle.boxed_exact.specs.Nodes.{AreNodesChecked, shown}
use Rattle.boxed_exact.specs.declared.edges.Edges.{Edges}
use Rattle.boxed_exact.specs.Fields.{HoldsInner}
use Rattle.obf_wire.specs.Fields.{Window}
use Rattle.file_grammar.proofs.Shaped.{AreMessages, BeginsMessage, are_messages, begins_message, shaped}

-- ---- leaves without a block

abbrev pub unnamed : List LeafSeen → List Fact
unnamed leaves = map (λ leaf. fact leaf.place.at BadPlace false) leaves

pub unnamed_on : (start now new : Option FileBreak) (all leaves : List LeafSeen) (leaf : LeafSeen) → earlier start (first_failing (unnamed all)) ≡ earlier now (first_failing (unnamed leaves)) → slice_get leaves 0 ≡ Some leaf
    → new ≡ earlier now (failing (fact leaf.place.at BadPlace false)) → earlier start (first_failing (unnamed all)) ≡ earlier new (first_failing (unnamed (drop 1 leaves)))
unnamed_on start now new all [] leaf asked e n = absurd cc
unnamed_on start now new all (l ∷ leaves) leaf asked e n =
    let same : l ≡ leaf = cc in
    asked ∙ ap (λ (x : LeafSeen). earlier now (earlier (failing (fact x.place.at BadPlace false)) (first_failing (unnamed leaves)))) same
    ∙ sym (earlier_joined now (failing (fact leaf.place.at BadPlace false)) (first_failing (unnamed leaves))) ∙ ap (λ (x : Option FileBreak). earlier x (first_failing (unnamed leaves))) (sym n)

pub unnamed_all : (start now : Option FileBreak) (all leaves : List LeafSeen) → earlier start (first_failing (unnamed all)) ≡ earlier now (first_failing (unnamed leaves)) → slice_get leaves 0 ≡ None → now ≡ earlier start (first_failing (unnamed all))
unnamed_all start now all [] asked e = sym (asked ∙ earlier_none now)
unnamed_all start now all (l ∷ leaves) asked e = absurd cc

module _ (class : Boxed) (boxing : Boxing) where
  -- ---- one block

  pub pair_none : (beside : Beside) (at start : ℕ) (leaves : List LeafSeen) (fields : Fields) (old new : Option FileBreak) → slice_get leaves 0 ≡ None → IsPairChecked boxing beside at 0 [] fields old new → IsPairChecked boxing beside at start leaves fields old new
  pair_none beside at start [] fields old new e p = record { block = p.block; is = p.is; asked = p.asked }
  pair_none beside at start (leaf ∷ leaves) fields old new e p = absurd cc

  some_leaf : LeafSeen → Option LeafSeen
  some_leaf leaf = Some leaf

  pub pair_some : (beside : Beside) (at start : ℕ) (leaf : LeafSeen) (leaves : List LeafSeen) (fields : Fields) (old new : Option FileBreak) → slice_get leaves 0 ≡ Some leaf → IsPairChecked boxing beside at start (leaf ∷ []) fields old new
      → IsPairChecked boxing beside at start leaves fields old new
  pair_some beside at start leaf [] fields old new e p = absurd cc
  pair_some beside at start leaf (l ∷ leaves) fields old new e p =
      let same : leaf ≡ l = cc in
      subst (λ (x : LeafSeen). IsPairChecked boxing beside at start (x ∷ leaves) fields old new) same (record { block = p.block; is = p.is; asked = p.asked })

  pub without_leaf : (beside : Beside) (at : ℕ) (fields : Fields) (old mid new : Option FileBreak) (block : Block) → block_with at fields ≡ Some block → block.at ≡ at → mid ≡ earlier old (first_failing (block_facts boxing beside block))
      → new ≡ earlier mid (failing (fact at BadPlace false)) → IsPairChecked boxing beside at 0 [] fields old new
  without_leaf beside at fields old mid new block is here asked e =
      record {
        block = block;
        is = is;
        asked = and_before old mid new (fact block.at BadPlace false ∷ []) (block_facts boxing beside block) asked
            (and_last mid new (fact block.at BadPlace false) (e ∙ ap (λ (p : ℕ). earlier mid (failing (fact p BadPlace false))) (sym here)));
      }

  -- a block stands where its field does
  pub block_at : (at : ℕ) (fields : Fields) (block : Block) → block_with at fields ≡ Some block → block.at ≡ at
  block_at at ends block e = absurd cc
  block_at at (has_number p k v r) block e = absurd cc
  block_at at (has_bytes p k v r) block e = absurd cc
  block_at at (has_numbers p k v r) block e = absurd cc
  block_at at (has_message p k v r) block e =
      let f : Option Block → ℕ = λ o. elim o [ Some b ↦ b.at | None ↦ at ] in sym (ap f e)

  two_asked : (old mid one new : Option FileBreak) (a b : Fact) → one ≡ earlier mid (failing a) → new ≡ earlier one (failing b) → new ≡ earlier mid (first_failing (a ∷ b ∷ []))
  two_asked old mid one new a b ea eb = and_one mid one new a (b ∷ []) ea (and_last one new b eb)

  pub with_leaf : (beside : Beside) (at start : ℕ) (leaf : LeafSeen) (fields : Fields) (old mid one new : Option FileBreak) (block : Block) (names in_box : Bool) → block_with at fields ≡ Some block → block.at ≡ at
      → mid ≡ earlier old (first_failing (block_facts boxing beside block)) → one ≡ earlier mid (failing (fact leaf.place.at BadPlace names)) → new ≡ earlier one (failing (fact leaf.at BadBox in_box))
      → names ≡ (start + leaf.place.value == at) → in_box ≡ list_all (holds_place (box_of leaf.edges)) (points_in boxing beside block) → IsPairChecked boxing beside at start (leaf ∷ []) fields old new
  with_leaf beside at start leaf fields old mid one new block names in_box is here asked ea eb is_names is_in =
      let place : one ≡ earlier mid (failing (fact leaf.place.at BadPlace (start + leaf.place.value == block.at))) =
      ea ∙ ap (λ (b : Bool). earlier mid (failing (fact leaf.place.at BadPlace b))) (is_names ∙ ap (λ (p : ℕ). start + leaf.place.value == p) (sym here)) in
      let box : new ≡ earlier one (failing (fact leaf.at BadBox (list_all (holds_place (box_of leaf.edges)) (points_in boxing beside block)))) = eb ∙ ap (λ (b : Bool). earlier one (failing (fact leaf.at BadBox b))) is_in in
      record {
        block = block;
        is = is;
        asked = and_before old mid new (leaf_facts boxing beside start (leaf_of leaf) block) (block_facts boxing beside block) asked
            (two_asked old mid one new (fact leaf.place.at BadPlace (start + leaf.place.value == block.at)) (fact leaf.at BadBox (list_all (holds_place (box_of leaf.edges)) (points_in boxing beside block))) place box);
      }

  -- ---- blocks, one after another

  abbrev blocks_of : Fields → List Block
  blocks_of fields = blocks_in (messages_in fields)

  abbrev pub pairs_facts : Beside → ℕ → List LeafSeen → List Block → List Fact
  pairs_facts beside start leaves blocks = paired_facts boxing beside start (map leaf_of leaves) blocks

  abbrev all_blocks : Beside → List Block → List Fact
  all_blocks beside blocks = flat_map (block_facts boxing beside) blocks

  -- the first block stands there; before any was asked, none has been passed
  abbrev IsStart : Beside → Option ℕ → Fields → Fields → Type 0
  IsStart beside None all rest = all ≡ rest
  IsStart beside (Some place) all rest = first_place boxing beside (blocks_of all) ≡ place

  pub record BlocksLeft (beside : Beside) (all : Fields) (start now : Option FileBreak) (named leaves : List LeafSeen) (place : Option ℕ) (s : Standing) : Type 0 where
    pub rest : Fields
    pub left : left_in s ≡ Ok rest
    pub are : AreBlocks rest
    pub begins : IsStart beside place all rest
    pub asked : earlier start (first_failing (pairs_facts beside (first_place boxing beside (blocks_of all)) named (blocks_of all) ++ all_blocks beside (blocks_of all)))
        ≡ earlier now (first_failing (pairs_facts beside (first_place boxing beside (blocks_of all)) leaves (blocks_of rest) ++ all_blocks beside (blocks_of rest)))

  pub blocks_begin : (beside : Beside) (all : Fields) (start : Option FileBreak) (leaves : List LeafSeen) (s : Standing) → left_in s ≡ Ok all → AreBlocks all → BlocksLeft beside all start start leaves leaves None s
  blocks_begin beside all start leaves s left are = record { rest = all; left = left; are = are; begins = refl; asked = refl }

  pair_first : (beside : Beside) (start : ℕ) (leaves : List LeafSeen) (block : Block) (blocks : List Block) → pairs_facts beside start leaves (block ∷ blocks) ≡ pair_facts boxing beside start leaves block ++ pairs_facts beside start (drop 1 leaves) blocks
  pair_first beside start [] block [] = refl
  pair_first beside start [] block (b ∷ blocks) = refl
  pair_first beside start (leaf ∷ leaves) block blocks = refl

  crossed : (a b c d : Option FileBreak) → earlier (earlier a b) (earlier c d) ≡ earlier (earlier a c) (earlier b d)
  crossed a b c d =
      earlier_joined a b (earlier c d) ∙ ap (earlier a) (sym (earlier_joined b c d) ∙ ap (λ (x : Option FileBreak). earlier x d) (earlier_swap b c) ∙ earlier_joined c b d) ∙ sym (earlier_joined a c (earlier b d))

  -- facts of one and of others, twice, in the other order
  sorted_facts : (now new : Option FileBreak) (p q b c : List Fact) → new ≡ earlier now (first_failing (p ++ b)) → earlier now (first_failing ((p ++ q) ++ (b ++ c))) ≡ earlier new (first_failing (q ++ c))
  sorted_facts now new p q b c e =
      ap (earlier now)
      (first_joined (p ++ q) (b ++ c) ∙ ap (λ (x : Option FileBreak). earlier x (first_failing (b ++ c))) (first_joined p q) ∙ ap (earlier (earlier (first_failing p) (first_failing q))) (first_joined b c)
      ∙ crossed (first_failing p) (first_failing q) (first_failing b) (first_failing c) ∙ ap (λ (x : Option FileBreak). earlier x (earlier (first_failing q) (first_failing c))) (sym (first_joined p b))
      ∙ ap (earlier (first_failing (p ++ b))) (sym (first_joined q c)))
      ∙ sym (earlier_joined now (first_failing (p ++ b)) (first_failing (q ++ c))) ∙ ap (λ (x : Option FileBreak). earlier x (first_failing (q ++ c))) (sym e)

  abbrev holds_part : Part → Option Content
  holds_part part = Some (Message part)

  part_block : (part : Part) → content_of (Boxes class) 22 ≡ holds_part part → BlockPart class ≡ part
  part_block part e = cc

  pub held_block : (s : Standing) (f : Field) (inner : Fields) → s.part ≡ Boxes class → f.key ≡ 22 → HoldsMessage s f inner → message_at (BlockPart class) (payload_of s.window.bytes f) ≡ Ok inner
  held_block s f inner is key h =
      let c : content_of (Boxes class) 22 ≡ holds_part h.part = subst (λ (p : Part). content_of p 22 ≡ holds_part h.part) is (subst (λ (k : ℕ). content_of s.part k ≡ holds_part h.part) key h.content) in
      subst (λ (p : Part). message_at p (payload_of s.window.bytes f) ≡ Ok inner) (sym (part_block h.part c)) h.read

  kept_first : {A B : Type 0} (f : A → Option B) (x : A) (xs : List A) (y : B) → f x ≡ Some y → filter_map f (x ∷ xs) ≡ y ∷ filter_map f xs
  kept_first f x xs y e = rw e refl

  -- where the first block stands, once one is there
  start_is : (beside : Beside) (place : Option ℕ) (all rest : Fields) (block : Block) (blocks : List Block) (at : ℕ) → IsStart beside place all rest → blocks_of rest ≡ block ∷ blocks → block.at ≡ at
      → first_place boxing beside (blocks_of all) ≡ place_or place at
  start_is beside None all rest block blocks at begins e here = ap (λ (r : Fields). first_place boxing beside (blocks_of r)) begins ∙ ap (first_place boxing beside) e ∙ here
  start_is beside (Some place) all rest block blocks at begins e here = begins

  block_step : (beside : Beside) (all : Fields) (start now new : Option FileBreak) (named leaves : List LeafSeen) (place : Option ℕ) (s behind : Standing) (f : Field) (rest : Fields) → AreBlocks rest → IsStart beside place all rest
      → earlier start (first_failing (pairs_facts beside (first_place boxing beside (blocks_of all)) named (blocks_of all) ++ all_blocks beside (blocks_of all)))
      ≡ earlier now (first_failing (pairs_facts beside (first_place boxing beside (blocks_of all)) leaves (blocks_of rest) ++ all_blocks beside (blocks_of rest)))
      → IsNext s behind f rest → s.part ≡ Boxes class
      → ((fields : Fields) → message_at (BlockPart class) (payload_of s.window.bytes f) ≡ Ok fields → IsPairChecked boxing beside f.at (place_or place f.at) leaves fields now new)
      → BlocksLeft beside all start new named (drop 1 leaves) (Some (place_or place f.at)) behind
  block_step beside all start now new named leaves place s behind f ends are begins asked n is pair = absurd n
  block_step beside all start now new named leaves place s behind f (has_number a k v r) are begins asked n is pair = absurd are
  block_step beside all start now new named leaves place s behind f (has_bytes a k v r) are begins asked n is pair = absurd are
  block_step beside all start now new named leaves place s behind f (has_numbers a k v r) are begins asked n is pair = absurd are
  block_step beside all start now new named leaves place s behind f (has_message at key inner rest) are begins asked n is pair =
      let p = pair inner (held_block s f inner is (n.1 ∙ are.0) n.2) in
      let here : block_with at inner ≡ Some p.block = subst (λ (a : ℕ). block_with a inner ≡ Some p.block) n.0 p.is in
      let list : blocks_of (has_message at key inner rest) ≡ p.block ∷ blocks_of rest = kept_first (λ (m : Placed Fields). block_with m.at m.value) (record { at = at; value = inner }) (messages_in rest) p.block here in
      let first : first_place boxing beside (blocks_of all) ≡ place_or place f.at =
      start_is beside place all (has_message at key inner rest) p.block (blocks_of rest) f.at begins list (block_at f.at inner p.block p.is) in
      let from : ℕ = first_place boxing beside (blocks_of all) in
      let asked_so : new ≡ earlier now (first_failing (pair_facts boxing beside from leaves p.block ++ block_facts boxing beside p.block)) =
      p.asked ∙ ap (λ (x : ℕ). earlier now (first_failing (pair_facts boxing beside x leaves p.block ++ block_facts boxing beside p.block))) (sym first) in
      record {
        rest = rest;
        left = n.3;
        are = are.1;
        begins = first;
        asked =
            asked ∙ ap (λ (bs : List Block). earlier now (first_failing (pairs_facts beside from leaves bs ++ all_blocks beside bs))) list
            ∙ ap (λ (fs : List Fact). earlier now (first_failing (fs ++ all_blocks beside (p.block ∷ blocks_of rest)))) (pair_first beside from leaves p.block (blocks_of rest))
            ∙ sorted_facts now new (pair_facts boxing beside from leaves p.block) (pairs_facts beside from (drop 1 leaves) (blocks_of rest)) (block_facts boxing beside p.block) (all_blocks beside (blocks_of rest)) asked_so;
      }

  pub block_on : (beside : Beside) (all : Fields) (start now new : Option FileBreak) (named leaves : List LeafSeen) (place : Option ℕ) (s behind : Standing) (f : Field) → BlocksLeft beside all start now named leaves place s
      → ((fields : Fields) → left_in s ≡ Ok fields → IsNext s behind f fields) → s.part ≡ Boxes class
      → ((fields : Fields) → message_at (BlockPart class) (payload_of s.window.bytes f) ≡ Ok fields → IsPairChecked boxing beside f.at (place_or place f.at) leaves fields now new)
      → BlocksLeft beside all start new named (drop 1 leaves) (Some (place_or place f.at)) behind
  block_on beside all start now new named leaves place s behind f l next is pair = block_step beside all start now new named leaves place s behind f l.rest l.are l.begins l.asked (next l.rest l.left) is pair

  unnamed_of : (leaves : List LeafSeen) → map (λ (l : Leaf). fact l.place.at BadPlace false) (map leaf_of leaves) ≡ unnamed leaves
  unnamed_of [] = refl
  unnamed_of (leaf ∷ leaves) = ap (λ (fs : List Fact). fact leaf.place.at BadPlace false ∷ fs) (unnamed_of leaves)

  no_blocks : (beside : Beside) (from : ℕ) (leaves : List LeafSeen) → pairs_facts beside from leaves [] ++ all_blocks beside [] ≡ unnamed leaves
  no_blocks beside from [] = refl
  no_blocks beside from (leaf ∷ leaves) = append-nil (pairs_facts beside from (leaf ∷ leaves) []) ∙ unnamed_of (leaf ∷ leaves)

  pub blocks_all : (beside : Beside) (all : Fields) (start now new : Option FileBreak) (named leaves : List LeafSeen) (place : Option ℕ) (s : Standing) → BlocksLeft beside all start now named leaves place s
      → ((fields : Fields) → left_in s ≡ Ok fields → fields ≡ ends) → new ≡ earlier now (first_failing (unnamed leaves))
      → new ≡ earlier start (first_failing (pairs_facts beside (first_place boxing beside (blocks_of all)) named (blocks_of all) ++ all_blocks beside (blocks_of all)))
  blocks_all beside all start now new named leaves place s l last e =
      let none : l.rest ≡ ends = last l.rest l.left in
      let from : ℕ = first_place boxing beside (blocks_of all) in
      e
      ∙ sym (l.asked ∙ ap (λ (r : Fields). earlier now (first_failing (pairs_facts beside from leaves (blocks_of r) ++ all_blocks beside (blocks_of r)))) none
      ∙ ap (λ (fs : List Fact). earlier now (first_failing fs)) (no_blocks beside from leaves))

  -- ---- a whole section

  are_blocks : (fields : Fields) → AreMessages 22 (BlockPart class) fields → AreBlocks fields
  are_blocks ends a = tt
  are_blocks (has_number at key value rest) a = a
  are_blocks (has_bytes at key text rest) a = a
  are_blocks (has_numbers at key values rest) a = a
  are_blocks (has_message at key inner rest) a = (a.0, are_blocks rest a.2)

  pub record IsSectionOf (fields : Fields) : Type 0 where
    pub at : ℕ
    pub tree : Fields
    pub blocks : Fields
    pub is : fields ≡ has_message at 14 tree blocks
    pub are : AreBlocks blocks

  pub section_of : (w : Window) (fields : Fields) → message_at (Boxes class) w ≡ Ok fields → IsSectionOf fields
  section_of w fields e =
      let b : BeginsMessage (Boxes class) 14 Tree fields = begins_message (Boxes class) None 14 Tree fields refl refl refl (shaped (Boxes class) w fields e) in
      record { at = b.at; tree = b.inner; blocks = b.rest; is = b.is; are = are_blocks b.rest (are_messages (Boxes class) (Some 14) 22 (BlockPart class) b.rest refl refl refl b.shaped) }

  part_tree : (part : Part) → content_of (Boxes class) 14 ≡ holds_part part → Tree ≡ part
  part_tree part e = cc

  pub held_tree : (s : Standing) (from to : ℕ) (inner : Fields) → s.part ≡ Boxes class → HoldsInner s from to 14 inner → message_at Tree (record { bytes = s.window.bytes; place = from; end = to }) ≡ Ok inner
  held_tree s from to inner is h =
      let c : content_of (Boxes class) 14 ≡ holds_part h.part = subst (λ (p : Part). content_of p 14 ≡ holds_part h.part) is h.content in
      subst (λ (p : Part). message_at p (record { bytes = s.window.bytes; place = from; end = to }) ≡ Ok inner) (sym (part_tree h.part c)) h.read

  -- what has to hold of leaves and blocks speaks of nothing but boxes and places
  unnamed_shown : (leaves : List Leaf) → unnamed (map shown leaves) ≡ map (λ (l : Leaf). fact l.place.at BadPlace false) leaves
  unnamed_shown [] = refl
  unnamed_shown (leaf ∷ leaves) = ap (λ (fs : List Fact). fact leaf.place.at BadPlace false ∷ fs) (unnamed_shown leaves)

  paired_shown : (beside : Beside) (start : ℕ) (leaves : List Leaf) (blocks : List Block) → pairs_facts beside start (map shown leaves) blocks ≡ paired_facts boxing beside start leaves blocks
  paired_shown beside start [] [] = refl
  paired_shown beside start [] (block ∷ blocks) = refl
  paired_shown beside start (leaf ∷ leaves) [] = ap (λ (fs : List Fact). fact leaf.place.at BadPlace false ∷ fs) (unnamed_of (map shown leaves) ∙ unnamed_shown leaves)
  paired_shown beside start (leaf ∷ leaves) (block ∷ blocks) = ap (λ (fs : List Fact). leaf_facts boxing beside start leaf block ++ fs) (paired_shown beside start leaves blocks)

  pub section_asked : (beside : Beside) (fields : Fields) (at : ℕ) (tree blocks : Fields) (x first : Option FileBreak) (leaves : List LeafSeen) (told : Option Edges) → fields ≡ has_message at 14 tree blocks → AreNodesChecked tree None x [] leaves told
      → first ≡ earlier x (first_failing (pairs_facts beside (first_place boxing beside (blocks_of blocks)) leaves (blocks_of blocks) ++ all_blocks beside (blocks_of blocks)))
      → first ≡ first_failing (section_facts boxing beside (section_in fields))
  unfolding section_facts
  section_asked beside fields at tree blocks x first leaves told is nodes e =
      let from : ℕ = first_place boxing beside (blocks_of blocks) in
      let own : List Fact = flat_map node_facts (nodes_in tree) in
      let pairs : List Fact = paired_facts boxing beside from (leaves_in (nodes_in tree)) (blocks_of blocks) in
      let others : List Fact = all_blocks beside (blocks_of blocks) in
      let same : pairs_facts beside from leaves (blocks_of blocks) ≡ pairs =
      ap (λ (ls : List LeafSeen). pairs_facts beside from ls (blocks_of blocks)) nodes.listed ∙ paired_shown beside from (leaves_in (nodes_in tree)) (blocks_of blocks) in
      and_more None x first own (pairs ++ others) nodes.asked (e ∙ ap (λ (fs : List Fact). earlier x (first_failing (fs ++ others))) same)
      ∙ ap first_failing (sym (append_assoc own pairs others))
      ∙ ap (λ (fields : Fields). first_failing (section_facts boxing beside (section_in fields))) (sym is)

  -- the same over leaves that are these
  pub pairs_asked : (beside : Beside) (blocks : Fields) (x first : Option FileBreak) (passed leaves : List LeafSeen) → passed ≡ leaves
      → first ≡ earlier x (first_failing (pairs_facts beside (first_place boxing beside (blocks_of blocks)) passed (blocks_of blocks) ++ all_blocks beside (blocks_of blocks)))
      → first ≡ earlier x (first_failing (pairs_facts beside (first_place boxing beside (blocks_of blocks)) leaves (blocks_of blocks) ++ all_blocks beside (blocks_of blocks)))
  pairs_asked beside blocks x first passed leaves same e =
      e ∙ ap (λ (ls : List LeafSeen). earlier x (first_failing (pairs_facts beside (first_place boxing beside (blocks_of blocks)) ls (blocks_of blocks) ++ all_blocks beside (blocks_of blocks)))) same

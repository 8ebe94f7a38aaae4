-- A record that passes a filter stands in a block whose box meets the filter's rectangle, so no other block has to be read.
use Rattle.std.proofs.Common.{◌≡◌, ℕ, Bool, true, false, List, [], ◌∷◌, ◌++◌, map, length, Option, Some, None, Ok, refl, sym, ap, subst, ◌∙◌, inl, inr}
use Rattle.std.specs.Prelude.{filter, flat_map}
use Rattle.std.specs.List.{list_all}
use Rattle.std.proofs.lemmas.Bool.{and_parts, cases_Bool}
use Rattle.std.proofs.lemmas.List.Elements.{filter-append}
use Rattle.std.proofs.lemmas.List.Folds.{list_all-append}
use Rattle.live_model.specs.declared.points.Rect.{Rect}
use Rattle.live_model.specs.Points.{overlaps}
use Rattle.live_model.specs.Ids.{Id}
use Rattle.coord_delta.specs.Steps.{Place}
use Rattle.obf_wire.specs.Fields.{Window}
use Rattle.file_grammar.specs.declared.parts.Boxed.{Boxed}
use Rattle.file_grammar.specs.BoxRules.{Beside, Boxing, block_facts, first_place, holds_place, leaf_facts, node_facts, paired_facts, points_in, section_facts, text_fact, with_before}
use Rattle.file_grammar.specs.Facts.{AllHold, Fact}
use Rattle.file_grammar.specs.Listed.{Reading, block_records}
use Rattle.file_grammar.specs.Sections.{Block, BoxNode, Entry, Leaf, Section, leaves_in, section_in}
use Rattle.boxed_laws.proofs.FittingRecords.{Holds, all_before, all_behind}
use Rattle.boxed_check.specs.declared.kept.Kept.{Kept}
use Rattle.boxed_read.specs.Filters.{Hits, PassesOnlyNear, hits}
use Rattle.boxed_read.specs.Meeting.{InBoxes, in_boxes, meeting, met}
use Rattle.boxed_read.specs.Records.{IsReading, records_of}
use Rattle.boxed_read.specs.Sound.{IsChecked}
use Rattle.boxed_read.specs.Steps.{Coming, joined, still_left}
use Rattle.boxed_read.proofs.MeetingWalk.{coming_met}
use Rattle.boxed_read.proofs.SectionRead.{section_boxed}

module _ {A : Type 0} (boxing : Boxing) (reads : List ℕ → Reading A) (group : List ℕ) (passing : A → Bool) (rect : Rect) (near : PassesOnlyNear boxing reads passing rect) (beside : Beside) where
  -- no record passes whose points are in a box that does not meet the rectangle
  none_pass : (block : Block) (prev : Option Entry) (entries : List Entry) (box : Rect) → overlaps box rect ≡ false → AllHold (flat_map (boxing.facts beside block) (with_before prev entries))
      → list_all (holds_place box) (flat_map boxing.points entries) ≡ true → filter passing (map (reads group block) entries) ≡ []
  none_pass block prev [] box apart facts held = refl
  none_pass block prev (entry ∷ entries) box apart facts held =
      let own : List Fact = boxing.facts beside block (prev, entry) in
      let others : List Fact = flat_map (boxing.facts beside block) (with_before (Some entry) entries) in
      let points : List Place = flat_map boxing.points entries in
      let both = and_parts (list_all (holds_place box) (boxing.points entry)) (list_all (holds_place box) points) (sym (list_all-append (holds_place box) (boxing.points entry) points) ∙ held) in
      elim (cases_Bool (passing (reads group block entry))) [
        | inl passes ↦ absurd (let meets = near group beside block prev entry box (all_before Holds own others facts) both.0 passes in cc)
        | inr fails ↦ rw fails (none_pass block (Some entry) entries box apart (all_behind Holds own others facts) both.1)
      ]

  -- nor in such a block
  block_apart : (block : Block) (box : Rect) → overlaps box rect ≡ false → AllHold (block_facts boxing beside block) → list_all (holds_place box) (points_in boxing beside block) ≡ true → filter passing (block_records (reads group) block) ≡ []
  block_apart block box apart facts held =
      let texts : List Fact = map text_fact (with_before None block.texts) in
      none_pass block None block.entries box apart (all_behind Holds texts (flat_map (boxing.facts beside block) (with_before None block.entries)) facts.1) held

  abbrev kept_of : List (List A) → List A
  kept_of blocks = filter passing (joined blocks)

  abbrev boxes_of : List Leaf → List Rect
  boxes_of leaves = map (λ (leaf : Leaf). leaf.node.box) leaves

  abbrev all_records : List Block → List (List A)
  all_records blocks = map (block_records (reads group)) blocks

  -- so the records that pass are those of the blocks that the rectangle meets
  pub pruned : (first : ℕ) (leaves : List Leaf) (blocks : List Block) → AllHold (paired_facts boxing beside first leaves blocks) → AllHold (flat_map (block_facts boxing beside) blocks)
      → kept_of (meeting rect (boxes_of leaves) (all_records blocks)) ≡ kept_of (all_records blocks)
  pruned first [] [] pairs facts = refl
  pruned first [] (block ∷ blocks) pairs facts = absurd (let none = pairs.0 in cc)
  pruned first (leaf ∷ leaves) [] pairs facts = refl
  pruned first (leaf ∷ leaves) (block ∷ blocks) pairs facts =
      let own : List Fact = block_facts boxing beside block in
      let others : List Fact = flat_map (block_facts boxing beside) blocks in
      let here : List A = block_records (reads group) block in
      let rest = pruned first leaves blocks pairs.1.1 (all_behind Holds own others facts) in
      let split = filter-append passing here (joined (all_records blocks)) in
      elim (cases_Bool (overlaps leaf.node.box rect)) [
        | inl near ↦ rw near
            (filter-append passing here (joined (meeting rect (boxes_of leaves) (all_records blocks))) ∙ ap (λ (rs : List A). filter passing here ++ rs) rest ∙ sym split)
        | inr apart ↦ rw apart
            (rest ∙ sym (split ∙ ap (λ (rs : List A). rs ++ kept_of (all_records blocks)) (block_apart block leaf.node.box apart (all_before Holds own others facts) pairs.1.0)))
      ]

  section_pruned : (section : Section) → AllHold (section_facts boxing beside section) → kept_of (meeting rect (boxes_of (leaves_in section.nodes)) (all_records section.blocks)) ≡ kept_of (all_records section.blocks)
  unfolding section_facts
  section_pruned section sound =
      let nodes : List Fact = flat_map node_facts section.nodes in
      let pairs : List Fact = paired_facts boxing beside (first_place boxing beside section.blocks) (leaves_in section.nodes) section.blocks in
      let blocks : List Fact = flat_map (block_facts boxing beside) section.blocks in
      pruned (first_place boxing beside section.blocks) (leaves_in section.nodes) section.blocks (all_behind Holds nodes pairs (all_before Holds (nodes ++ pairs) blocks sound)) (all_behind Holds (nodes ++ pairs) blocks sound)

module _ {A : Type 0} (class : Boxed) (boxing : Boxing) (reads : List ℕ → Reading A) (id_of : A → Id) (law : IsReading boxing reads id_of) (group : List ℕ) (passing : A → Bool) (rect : Rect) (near : PassesOnlyNear boxing reads passing rect) where
  -- what passes of the blocks that are met of a section of which a check left this, is what passes of the section
  pub checked_pruned : (w : Window) (kept : Kept) → IsChecked class boxing w kept → (section : InBoxes A) → section ≡ record { blocks = records_of class (reads group) w.bytes kept.blocks.items; boxes = kept.tree }
      → filter passing (joined (meeting rect section.boxes section.blocks)) ≡ filter passing (joined section.blocks)
  checked_pruned w kept h section is =
      let same : section ≡ in_boxes (reads group) (section_in h.is.fields) = is ∙ section_boxed class boxing reads id_of law group w kept h.is.fields h h.is.read in
      subst (λ (s : InBoxes A). filter passing (joined (meeting rect s.boxes s.blocks)) ≡ filter passing (joined s.blocks)) (sym same)
      (section_pruned boxing reads group passing rect near h.beside (section_in h.is.fields) h.is.sound)

  -- so a cursor over what passes of these blocks is one over what passes of the section
  pub hits_met : (w : Window) (kept : Kept) → IsChecked class boxing w kept → (asked : Rect) (coming : Coming A) (found : Hits A) → asked ≡ rect → coming ≡ record { here = []; blocks = records_of class (reads group) w.bytes (met asked kept 0) }
      → found ≡ record { records = filter passing (still_left coming); blocks = length coming.blocks }
      → found ≡ hits passing rect (record { blocks = records_of class (reads group) w.bytes kept.blocks.items; boxes = kept.tree })
  hits_met w kept h asked coming found same begins is =
      let section : InBoxes A = record { blocks = records_of class (reads group) w.bytes kept.blocks.items; boxes = kept.tree } in
      let of : Coming A → Hits A = λ c. record { records = filter passing (still_left c); blocks = length c.blocks } in
      let at : Rect → Coming A = λ r. record { here = []; blocks = meeting r section.boxes section.blocks } in
      let counted : List A → Hits A = λ records. record { records = records; blocks = length (meeting rect section.boxes section.blocks) } in
      is ∙ ap of (coming_met class (reads group) w.bytes kept asked coming begins ∙ ap at same) ∙ ap counted (checked_pruned w kept h section refl)

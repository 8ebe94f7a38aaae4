-- The records of a section of which a check left where its blocks stand.
use Rattle.std.proofs.Common.{◌≡◌, ℕ, ◌+◌, ◌≤◌, List, [], ◌∷◌, length, map, Result, Ok, refl, sym, ap, ◌∙◌, length-append}
use Rattle.std.specs.Prelude.{flat_map}
use Rattle.std.specs.Option.{option_map_or}
use Rattle.std.proofs.lemmas.List.{length-map}
use Rattle.live_model.specs.declared.points.Rect.{Rect}
use Rattle.live_model.specs.Ids.{Id}
use Rattle.obf_wire.specs.declared.file.FileBreak.{FileBreak}
use Rattle.obf_wire.specs.Fields.{Window}
use Rattle.file_grammar.specs.declared.parts.Boxed.{Boxed}
use Rattle.file_grammar.specs.declared.parts.Part.TheVariants.{Boxes}
use Rattle.file_grammar.specs.BoxRules.{Beside, Boxing, block_facts, section_facts}
use Rattle.file_grammar.specs.Facts.{AllHold, Fact}
use Rattle.file_grammar.specs.Listed.{Reading, block_records}
use Rattle.file_grammar.specs.Messages.{Fields}
use Rattle.file_grammar.specs.Readings.{message_at}
use Rattle.file_grammar.specs.Sections.{Block, Leaf, block_with, leaves_in, section_in}
use Rattle.boxed_exact.specs.declared.fields.Payload.{Payload}
use Rattle.boxed_laws.proofs.FittingRecords.{Holds, all_before, all_behind}
use Rattle.boxed_check.specs.declared.kept.Kept.{Kept}
use Rattle.boxed_check.specs.Keeping.{AreSpans, entries_of}
use Rattle.boxed_read.specs.Meeting.{InBoxes, in_boxes}
use Rattle.boxed_read.specs.Records.{IsReading, fields_read, records_of}
use Rattle.boxed_read.specs.Sound.{HoldBlocks, IsChecked}
use Rattle.boxed_read.specs.Steps.{joined}
use Rattle.boxed_read.proofs.BlockRead.{any_place}

blocks_hold : (class : Boxed) (boxing : Boxing) (beside : Beside) (bytes : List ℕ) (spans : List Payload) (blocks : List Block) → length beside.rules ≤ 100000 → AreSpans class bytes spans blocks
    → AllHold (flat_map (block_facts boxing beside) blocks) → HoldBlocks class boxing bytes spans
blocks_hold class boxing beside bytes [] blocks few are all = tt
blocks_hold class boxing beside bytes (span ∷ spans) [] few are all = absurd are
blocks_hold class boxing beside bytes (span ∷ spans) (block ∷ blocks) few are all =
    let here : List Fact = block_facts boxing beside block in
    let others : List Fact = flat_map (block_facts boxing beside) blocks in (
      record {
        inside = are.0.inside;
        beside = beside;
        few = few;
        at = span.at;
        fields = are.0.fields;
        read = are.0.read;
        block = block;
        is = are.0.is;
        facts = all_before Holds here others all;
      },
      blocks_hold class boxing beside bytes spans blocks few are.1 (all_behind Holds here others all),
    )

-- every rule holds of each block
pub checked_blocks : (class : Boxed) (boxing : Boxing) (w : Window) (kept : Kept) → IsChecked class boxing w kept → HoldBlocks class boxing w.bytes kept.blocks.items
unfolding section_facts
checked_blocks class boxing w kept h =
    let section = section_in h.is.fields in
    blocks_hold class boxing h.beside w.bytes kept.blocks.items section.blocks h.few h.is.blocks (all_behind Holds _ (flat_map (block_facts boxing h.beside) section.blocks) h.is.sound)

module _ {A : Type 0} (class : Boxed) (boxing : Boxing) (reads : List ℕ → Reading A) (id_of : A → Id) (law : IsReading boxing reads id_of) (group : List ℕ) where
  spans_read : (bytes : List ℕ) (spans : List Payload) (blocks : List Block) → AreSpans class bytes spans blocks → records_of class (reads group) bytes spans ≡ map (block_records (reads group)) blocks
  spans_read bytes [] [] are = refl
  spans_read bytes [] (block ∷ blocks) are = absurd are
  spans_read bytes (span ∷ spans) [] are = absurd are
  spans_read bytes (span ∷ spans) (block ∷ blocks) are =
      ap (λ (rs : List A). rs ∷ records_of class (reads group) bytes spans)
      (ap (λ (r : Result Fields FileBreak). option_map_or (block_records (reads group)) (block_with 0 (fields_read r)) []) are.0.read ∙ any_place class boxing reads id_of law group span.at are.0.fields block are.0.is)
      ∙ ap (λ (rest : List (List A)). block_records (reads group) block ∷ rest) (spans_read bytes spans blocks are.1)

  -- what was kept of a section is where its records stand
  pub section_read : (w : Window) (kept : Kept) (fields : Fields) → IsChecked class boxing w kept → message_at (Boxes class) w ≡ Ok fields → records_of class (reads group) w.bytes kept.blocks.items ≡ map (block_records (reads group)) (section_in fields).blocks
  section_read w kept fields h e =
      let same : h.is.fields ≡ fields = let both = sym h.is.read ∙ e in cc in
      spans_read w.bytes kept.blocks.items (section_in h.is.fields).blocks h.is.blocks ∙ ap (λ (fs : Fields). map (block_records (reads group)) (section_in fs).blocks) same

  -- with the boxes of their leaves
  pub section_boxed : (w : Window) (kept : Kept) (fields : Fields) → IsChecked class boxing w kept → message_at (Boxes class) w ≡ Ok fields
      → record { blocks = records_of class (reads group) w.bytes kept.blocks.items; boxes = kept.tree } ≡ in_boxes (reads group) (section_in fields)
  section_boxed w kept fields h e =
      let same : h.is.fields ≡ fields = let both = sym h.is.read ∙ e in cc in
      let made : List (List A) → List Rect → InBoxes A = λ blocks boxes. record { blocks = blocks; boxes = boxes } in
      ap (λ (blocks : List (List A)). made blocks kept.tree) (section_read w kept fields h e)
      ∙ ap (made (map (block_records (reads group)) (section_in fields).blocks)) (h.is.tree ∙ ap (λ (fs : Fields). map (λ (leaf : Leaf). leaf.node.box) (leaves_in (section_in fs).nodes)) same)

  counted : (blocks : List Block) → length (entries_of blocks) ≡ length (joined (map (block_records (reads group)) blocks))
  counted [] = refl
  counted (block ∷ blocks) =
      length-append block.entries (entries_of blocks)
      ∙ ap (λ (n : ℕ). n + length (entries_of blocks)) (sym (length-map block.entries (reads group block)))
      ∙ ap (λ (n : ℕ). length (block_records (reads group) block) + n) (counted blocks)
      ∙ sym (length-append (block_records (reads group) block) (joined (map (block_records (reads group)) blocks)))

  -- and so many they are
  pub section_counted : (w : Window) (kept : Kept) → IsChecked class boxing w kept → kept.records ≡ length (joined (records_of class (reads group) w.bytes kept.blocks.items))
  section_counted w kept h =
      h.is.records ∙ counted (section_in h.is.fields).blocks
      ∙ ap (λ (rs : List (List A)). length (joined rs)) (sym (spans_read w.bytes kept.blocks.items (section_in h.is.fields).blocks h.is.blocks))

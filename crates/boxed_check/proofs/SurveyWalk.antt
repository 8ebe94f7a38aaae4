-- Where blocks stand, and how many records there are, block by block.
use Rattle.std.proofs.Common.{◌≡◌, ℕ, suc, ◌+◌, List, [], ◌∷◌, ◌++◌, length, map, filter_map, Option, Some, None, Ok, refl, sym, ap, subst, ◌∙◌, append_assoc, append-nil, length-append, arith}
use Rattle.obf_wire.specs.declared.field.Field.{Field}
use Rattle.obf_wire.specs.declared.file.FileBreak.{FileBreak}
use Rattle.obf_wire.specs.Fields.{Window, IsWindow}
use Rattle.file_grammar.specs.declared.parts.Boxed.{Boxed}
use Rattle.file_grammar.specs.declared.parts.Part.TheVariants.{Block as BlockPart, Boxes}
use Rattle.file_grammar.specs.BoxRules.{Beside, Boxing, section_facts}
use Rattle.file_grammar.specs.Facts.{AllHold}
use Rattle.file_grammar.specs.Messages.{Fields, ends, has_number, has_bytes, has_numbers, has_message}
use Rattle.file_grammar.specs.Readings.{message_at}
use Rattle.file_grammar.specs.Sections.{Block, Placed, block_with, entries_from, leaves_in, messages_in, section_in, step_of, texts_in}
use Rattle.file_grammar.specs.Walks.{IsNext, Standing, left_in}
use Rattle.boxed_exact.specs.declared.edges.Edges.{Edges}
use Rattle.boxed_exact.specs.declared.fields.Payload.{Payload}
use Rattle.boxed_exact.specs.declared.nodes.LeafSeen.{LeafSeen}
use Rattle.boxed_exact.specs.Nodes.{AreNodesChecked, shown}
use Rattle.boxed_exact.specs.Pairs.{AreBlocks}
use Rattle.boxed_exact.specs.Records.{AreRecords}
use Rattle.boxed_exact.proofs.BlockWalk.{IsSectionOf, held_block}
use Rattle.boxed_exact.proofs.RecordWalk.{IsBlockOf, block_of}
use Rattle.boxed_check.specs.declared.kept.Kept.{Kept}
use Rattle.boxed_check.specs.Leaves.{AreBoxes, boxes_of}
use Rattle.boxed_check.proofs.LeafBoxes.{nodes_sound, tree_same}
use Rattle.boxed_check.specs.Keeping.{AreSpans, IsKept, IsSurveyed, blocks_of, entries_of}

-- ---- records

-- behind some of the records
pub record RecordsCounted (all : Fields) (count : ℕ) (s : Standing) : Type 0 where
  pub rest : Fields
  pub left : left_in s ≡ Ok rest
  pub are : AreRecords rest
  pub counted : length (messages_in all) ≡ count + length (messages_in rest)

pub records_begin : (all : Fields) (s : Standing) → left_in s ≡ Ok all → AreRecords all → RecordsCounted all 0 s
records_begin all s left are = record { rest = all; left = left; are = are; counted = omega arith }

record_step : (all rest : Fields) (count : ℕ) (s behind : Standing) (f : Field) → AreRecords rest → length (messages_in all) ≡ count + length (messages_in rest) → IsNext s behind f rest
    → RecordsCounted all (count + 1) behind
record_step all ends count s behind f are counted n = absurd n
record_step all (has_number at key value rest) count s behind f are counted n = absurd are
record_step all (has_bytes at key value rest) count s behind f are counted n = absurd are
record_step all (has_numbers at key value rest) count s behind f are counted n = absurd are
record_step all (has_message at key inner rest) count s behind f are counted n = record { rest = rest; left = n.3; are = are.1; counted = omega (arith, counted) }

pub record_on : (all : Fields) (count : ℕ) (s behind : Standing) (f : Field) → RecordsCounted all count s → ((fields : Fields) → left_in s ≡ Ok fields → IsNext s behind f fields) → RecordsCounted all (count + 1) behind
record_on all count s behind f l next = record_step all l.rest count s behind f l.are l.counted (next l.rest l.left)

pub records_all : (all : Fields) (count : ℕ) (s : Standing) → RecordsCounted all count s → ((fields : Fields) → left_in s ≡ Ok fields → fields ≡ ends) → count ≡ length (messages_in all)
records_all all count s l last =
    let none = ap (λ (r : Fields). length (messages_in r)) (last l.rest l.left) in
    omega (arith, l.counted, none)

-- ---- a block

as_many : (before : ℕ) (ms : List (Placed Fields)) → length (entries_from before ms) ≡ length ms
as_many before [] = refl
as_many before (m ∷ ms) = ap suc (as_many (before + step_of m.value) ms)

abbrev made_block : ℕ → Fields → Fields → Block
made_block at texts records = record { at = at; texts = texts_in texts; entries = entries_from 0 (messages_in records) }

-- a block has as many records as messages after its texts
pub block_counted : (fields : Fields) (b : IsBlockOf fields) (at count : ℕ) (block : Block) → count ≡ length (messages_in b.records) → block_with at fields ≡ Some block → count ≡ length block.entries
block_counted fields b at count block is e =
    let there : block_with at (has_message b.at 14 b.texts b.records) ≡ Some block = subst (λ (f : Fields). block_with at f ≡ Some block) b.is e in
    let counted : Option Block → ℕ = λ o. elim o [ Some x ↦ length x.entries | None ↦ 0 ] in
    is ∙ sym (as_many 0 (messages_in b.records)) ∙ ap counted there

-- ---- blocks

-- where a block stands, as it is kept
abbrev span_of : Field → Payload
span_of f = record { at = f.at; from = f.from; to = f.to }

kept_first : {A B : Type 0} (f : A → Option B) (x : A) (xs : List A) (y : B) → f x ≡ Some y → filter_map f (x ∷ xs) ≡ y ∷ filter_map f xs
kept_first f x xs y e = rw e refl

module _ (class : Boxed) (boxing : Boxing) where
  -- behind some of the blocks
  pub record SurveyLeft (bytes : List ℕ) (all : Fields) (before now : List Payload) (count : ℕ) (s : Standing) : Type 0 where
    pub rest : Fields
    pub left : left_in s ≡ Ok rest
    pub are : AreBlocks rest
    pub passed : List Payload
    pub added : now ≡ before ++ passed
    pub suffices : (later : List Payload) → AreSpans class bytes later (blocks_of rest) → AreSpans class bytes (passed ++ later) (blocks_of all)
    pub counted : length (entries_of (blocks_of all)) ≡ count + length (entries_of (blocks_of rest))

  pub survey_begin : (bytes : List ℕ) (all : Fields) (before : List Payload) (s : Standing) → left_in s ≡ Ok all → AreBlocks all → SurveyLeft bytes all before before 0 s
  survey_begin bytes all before s left are = record { rest = all; left = left; are = are; passed = []; added = sym (append-nil before); suffices = λ later h. h; counted = omega arith }

  survey_step : (bytes : List ℕ) (all rest : Fields) (before now new : List Payload) (count more : ℕ) (s behind : Standing) (f : Field) (passed : List Payload) → AreBlocks rest → now ≡ before ++ passed
      → ((later : List Payload) → AreSpans class bytes later (blocks_of rest) → AreSpans class bytes (passed ++ later) (blocks_of all))
      → length (entries_of (blocks_of all)) ≡ count + length (entries_of (blocks_of rest)) → IsNext s behind f rest → s.part ≡ Boxes class → s.window.bytes ≡ bytes
      → IsWindow (record { bytes = bytes; place = f.from; end = f.to }) → new ≡ now ++ span_of f ∷ []
      → ((fields : Fields) (at : ℕ) (block : Block) → message_at (BlockPart class) (record { bytes = bytes; place = f.from; end = f.to }) ≡ Ok fields → block_with at fields ≡ Some block → more ≡ length block.entries)
      → SurveyLeft bytes all before new (count + more) behind
  survey_step bytes all ends before now new count more s behind f passed are added go counted n part same inside more_is is = absurd n
  survey_step bytes all (has_number at key value rest) before now new count more s behind f passed are added go counted n part same inside more_is is = absurd are
  survey_step bytes all (has_bytes at key value rest) before now new count more s behind f passed are added go counted n part same inside more_is is = absurd are
  survey_step bytes all (has_numbers at key value rest) before now new count more s behind f passed are added go counted n part same inside more_is is = absurd are
  survey_step bytes all (has_message at key inner rest) before now new count more s behind f passed are added go counted n part same inside more_is is =
      let read : message_at (BlockPart class) (record { bytes = bytes; place = f.from; end = f.to }) ≡ Ok inner =
      subst (λ (bs : List ℕ). message_at (BlockPart class) (record { bytes = bs; place = f.from; end = f.to }) ≡ Ok inner) same (held_block class boxing s f inner part (n.1 ∙ are.0) n.2) in
      let b : IsBlockOf inner = block_of class (record { bytes = bytes; place = f.from; end = f.to }) inner read in
      let block : Block = made_block at b.texts b.records in
      let here : block_with at inner ≡ Some block = ap (block_with at) b.is in
      let there : block_with f.at inner ≡ Some block = subst (λ (p : ℕ). block_with p inner ≡ Some block) (sym n.0) here in
      let list : blocks_of (has_message at key inner rest) ≡ block ∷ blocks_of rest = kept_first (λ (m : Placed Fields). block_with m.at m.value) (record { at = at; value = inner }) (messages_in rest) block here in
      let many : length (entries_of (blocks_of (has_message at key inner rest))) ≡ length block.entries + length (entries_of (blocks_of rest)) =
      ap (λ (bs : List Block). length (entries_of bs)) list ∙ length-append block.entries (entries_of (blocks_of rest)) in
      let this = is inner at block read here in
      record {
        rest = rest;
        left = n.3;
        are = are.1;
        passed = passed ++ span_of f ∷ [];
        added = more_is ∙ ap (λ (ps : List Payload). ps ++ span_of f ∷ []) added ∙ append_assoc before passed (span_of f ∷ []);
        suffices = λ later h.
            subst (λ (ps : List Payload). AreSpans class bytes ps (blocks_of all)) (sym (append_assoc passed (span_of f ∷ []) later))
            (go (span_of f ∷ later) (subst (AreSpans class bytes (span_of f ∷ later)) (sym list) (record { inside = inside; fields = inner; read = read; is = there }, h)));
        counted = omega (arith, counted, many, this);
      }

  pub survey_on : (bytes : List ℕ) (all : Fields) (before now new : List Payload) (count more : ℕ) (s behind : Standing) (f : Field) → SurveyLeft bytes all before now count s
      → ((fields : Fields) → left_in s ≡ Ok fields → IsNext s behind f fields) → s.part ≡ Boxes class → s.window.bytes ≡ bytes
      → IsWindow (record { bytes = bytes; place = f.from; end = f.to }) → new ≡ now ++ span_of f ∷ []
      → ((fields : Fields) (at : ℕ) (block : Block) → message_at (BlockPart class) (record { bytes = bytes; place = f.from; end = f.to }) ≡ Ok fields → block_with at fields ≡ Some block → more ≡ length block.entries)
      → SurveyLeft bytes all before new (count + more) behind
  survey_on bytes all before now new count more s behind f l next part same inside more_is is =
      survey_step bytes all l.rest before now new count more s behind f l.passed l.are l.added l.suffices l.counted (next l.rest l.left) part same inside more_is is

  pub survey_all : (bytes : List ℕ) (all : Fields) (before now : List Payload) (count : ℕ) (s : Standing) → SurveyLeft bytes all before now count s → ((fields : Fields) → left_in s ≡ Ok fields → fields ≡ ends)
      → IsSurveyed class bytes all before now count
  survey_all bytes all before now count s l last =
      let none : l.rest ≡ ends = last l.rest l.left in
      let few : length (entries_of (blocks_of l.rest)) ≡ 0 = ap (λ (r : Fields). length (entries_of (blocks_of r))) none in
      let no_spans : AreSpans class bytes [] (blocks_of l.rest) = subst (λ (r : Fields). AreSpans class bytes [] (blocks_of r)) (sym none) tt in
      record {
        spans = l.passed;
        added = l.added;
        are = subst (λ (ps : List Payload). AreSpans class bytes ps (blocks_of all)) (append-nil l.passed) (l.suffices [] no_spans);
        counted = omega (arith, few, l.counted);
      }

  -- ---- a whole section

  pub survey_is : (beside : Beside) (w : Window) (fields : Fields) (s : IsSectionOf class boxing fields) (kept : Kept) (x y : Option FileBreak) (told : Option Edges) → message_at (Boxes class) w ≡ Ok fields → AllHold (section_facts boxing beside (section_in fields))
      → AreNodesChecked s.tree x y [] kept.leaves.items told → IsSurveyed class w.bytes s.blocks [] kept.blocks.items kept.records → (AreBoxes kept.leaves.items → kept.tree ≡ boxes_of kept.leaves.items) → IsKept class boxing beside w kept
  survey_is beside w fields s kept x y told read sound nodes blocks over = record {
    fields = fields;
    read = read;
    sound = sound;
    leaves = nodes.listed ∙ ap (λ (f : Fields). map_leaves f) (sym s.is);
    tree = tree_same (section_in fields).nodes kept.leaves.items kept.tree (nodes_sound boxing beside (section_in fields) sound) (nodes.listed ∙ ap (λ (f : Fields). map_leaves f) (sym s.is)) over;
    blocks = subst (λ (f : Fields). AreSpans class w.bytes kept.blocks.items (section_in f).blocks) (sym s.is) (subst (λ (ps : List Payload). AreSpans class w.bytes ps (blocks_of s.blocks)) (sym blocks.added) blocks.are);
    records = blocks.counted ∙ ap (λ (f : Fields). length (entries_of (section_in f).blocks)) (sym s.is);
  } where
    map_leaves : Fields → List LeafSeen
    map_leaves f = map shown (leaves_in (section_in f).nodes)

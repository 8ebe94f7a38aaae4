-- A section that is sound without marks is sound beside marks that contain the object of each record.
use Rattle.std.proofs.Common.{◌≡◌, ℕ, suc, zero, ◌<◌, Bool, true, false, List, [], ◌∷◌, ◌++◌, length, map, refl, ap, subst, arith}
use Rattle.std.specs.Prelude.{flat_map, ◌||◌, ◌==◌, not, get_or, Contains, Option, Some, None}
use Rattle.std.specs.List.{AllByRecursion, list_any}
use Rattle.std.proofs.lemmas.Bool.{eq-eqb, or_left, or_right}
use Rattle.live_model.specs.Ids.{ordinal}
use Rattle.live_model.specs.declared.rules.Rule.{Rule}
use Rattle.file_grammar.specs.Facts.{AllHold, Fact}
use Rattle.file_grammar.specs.Sections.{Block, Entry, Leaf, Section, leaves_in, object_of, section_in}
use Rattle.file_grammar.specs.BoxRules.{block_facts, first_place, is_marked, is_ordinal, node_facts, paired_facts, section_facts, text_fact, with_before}
use Rattle.file_grammar.specs.Listed.{block_records, records_in}
use Rattle.boxed_write.specs.Classes.{IsPackedBy}
use Rattle.boxed_write.proofs.Sorting.{all_moved}
use Rattle.boxed_laws.specs.Classes.{BoxedClass, IsLawful, with_marks, without_marks}
use Rattle.boxed_laws.specs.Laws.{MarkedLaw, PackedMarkedLaw, in_blocks}
use Rattle.boxed_laws.proofs.BareSections.{packed_law}
use Rattle.boxed_laws.proofs.BlockTexts.{all_join}
use Rattle.boxed_laws.proofs.FittingRecords.{Holds, all_before, all_behind}
use Rattle.boxed_laws.proofs.KeptItems.{kept}
use Rattle.boxed_laws.proofs.ObjectNumbers.{ordinal_again}

-- a mark is found
pub found : (marks : List ℕ) (n : ℕ) → Contains marks n → list_any (λ mark. mark == n) marks ≡ true
found marks n c = at marks c.0 n c.1 c.2
  where
    at : (marks : List ℕ) (k n : ℕ) → k < length marks → get_or marks k n ≡ n → list_any (λ mark. mark == n) marks ≡ true
    at [] k n inside e = absurd (omega arith)
    at (m ∷ ms) zero n inside e = or_left (m == n) (list_any (λ mark. mark == n) ms) (eq-eqb m n e)
    at (m ∷ ms) (suc k) n inside e = or_right (m == n) (list_any (λ mark. mark == n) ms) (at ms k n (omega arith) e)

-- an object of this number is marked
pub number_marked : (marks : List ℕ) (n : ℕ) → Contains marks (ordinal (object_of n)) → is_marked (Some marks) n ≡ true
number_marked marks n c = elim (is_ordinal n) as (λ b. is_ordinal n ≡ b → (list_any (λ mark. mark == n) marks || not b) ≡ true) [
  | true ↦ λ e. ap (λ (b : Bool). b || false) (found marks n (subst (Contains marks) (ordinal_again n e) c))
  | false ↦ λ e. either (list_any (λ mark. mark == n) marks)
] refl
  where
    either : (a : Bool) → (a || true) ≡ true
    either true = refl
    either false = refl

module _ {A : Type 0} (c : BoxedClass A) (suits : List Rule → A → Type 0) (laws : IsLawful c suits) (rules : List Rule) (marks : List ℕ) where
  -- the record of this ordinal is of an object with a mark
  abbrev IsMarked : ℕ → Type 0
  IsMarked n = is_marked (Some marks) n ≡ true

  entries_hold : (block : Block) (before : Option Entry) (entries : List Entry) → AllByRecursion (λ e. IsMarked e.ordinal) entries → AllHold (flat_map (c.boxing.facts (without_marks rules) block) (with_before before entries))
      → AllHold (flat_map (c.boxing.facts (with_marks rules marks) block) (with_before before entries))
  entries_hold block before [] marked all = tt
  entries_hold block before (e ∷ es) marked all =
      let rest : List Fact = flat_map (c.boxing.facts (without_marks rules) block) (with_before (Some e) es) in
      all_join Holds (c.boxing.facts (with_marks rules marks) block (before, e)) (flat_map (c.boxing.facts (with_marks rules marks) block) (with_before (Some e) es))
      (laws.marked rules marks block (before, e) marked.0 (all_before Holds (c.boxing.facts (without_marks rules) block (before, e)) rest all))
      (entries_hold block (Some e) es marked.1 (all_behind Holds (c.boxing.facts (without_marks rules) block (before, e)) rest all))

  block_holds : (block : Block) → AllByRecursion (λ e. IsMarked e.ordinal) block.entries → AllHold (block_facts c.boxing (without_marks rules) block) → AllHold (block_facts c.boxing (with_marks rules marks) block)
  block_holds block marked all =
      let texts : List Fact = map text_fact (with_before None block.texts) in
      let entries : List Fact = flat_map (c.boxing.facts (without_marks rules) block) (with_before None block.entries) in
      (all.0, all_join Holds texts _ (all_before Holds texts entries all.1) (entries_hold block None block.entries marked (all_behind Holds texts entries all.1)))

  blocks_hold : (blocks : List Block) → AllByRecursion (λ block. AllByRecursion (λ e. IsMarked e.ordinal) block.entries) blocks → AllHold (flat_map (block_facts c.boxing (without_marks rules)) blocks)
      → AllHold (flat_map (block_facts c.boxing (with_marks rules marks)) blocks)
  blocks_hold [] marked all = tt
  blocks_hold (b ∷ bs) marked all =
      let here = all_before Holds (block_facts c.boxing (without_marks rules) b) (flat_map (block_facts c.boxing (without_marks rules)) bs) all in
      let rest = all_behind Holds (block_facts c.boxing (without_marks rules) b) (flat_map (block_facts c.boxing (without_marks rules)) bs) all in
      all_join Holds (block_facts c.boxing (with_marks rules marks) b) (flat_map (block_facts c.boxing (with_marks rules marks)) bs) (block_holds b marked.0 here) (blocks_hold bs marked.1 rest)

  paired_hold : (first : ℕ) (leaves : List Leaf) (blocks : List Block) → AllHold (paired_facts c.boxing (without_marks rules) first leaves blocks) → AllHold (paired_facts c.boxing (with_marks rules marks) first leaves blocks)
  paired_hold first [] blocks all = all
  paired_hold first (l ∷ ls) [] all = all
  paired_hold first (l ∷ ls) (b ∷ bs) all = (all.0, (all.1.0, paired_hold first ls bs all.1.1))

  same_place : (blocks : List Block) → first_place c.boxing (without_marks rules) blocks ≡ first_place c.boxing (with_marks rules marks) blocks
  same_place [] = refl
  same_place (b ∷ bs) = refl

  section_holds : (s : Section) → AllByRecursion (λ block. AllByRecursion (λ e. IsMarked e.ordinal) block.entries) s.blocks → AllHold (section_facts c.boxing (without_marks rules) s) → AllHold (section_facts c.boxing (with_marks rules marks) s)
  unfolding section_facts
  section_holds s marked all =
      let nodes : List Fact = flat_map node_facts s.nodes in
      let first : ℕ = first_place c.boxing (without_marks rules) s.blocks in
      let pairs : List Fact = paired_facts c.boxing (without_marks rules) first (leaves_in s.nodes) s.blocks in
      let blocks : List Fact = flat_map (block_facts c.boxing (without_marks rules)) s.blocks in
      let trees = all_before Holds (nodes ++ pairs) blocks all in
      let paired = paired_hold first (leaves_in s.nodes) s.blocks (all_behind Holds nodes pairs trees) in
      all_join Holds _ _
      (all_join Holds nodes _ (all_before Holds nodes pairs trees)
      (subst (λ (n : ℕ). AllHold (paired_facts c.boxing (with_marks rules marks) n (leaves_in s.nodes) s.blocks)) (same_place s.blocks) paired))
      (blocks_hold s.blocks marked (all_behind Holds (nodes ++ pairs) blocks all))

  -- ---- from records to where they stand

  -- the record is of an object with a mark
  abbrev IsMarkedRecord : A → Type 0
  IsMarkedRecord r = Contains marks (c.packing.ordinal r)

  entries_marked : (block : Block) (entries : List Entry) → AllByRecursion IsMarkedRecord (map (c.reads block) entries) → AllByRecursion (λ e. IsMarked e.ordinal) entries
  entries_marked block [] all = tt
  entries_marked block (e ∷ es) all = (number_marked marks e.ordinal (subst (Contains marks) (laws.object block e) all.0), entries_marked block es all.1)

  blocks_marked : (blocks : List Block) → AllByRecursion IsMarkedRecord (flat_map (block_records c.reads) blocks) → AllByRecursion (λ block. AllByRecursion (λ e. IsMarked e.ordinal) block.entries) blocks
  blocks_marked [] all = tt
  blocks_marked (b ∷ bs) all =
      let rest : List A = flat_map (block_records c.reads) bs in
      (entries_marked b b.entries (all_before IsMarkedRecord (block_records c.reads b) rest all), blocks_marked bs (all_behind IsMarkedRecord (block_records c.reads b) rest all))

  sound_beside : (s : Section) → AllByRecursion IsMarkedRecord (records_in c.reads s) → AllHold (section_facts c.boxing (without_marks rules) s) → AllHold (section_facts c.boxing (with_marks rules marks) s)
  sound_beside s marked all = section_holds s (blocks_marked s.blocks marked) all

pub marked_law : {A : Type 0} (c : BoxedClass A) (suits : List Rule → A → Type 0) → IsLawful c suits → MarkedLaw c
marked_law c suits laws rules marks s marked all = sound_beside c suits laws rules marks s marked all

pub packed_marked_law : {A : Type 0} (c : BoxedClass A) (suits : List Rule → A → Type 0) → IsLawful c suits → {fits : A → Type 0} → IsPackedBy c.packing fits → PackedMarkedLaw c suits
packed_marked_law {A} c suits laws packs rules marks records w few suit marked window short bytes =
    let s = packed_law c suits laws packs rules records w few suit window short bytes in
    let there : AllByRecursion (λ (r : A). Contains marks (c.packing.ordinal r)) (in_blocks c.packing records) = all_moved (λ (r : A). Contains marks (c.packing.ordinal r)) records (in_blocks c.packing records) (kept c.packing records) marked in
    record {
      fields = s.fields;
      form = s.form;
      sound = marked_law c suits laws rules marks (section_in s.fields) (subst (AllByRecursion (λ (r : A). Contains marks (c.packing.ordinal r))) s.records_are there) s.sound;
      records_are = s.records_are;
    }

-- The records of a section in which every rule holds suit the rules, however it is packed.
use Rattle.std.proofs.Common.{◌≡◌, ℕ, true, List, [], ◌∷◌, ◌++◌, map, Option, Some, None, sym, subst}
use Rattle.std.specs.Prelude.{flat_map, ◌&&◌}
use Rattle.std.specs.List.{AllByRecursion}
use Rattle.std.specs.Str.{is_utf8}
use Rattle.std.proofs.lemmas.Bool.{and_parts}
use Rattle.live_model.specs.declared.rules.Rule.{Rule}
use Rattle.file_grammar.specs.Facts.{Fact, AllHold}
use Rattle.file_grammar.specs.Sections.{Placed, Entry, Block, section_in}
use Rattle.file_grammar.specs.BoxRules.{Beside, with_before, follows, texts_rise, text_fact, block_facts, section_facts}
use Rattle.boxed_laws.specs.Classes.{BoxedClass, IsLawful, PassUtf8}
use Rattle.file_grammar.specs.Listed.{block_records}
use Rattle.boxed_laws.specs.Laws.{FittingLaw}
use Rattle.boxed_laws.proofs.BlockTexts.{all_join}

module _ {A : Type 0} (P : A → Type 0) where
  pub all_behind : (xs ys : List A) → AllByRecursion P (xs ++ ys) → AllByRecursion P ys
  all_behind [] ys all = all
  all_behind (x ∷ xs) ys all = all_behind xs ys all.1

  pub all_before : (xs ys : List A) → AllByRecursion P (xs ++ ys) → AllByRecursion P xs
  all_before [] ys all = tt
  all_before (x ∷ xs) ys all = (all.0, all_before xs ys all.1)

abbrev pub Holds : Fact → Type 0
Holds f = f.holds ≡ true

pub texts_utf8 : (texts : List (Placed (List ℕ))) (before : Option (Placed (List ℕ))) → AllHold (map text_fact (with_before before texts)) → PassUtf8 texts
texts_utf8 [] before all = tt
texts_utf8 (t ∷ ts) before all =
    let whole = and_parts (is_utf8 t.value && _) (follows texts_rise (before, t)) all.0 in
    ((and_parts (is_utf8 t.value) _ whole.0).0, texts_utf8 ts (Some t) all.1)

module _ {A : Type 0} (c : BoxedClass A) (suits : List Rule → A → Type 0) (laws : IsLawful c suits) (beside : Beside) where
  entries_suit : (block : Block) (entries : List Entry) (prev : Option Entry) → PassUtf8 block.texts → AllHold (flat_map (c.boxing.facts beside block) (with_before prev entries)) → AllByRecursion (suits beside.rules) (map (c.reads block) entries)
  entries_suit block [] prev utf8 all = tt
  entries_suit block (e ∷ es) prev utf8 all = (
    laws.sound beside block prev e utf8 (all_before Holds (c.boxing.facts beside block (prev, e)) (flat_map (c.boxing.facts beside block) (with_before (Some e) es)) all),
    entries_suit block es (Some e) utf8 (all_behind Holds (c.boxing.facts beside block (prev, e)) (flat_map (c.boxing.facts beside block) (with_before (Some e) es)) all),
  )

  block_suits : (block : Block) → AllHold (block_facts c.boxing beside block) → AllByRecursion (suits beside.rules) (block_records c.reads block)
  block_suits block all =
      let texts : List Fact = map text_fact (with_before None block.texts) in
      let entries : List Fact = flat_map (c.boxing.facts beside block) (with_before None block.entries) in
      entries_suit block block.entries None (texts_utf8 block.texts None (all_before Holds texts entries all.1)) (all_behind Holds texts entries all.1)

  blocks_suit : (blocks : List Block) → AllHold (flat_map (block_facts c.boxing beside) blocks) → AllByRecursion (suits beside.rules) (flat_map (block_records c.reads) blocks)
  blocks_suit [] all = tt
  blocks_suit (b ∷ bs) all =
      let front : List Fact = block_facts c.boxing beside b in
      let rest : List Fact = flat_map (block_facts c.boxing beside) bs in
      all_join (suits beside.rules) (block_records c.reads b) (flat_map (block_records c.reads) bs) (block_suits b (all_before Holds front rest all)) (blocks_suit bs (all_behind Holds front rest all))

pub fitting : {A : Type 0} (c : BoxedClass A) (suits : List Rule → A → Type 0) → IsLawful c suits → FittingLaw c suits
unfolding section_facts
fitting c suits laws beside w records s =
    subst (AllByRecursion (suits beside.rules)) (sym s.records_are)
    (blocks_suit c suits laws beside (section_in s.fields).blocks (all_behind Holds _ (flat_map (block_facts c.boxing beside) (section_in s.fields).blocks) s.sound))

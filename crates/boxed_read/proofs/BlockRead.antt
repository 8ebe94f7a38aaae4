-- The records of a block in a window.
use Rattle.std.proofs.Common.{◌≡◌, ℕ, List, [], ◌∷◌, map, Option, Some, None, Result, Ok, refl, sym, ap, subst, ◌∙◌}
use Rattle.std.specs.Prelude.{flat_map}
use Rattle.std.specs.Option.{option_map_or}
use Rattle.live_model.specs.Ids.{Id}
use Rattle.obf_wire.specs.declared.file.FileBreak.{FileBreak}
use Rattle.obf_wire.specs.Fields.{IsWindow, Window, part_of}
use Rattle.file_grammar.specs.declared.parts.Boxed.{Boxed}
use Rattle.file_grammar.specs.declared.parts.Part.TheVariants.{Block as BlockPart, Texts}
use Rattle.file_grammar.specs.BoxRules.{Boxing, block_facts, text_fact, with_before}
use Rattle.file_grammar.specs.Facts.{AllHold, Fact}
use Rattle.file_grammar.specs.Listed.{Reading, block_records}
use Rattle.file_grammar.specs.Messages.{Fields, ends, has_number, has_bytes, has_numbers, has_message}
use Rattle.file_grammar.specs.Readings.{message_at}
use Rattle.file_grammar.specs.Sections.{Block, Entry, Placed, block_with, entries_from, messages_in, texts_in}
use Rattle.file_grammar.specs.Walks.{Standing, left_in}
use Rattle.boxed_exact.specs.Fields.{HoldsInner}
use Rattle.boxed_exact.proofs.RecordWalk.{IsBlockOf, block_of, held_texts}
use Rattle.boxed_laws.proofs.FittingRecords.{Holds, all_before, all_behind, texts_utf8}
use Rattle.boxed_read.specs.Records.{IsReading, fields_read, only_fields, only_texts, records_at, records_left, texts_at}
use Rattle.boxed_read.specs.Sound.{AreSoundLeft, HoldsBlock}

-- a block by its parts
abbrev pub made_block : ℕ → Fields → Fields → Block
made_block at texts records = record { at = at; texts = texts_in texts; entries = entries_from 0 (messages_in records) }

module _ {A : Type 0} (class : Boxed) (boxing : Boxing) (reads : List ℕ → Reading A) (id_of : A → Id) (law : IsReading boxing reads id_of) (group : List ℕ) where
  -- blocks with the same texts read the same
  pub same_texts : (a b : Block) (entries : List Entry) → a.texts ≡ b.texts → map (reads group a) entries ≡ map (reads group b) entries
  same_texts a b [] e = refl
  same_texts a b (x ∷ xs) e =
      ap (λ (r : A). r ∷ map (reads group a) xs)
      (law.plain group a x ∙ ap (λ (texts : List (Placed (List ℕ))). reads group (only_texts texts) (only_fields x.ordinal x.fields)) e ∙ sym (law.plain group b x))
      ∙ ap (λ (rs : List A). reads group b x ∷ rs) (same_texts a b xs e)

  abbrev records_or_none : Option Block → List A
  records_or_none block = option_map_or (block_records (reads group)) block []

  -- wherever a block stands, it has the same records
  pub any_place : (at : ℕ) (fields : Fields) (block : Block) → block_with at fields ≡ Some block → records_or_none (block_with 0 fields) ≡ block_records (reads group) block
  any_place at ends block e = absurd cc
  any_place at (has_number a key value rest) block e = absurd cc
  any_place at (has_bytes a key text rest) block e = absurd cc
  any_place at (has_numbers a key values rest) block e = absurd cc
  any_place at (has_message a key texts records) block e =
      same_texts (made_block 0 texts records) (made_block at texts records) (entries_from 0 (messages_in records)) refl ∙ ap records_or_none e

  -- after the texts of a sound block, its records are left
  pub record Begun (w texts : Window) (behind : Standing) : Type 0 where
    pub sound : AreSoundLeft class boxing texts 0 behind
    pub same : records_left class (reads group) texts 0 behind ≡ records_at class (reads group) w

  pub begun : (w : Window) (s behind : Standing) (place from to : ℕ) → HoldsBlock class boxing w → s ≡ record { part = BlockPart class; last = None; window = w } → behind.part ≡ s.part → IsWindow behind.window
      → ((at key : ℕ) (inner rest : Fields) → left_in s ≡ Ok (has_message at key inner rest) → (place ≡ at) × HoldsInner s from to key inner × (left_in behind ≡ Ok rest))
      → Begun w (part_of w.bytes from to) behind
  begun w s behind place from to h is part window next =
      let b : IsBlockOf h.fields = block_of class w h.fields h.read in
      let begins = subst (λ (s : Standing). left_in s ≡ Ok h.fields) (sym is) h.read in
      let n = next b.at 14 b.texts b.records (subst (λ (fields : Fields). left_in s ≡ Ok fields) b.is begins) in
      let held = held_texts class s from to b.texts (ap (λ (s : Standing). s.part) is) n.1 in
      let read : message_at Texts (part_of w.bytes from to) ≡ Ok b.texts = subst (λ (bytes : List ℕ). message_at Texts (part_of bytes from to) ≡ Ok b.texts) (ap (λ (s : Standing). s.window.bytes) is) held in
      let block : Block = made_block h.at b.texts b.records in
      let there : block_with h.at h.fields ≡ Some block = ap (block_with h.at) b.is in
      let is_block : h.block ≡ block = let both = sym h.is ∙ there in cc in
      let all : AllHold (block_facts boxing h.beside block) = subst (λ (x : Block). AllHold (block_facts boxing h.beside x)) is_block h.facts in
      let texts : List Fact = map text_fact (with_before None block.texts) in
      let entries : List Fact = flat_map (boxing.facts h.beside block) (with_before None block.entries) in
      let shown : Block → List A = λ x. map (reads group x) (entries_from 0 (messages_in b.records)) in
      record {
        sound = record {
          part = part ∙ ap (λ (s : Standing). s.part) is;
          window = window;
          amid = record { beside = h.beside; few = h.few; block = block; named = b.texts; read = read; are = refl; utf8 = texts_utf8 block.texts None (all_before Holds texts entries all.1) };
          prev = None;
          fields = b.records;
          left = n.2;
          are = b.are;
          facts = all_behind Holds texts entries all.1;
        };
        same =
            ap (λ (r : Result Fields FileBreak). map (reads group (only_texts (texts_at (part_of w.bytes from to)))) (entries_from 0 (messages_in (fields_read r)))) n.2
            ∙ ap (λ (r : Result Fields FileBreak). shown (only_texts (texts_in (fields_read r)))) read
            ∙ same_texts (only_texts (texts_in b.texts)) (made_block 0 b.texts b.records) (entries_from 0 (messages_in b.records)) refl
            ∙ ap (λ (fields : Fields). records_or_none (block_with 0 fields)) (sym b.is)
            ∙ ap (λ (r : Result Fields FileBreak). records_or_none (block_with 0 (fields_read r))) (sym h.read);
      }

-- The fields of blocks: they are spelled as a writer packs them, and are of the form of blocks.
use Rattle.std.proofs.Common.{◌≡◌, ℕ, ◌-◌, ◌^◌, ◌<◌, List, [], ◌∷◌, ◌++◌, length, Option, Some, None, refl, ap, ◌∙◌, arith}
use Rattle.std.specs.Prelude.{flat_map, IsTrue}
use Rattle.std.specs.List.{AllByRecursion}
use Rattle.live_model.specs.declared.rules.Rule.{Rule}
use Rattle.obf_wire.specs.Fields.{field_spelling, number_field, short_field, section}
use Rattle.text_table.specs.Tables.{table_bytes}
use Rattle.file_grammar.specs.declared.parts.Boxed.{Boxed}
use Rattle.file_grammar.specs.declared.parts.Boxed.TheVariants.{Map, Poi, Road, Restriction}
use Rattle.file_grammar.specs.declared.parts.Part.TheVariants.{Boxes, Block, Texts, Record}
use Rattle.file_grammar.specs.Tables.{may_end}
use Rattle.file_grammar.specs.Messages.{MayCome}
use Rattle.boxed_write.specs.Packed.{block, records_behind, texts_of}
use Rattle.boxed_laws.specs.Bare.{Bare, no_more, a_number, a_text, a_message, bytes_of, AreFormed}
use Rattle.boxed_laws.specs.Classes.{BoxedClass, StandsIn, IsLawful, bare_record}

abbrev pub bare_texts : List (List ℕ) → Bare
bare_texts [] = no_more
bare_texts (t ∷ ts) = a_text 10 t (bare_texts ts)

module _ {A : Type 0} (c : BoxedClass A) where
  -- records after one with this ordinal
  abbrev pub bare_records : List (List ℕ) → ℕ → List A → Bare
  bare_records texts before [] = no_more
  bare_records texts before (r ∷ rs) = a_message 18 (bare_record c texts before r) (bare_records texts (c.packing.ordinal r) rs)

  abbrev pub bare_block : List (List ℕ) → List A → Bare
  bare_block texts rs = a_message 14 (bare_texts texts) (bare_records texts 0 rs)

  abbrev pub bare_blocks : List (List A) → Bare
  bare_blocks [] = no_more
  bare_blocks (b ∷ bs) = a_message 22 (bare_block (texts_of c.packing b) b) (bare_blocks bs)

texts_bytes : (ts : List (List ℕ)) → bytes_of (bare_texts ts) ≡ table_bytes ts
texts_bytes [] = refl
texts_bytes (t ∷ ts) = ap (λ (bytes : List ℕ). field_spelling 10 (length t) t ++ bytes) (texts_bytes ts)

texts_formed : (last : Option ℕ) (ts : List (List ℕ)) → MayCome Texts last 10 → IsTrue (may_end Texts last) → AreFormed Texts last (bare_texts ts)
texts_formed last [] come end = end
texts_formed last (t ∷ ts) come end = (come, refl, texts_formed (Some 10) ts refl refl)

less : (a b : ℕ) → a < 2 ^ 64 → a - b < 2 ^ 64
less a b small = omega arith

-- a record begins with a number, whatever its class
begins : (class : Boxed) (step : ℕ) (rest : Bare) → step < 2 ^ 64 → AreFormed (Record class) (Some 8) rest → AreFormed (Record class) None (a_number 8 step rest)
begins Map step rest small f = (refl, small, f)
begins Poi step rest small f = (refl, small, f)
begins Road step rest small f = (refl, small, f)
begins Restriction step rest small f = (refl, small, f)

module _ {A : Type 0} (c : BoxedClass A) (suits : List Rule → A → Type 0) (laws : IsLawful c suits) where
  records_bytes : (texts : List (List ℕ)) (before : ℕ) (rs : List A) → bytes_of (bare_records c texts before rs) ≡ records_behind c.packing texts before rs
  records_bytes texts before [] = refl
  records_bytes texts before (r ∷ rs) =
      ap (λ (t : List ℕ). short_field 2 (number_field 1 (c.packing.ordinal r - before) ++ t) ++ bytes_of (bare_records c texts (c.packing.ordinal r) rs)) (laws.spelled texts r)
      ∙ ap (λ (t : List ℕ). short_field 2 (number_field 1 (c.packing.ordinal r - before) ++ c.packing.fields texts r) ++ t) (records_bytes texts (c.packing.ordinal r) rs)

  pub block_bytes : (b : List A) → section 2 (bytes_of (bare_block c (texts_of c.packing b) b)) ≡ block c.packing b
  block_bytes b =
      ap (λ (t : List ℕ). section 2 (section 1 t ++ bytes_of (bare_records c (texts_of c.packing b) 0 b))) (texts_bytes (texts_of c.packing b))
      ∙ ap (λ (t : List ℕ). section 2 (section 1 (table_bytes (texts_of c.packing b)) ++ t)) (records_bytes (texts_of c.packing b) 0 b)

  pub blocks_bytes : (bs : List (List A)) → bytes_of (bare_blocks c bs) ≡ flat_map (block c.packing) bs
  blocks_bytes [] = refl
  blocks_bytes (b ∷ bs) = ap (λ (t : List ℕ). t ++ bytes_of (bare_blocks c bs)) (block_bytes b) ∙ ap (λ (t : List ℕ). block c.packing b ++ t) (blocks_bytes bs)

  -- the records of a block stand in it, and its texts can be counted
  pub record IsBlockFormed (rules : List Rule) (b : List A) : Type 0 where
    pub short : length (texts_of c.packing b) < 2 ^ 64
    pub stands : AllByRecursion (StandsIn c suits rules (texts_of c.packing b)) b

  module _ (rules : List Rule) (few : length rules < 2 ^ 64) where
    records_formed : (texts : List (List ℕ)) (last : Option ℕ) (before : ℕ) (rs : List A) → length texts < 2 ^ 64 → MayCome (Block c.class) last 18 → IsTrue (may_end (Block c.class) last) → AllByRecursion (StandsIn c suits rules texts) rs → AreFormed (Block c.class) last (bare_records c texts before rs)
    records_formed texts last before [] short come end stands = end
    records_formed texts last before (r ∷ rs) short come end stands =
        let step : c.packing.ordinal r - before < 2 ^ 64 = less (c.packing.ordinal r) before (laws.small rules r stands.0.suits_rules) in
        (come, begins c.class (c.packing.ordinal r - before) (c.bare texts r) step (laws.formed rules texts r few short stands.0), records_formed texts (Some 18) (c.packing.ordinal r) rs short refl refl stands.1)

    pub blocks_formed : (last : Option ℕ) (bs : List (List A)) → MayCome (Boxes c.class) last 22 → IsTrue (may_end (Boxes c.class) last) → AllByRecursion (IsBlockFormed rules) bs → AreFormed (Boxes c.class) last (bare_blocks c bs)
    blocks_formed last [] come end all = end
    blocks_formed last (b ∷ bs) come end all =
        (come, (refl, texts_formed None (texts_of c.packing b) refl refl, records_formed (texts_of c.packing b) (Some 14) 0 b all.0.short refl refl all.0.stands), blocks_formed (Some 22) bs refl refl all.1)

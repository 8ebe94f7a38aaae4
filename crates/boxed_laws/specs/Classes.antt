-- What a class of boxed records is to its writer and its readers, and what it has to show of one record.
use Rattle.std.specs.Prelude.{◌≡◌, ℕ, ◌-◌, ◌^◌, ◌<◌, ◌≤◌, List, map, length, true, false, Option, None, Some, IsUtf8}
use Rattle.std.specs.List.{AllByRecursion, list_all}
use Rattle.std.specs.Str.{is_utf8}
use Rattle.std.specs.Ordering.{is_gt}
use Rattle.live_model.specs.declared.points.Rect.{Rect}
use Rattle.live_model.specs.declared.rules.Rule.{Rule}
use Rattle.live_model.specs.Ids.{ordinal}
use Rattle.box_tree.specs.Trees.{Holds}
use Rattle.file_grammar.specs.declared.parts.Boxed.{Boxed}
use Rattle.file_grammar.specs.declared.parts.Part.TheVariants.{Record}
use Rattle.file_grammar.specs.Facts.{AllHold}
use Rattle.file_grammar.specs.Messages.{inside}
use Rattle.file_grammar.specs.Sections.{Placed, Block, Entry, object_of, text_of}
use Rattle.file_grammar.specs.BoxRules.{Beside, Boxing, holds_place, is_marked}
use Rattle.boxed_write.specs.Packed.{Packing, text_number}
use Rattle.boxed_laws.specs.Bare.{Bare, a_number, bytes_of, stood, AreFormed}

-- A class: its part of a file, how its records are packed, what has to hold of them, the record that an entry of a block
-- stands for, and the fields of a record after its ordinal in a block with these texts.
pub record BoxedClass (A : Type 0) : Type 0 where
  pub class : Boxed
  pub packing : Packing A
  pub boxing : Boxing
  pub reads : Block → Entry → A
  pub bare : List (List ℕ) → A → Bare

-- beside the section stands a table of rules, and records need no mark
abbrev pub without_marks : List Rule → Beside
without_marks rules = record { rules = rules; marks = None }

-- the rules, and these marks
abbrev pub with_marks : List Rule → List ℕ → Beside
with_marks rules marks = record { rules = rules; marks = Some marks }

-- the edges are in order and in the grid
pub record IsBox (b : Rect) : Type 0 where
  pub across : b.left ≤ b.right
  pub down : b.top ≤ b.bottom
  pub east : b.right ≤ 3600000000
  pub south : b.bottom ≤ 1800000000

-- the text of this number among the texts: none for 0, else the one that stands one index before
pub record HasNumber (texts : List (List ℕ)) (text : List ℕ) : Type 0 where
  pub most : text_number texts text ≤ length texts
  pub again : (there : List (Placed (List ℕ))) → map (λ t. t.value) there ≡ texts → text_of there (text_number texts text) ≡ text

-- each text is UTF-8
abbrev pub PassUtf8 : List (Placed (List ℕ)) → Type 0
PassUtf8 texts = AllByRecursion (λ t. is_utf8 t.value ≡ true) texts

module _ {A : Type 0} (c : BoxedClass A) where
  -- the fields of a record after one with this ordinal
  abbrev pub bare_record : List (List ℕ) → ℕ → A → Bare
  bare_record texts before r = a_number 8 (c.packing.ordinal r - before) (c.bare texts r)

  -- the entry that a record makes at an offset, after one with this ordinal
  abbrev pub entry_of : List (List ℕ) → ℕ → ℕ → ℕ → A → Entry
  entry_of texts at ordinal before r =
      record { at = at; ordinal = ordinal; fields = stood (inside at 18 (length (bytes_of (bare_record texts before r)))) (bare_record texts before r) }

  -- the entry of a record that comes before this one, or ties with it
  pub record ComesBefore (texts : List (List ℕ)) (r : A) (e : Entry) : Type 0 where
    pub other : A
    pub at : ℕ
    pub before : ℕ
    pub ordinal : ℕ
    pub is : e ≡ entry_of texts at ordinal before other
    pub ordinal_is : ordinal ≡ c.packing.ordinal other
    pub up : is_gt (c.packing.cmp other r) ≡ false

  -- none, or the entry of such a record
  abbrev pub Precedes : List (List ℕ) → A → Option Entry → Type 0
  Precedes texts r None = Unit {0}
  Precedes texts r (Some e) = ComesBefore texts r e

  -- a record in a block with these texts: it suits the rules, and its texts have their numbers
  pub record StandsIn (suits : List Rule → A → Type 0) (rules : List Rule) (texts : List (List ℕ)) (r : A) : Type 0 where
    pub suits_rules : suits rules r
    pub named : AllByRecursion (HasNumber texts) (c.packing.texts r)

-- What a class has to show: of one record, where it stands in a block, and of one entry of a block in which every rule holds.
pub record IsLawful {A : Type 0} (c : BoxedClass A) (suits : List Rule → A → Type 0) : Type 0 where
  -- the order begins with the ordinal
  pub first : (a b : A) → is_gt (c.packing.cmp a b) ≡ false → c.packing.ordinal a ≤ c.packing.ordinal b
  -- a record that suits the rules has an ordinal of 64 bits, a box on the grid, and texts in UTF-8, of which it names at most 2^32
  pub small : (rules : List Rule) (r : A) → suits rules r → c.packing.ordinal r < 2 ^ 64
  pub box : (rules : List Rule) (r : A) → suits rules r → IsBox (c.packing.box r)
  pub utf8 : (rules : List Rule) (r : A) → suits rules r → AllByRecursion IsUtf8 (c.packing.texts r)
  pub few : (r : A) → length (c.packing.texts r) ≤ 2 ^ 32
  -- its fields are spelled as it is packed, and of the form of a record
  pub spelled : (texts : List (List ℕ)) (r : A) → bytes_of (c.bare texts r) ≡ c.packing.fields texts r
  pub formed : (rules : List Rule) (texts : List (List ℕ)) (r : A) → length rules < 2 ^ 64 → length texts < 2 ^ 64 → StandsIn c suits rules texts r → AreFormed (Record c.class) (Some 8) (c.bare texts r)
  -- no rule fails, its points are in each box that contains its own, and it is read again
  pub good : (rules : List Rule) (texts : List (List ℕ)) (block : Block) (prev : Option Entry) (at ordinal before : ℕ) (r : A) → map (λ t. t.value) block.texts ≡ texts → ordinal ≡ c.packing.ordinal r → StandsIn c suits rules texts r → Precedes c texts r prev
      → AllHold (c.boxing.facts (without_marks rules) block (prev, entry_of c texts at ordinal before r))
  pub contained : (texts : List (List ℕ)) (at ordinal before : ℕ) (r : A) (box : Rect) → Holds box (c.packing.box r) → list_all (holds_place box) (c.boxing.points (entry_of c texts at ordinal before r)) ≡ true
  pub again : (rules : List Rule) (texts : List (List ℕ)) (block : Block) (at ordinal before : ℕ) (r : A) → map (λ t. t.value) block.texts ≡ texts → ordinal ≡ c.packing.ordinal r → StandsIn c suits rules texts r
      → c.reads block (entry_of c texts at ordinal before r) ≡ r
  -- the record of an entry in which every rule holds suits the rules
  pub sound : (beside : Beside) (block : Block) (prev : Option Entry) (entry : Entry) → PassUtf8 block.texts → AllHold (c.boxing.facts beside block (prev, entry)) → suits beside.rules (c.reads block entry)
  -- its ordinal is that of the object of its entry, and besides the mark of this object nothing is asked that marks tell
  pub object : (block : Block) (entry : Entry) → c.packing.ordinal (c.reads block entry) ≡ ordinal (object_of entry.ordinal)
  pub marked : (rules : List Rule) (marks : List ℕ) (block : Block) (pair : Option Entry × Entry) → is_marked (Some marks) pair.1.ordinal ≡ true → AllHold (c.boxing.facts (without_marks rules) block pair) → AllHold (c.boxing.facts (with_marks rules marks) block pair)

-- What a class of boxed records has to prove of its packing, and what a writer of its records takes.
use Rattle.std.specs.Prelude.{◌≡◌, ◌≢◌, ℕ, List, [], length, map, filter, nat_lt, Contains}
use Rattle.std.specs.Cmp.{IsTotalOrder}
use Rattle.std.specs.Ordering.{nat_cmp, ordering_then}
use Rattle.std.specs.declared.cmp.Ordering.{Ordering}
use Rattle.std.specs.declared.cmp.Ordering.TheVariants.{Equal}
use denote.Ref.{Bor}
use Rattle.live_model.specs.declared.points.Rect.{Rect}
use Rattle.ordered_lists.specs.Ordered.{put_all}
use Rattle.live_model.specs.Geometry.{middle}
use Rattle.box_tree.specs.Packing.{code}
use Rattle.text_table.specs.Tables.{text_cmp}
use Rattle.boxed_write.specs.Packed.{Packing}

-- the order is total, and of records that fit, those that tie are one
pub record IsPackedBy {A : Type 0} (packing : Packing A) (fits : A → Type 0) : Type 0 where
  pub total : IsTotalOrder packing.cmp
  pub same : (a b : A) → fits a → fits b → packing.cmp a b ≡ Equal → a ≡ b

-- just those that are not empty
abbrev pub nonempty : List (List ℕ) → List (List ℕ)
nonempty texts = filter (λ text. nat_lt 0 (length text)) texts

-- the texts, and others, each in its place, once
abbrev pub with_texts : List (List ℕ) → List (List ℕ) → List (List ℕ)
with_texts others texts = put_all text_cmp (λ text. text) texts others

-- the records that are borrowed
abbrev pub held : {A : Type 0} → List (Bor A) → List A
held borrowed = map (λ r. r.now) borrowed

-- the code of the centre of a record's box, the box, and the record
abbrev pub Placed : Type 0 → Type 0
Placed A = ℕ × Rect × Bor A

-- the records
abbrev pub items_of : {A : Type 0} → List (Placed A) → List A
items_of placed = map (λ p. p.2.now) placed

-- the boxes
abbrev pub boxes_of : {A : Type 0} → List (Placed A) → List Rect
boxes_of placed = map (λ p. p.1) placed

module _ {A : Type 0} (packing : Packing A) where
  -- each text that the record names is among these, or empty
  abbrev pub IsNamedIn : List (List ℕ) → A → Type 0
  IsNamedIn texts r = (text : List ℕ) → Contains (packing.texts r) text → text ≢ [] → Contains texts text

  -- the box is that of the record, and the code that of the box's centre
  abbrev pub IsPlaced : Placed A → Type 0
  IsPlaced p = (p.0 ≡ code (middle (packing.box p.2.now))) × (p.1 ≡ packing.box p.2.now)

  -- by the code, then in the order of records
  abbrev pub placed_cmp : Placed A → Placed A → Ordering
  placed_cmp a b = ordering_then (nat_cmp a.0 b.0) (packing.cmp a.2.now b.2.now)

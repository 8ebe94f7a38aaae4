-- Tables of texts, and their bytes.
use Rattle.std.specs.Prelude.{◌≡◌, ◌≢◌, ℕ, ◌^◌, ◌<◌, ◌≤◌, List, [], ◌∷◌, length}
use Rattle.std.specs.List.{AllByRecursion, HoldsAt, flat_map}
use Rattle.std.specs.List.Sorted.{IsPartitionPoint}
use Rattle.std.specs.Str.{IsUtf8}
use Rattle.std.specs.Ordering.{nat_cmp}
use Rattle.std.specs.Cmp.Lexicographic.{slice_cmp}
use Rattle.std.specs.declared.cmp.Ordering.{Ordering}
use Rattle.std.specs.declared.cmp.Ordering.TheVariants.{Less, Greater}
use Rattle.ordered_lists.specs.Ordered.{IsRisingBy, put_by}
use Rattle.obf_wire.specs.Fields.{field_spelling}

-- ---- tables

-- the order of texts: byte by byte, and the front of a text before it
abbrev pub text_cmp : List ℕ → List ℕ → Ordering
text_cmp a b = slice_cmp nat_cmp a b

abbrev pub AreRising : List (List ℕ) → Type 0
AreRising texts = IsRisingBy text_cmp (λ t. t) texts

-- the texts and this one, in its place, once
abbrev pub with_text : List ℕ → List (List ℕ) → List (List ℕ)
with_text text texts = put_by text_cmp (λ t. t) text texts

-- what a table may hold
pub record IsText (text : List ℕ) : Type 0 where
  pub utf8 : IsUtf8 text
  pub some : text ≢ []
  pub fits : length text < 2 ^ 64

pub record IsTable (texts : List (List ℕ)) : Type 0 where
  pub each : AllByRecursion IsText texts
  pub rising : AreRising texts

-- ---- bytes

-- a text is a field of the number 1 and wire type 2: the key 10, its length, its bytes
abbrev pub text_field : List ℕ → List ℕ
text_field text = field_spelling 10 (length text) text

abbrev pub table_bytes : List (List ℕ) → List ℕ
table_bytes texts = flat_map text_field texts

-- the bytes are the table of these texts
pub record AreTexts (bytes : List ℕ) (texts : List (List ℕ)) : Type 0 where
  pub table : IsTable texts
  pub spelled : bytes ≡ table_bytes texts

-- the bytes are a table
abbrev pub IsTexts : List ℕ → Type 0
IsTexts bytes = (texts : List (List ℕ)) × AreTexts bytes texts

-- ---- places

-- the text is at this place
pub record IsThere (text : List ℕ) (texts : List (List ℕ)) (place : ℕ) : Type 0 where
  pub inside : place < length texts
  pub same : HoldsAt (λ t. t ≡ text) texts place

-- the text belongs before this place: those before it are lower, the others higher
pub record IsGap (text : List ℕ) (texts : List (List ℕ)) (place : ℕ) : Type 0 where
  pub inside : place ≤ length texts
  pub parted : IsPartitionPoint (λ t. text_cmp t text ≡ Less) (λ t. text_cmp t text ≡ Greater) texts place

-- the first of the texts, and the bytes of the others
abbrev pub IsFront : List (List ℕ) → List ℕ → List ℕ → Type 0
IsFront [] first rest = ⊥
IsFront (t ∷ ts) first rest = (first ≡ t) × AreTexts rest ts

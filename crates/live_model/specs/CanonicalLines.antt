-- The canonical line of an object, and the nodes in a rectangle.
use Rattle.std.specs.Prelude.{◌≡◌, ℕ, ◌<◌, ◌≤◌, ◌^◌, List, [], ◌∷◌, ◌++◌, length, codes, Bool, false, Option, Some, None, ℤ, filter, map, IsUtf8}
use Rattle.std.specs.List.{flat_map, AllByRecursion}
use Rattle.std.specs.Fmt.{decimal as printed, signed_decimal}
use Rattle.text_pieces.specs.Coordinates.{degrees_text}
use Rattle.text_pieces.specs.Escapes.{escaped}
use Rattle.live_model.specs.declared.ids.Kind.{Kind}
use Rattle.live_model.specs.declared.ids.Kind.TheVariants.{Node, Way, Relation}
use Rattle.live_model.specs.declared.points.Point.{Point}
use Rattle.live_model.specs.declared.points.Rect.{Rect}
use Rattle.live_model.specs.declared.objects.Tag.{Tag}
use Rattle.live_model.specs.declared.objects.Member.{Member}
use Rattle.live_model.specs.declared.objects.Entity.{Entity}
use Rattle.live_model.specs.Ids.{Id}
use Rattle.live_model.specs.declared.objects.Line.TheVariants.{Live}
use Rattle.live_model.specs.Points.{longitude, latitude, is_inside}
use Rattle.live_model.specs.Objects.{IsGood}
use Rattle.live_model.specs.ObjectLines.{line_of}
use Rattle.live_model.specs.OplTexts.{OplText}

-- `n`, `w` or `r`
abbrev pub kind_letter : Kind → ℕ
kind_letter Node = 110
kind_letter Way = 119
kind_letter Relation = 114

-- the letter of the kind and the number
unfoldable pub id_text : Id → List ℕ
id_text o = kind_letter o.kind ∷ signed_decimal o.number

-- a key, `=` and a value
unfoldable pub tag_text : Tag → List ℕ
tag_text t = escaped t.key ++ 61 ∷ escaped t.value

-- the number of a node with its letter
unfoldable pub ref_text : ℤ → List ℕ
ref_text n = 110 ∷ signed_decimal n

-- an id with its letter, `@` and a role
unfoldable pub member_text : Member → List ℕ
member_text m = id_text m.target ++ 64 ∷ escaped m.role

-- parted by commas
abbrev pub listed : {A : Type 0} → (A → List ℕ) → List A → List ℕ
listed text [] = []
listed text (x ∷ xs) = text x ++ flat_map (λ y. 44 ∷ text y) xs

-- the longitude and the latitude, or two empty values
abbrev pub place_text : Option Point → List ℕ
place_text None = codes " x y"
place_text (Some p) = codes " x" ++ degrees_text (longitude p) ++ codes " y" ++ degrees_text (latitude p)

-- what an object of a kind has behind its tags
abbrev pub parts_text : Kind → Entity → List ℕ
parts_text Node e = place_text e.place
parts_text Way e = codes " N" ++ listed ref_text e.refs
parts_text Relation e = codes " M" ++ listed member_text e.members

-- the canonical line without its line feed
unfoldable pub row_text : Entity → List ℕ
row_text e = id_text e.id ++ codes " v" ++ printed e.version ++ codes " dV T" ++ listed tag_text e.tags ++ parts_text e.id.kind e

-- the canonical line of an object
unfoldable pub line_text : Entity → List ℕ
line_text e = row_text e ++ 10 ∷ []

-- the canonical lines of these objects, in order
abbrev pub lines_text : List Entity → List ℕ
lines_text es = flat_map line_text es

-- the keys, values and roles are UTF-8
pub record HasTexts (e : Entity) : Type 0 where
  pub tags : AllByRecursion (λ t. IsUtf8 t.key × IsUtf8 t.value) e.tags
  pub roles : AllByRecursion (λ m. IsUtf8 m.role) e.members

-- the canonical line of an object spells that object
abbrev pub CanonicalLaw : Type 0
CanonicalLaw = (e : Entity) → IsGood e → HasTexts e → e.version < 2 ^ 32 → line_of (row_text e) ≡ Some (Live e)

-- the canonical lines of objects spell these objects in their order
abbrev pub CanonicalTextLaw : Type 0
CanonicalTextLaw = (es : List Entity) → AllByRecursion IsGood es → AllByRecursion HasTexts es → AllByRecursion (λ e. e.version < 2 ^ 32) es
    → length es ≤ 4000000 → OplText (lines_text es) (map Live es)

-- there is a place, and it lies in the rectangle
abbrev pub is_located_in : Rect → Option Point → Bool
is_located_in r None = false
is_located_in r (Some p) = is_inside r p

-- the objects whose place lies in the rectangle; only nodes have places
abbrev pub nodes_in : Rect → List Entity → List Entity
nodes_in r store = filter (λ e. is_located_in r e.place) store

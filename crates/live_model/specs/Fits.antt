-- What a record must be so that it fits a table of rules: what can be written beside the table, and read again.
use Rattle.std.specs.Prelude.{◌≡◌, ◌≢◌, ℕ, ◌≤◌, List, [], length, ◌||◌, Some, IsTrue, IsUtf8}
use Rattle.std.specs.List.{AllByRecursion, slice_get}
use Rattle.live_model.specs.declared.ids.Kind.{Kind}
use Rattle.live_model.specs.declared.ids.Kind.TheVariants.{Node, Way, Relation}
use Rattle.live_model.specs.declared.objects.Entity.{Entity}
use Rattle.live_model.specs.declared.shapes.Shape.{Shape}
use Rattle.live_model.specs.declared.shapes.Shape.TheVariants.{Point as PointShape, Line as LineShape, Area as AreaShape}
use Rattle.live_model.specs.declared.classes.Class.TheVariants.{Map as MapClass, Road as RoadClass}
use Rattle.live_model.specs.declared.rules.Rule.{Rule}
use Rattle.live_model.specs.declared.addresses.AddrKind.{AddrKind}
use Rattle.live_model.specs.declared.addresses.AddrKind.TheVariants.{Place, Street, House}
use Rattle.live_model.specs.declared.addresses.AddrRec.{AddrRec}
use Rattle.live_model.specs.declared.records.MapRec.{MapRec}
use Rattle.live_model.specs.declared.records.PoiRec.{PoiRec}
use Rattle.live_model.specs.declared.records.RoadNode.{RoadNode}
use Rattle.live_model.specs.declared.records.RoadRec.{RoadRec}
use Rattle.live_model.specs.declared.records.BanRec.{BanRec}
use Rattle.live_model.specs.declared.records.Rec.{Rec}
use Rattle.live_model.specs.declared.records.Rec.TheVariants.{Map, Poi, Addr, Road, Ban}
use Rattle.live_model.specs.Ids.{IsId}
use Rattle.live_model.specs.Points.{IsInGrid}
use Rattle.live_model.specs.Stores.{IsStore}
use Rattle.live_model.specs.CanonicalLines.{HasTexts}
use Rattle.live_model.specs.Rules.{IsRule, is_category, admits}
use Rattle.live_model.specs.Closures.{node_id, way_id}
use Rattle.live_model.specs.Records.{is_empty, is_language}
use Rattle.live_model.specs.Maps.{map_of}

-- a point is drawn of a node, a line and an area of a way
abbrev pub drawn_kind : Shape → Kind
drawn_kind PointShape = Node
drawn_kind LineShape = Way
drawn_kind AreaShape = Way

-- a point has one point, a line and an area two or more
abbrev pub IsCount : Shape → ℕ → Type 0
IsCount PointShape count = count ≡ 1
IsCount LineShape count = 2 ≤ count
IsCount AreaShape count = 2 ≤ count

-- a node or a way
abbrev pub IsNodeOrWay : Kind → Type 0
IsNodeOrWay kind = kind ≢ Relation

-- a map record: its rule is of the map, and has the record's shape
pub record FitsMap (rules : List Rule) (m : MapRec) : Type 0 where
  pub rule : Rule
  pub in_table : slice_get rules m.rule ≡ Some rule
  pub class : rule.class ≡ MapClass
  pub shape : rule.shape ≡ m.shape
  pub id : IsId m.id
  pub kind : m.id.kind ≡ drawn_kind m.shape
  pub name : IsUtf8 m.name
  pub count : IsCount m.shape (length m.points)
  pub grid : AllByRecursion IsInGrid m.points

-- a point of interest; its category need not be one of the table
pub record FitsPoi (p : PoiRec) : Type 0 where
  pub id : IsId p.id
  pub kind : IsNodeOrWay p.id.kind
  pub category : IsTrue (is_category p.category)
  pub name : IsUtf8 p.name
  pub grid : IsInGrid p.point

-- a street is a way; a place and a house are nodes or ways
abbrev pub IsAddressed : AddrKind → Kind → Type 0
IsAddressed Place kind = IsNodeOrWay kind
IsAddressed Street kind = kind ≡ Way
IsAddressed House kind = IsNodeOrWay kind

-- a house has a number, and nothing else has one
abbrev pub IsNumber : AddrKind → List ℕ → Type 0
IsNumber Place number = number ≡ []
IsNumber Street number = number ≡ []
IsNumber House number = number ≢ []

-- a place and a street are named plainly or in a language, a house plainly
abbrev pub IsLanguageFor : AddrKind → List ℕ → Type 0
IsLanguageFor House language = language ≡ []
IsLanguageFor kind language = IsTrue (is_empty language || is_language language)

-- an address, which is named
pub record FitsAddress (a : AddrRec) : Type 0 where
  pub id : IsId a.id
  pub kind : IsAddressed a.kind a.id.kind
  pub lang : IsLanguageFor a.kind a.lang
  pub name : IsUtf8 a.name × (a.name ≢ [])
  pub number : IsUtf8 a.number × IsNumber a.kind a.number
  pub grid : IsInGrid a.point

-- a node with a number of an object, in the grid
abbrev pub IsRoadNode : RoadNode → Type 0
IsRoadNode n = IsId (node_id n.id) × IsInGrid n.point

-- a road: its rule is of roads and admits its value
pub record FitsRoad (rules : List Rule) (road : RoadRec) : Type 0 where
  pub rule : Rule
  pub in_table : slice_get rules road.rule ≡ Some rule
  pub class : rule.class ≡ RoadClass
  pub shape : rule.shape ≡ LineShape
  pub id : IsId road.id
  pub kind : road.id.kind ≡ Way
  pub value : IsUtf8 road.value × IsTrue (admits rule.value road.value)
  pub count : 2 ≤ length road.nodes
  pub grid : AllByRecursion IsRoadNode road.nodes

-- a turn restriction; its value may be empty
pub record FitsRestriction (b : BanRec) : Type 0 where
  pub id : IsId b.id
  pub kind : b.id.kind ≡ Relation
  pub value : IsUtf8 b.value
  pub from : IsId (way_id b.from)
  pub via : IsId (node_id b.via)
  pub to : IsId (way_id b.to)
  pub grid : IsInGrid b.point

-- the record can stand beside this table
abbrev pub Fits : List Rule → Rec → Type 0
Fits rules (Map m) = FitsMap rules m
Fits rules (Poi p) = FitsPoi p
Fits rules (Addr a) = FitsAddress a
Fits rules (Road road) = FitsRoad rules road
Fits rules (Ban b) = FitsRestriction b

-- all these records can
abbrev pub FitsRules : List Rule → List Rec → Type 0
FitsRules rules records = AllByRecursion (Fits rules) records

-- The records that rules make of a store fit these rules.
abbrev pub FitsLaw : Type 0
FitsLaw = (rules : List Rule) (store : List Entity) → AllByRecursion IsRule rules → IsStore store → AllByRecursion HasTexts store → FitsRules rules (map_of rules store)

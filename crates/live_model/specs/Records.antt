-- The records that rules make of an object, and the order of records.
-- An object comes with the ids that it refers to in order, each with its object, if there is one.
use Rattle.std.specs.Prelude.{ℕ, List, [], ◌∷◌, ◌++◌, length, take, drop, codes, Bool, true, false, ◌&&◌, ◌||◌, not, nat_le, ◌==◌, Option, Some, None, if◌then◌else◌, unwrap_or, find, filter, map, filter_map, option_to_list, bytes_eq}
use Rattle.std.specs.Option.{option_map, option_and_then}
use Rattle.std.specs.List.{list_all, list_any, enumerate_from}
use Rattle.std.specs.Ordering.{nat_cmp, int_cmp, ordering_then}
use Rattle.std.specs.Cmp.Lexicographic.{slice_cmp}
use Rattle.std.specs.declared.cmp.Ordering.{Ordering}
use Rattle.live_model.specs.declared.ids.Kind.{Kind}
use Rattle.live_model.specs.declared.ids.Kind.TheVariants.{Node, Way}
use Rattle.live_model.specs.declared.points.Point.{Point}
use Rattle.live_model.specs.declared.objects.Tag.{Tag}
use Rattle.live_model.specs.declared.objects.Entity.{Entity}
use Rattle.live_model.specs.declared.classes.Class.{Class}
use Rattle.live_model.specs.declared.classes.Class.TheVariants.{Map as MapClass, Poi as PoiClass, Road as RoadClass, Place as PlaceClass}
use Rattle.live_model.specs.declared.rules.Rule.{Rule}
use Rattle.live_model.specs.declared.directions.Dir.{Dir}
use Rattle.live_model.specs.declared.directions.Dir.TheVariants.{Both, Forward, Backward}
use Rattle.live_model.specs.declared.addresses.AddrKind.{AddrKind}
use Rattle.live_model.specs.declared.addresses.AddrKind.TheVariants.{Place, Street, House}
use Rattle.live_model.specs.declared.addresses.AddrRec.{AddrRec}
use Rattle.live_model.specs.declared.records.MapRec.{MapRec}
use Rattle.live_model.specs.declared.records.PoiRec.{PoiRec}
use Rattle.live_model.specs.declared.records.RoadNode.{RoadNode}
use Rattle.live_model.specs.declared.records.RoadRec.{RoadRec}
use Rattle.live_model.specs.declared.records.BanRec.{BanRec}
use Rattle.live_model.specs.declared.records.Rec.{Rec}
use Rattle.live_model.specs.declared.records.Rec.TheVariants.{Map, Poi, Addr, Road, Ban}
use Rattle.live_model.specs.Ids.{Id, ordinal, rank}
use Rattle.ordered_lists.specs.Ordered.{put_all}
use Rattle.live_model.specs.Rules.{matches, shape_rank}
use Rattle.live_model.specs.Closures.{same_id, closure}
use Rattle.live_model.specs.Geometry.{located, located_nodes, points_of, shapes_of, point_of}

-- Tags.

-- the value of the tag with this key, if there is one
abbrev pub tagged : List ℕ → List Tag → Option (List ℕ)
tagged key tags = option_map (λ t. t.value) (find (λ t. bytes_eq t.key key) tags)

-- the same, or empty
abbrev pub tag_or_empty : List ℕ → List Tag → List ℕ
tag_or_empty key tags = unwrap_or (tagged key tags) []

-- the name of an object, or empty
abbrev pub name_of : Entity → List ℕ
name_of e = tag_or_empty (codes "name") e.tags

-- a text of no bytes
abbrev pub is_empty : List ℕ → Bool
is_empty text = length text == 0

-- a value, where it is wanted
abbrev pub wanted : {A : Type 0} → Bool → Option A → Option A
wanted b value = if b then value else None

-- Rules.

-- the rule matches a shape that the object has
abbrev pub applies : Entity → List (Id × Option Entity) → Rule → Bool
applies e referred r = list_any (λ shape. matches r shape e.tags) (shapes_of e referred)

-- the rules that match the object, each with its place in the table
abbrev pub matching : List Rule → Entity → List (Id × Option Entity) → List (ℕ × Rule)
matching rules e referred = filter (λ r. applies e referred r.1) (enumerate_from 0 rules)

-- the rule draws what it matches
abbrev pub is_map : Class → Bool
is_map MapClass = true
is_map class = false

-- the rule makes roads
abbrev pub is_road : Class → Bool
is_road RoadClass = true
is_road class = false

-- the rule makes places
abbrev pub is_place : Class → Bool
is_place PlaceClass = true
is_place class = false

-- the category of a rule of points of interest
abbrev pub category_of : Class → Option (List ℕ)
category_of (PoiClass category) = Some category
category_of class = None

-- the matching rules of some classes
abbrev pub matching_class : (Class → Bool) → List Rule → Entity → List (Id × Option Entity) → List (ℕ × Rule)
matching_class wants rules e referred = filter (λ r. wants r.1.class) (matching rules e referred)

-- a rule of some classes matches the object
abbrev pub has_class : (Class → Bool) → List Rule → Entity → List (Id × Option Entity) → Bool
has_class wants rules e referred = list_any (λ r. wants r.1.class) (matching rules e referred)

-- Map records.

-- the object as a rule draws it
abbrev pub map_record : Entity → List (Id × Option Entity) → ℕ × Rule → MapRec
map_record e referred r = record { id = e.id; rule = r.0; shape = r.1.shape; name = name_of e; points = points_of e referred }

-- one for each matching rule of the map, in the order of the table
abbrev pub map_records : List Rule → Entity → List (Id × Option Entity) → List MapRec
map_records rules e referred = map (map_record e referred) (matching_class is_map rules e referred)

-- Points of interest.

-- the categories of the matching rules, rising by their bytes, each once
abbrev pub categories : List Rule → Entity → List (Id × Option Entity) → List (List ℕ)
categories rules e referred =
    put_all (slice_cmp nat_cmp) (λ c. c) [] (filter_map (λ r. category_of r.1.class) (matching rules e referred))

-- the object as a point of interest of a category
abbrev pub poi_record : Entity → Point → List ℕ → PoiRec
poi_record e point category = record { id = e.id; category = category; name = name_of e; point = point }

-- one for each category, where the object has a point
abbrev pub pois_at : Option Point → Entity → List (List ℕ) → List PoiRec
pois_at None e found = []
pois_at (Some point) e found = map (poi_record e point) found

-- the points of interest of an object, one of each of its categories
abbrev pub poi_records : List Rule → Entity → List (Id × Option Entity) → List PoiRec
poi_records rules e referred = pois_at (point_of e referred) e (categories rules e referred)

-- Addresses.

-- a letter, a digit, `-` or `_`
abbrev pub is_language_byte : ℕ → Bool
is_language_byte b =
    (nat_le 97 b && nat_le b 122) || ((nat_le 65 b && nat_le b 90) || ((nat_le 48 b && nat_le b 57) || ((b == 45) || (b == 95))))

-- a language: two to ten of them
abbrev pub is_language : List ℕ → Bool
is_language text = nat_le 2 (length text) && (nat_le (length text) 10 && list_all is_language_byte text)

-- a language that stands behind `name:`
abbrev pub named_language : List ℕ → List ℕ → Option (List ℕ)
named_language key language = wanted (bytes_eq key (codes "name:" ++ language) && is_language language) (Some language)

-- the language in which a tag with this key names an object: none of them, the empty one, for `name` alone
abbrev pub language_of : List ℕ → Option (List ℕ)
language_of key = if bytes_eq key (codes "name") then Some [] else named_language key (drop 5 key)

-- a name that is not empty, behind its language
abbrev pub language_and_name : Tag → Option (List ℕ × List ℕ)
language_and_name t = wanted (not (is_empty t.value)) (option_map (λ language. (language, t.value)) (language_of t.key))

-- the names of an object, each behind its language: the plain one, then those in languages, rising
abbrev pub names_of : Entity → List (List ℕ × List ℕ)
names_of e = filter_map language_and_name e.tags

-- a place or a street by one of its names
abbrev pub named_address : Id → AddrKind → Point → List ℕ × List ℕ → AddrRec
named_address id kind point name = record { id = id; kind = kind; lang = name.0; name = name.1; number = []; point = point }

-- a place or a street by each of these names, where the object has a point
abbrev pub named_at : Option Point → Id → AddrKind → List (List ℕ × List ℕ) → List AddrRec
named_at None id kind names = []
named_at (Some point) id kind names = map (named_address id kind point) names

-- an object that a rule of places matches, by each of its names
abbrev pub place_records : List Rule → Entity → List (Id × Option Entity) → List AddrRec
place_records rules e referred =
    if has_class is_place rules e referred then named_at (point_of e referred) e.id Place (names_of e) else []

-- an object that a rule of roads matches, by each of its names; these match lines, which only ways have
abbrev pub street_records : List Rule → Entity → List (Id × Option Entity) → List AddrRec
street_records rules e referred =
    if has_class is_road rules e referred then named_at (point_of e referred) e.id Street (names_of e) else []

-- a house of a street, with its number
abbrev pub house : Id → List ℕ → List ℕ → Point → AddrRec
house id street number point = record { id = id; kind = House; lang = []; name = street; number = number; point = point }

-- a house with a street, a number and a point
abbrev pub house_at : Entity → List ℕ → List ℕ → Option Point → List AddrRec
house_at e street number point =
    option_to_list (wanted (not (is_empty street) && not (is_empty number)) (option_map (house e.id street number) point))

-- an object with geometry, a street and a number, whatever the rules are
abbrev pub house_records : Entity → List (Id × Option Entity) → List AddrRec
house_records e referred =
    house_at e (tag_or_empty (codes "addr:street") e.tags) (tag_or_empty (codes "addr:housenumber") e.tags) (point_of e referred)

-- places, streets, then at most one house
abbrev pub address_records : List Rule → Entity → List (Id × Option Entity) → List AddrRec
address_records rules e referred = place_records rules e referred ++ street_records rules e referred ++ house_records e referred

-- Roads.

-- what the tag `oneway` says; all else is both ways
abbrev pub direction : List ℕ → Dir
direction oneway =
    if bytes_eq oneway (codes "yes") || (bytes_eq oneway (codes "true") || bytes_eq oneway (codes "1")) then Forward
    else if bytes_eq oneway (codes "-1") || bytes_eq oneway (codes "reverse") then Backward
    else Both

-- the object as a road, by the rule that matches it
abbrev pub road_record : Entity → List (Id × Option Entity) → ℕ × Rule → RoadRec
road_record e referred r = record {
  id = e.id;
  rule = r.0;
  value = tag_or_empty r.1.key e.tags;
  dir = direction (tag_or_empty (codes "oneway") e.tags);
  nodes = located_nodes referred;
}

-- the road of an object, by the first rule of roads that matches it
abbrev pub road_records : List Rule → Entity → List (Id × Option Entity) → List RoadRec
road_records rules e referred = map (road_record e referred) (take 1 (matching_class is_road rules e referred))

-- Turn restrictions.

-- the only one of these, where there is exactly one; an object that is named twice is two
abbrev pub the_only : List Id → Option Id
the_only (id ∷ []) = Some id
the_only ids = None

-- the target of the only member of this kind with this role, where exactly one is written
abbrev pub target_as : Kind → List ℕ → Entity → Option Id
target_as kind role e =
    the_only (map (λ m. m.target) (filter (λ m. (rank m.target.kind == rank kind) && bytes_eq m.role role) e.members))

-- the node of this id, where it is among the objects and located
abbrev pub located_among : List (Id × Option Entity) → Id → Option RoadNode
located_among referred id = option_and_then (λ object. located (id, object.1)) (find (λ object. same_id object.0 id) referred)

-- the restriction, where all of its parts are there
abbrev pub restriction_from : Id → Option (List ℕ) → Option Id → Option RoadNode → Option Id → List BanRec
restriction_from id (Some value) (Some from) (Some via) (Some to) =
    record { id = id; value = value; from = from.number; via = via.id; to = to.number; point = via.point } ∷ []
restriction_from id value from via to = []

-- from a way over a node to a way, with the value that is tagged
abbrev pub restriction_of : Entity → List (Id × Option Entity) → List BanRec
restriction_of e referred =
    restriction_from e.id (tagged (codes "restriction") e.tags) (target_as Way (codes "from") e)
    (option_and_then (located_among referred) (target_as Node (codes "via") e)) (target_as Way (codes "to") e)

-- one for a relation of the type `restriction` with exactly one way from, one located node via and one way to
abbrev pub restriction_records : Entity → List (Id × Option Entity) → List BanRec
restriction_records e referred = if bytes_eq (tag_or_empty (codes "type") e.tags) (codes "restriction") then restriction_of e referred else []

-- All records.

-- the records of an object: of the map, points of interest, addresses, roads, restrictions
abbrev pub records_with : List Rule → Entity → List (Id × Option Entity) → List Rec
records_with rules e referred =
    map Map (map_records rules e referred) ++ map Poi (poi_records rules e referred) ++ map Addr (address_records rules e referred)
    ++ map Road (road_records rules e referred) ++ map Ban (restriction_records e referred)

-- what is made of the first object among these, which refers to the others; nothing where it is not there
abbrev pub of_first : {A : Type 0} → (Entity → List (Id × Option Entity) → List A) → List (Id × Option Entity) → List A
of_first make [] = []
of_first make (object ∷ referred) = unwrap_or (option_map (λ e. make e referred) object.1) []

-- the records of an object of a store, and none where it is not there
unfoldable pub records : List Rule → List Entity → Id → List Rec
records rules store id = of_first (records_with rules) (closure store id)

-- its map records
unfoldable pub map_records_of : List Rule → List Entity → Id → List MapRec
map_records_of rules store id = of_first (map_records rules) (closure store id)

-- its points of interest
unfoldable pub poi_records_of : List Rule → List Entity → Id → List PoiRec
poi_records_of rules store id = of_first (poi_records rules) (closure store id)

-- its addresses
unfoldable pub address_records_of : List Rule → List Entity → Id → List AddrRec
address_records_of rules store id = of_first (address_records rules) (closure store id)

-- its road, if it is one
unfoldable pub road_records_of : List Rule → List Entity → Id → List RoadRec
road_records_of rules store id = of_first (road_records rules) (closure store id)

-- its turn restriction, if it is one; no rule is asked
unfoldable pub restriction_records_of : List Entity → Id → List BanRec
restriction_records_of store id = of_first restriction_records (closure store id)

-- The order of records.

-- by bytes
abbrev pub text_cmp : List ℕ → List ℕ → Ordering
text_cmp a b = slice_cmp nat_cmp a b

-- by kind, then by number
abbrev pub id_cmp : Id → Id → Ordering
id_cmp a b = nat_cmp (ordinal a) (ordinal b)

-- from west to east, then from north to south
abbrev pub point_cmp : Point → Point → Ordering
point_cmp a b = ordering_then (nat_cmp a.x b.x) (nat_cmp a.y b.y)

-- by number, then by point
abbrev pub node_cmp : RoadNode → RoadNode → Ordering
node_cmp a b = ordering_then (int_cmp a.id b.id) (point_cmp a.point b.point)

-- places, then streets, then houses
abbrev pub address_rank : AddrKind → ℕ
address_rank Place = 0
address_rank Street = 1
address_rank House = 2

-- both ways, then forward, then backward
abbrev pub direction_rank : Dir → ℕ
direction_rank Both = 0
direction_rank Forward = 1
direction_rank Backward = 2

-- by shape, name and points
abbrev pub drawing_cmp : MapRec → MapRec → Ordering
drawing_cmp a b = ordering_then (nat_cmp (shape_rank a.shape) (shape_rank b.shape)) (ordering_then (text_cmp a.name b.name) (slice_cmp point_cmp a.points b.points))

-- by id and rule, then by the other fields
abbrev pub map_cmp : MapRec → MapRec → Ordering
map_cmp a b = ordering_then (id_cmp a.id b.id) (ordering_then (nat_cmp a.rule b.rule) (drawing_cmp a b))

-- by id and category, then by name and point
abbrev pub poi_cmp : PoiRec → PoiRec → Ordering
poi_cmp a b =
    ordering_then (id_cmp a.id b.id) (ordering_then (text_cmp a.category b.category) (ordering_then (text_cmp a.name b.name) (point_cmp a.point b.point)))

-- by kind, language, name, number and point
abbrev pub naming_cmp : AddrRec → AddrRec → Ordering
naming_cmp a b =
    ordering_then (nat_cmp (address_rank a.kind) (address_rank b.kind)) (ordering_then (text_cmp a.lang b.lang)
    (ordering_then (text_cmp a.name b.name) (ordering_then (text_cmp a.number b.number) (point_cmp a.point b.point))))

-- by id and kind, then by the other fields
abbrev pub address_cmp : AddrRec → AddrRec → Ordering
address_cmp a b = ordering_then (id_cmp a.id b.id) (naming_cmp a b)

-- by id, then by rule, value, direction and nodes
abbrev pub road_cmp : RoadRec → RoadRec → Ordering
road_cmp a b =
    ordering_then (id_cmp a.id b.id) (ordering_then (nat_cmp a.rule b.rule) (ordering_then (text_cmp a.value b.value)
    (ordering_then (nat_cmp (direction_rank a.dir) (direction_rank b.dir)) (slice_cmp node_cmp a.nodes b.nodes))))

-- by the way that is left, the node and the way that is entered
abbrev pub turn_cmp : BanRec → BanRec → Ordering
turn_cmp a b = ordering_then (int_cmp a.from b.from) (ordering_then (int_cmp a.via b.via) (int_cmp a.to b.to))

-- by id, then by value, turn and point
abbrev pub restriction_cmp : BanRec → BanRec → Ordering
restriction_cmp a b =
    ordering_then (id_cmp a.id b.id) (ordering_then (text_cmp a.value b.value) (ordering_then (turn_cmp a b) (point_cmp a.point b.point)))

-- map records, points of interest, addresses, roads, restrictions
abbrev pub class_rank : Rec → ℕ
class_rank (Map r) = 0
class_rank (Poi r) = 1
class_rank (Addr r) = 2
class_rank (Road r) = 3
class_rank (Ban r) = 4

-- the object that the record was made of
abbrev pub record_id : Rec → Id
record_id (Map r) = r.id
record_id (Poi r) = r.id
record_id (Addr r) = r.id
record_id (Road r) = r.id
record_id (Ban r) = r.id

-- two records of one class by its order, and others by their classes
abbrev pub class_cmp : Rec → Rec → Ordering
class_cmp (Map a) (Map b) = map_cmp a b
class_cmp (Poi a) (Poi b) = poi_cmp a b
class_cmp (Addr a) (Addr b) = address_cmp a b
class_cmp (Road a) (Road b) = road_cmp a b
class_cmp (Ban a) (Ban b) = restriction_cmp a b
class_cmp a b = nat_cmp (class_rank a) (class_rank b)

-- by the object, then map records, points of interest, addresses, roads and restrictions, each in its order
abbrev pub record_cmp : Rec → Rec → Ordering
record_cmp a b = ordering_then (id_cmp (record_id a) (record_id b)) (class_cmp a b)

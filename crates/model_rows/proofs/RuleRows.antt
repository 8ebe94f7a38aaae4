-- Small tables of rules, a town, and what the definitions of its map make of them.
use Rattle.std.proofs.Common.{◌≡◌, ℕ, List, [], ◌∷◌, refl, Option, Some, None, true, false}
use Rattle.std.specs.Prelude.{codes, map, ◌++◌, ℤ, pos, negsuc, reverse}
use Rattle.std.specs.declared.cmp.Ordering.TheVariants.{Less}
use Rattle.std.specs.Fmt.{digits}
use Rattle.std.specs.Str.{is_utf8, chars}
use Rattle.std.proofs.Math.Utf8.{encode}
use Rattle.caseless.proofs.Computing.{caseless}
use Rattle.name_fold.specs.Keys.{key}
use Rattle.text_pieces.specs.Lines.{lines_from, fields_from}
use Rattle.text_pieces.specs.Numbers.{number_of}
use Rattle.text_pieces.specs.Escapes.{character_of, unescaped, text_of, escaped}
use Rattle.live_model.specs.declared.ids.Kind.{Kind}
use Rattle.live_model.specs.declared.ids.Kind.TheVariants.{Node, Way, Relation}
use Rattle.live_model.specs.declared.points.Point.{Point}
use Rattle.live_model.specs.declared.points.Rect.{Rect}
use Rattle.live_model.specs.declared.objects.Tag.{Tag}
use Rattle.live_model.specs.declared.objects.Member.{Member}
use Rattle.live_model.specs.declared.objects.Entity.{Entity}
use Rattle.live_model.specs.declared.objects.Line.{Line}
use Rattle.live_model.specs.declared.objects.Line.TheVariants.{Live, Gone}
use Rattle.live_model.specs.declared.shapes.Shape.{Shape}
use Rattle.live_model.specs.declared.shapes.Shape.TheVariants.{Point as PointShape, Line as LineShape, Area as AreaShape}
use Rattle.live_model.specs.declared.classes.Class.{Class}
use Rattle.live_model.specs.declared.classes.Class.TheVariants.{Map as MapClass, Poi as PoiClass, Road as RoadClass, Place as PlaceClass}
use Rattle.live_model.specs.declared.rules.Rule.{Rule}
use Rattle.live_model.specs.declared.rules.RuleKind.{RuleKind}
use Rattle.live_model.specs.declared.rules.RuleKind.TheVariants.{NotUtf8, FieldCount, BadShape, BadEscape, BadZoom, BadClass, OverLimit}
use Rattle.live_model.specs.declared.directions.Dir.{Dir}
use Rattle.live_model.specs.declared.directions.Dir.TheVariants.{Both, Forward, Backward}
use Rattle.live_model.specs.declared.addresses.AddrKind.{AddrKind}
use Rattle.live_model.specs.declared.addresses.AddrKind.TheVariants.{Place, Street, House}
use Rattle.live_model.specs.declared.addresses.AddrRec.{AddrRec}
use Rattle.live_model.specs.declared.records.MapRec.{MapRec}
use Rattle.live_model.specs.declared.records.RoadNode.{RoadNode}
use Rattle.live_model.specs.declared.records.BanRec.{BanRec}
use Rattle.live_model.specs.declared.records.Rec.{Rec}
use Rattle.live_model.specs.declared.records.Rec.TheVariants.{Map, Poi, Addr, Road, Ban}
use Rattle.live_model.specs.declared.queries.Query.TheVariants.{View, Category, Prefix, Street as StreetQuery, Roads}
use Rattle.live_model.specs.declared.rows.Row.TheVariants.{Map as MapRow, Poi as PoiRow, Addr as AddrRow, Seg as SegmentRow, Ban as BanRow}
use Rattle.live_model.specs.Ids.{Id}
use Rattle.live_model.specs.Stores.{apply}
use Rattle.live_model.specs.Rules.{shape_of, admitted_of, zoom_of, poi_of, named_class, rule_fields, rule_of, rule_tests, rule_break, rule_lines, spelled_rules, row_break, break_from, rules_break, rule_row, rule_line, rules_text, matches}
use Rattle.live_model.specs.Closures.{closure, is_touched}
use Rattle.live_model.specs.Geometry.{shapes_of, is_closed, middle}
use Rattle.live_model.specs.Records.{records, direction, restriction_records, house_records, place_records, names_of, is_language, poi_records, record_cmp}
use Rattle.live_model.specs.Maps.{map_of, rebuilt, answer, in_order, Overlay, overlay, over, laid, folded}
use Rattle.live_model.specs.QueryTexts.{query_of}
use Rattle.text_pieces.specs.Coordinates.{magnitude_of, degrees_of}

-- all that the rows compute with
opened : Unit {0}
unfolding lines_from fields_from number_of magnitude_of degrees_of query_of character_of unescaped text_of escaped shape_of admitted_of zoom_of poi_of named_class rule_fields rule_of rule_tests rule_break rules_break rule_row rule_line records digits is_utf8 chars encode
opened = tt

-- Tables of rules.

abbrev rule : Shape → List ℕ → Option (List ℕ) → ℕ → Class → Rule
rule shape key value zoom class = record { shape = shape; key = key; value = value; zoom = zoom; class = class }

-- the text breaks at this place and in this way
abbrev Breaks : List ℕ → ℕ → RuleKind → Type 0
Breaks bytes place kind = rules_break bytes ≡ Some (record { at = place; kind = kind })

abbrev town_text : List ℕ
town_text =
    codes "point amenity cafe 15 poi.cafe" ++ 10 ∷ codes "point amenity * 16 map" ++ 10 ∷ codes "point place town 8 place" ++ 10
    ∷ codes "line highway residential 14 map" ++ 10 ∷ codes "line highway residential 14 road" ++ 10 ∷ codes "line highway primary 10 map" ++ 10
    ∷ codes "line highway primary 10 road" ++ 10 ∷ codes "area building * 15 map" ++ 10 ∷ codes "area leisure park 12 poi.park" ++ 10 ∷ []

town_rules : List Rule
town_rules =
    rule PointShape (codes "amenity") (Some (codes "cafe")) 15 (PoiClass (codes "cafe")) ∷ rule PointShape (codes "amenity") None 16 MapClass
    ∷ rule PointShape (codes "place") (Some (codes "town")) 8 PlaceClass
    ∷ rule LineShape (codes "highway") (Some (codes "residential")) 14 MapClass ∷ rule LineShape (codes "highway") (Some (codes "residential")) 14 RoadClass
    ∷ rule LineShape (codes "highway") (Some (codes "primary")) 10 MapClass ∷ rule LineShape (codes "highway") (Some (codes "primary")) 10 RoadClass
    ∷ rule AreaShape (codes "building") None 15 MapClass ∷ rule AreaShape (codes "leisure") (Some (codes "park")) 12 (PoiClass (codes "park")) ∷ []

town_spelled : spelled_rules (rule_lines town_text) ≡ Some town_rules
unfolding opened town_rules
town_spelled = refl

town_unbroken : rules_break town_text ≡ None
unfolding opened
town_unbroken = refl

town_canonical : rules_text town_rules ≡ town_text
unfolding opened town_rules
town_canonical = refl

-- skipped lines, blanks around the fields, a zoom of two digits, and a return before the line feed
lenient_text : spelled_rules (rule_lines (codes "# rules" ++ 10 ∷ 9 ∷ 10 ∷ codes "  point" ++ 9 ∷ codes "a%20%b * 03 place " ++ 13 ∷ 10 ∷ []))
    ≡ Some (rule PointShape (codes "a b") None 3 PlaceClass ∷ [])
unfolding opened
lenient_text = refl

-- the star as an escape is a value
star_value : rule_of (codes "line a %2A% 7 road") ≡ Some (rule LineShape (codes "a") (Some (codes "*")) 7 RoadClass)
unfolding opened
star_value = refl

star_value_text : rule_row (rule LineShape (codes "a") (Some (codes "*")) 7 RoadClass) ≡ codes "line a %2a% 7 road"
unfolding opened
star_value_text = refl

zoom_over : Breaks (codes "point a b 23 map") 10 BadZoom
unfolding opened
zoom_over = refl

zoom_of_three_digits : Breaks (codes "point a b 003 map") 10 BadZoom
unfolding opened
zoom_of_three_digits = refl

four_fields : Breaks (codes "point a b 1 map" ++ 10 ∷ codes "  point a b 1") 16 FieldCount
unfolding opened
four_fields = refl

six_fields : Breaks (codes "point a b 1 map map") 0 FieldCount
unfolding opened
six_fields = refl

no_shape : Breaks (codes "ring a%b b%c 23 maps") 0 BadShape
unfolding opened
no_shape = refl

escape_in_key : Breaks (codes " point a%b b%c 23 maps") 7 BadEscape
unfolding opened
escape_in_key = refl

comma_in_value : Breaks (codes "point a b,c 23 maps") 8 BadEscape
unfolding opened
comma_in_value = refl

no_class : Breaks (codes "point a b 22 maps") 13 BadClass
unfolding opened
no_class = refl

road_of_points : Breaks (codes "point a b 22 road") 13 BadClass
unfolding opened
road_of_points = refl

category_empty : Breaks (codes "point a b 22 poi.") 13 BadClass
unfolding opened
category_empty = refl

category_of_capitals : Breaks (codes "point a b 22 poi.Cafe") 13 BadClass
unfolding opened
category_of_capitals = refl

category_of_33 : Breaks (codes "point a b 22 poi.abcdefghijklmnopqrstuvwxyz0123456") 13 BadClass
unfolding opened
category_of_33 = refl

category_of_32 : rules_break (codes "point a b 22 poi.abcdefghijklmnopqrstuvwxyz_01234") ≡ None
unfolding opened
category_of_32 = refl

not_utf8 : Breaks (codes "point a b 1 map" ++ 10 ∷ codes "point " ++ 255 ∷ []) 16 NotUtf8
unfolding opened
not_utf8 = refl

rule_100001 : row_break 100000 (codes "point a b 1 map") ≡ Some (0, OverLimit)
rule_100001 = refl

-- Lines of rules, more closely.

-- returns before the line feed and at the end of the text
returns_at_ends : spelled_rules (rule_lines (codes "point a b 1 map" ++ 13 ∷ 10 ∷ codes "line c d 02 road" ++ 13 ∷ []))
    ≡ Some (rule PointShape (codes "a") (Some (codes "b")) 1 MapClass ∷ rule LineShape (codes "c") (Some (codes "d")) 2 RoadClass ∷ [])
unfolding opened
returns_at_ends = refl

-- any other return is a plain character
return_inside : rule_of (codes "point a" ++ 13 ∷ codes "b c 1 map") ≡ Some (rule PointShape (97 ∷ 13 ∷ 98 ∷ []) (Some (codes "c")) 1 MapClass)
unfolding opened
return_inside = refl

return_inside_text : rule_row (rule PointShape (97 ∷ 13 ∷ 98 ∷ []) (Some (codes "c")) 1 MapClass) ≡ codes "point a%0d%b c 1 map"
unfolding opened
return_inside_text = refl

-- a comment of any bytes, a line of blanks, a lone return
skipped_lines : spelled_rules (rule_lines (35 ∷ 255 ∷ 10 ∷ 32 ∷ 9 ∷ 10 ∷ 13 ∷ 10 ∷ codes "area a b 00 map")) ≡ Some (rule AreaShape (codes "a") (Some (codes "b")) 0 MapClass ∷ [])
unfolding opened
skipped_lines = refl

-- a blank before the sign makes no comment
blank_before_sign : Breaks (codes " # x") 0 FieldCount
unfolding opened
blank_before_sign = refl

shapes_named : map shape_of (codes "point" ∷ codes "line" ∷ codes "area" ∷ codes "Point" ∷ codes "points" ∷ codes "node" ∷ [])
    ≡ Some PointShape ∷ Some LineShape ∷ Some AreaShape ∷ None ∷ None ∷ None ∷ []
unfolding opened
shapes_named = refl

zooms : map zoom_of (codes "0" ∷ codes "00" ∷ codes "07" ∷ codes "22" ∷ codes "23" ∷ codes "022" ∷ codes "-1" ∷ codes "+1" ∷ codes "1a" ∷ [])
    ≡ Some 0 ∷ Some 0 ∷ Some 7 ∷ Some 22 ∷ None ∷ None ∷ None ∷ None ∷ None ∷ []
unfolding opened
zooms = refl

classes_named : map named_class (codes "map" ∷ codes "road" ∷ codes "place" ∷ codes "poi.a_0" ∷ codes "poi" ∷ codes "Map" ∷ codes "poi.a-b" ∷ codes "POI.a" ∷ codes "poi.a.b" ∷ [])
    ≡ Some MapClass ∷ Some RoadClass ∷ Some PlaceClass ∷ Some (PoiClass (codes "a_0")) ∷ None ∷ None ∷ None ∷ None ∷ None ∷ []
unfolding opened
classes_named = refl

-- the value is a text of two stars; the key is a star
stars_in_texts : rule_of (codes "point * ** 1 map") ≡ Some (rule PointShape (codes "*") (Some (codes "**")) 1 MapClass)
unfolding opened
stars_in_texts = refl

stars_in_texts_again : rule_row (rule PointShape (codes "*") (Some (codes "**")) 1 MapClass) ≡ codes "point * ** 1 map"
unfolding opened
stars_in_texts_again = refl

escapes_in_line : rule_line (rule AreaShape (codes "a b") (Some (codes "c,d=%@")) 3 (PoiClass (codes "x_1"))) ≡ codes "area a%20%b c%2c%d%3d%%25%%40% 3 poi.x_1" ++ 10 ∷ []
unfolding opened
escapes_in_line = refl

escapes_read : rule_of (codes "area a%20%b c%2c%d%3d%%25%%40% 3 poi.x_1") ≡ Some (rule AreaShape (codes "a b") (Some (codes "c,d=%@")) 3 (PoiClass (codes "x_1")))
unfolding opened
escapes_read = refl

six_digits : rule_of (codes "line %000061% b 0 road") ≡ Some (rule LineShape (codes "a") (Some (codes "b")) 0 RoadClass)
unfolding opened
six_digits = refl

seven_digits : Breaks (codes "point %0000061% b 1 map") 6 BadEscape
unfolding opened
seven_digits = refl

surrogate : Breaks (codes "point %d800% b 1 map") 6 BadEscape
unfolding opened
surrogate = refl

equals_in_key : Breaks (codes "point a=b c 1 map") 6 BadEscape
unfolding opened
equals_in_key = refl

no_digits_in_value : Breaks (codes "point a %% 1 map") 8 BadEscape
unfolding opened
no_digits_in_value = refl

one_sign_in_value : Breaks (codes "point a b% 23 maps") 8 BadEscape
unfolding opened
one_sign_in_value = refl

zoom_before_class : Breaks (codes "point a b 23 maps") 10 BadZoom
unfolding opened
zoom_before_class = refl

shape_before_class : Breaks (codes "ring a b 1 road") 0 BadShape
unfolding opened
shape_before_class = refl

count_before_shape : Breaks (codes "ring a b") 0 FieldCount
unfolding opened
count_before_shape = refl

utf8_before_count : Breaks (codes " ring " ++ 255 ∷ []) 0 NotUtf8
unfolding opened
utf8_before_count = refl

road_of_areas : Breaks (codes "area a b 22 road") 12 BadClass
unfolding opened
road_of_areas = refl

first_of_two_breaks : Breaks (codes "point a b 1 map" ++ 10 ∷ codes "ring a b 1 map" ++ 10 ∷ codes "point a b 99 map") 16 BadShape
unfolding opened
first_of_two_breaks = refl

-- the return is no part of the first line, and counts as a byte
break_behind_return : Breaks (codes "point a b 1 map" ++ 13 ∷ 10 ∷ codes " point a b 1 maps") 30 BadClass
unfolding opened
break_behind_return = refl

limit_before_utf8 : row_break 100000 (255 ∷ []) ≡ Some (0, OverLimit)
limit_before_utf8 = refl

rule_100000 : row_break 99999 (codes "point a b 1 map") ≡ None
unfolding opened
rule_100000 = refl

rules_100000_and_100001 : break_from 99999 ((7, codes "point a b 1 map") ∷ (30, codes "x") ∷ []) ≡ Some (record { at = 30; kind = OverLimit })
unfolding opened
rules_100000_and_100001 = refl

-- the second tag has an empty value
two_tags : List Tag
two_tags = record { key = codes "a"; value = codes "x" } ∷ record { key = codes "b"; value = [] } ∷ []

matched : map (λ r. matches r PointShape two_tags)
    (rule PointShape (codes "a") (Some (codes "x")) 1 MapClass ∷ rule PointShape (codes "a") (Some (codes "*")) 1 MapClass ∷ rule PointShape (codes "a") None 1 MapClass
    ∷ rule PointShape (codes "b") None 1 MapClass ∷ rule PointShape (codes "b") (Some (codes "x")) 1 MapClass ∷ rule PointShape (codes "c") None 1 MapClass ∷ rule LineShape (codes "a") None 1 MapClass ∷ [])
    ≡ true ∷ false ∷ true ∷ true ∷ false ∷ false ∷ false ∷ []
unfolding two_tags
matched = refl

star_matched : matches (rule PointShape (codes "a") (Some (codes "*")) 1 MapClass) PointShape (record { key = codes "a"; value = codes "*" } ∷ []) ≡ true
star_matched = refl

-- The town.

abbrev tag : List ℕ → List ℕ → Tag
tag key value = record { key = key; value = value }

abbrev point : ℕ → ℕ → Point
point x y = record { x = x; y = y }

abbrev id : Kind → ℕ → Id
id kind number = record { kind = kind; number = pos number }

abbrev node : ℕ → List Tag → Point → Entity
node number tags place = record { id = id Node number; version = 1; tags = tags; place = Some place; refs = []; members = [] }

abbrev way : ℕ → List Tag → List ℤ → Entity
way number tags refs = record { id = id Way number; version = 1; tags = tags; place = None; refs = refs; members = [] }

abbrev member : Kind → ℕ → List ℕ → Member
member kind number role = record { target = id kind number; role = role }

abbrev p1 : Point
p1 = point 1931000000 376000000

abbrev p2 : Point
p2 = point 1931001000 375999000

abbrev p3 : Point
p3 = point 1931000000 375998000

abbrev p4 : Point
p4 = point 1931010000 375998000

abbrev p5 : Point
p5 = point 1931020000 375998000

abbrev p6 : Point
p6 = point 1931004000 375996000

abbrev p7 : Point
p7 = point 1931006000 375996000

abbrev p8 : Point
p8 = point 1931006000 375994000

abbrev sharp : List ℕ
sharp = codes "Stra" ++ 195 ∷ 159 ∷ codes "e"

town : List Entity
town =
    node 1 (tag (codes "name") (codes "Aldorf") ∷ tag (codes "place") (codes "town") ∷ []) p1
    ∷ node 2 (tag (codes "amenity") (codes "cafe") ∷ tag (codes "name") (codes "Bo Bar") ∷ []) p2
    ∷ node 3 [] p3 ∷ node 4 [] p4 ∷ node 5 [] p5 ∷ node 6 [] p6 ∷ node 7 [] p7 ∷ node 8 [] p8
    ∷ way 20 (tag (codes "highway") (codes "residential") ∷ tag (codes "name") sharp ∷ []) (pos 3 ∷ pos 4 ∷ pos 5 ∷ [])
    ∷ way 21 (tag (codes "addr:housenumber") (codes "3") ∷ tag (codes "addr:street") sharp ∷ tag (codes "building") (codes "yes") ∷ []) (pos 6 ∷ pos 7 ∷ pos 8 ∷ pos 6 ∷ [])
    ∷ way 22 (tag (codes "highway") (codes "primary") ∷ tag (codes "oneway") (codes "yes") ∷ []) (pos 5 ∷ pos 99 ∷ [])
    ∷ record {
      id = id Relation 30;
      version = 1;
      tags = tag (codes "restriction") (codes "no_left_turn") ∷ tag (codes "type") (codes "restriction") ∷ [];
      place = None;
      refs = [];
      members = member Way 20 (codes "from") ∷ member Node 5 (codes "via") ∷ member Way 22 (codes "to") ∷ [];
    }
    ∷ []

abbrev town_records : Kind → ℕ → List Rec
town_records kind number = records town_rules town (id kind number)

abbrev street_record : List Point → Rec
street_record points = Map (record { id = id Way 20; rule = 3; shape = LineShape; name = sharp; points = points })

abbrev cafe_record : Rec
cafe_record = Poi (record { id = id Node 2; category = codes "cafe"; name = codes "Bo Bar"; point = p2 })

abbrev road_node : ℕ → Point → RoadNode
road_node number p = record { id = pos number; point = p }

abbrev house : AddrRec
house = record { id = id Way 21; kind = House; lang = []; name = sharp; number = codes "3"; point = point 1931005000 375995000 }

abbrev street : Point → AddrRec
street p = record { id = id Way 20; kind = Street; lang = []; name = sharp; number = []; point = p }

abbrev building : MapRec
building = record { id = id Way 21; rule = 7; shape = AreaShape; name = []; points = p6 ∷ p7 ∷ p8 ∷ p6 ∷ [] }

abbrev turn : BanRec
turn = record { id = id Relation 30; value = codes "no_left_turn"; from = pos 20; via = pos 5; to = pos 22; point = p5 }

node_2 : town_records Node 2 ≡ Map (record { id = id Node 2; rule = 1; shape = PointShape; name = codes "Bo Bar"; points = p2 ∷ [] }) ∷ cafe_record ∷ []
unfolding opened town town_rules
node_2 = refl

-- one of its two nodes is not there
way_22 : town_records Way 22 ≡ []
unfolding opened town town_rules
way_22 = refl

-- no such object
way_23 : town_records Way 23 ≡ []
unfolding opened town town_rules
way_23 = refl

-- a ring of three nodes, of which the last has no place
closed_way : shapes_of (way 9 [] (pos 1 ∷ pos 2 ∷ pos 3 ∷ pos 1 ∷ []))
    ((id Node 1, Some (node 1 [] p1)) ∷ (id Node 2, Some (node 2 [] p2)) ∷ (id Node 3, None) ∷ (id Node 1, Some (node 1 [] p1)) ∷ []) ≡ LineShape ∷ AreaShape ∷ []
closed_way = refl

-- there and back again by three references
open_way : is_closed (pos 1 ∷ pos 2 ∷ pos 1 ∷ []) ≡ false
open_way = refl

-- each half is rounded down
rounded_middle : middle (record { left = 1; top = 4; right = 4; bottom = 9 }) ≡ point 2 6
rounded_middle = refl

-- all of them, in order
town_map : List Rec
town_map =
    Addr (record { id = id Node 1; kind = Place; lang = []; name = codes "Aldorf"; number = []; point = p1 })
    ∷ Map (record { id = id Node 2; rule = 1; shape = PointShape; name = codes "Bo Bar"; points = p2 ∷ [] }) ∷ cafe_record
    ∷ street_record (p3 ∷ p4 ∷ p5 ∷ []) ∷ Addr (street p4)
    ∷ Road (record { id = id Way 20; rule = 4; value = codes "residential"; dir = Both; nodes = road_node 3 p3 ∷ road_node 4 p4 ∷ road_node 5 p5 ∷ [] })
    ∷ Map building ∷ Addr house ∷ Ban turn ∷ []

whole_map : map_of town_rules town ≡ town_map
unfolding opened town town_rules town_map
whole_map = refl

-- Single objects.

abbrev plain_relation : List Tag → List Member → Entity
plain_relation tags members = record { id = id Relation 30; version = 1; tags = tags; place = None; refs = []; members = members }

-- an empty value is a value; members of other kinds and roles do not matter
empty_restriction : restriction_records
    (plain_relation (tag (codes "restriction") [] ∷ tag (codes "type") (codes "restriction") ∷ [])
    (member Way 1 (codes "from") ∷ member Node 9 (codes "from") ∷ member Way 8 (codes "via") ∷ member Node 5 (codes "via") ∷ member Way 1 (codes "to") ∷ member Way 7 [] ∷ []))
    ((id Way 1, None) ∷ (id Node 9, None) ∷ (id Way 8, None) ∷ (id Node 5, Some (node 5 [] p5)) ∷ (id Way 1, None) ∷ (id Way 7, None) ∷ [])
    ≡ record { id = id Relation 30; value = []; from = pos 1; via = pos 5; to = pos 1; point = p5 } ∷ []
empty_restriction = refl

two_from : restriction_records
    (plain_relation (tag (codes "restriction") (codes "no_u_turn") ∷ tag (codes "type") (codes "restriction") ∷ [])
    (member Way 1 (codes "from") ∷ member Way 2 (codes "from") ∷ member Node 5 (codes "via") ∷ member Way 1 (codes "to") ∷ []))
    ((id Way 1, None) ∷ (id Way 2, None) ∷ (id Node 5, Some (node 5 [] p5)) ∷ (id Way 1, None) ∷ []) ≡ []
two_from = refl

-- members are counted as they are written: a way that stands twice under one role is two
twice_from : restriction_records
    (plain_relation (tag (codes "restriction") [] ∷ tag (codes "type") (codes "restriction") ∷ [])
    (member Way 1 (codes "from") ∷ member Way 1 (codes "from") ∷ member Node 5 (codes "via") ∷ member Way 1 (codes "to") ∷ []))
    ((id Way 1, None) ∷ (id Way 1, None) ∷ (id Node 5, Some (node 5 [] p5)) ∷ (id Way 1, None) ∷ [])
    ≡ []
twice_from = refl

via_not_there : restriction_records
    (plain_relation (tag (codes "restriction") (codes "no_u_turn") ∷ tag (codes "type") (codes "restriction") ∷ [])
    (member Way 1 (codes "from") ∷ member Node 5 (codes "via") ∷ member Way 1 (codes "to") ∷ []))
    ((id Way 1, None) ∷ (id Node 5, None) ∷ (id Way 1, None) ∷ []) ≡ []
via_not_there = refl

-- two rules of one category give one point of interest, and the categories rise
categories_once : poi_records
    (rule PointShape (codes "shop") None 1 (PoiClass (codes "shop")) ∷ rule PointShape (codes "amenity") None 1 (PoiClass (codes "cafe")) ∷ rule PointShape (codes "shop") (Some (codes "tea")) 1 (PoiClass (codes "shop")) ∷ [])
    (node 2 (tag (codes "amenity") (codes "cafe") ∷ tag (codes "shop") (codes "tea") ∷ []) p2) []
    ≡ record { id = id Node 2; category = codes "cafe"; name = []; point = p2 } ∷ record { id = id Node 2; category = codes "shop"; name = []; point = p2 } ∷ []
categories_once = refl

place_without_name : place_records (rule PointShape (codes "place") None 1 PlaceClass ∷ []) (node 2 (tag (codes "place") (codes "town") ∷ []) p2) [] ≡ []
place_without_name = refl

house_node : house_records (node 2 (tag (codes "addr:housenumber") (codes "1a") ∷ tag (codes "addr:street") (codes "Ring") ∷ tag (codes "name") (codes "Inn") ∷ []) p2) []
    ≡ record { id = id Node 2; kind = House; lang = []; name = codes "Ring"; number = codes "1a"; point = p2 } ∷ []
house_node = refl

-- a language has two to ten letters, digits, `-` and `_`
languages : map is_language (codes "en" ∷ codes "zh-Hant" ∷ codes "be_tarask" ∷ codes "0123456789" ∷ codes "AZ" ∷ [])
    ≡ true ∷ true ∷ true ∷ true ∷ true ∷ []
languages = refl

no_languages : map is_language ([] ∷ codes "e" ∷ codes "01234567890" ∷ codes "e n" ∷ codes "en:old" ∷ codes "[]" ∷ codes "a{" ∷ codes "a@" ∷ []) ≡ false ∷ false ∷ false ∷ false ∷ false ∷ false ∷ false ∷ false ∷ []
no_languages = refl

-- the plain name first; empty names, a name without a language and one whose language is none are left out
names_in_languages : names_of (node 2
    (tag (codes "name") (codes "K") ∷ tag (codes "name:") (codes "a") ∷ tag (codes "name:de") [] ∷ tag (codes "name:e") (codes "b")
    ∷ tag (codes "name:en") (codes "C") ∷ tag (codes "name:en gb") (codes "c") ∷ tag (codes "name:la") (codes "L") ∷ tag (codes "names") (codes "d") ∷ []) p2)
    ≡ ([], codes "K") ∷ (codes "en", codes "C") ∷ (codes "la", codes "L") ∷ []
names_in_languages = refl

-- a name in a language stands without a plain name
place_by_language : place_records (rule PointShape (codes "place") None 1 PlaceClass ∷ [])
    (node 2 (tag (codes "name:en") (codes "Cologne") ∷ tag (codes "place") (codes "town") ∷ []) p2) []
    ≡ record { id = id Node 2; kind = Place; lang = codes "en"; name = codes "Cologne"; number = []; point = p2 } ∷ []
place_by_language = refl

-- a house has the empty language, whatever its other names are
house_by_street : house_records (node 2
    (tag (codes "addr:housenumber") (codes "1a") ∷ tag (codes "addr:street") (codes "Ring") ∷ tag (codes "name:en") (codes "Inn") ∷ []) p2) []
    ≡ record { id = id Node 2; kind = House; lang = []; name = codes "Ring"; number = codes "1a"; point = p2 } ∷ []
house_by_street = refl

gone_along : map direction (codes "yes" ∷ codes "true" ∷ codes "1" ∷ codes "-1" ∷ codes "reverse" ∷ codes "no" ∷ [] ∷ [])
    ≡ Forward ∷ Forward ∷ Forward ∷ Backward ∷ Backward ∷ Both ∷ Both ∷ []
gone_along = refl

-- What objects refer to, and what lines touch.

closure_of_way : closure town (id Way 22)
    ≡ (id Way 22, Some (way 22 (tag (codes "highway") (codes "primary") ∷ tag (codes "oneway") (codes "yes") ∷ []) (pos 5 ∷ pos 99 ∷ []))) ∷ (id Node 5, Some (node 5 [] p5)) ∷ (id Node 99, None) ∷ []
unfolding town
closure_of_way = refl

-- the members, and not what these refer to
closure_of_relation : map (λ o. o.0) (closure town (id Relation 30)) ≡ id Relation 30 ∷ id Way 20 ∷ id Node 5 ∷ id Way 22 ∷ []
unfolding town
closure_of_relation = refl

closure_of_unknown : closure town (id Way 23) ≡ (id Way 23, None) ∷ []
unfolding town
closure_of_unknown = refl

touched_by_node : map (is_touched town (Live (node 4 [] p1) ∷ [])) (id Node 4 ∷ id Way 20 ∷ id Node 3 ∷ id Way 4 ∷ id Way 22 ∷ id Relation 30 ∷ []) ≡ true ∷ true ∷ false ∷ false ∷ false ∷ false ∷ []
unfolding town
touched_by_node = refl

-- the node that a way lacks, and a way that is not there yet
touched_by_missing : map (is_touched town (Gone (id Node 99) 0 ∷ Live (way 23 [] (pos 1 ∷ [])) ∷ [])) (id Way 22 ∷ id Way 23 ∷ id Node 1 ∷ id Way 20 ∷ []) ≡ true ∷ true ∷ false ∷ false ∷ []
unfolding town
touched_by_missing = refl

touched_by_way : map (is_touched town (Gone (id Way 22) 0 ∷ [])) (id Relation 30 ∷ id Node 5 ∷ id Way 20 ∷ []) ≡ true ∷ false ∷ false ∷ []
unfolding town
touched_by_way = refl

-- Records of small stores.

abbrev unplaced : ℕ → Entity
unplaced number = record { id = id Node number; version = 1; tags = []; place = None; refs = []; members = [] }

abbrev primary : List ℤ → Entity
primary refs = way 9 (tag (codes "highway") (codes "primary") ∷ []) refs

abbrev way_9 : List Rule → List Entity → List Rec
way_9 rules store = records rules store (id Way 9)

abbrev primary_records : List Point → List RoadNode → List Rec
primary_records points nodes =
    Map (record { id = id Way 9; rule = 5; shape = LineShape; name = []; points = points })
    ∷ Road (record { id = id Way 9; rule = 6; value = codes "primary"; dir = Both; nodes = nodes }) ∷ []

-- one of three nodes is missing
two_of_three : way_9 town_rules (node 1 [] p1 ∷ node 3 [] p3 ∷ primary (pos 1 ∷ pos 2 ∷ pos 3 ∷ []) ∷ []) ≡ primary_records (p1 ∷ p3 ∷ []) (road_node 1 p1 ∷ road_node 3 p3 ∷ [])
unfolding opened town_rules
two_of_three = refl

-- one of three has no place
two_of_three_placed : way_9 town_rules (node 1 [] p1 ∷ unplaced 2 ∷ node 3 [] p3 ∷ primary (pos 3 ∷ pos 2 ∷ pos 1 ∷ []) ∷ []) ≡ primary_records (p3 ∷ p1 ∷ []) (road_node 3 p3 ∷ road_node 1 p1 ∷ [])
unfolding opened town_rules
two_of_three_placed = refl

one_of_three : way_9 town_rules (node 1 [] p1 ∷ primary (pos 1 ∷ pos 2 ∷ pos 3 ∷ []) ∷ []) ≡ []
unfolding opened town_rules
one_of_three = refl

one_of_three_placed : way_9 town_rules (node 1 [] p1 ∷ unplaced 2 ∷ unplaced 3 ∷ primary (pos 1 ∷ pos 2 ∷ pos 3 ∷ []) ∷ []) ≡ []
unfolding opened town_rules
one_of_three_placed = refl

-- a node named twice has two points
one_node_twice : way_9 town_rules (node 1 [] p1 ∷ primary (pos 1 ∷ pos 1 ∷ []) ∷ []) ≡ primary_records (p1 ∷ p1 ∷ []) (road_node 1 p1 ∷ road_node 1 p1 ∷ [])
unfolding opened town_rules
one_node_twice = refl

-- what is drawn of a closed way stands in the order of the table, not of the shapes
area_and_line : List Rule
area_and_line = rule AreaShape (codes "a") None 1 MapClass ∷ rule LineShape (codes "a") None 2 MapClass ∷ []

abbrev drawn_9 : ℕ → Shape → List Point → Rec
drawn_9 place shape points = Map (record { id = id Way 9; rule = place; shape = shape; name = []; points = points })

abbrev three_corners : List ℤ → List Entity
three_corners refs = node 6 [] p6 ∷ node 7 [] p7 ∷ node 8 [] p8 ∷ way 9 (tag (codes "a") (codes "b") ∷ []) refs ∷ []

closed_by_four : way_9 area_and_line (three_corners (pos 6 ∷ pos 7 ∷ pos 8 ∷ pos 6 ∷ [])) ≡ drawn_9 0 AreaShape (p6 ∷ p7 ∷ p8 ∷ p6 ∷ []) ∷ drawn_9 1 LineShape (p6 ∷ p7 ∷ p8 ∷ p6 ∷ []) ∷ []
unfolding opened area_and_line
closed_by_four = refl

open_by_three : way_9 area_and_line (three_corners (pos 6 ∷ pos 7 ∷ pos 6 ∷ [])) ≡ drawn_9 1 LineShape (p6 ∷ p7 ∷ p6 ∷ []) ∷ []
unfolding opened area_and_line
open_by_three = refl

open_by_four : way_9 area_and_line (three_corners (pos 6 ∷ pos 7 ∷ pos 8 ∷ pos 7 ∷ [])) ≡ drawn_9 1 LineShape (p6 ∷ p7 ∷ p8 ∷ p7 ∷ []) ∷ []
unfolding opened area_and_line
open_by_four = refl

-- closed as it is written, whatever is there
closed_with_two_missing : way_9 area_and_line (three_corners (pos 6 ∷ pos 98 ∷ pos 99 ∷ pos 6 ∷ [])) ≡ drawn_9 0 AreaShape (p6 ∷ p6 ∷ []) ∷ drawn_9 1 LineShape (p6 ∷ p6 ∷ []) ∷ []
unfolding opened area_and_line
closed_with_two_missing = refl

closed_with_ends_missing : way_9 area_and_line (three_corners (pos 99 ∷ pos 7 ∷ pos 8 ∷ pos 99 ∷ [])) ≡ drawn_9 0 AreaShape (p7 ∷ p8 ∷ []) ∷ drawn_9 1 LineShape (p7 ∷ p8 ∷ []) ∷ []
unfolding opened area_and_line
closed_with_ends_missing = refl

abbrev park : List ℤ → List Entity
park refs =
    node 1 [] (point 1 2) ∷ node 2 [] (point 4 2) ∷ node 3 [] (point 4 7)
    ∷ way 9 (tag (codes "leisure") (codes "park") ∷ tag (codes "name") (codes "Hof") ∷ []) refs ∷ []

-- the middle of its box, and each half is rounded down
park_closed : way_9 town_rules (park (pos 1 ∷ pos 2 ∷ pos 3 ∷ pos 1 ∷ [])) ≡ Poi (record { id = id Way 9; category = codes "park"; name = codes "Hof"; point = point 2 4 }) ∷ []
unfolding opened town_rules
park_closed = refl

park_open : way_9 town_rules (park (pos 1 ∷ pos 2 ∷ pos 3 ∷ [])) ≡ []
unfolding opened town_rules
park_open = refl

-- rules of the line and of the area of a way make one of each
closed_place : way_9 (rule LineShape (codes "a") None 1 PlaceClass ∷ rule AreaShape (codes "a") None 1 PlaceClass
    ∷ rule AreaShape (codes "a") None 1 (PoiClass (codes "b")) ∷ rule LineShape (codes "a") None 1 (PoiClass (codes "b")) ∷ [])
    (node 1 [] (point 1 2) ∷ node 2 [] (point 4 2) ∷ node 3 [] (point 4 7) ∷ way 9 (tag (codes "a") [] ∷ tag (codes "name") (codes "Hof") ∷ []) (pos 1 ∷ pos 2 ∷ pos 3 ∷ pos 1 ∷ []) ∷ [])
    ≡ Poi (record { id = id Way 9; category = codes "b"; name = codes "Hof"; point = point 2 4 })
    ∷ Addr (record { id = id Way 9; kind = Place; lang = []; name = codes "Hof"; number = []; point = point 2 4 }) ∷ []
unfolding opened
closed_place = refl

-- against the order of its nodes
one_way_back : way_9 town_rules (node 3 [] p3 ∷ node 4 [] p4 ∷ way 9 (tag (codes "highway") (codes "residential") ∷ tag (codes "oneway") (codes "-1") ∷ []) (pos 3 ∷ pos 4 ∷ []) ∷ [])
    ≡ drawn_9 3 LineShape (p3 ∷ p4 ∷ [])
    ∷ Road (record { id = id Way 9; rule = 4; value = codes "residential"; dir = Backward; nodes = road_node 3 p3 ∷ road_node 4 p4 ∷ [] }) ∷ []
unfolding opened town_rules
one_way_back = refl

not_one_way : map direction (codes "YES" ∷ codes "0" ∷ codes "yes " ∷ codes "-2" ∷ codes "reversible" ∷ []) ≡ Both ∷ Both ∷ Both ∷ Both ∷ Both ∷ []
not_one_way = refl

-- the first rule of the table that matches gives the value, and one street stands for both
first_road_rule : way_9 (rule LineShape (codes "ref") None 1 RoadClass ∷ rule LineShape (codes "surface") None 1 RoadClass ∷ rule LineShape (codes "highway") None 1 RoadClass ∷ [])
    (node 3 [] p3 ∷ node 5 [] p5 ∷ way 9 (tag (codes "highway") (codes "primary") ∷ tag (codes "name") (codes "A 1") ∷ tag (codes "surface") (codes "gravel") ∷ []) (pos 3 ∷ pos 5 ∷ []) ∷ [])
    ≡ Addr (record { id = id Way 9; kind = Street; lang = []; name = codes "A 1"; number = []; point = p4 })
    ∷ Road (record { id = id Way 9; rule = 1; value = codes "gravel"; dir = Both; nodes = road_node 3 p3 ∷ road_node 5 p5 ∷ [] }) ∷ []
unfolding opened
first_road_rule = refl

-- the tag's value is empty, and so is the name
empty_values : way_9 (rule LineShape (codes "highway") None 1 RoadClass ∷ rule LineShape (codes "highway") None 1 PlaceClass ∷ [])
    (node 3 [] p3 ∷ node 5 [] p5 ∷ way 9 (tag (codes "highway") [] ∷ tag (codes "name") [] ∷ []) (pos 3 ∷ pos 5 ∷ []) ∷ [])
    ≡ Road (record { id = id Way 9; rule = 0; value = []; dir = Both; nodes = road_node 3 p3 ∷ road_node 5 p5 ∷ [] }) ∷ []
unfolding opened
empty_values = refl

-- a place, a street and a house of one way, and then its road
three_addresses : way_9 (rule LineShape (codes "a") None 1 RoadClass ∷ rule LineShape (codes "a") None 1 PlaceClass ∷ [])
    (node 3 [] p3 ∷ node 5 [] p5
    ∷ way 9 (tag (codes "a") (codes "b") ∷ tag (codes "addr:housenumber") (codes "3") ∷ tag (codes "addr:street") (codes "Ring") ∷ tag (codes "name") (codes "Hof") ∷ []) (pos 3 ∷ pos 5 ∷ []) ∷ [])
    ≡ Addr (record { id = id Way 9; kind = Place; lang = []; name = codes "Hof"; number = []; point = p4 }) ∷ Addr (record { id = id Way 9; kind = Street; lang = []; name = codes "Hof"; number = []; point = p4 })
    ∷ Addr (record { id = id Way 9; kind = House; lang = []; name = codes "Ring"; number = codes "3"; point = p4 })
    ∷ Road (record { id = id Way 9; rule = 0; value = codes "b"; dir = Both; nodes = road_node 3 p3 ∷ road_node 5 p5 ∷ [] }) ∷ []
unfolding opened
three_addresses = refl

abbrev house_tags : List ℕ → List Tag
house_tags number = tag (codes "addr:housenumber") number ∷ tag (codes "addr:street") (codes "Ring") ∷ []

house_without_rules : way_9 [] (node 3 [] p3 ∷ node 5 [] p5 ∷ way 9 (house_tags (codes "3")) (pos 3 ∷ pos 5 ∷ []) ∷ [])
    ≡ Addr (record { id = id Way 9; kind = House; lang = []; name = codes "Ring"; number = codes "3"; point = p4 }) ∷ []
unfolding opened
house_without_rules = refl

house_without_geometry : way_9 [] (node 3 [] p3 ∷ way 9 (house_tags (codes "3")) (pos 3 ∷ pos 5 ∷ []) ∷ []) ≡ []
unfolding opened
house_without_geometry = refl

house_without_number : records [] (node 3 (house_tags []) p3 ∷ []) (id Node 3) ≡ []
unfolding opened
house_without_number = refl

-- a relation has no geometry
house_of_relation : records town_rules
    (node 3 [] p3 ∷ record { id = id Relation 30; version = 1; tags = house_tags (codes "3"); place = None; refs = []; members = member Node 3 [] ∷ [] } ∷ []) (id Relation 30) ≡ []
unfolding opened town_rules
house_of_relation = refl

nothing_unplaced : records (rule PointShape (codes "a") None 1 MapClass ∷ [])
    (record { id = id Node 3; version = 1; tags = tag (codes "a") [] ∷ []; place = None; refs = []; members = [] } ∷ []) (id Node 3) ≡ []
unfolding opened
nothing_unplaced = refl

-- Restrictions of small stores.

abbrev turning : List Tag → List Member → List Rec
turning tags members = records [] (node 5 [] p5 ∷ node 6 [] p6 ∷ unplaced 7 ∷ record { id = id Relation 30; version = 1; tags = tags; place = None; refs = []; members = members } ∷ []) (id Relation 30)

abbrev turn_tags : List Tag
turn_tags = tag (codes "restriction") (codes "no_u_turn") ∷ tag (codes "type") (codes "restriction") ∷ []

-- the ways need not be there
turn_by_node : turning turn_tags (member Way 1 (codes "from") ∷ member Node 6 (codes "via") ∷ member Way 2 (codes "to") ∷ [])
    ≡ Ban (record { id = id Relation 30; value = codes "no_u_turn"; from = pos 1; via = pos 6; to = pos 2; point = p6 }) ∷ []
unfolding opened
turn_by_node = refl

two_via : turning turn_tags (member Way 1 (codes "from") ∷ member Node 5 (codes "via") ∷ member Node 6 (codes "via") ∷ member Way 2 (codes "to") ∷ []) ≡ []
unfolding opened
two_via = refl

-- the one of them that is not there counts too
two_via_one_there : turning turn_tags (member Way 1 (codes "from") ∷ member Node 5 (codes "via") ∷ member Node 99 (codes "via") ∷ member Way 2 (codes "to") ∷ []) ≡ []
unfolding opened
two_via_one_there = refl

-- one node by two members
via_twice : turning turn_tags (member Way 1 (codes "from") ∷ member Node 6 (codes "via") ∷ member Node 6 (codes "via") ∷ member Way 2 (codes "to") ∷ [])
    ≡ []
unfolding opened
via_twice = refl

via_without_place : turning turn_tags (member Way 1 (codes "from") ∷ member Node 7 (codes "via") ∷ member Way 2 (codes "to") ∷ []) ≡ []
unfolding opened
via_without_place = refl

via_way_only : turning turn_tags (member Way 1 (codes "from") ∷ member Way 5 (codes "via") ∷ member Way 2 (codes "to") ∷ []) ≡ []
unfolding opened
via_way_only = refl

from_node_only : turning turn_tags (member Node 6 (codes "from") ∷ member Node 5 (codes "via") ∷ member Way 2 (codes "to") ∷ []) ≡ []
unfolding opened
from_node_only = refl

two_to : turning turn_tags (member Way 1 (codes "from") ∷ member Node 5 (codes "via") ∷ member Way 2 (codes "to") ∷ member Way 1 (codes "to") ∷ []) ≡ []
unfolding opened
two_to = refl

no_to : turning turn_tags (member Way 1 (codes "from") ∷ member Node 5 (codes "via") ∷ []) ≡ []
unfolding opened
no_to = refl

of_another_type : turning (tag (codes "restriction") (codes "no_u_turn") ∷ tag (codes "type") (codes "route") ∷ [])
    (member Way 1 (codes "from") ∷ member Node 5 (codes "via") ∷ member Way 2 (codes "to") ∷ []) ≡ []
unfolding opened
of_another_type = refl

without_value : turning (tag (codes "type") (codes "restriction") ∷ []) (member Way 1 (codes "from") ∷ member Node 5 (codes "via") ∷ member Way 2 (codes "to") ∷ []) ≡ []
unfolding opened
without_value = refl

-- The order of records.

abbrev ComesBefore : Rec → Rec → Type 0
ComesBefore a b = record_cmp a b ≡ Less

abbrev mapped : Id → ℕ → Shape → List ℕ → List Point → Rec
mapped o place shape name points = Map (record { id = o; rule = place; shape = shape; name = name; points = points })

abbrev poi : List ℕ → List ℕ → Point → Rec
poi category name p = Poi (record { id = id Node 1; category = category; name = name; point = p })

abbrev addressed : AddrKind → List ℕ → List ℕ → Point → Rec
addressed kind name number p = Addr (record { id = id Node 1; kind = kind; lang = []; name = name; number = number; point = p })

abbrev road_of : ℕ → List ℕ → Dir → List RoadNode → Rec
road_of place value dir nodes = Road (record { id = id Way 1; rule = place; value = value; dir = dir; nodes = nodes })

abbrev ban : List ℕ → ℤ → ℤ → ℤ → Point → Rec
ban value from via to p = Ban (record { id = id Relation 1; value = value; from = from; via = via; to = to; point = p })

-- the kind and then the signed number, whatever the class is
by_number : ComesBefore (Poi (record { id = record { kind = Node; number = negsuc 2 }; category = codes "z"; name = []; point = p1 })) (mapped (id Node 1) 0 PointShape [] (p1 ∷ []))
by_number = refl

by_kind_of_object : ComesBefore (poi (codes "z") [] p1) (mapped (record { kind = Way; number = negsuc 99 }) 0 LineShape [] (p1 ∷ p1 ∷ []))
by_kind_of_object = refl

by_class : ComesBefore (mapped (id Node 1) 8 PointShape (codes "z") (p2 ∷ [])) (poi (codes "a") [] p1) × ComesBefore (poi (codes "z") [] p2) (addressed Place (codes "a") [] p1)
    × ComesBefore (Addr (record { id = id Way 1; kind = House; lang = []; name = codes "z"; number = codes "9"; point = p2 })) (road_of 0 [] Both [])
by_class = (refl, refl, refl)

by_fields_of_map : ComesBefore (mapped (id Way 1) 1 AreaShape (codes "z") []) (mapped (id Way 1) 2 PointShape [] []) × ComesBefore (mapped (id Way 1) 1 LineShape (codes "z") []) (mapped (id Way 1) 1 AreaShape [] [])
    × ComesBefore (mapped (id Way 1) 1 LineShape (codes "a") (p2 ∷ [])) (mapped (id Way 1) 1 LineShape (codes "ab") (p1 ∷ []))
    × ComesBefore (mapped (id Way 1) 1 LineShape [] (point 1 9 ∷ [])) (mapped (id Way 1) 1 LineShape [] (point 2 1 ∷ []))
    × ComesBefore (mapped (id Way 1) 1 LineShape [] (point 1 1 ∷ [])) (mapped (id Way 1) 1 LineShape [] (point 1 1 ∷ point 0 0 ∷ []))
by_fields_of_map = (refl, refl, refl, refl, refl)

by_fields_of_poi : ComesBefore (poi (codes "a0") (codes "z") p2) (poi (codes "a_") [] p1) × ComesBefore (poi (codes "a") (codes "A") (point 9 9)) (poi (codes "a") (codes "a") (point 1 1))
    × ComesBefore (poi (codes "a") [] (point 1 1)) (poi (codes "a") [] (point 1 2))
by_fields_of_poi = (refl, refl, refl)

by_fields_of_address : ComesBefore (addressed Place (codes "z") [] p2) (addressed Street (codes "a") [] p1) × ComesBefore (addressed Street (codes "z") [] p2) (addressed House (codes "a") (codes "1") p1)
    × ComesBefore (addressed House (codes "a") (codes "9") p2) (addressed House (codes "b") (codes "1") p1) × ComesBefore (addressed House (codes "a") (codes "10") (point 2 2)) (addressed House (codes "a") (codes "9") (point 1 1))
    × ComesBefore (addressed House (codes "a") (codes "9") (point 1 2)) (addressed House (codes "a") (codes "9") (point 2 1))
    × ComesBefore (Addr (record { id = id Node 1; kind = Place; lang = []; name = codes "z"; number = []; point = p2 })) (Addr (record { id = id Node 1; kind = Place; lang = codes "en"; name = codes "a"; number = []; point = p1 }))
    × ComesBefore (Addr (record { id = id Node 1; kind = Place; lang = codes "en"; name = codes "z"; number = []; point = p2 })) (Addr (record { id = id Node 1; kind = Street; lang = []; name = codes "a"; number = []; point = p1 }))
by_fields_of_address = (refl, refl, refl, refl, refl, refl, refl)

by_fields_of_road : ComesBefore (road_of 1 (codes "z") Backward []) (road_of 2 [] Both []) × ComesBefore (road_of 1 (codes "a") Backward []) (road_of 1 (codes "b") Both [])
    × ComesBefore (road_of 1 [] Both (road_node 2 p2 ∷ [])) (road_of 1 [] Forward []) × ComesBefore (road_of 1 [] Forward (road_node 2 p2 ∷ [])) (road_of 1 [] Backward [])
    × ComesBefore (road_of 1 [] Both (record { id = negsuc 0; point = p2 } ∷ [])) (road_of 1 [] Both (road_node 1 p1 ∷ []))
    × ComesBefore (road_of 1 [] Both (road_node 1 (point 1 2) ∷ [])) (road_of 1 [] Both (road_node 1 (point 2 1) ∷ []))
by_fields_of_road = (refl, refl, refl, refl, refl, refl)

by_fields_of_restriction : ComesBefore (ban (codes "a") (pos 9) (pos 9) (pos 9) p2) (ban (codes "b") (pos 1) (pos 1) (pos 1) p1) × ComesBefore (ban [] (negsuc 4) (pos 9) (pos 9) p2) (ban [] (pos 1) (pos 1) (pos 1) p1)
    × ComesBefore (ban [] (pos 1) (pos 1) (pos 9) p2) (ban [] (pos 1) (pos 2) (pos 1) p1) × ComesBefore (ban [] (pos 1) (pos 1) (pos 1) (point 2 2)) (ban [] (pos 1) (pos 1) (pos 2) (point 1 1))
    × ComesBefore (ban [] (pos 1) (pos 1) (pos 1) (point 1 2)) (ban [] (pos 1) (pos 1) (pos 1) (point 2 1))
by_fields_of_restriction = (refl, refl, refl, refl, refl)

town_in_order : in_order (reverse town_map) ≡ town_map
unfolding town_map
town_in_order = refl

-- Answers.

abbrev rect : ℕ → ℕ → ℕ → ℕ → Rect
rect left top right bottom = record { left = left; top = top; right = right; bottom = bottom }

-- the cafe is in the rectangle too, but shown from the next zoom on
in_view : answer town_rules (View (rect 1931000000 375990000 1931010000 376000000) 15) town_map
    ≡ MapRow (record { id = id Way 20; rule = 3; shape = LineShape; name = sharp; points = p3 ∷ p4 ∷ p5 ∷ [] }) ∷ MapRow building ∷ []
unfolding town_rules town_map
in_view = refl

in_farther_view : answer town_rules (View (rect 1931000000 375990000 1931010000 376000000) 14) town_map
    ≡ MapRow (record { id = id Way 20; rule = 3; shape = LineShape; name = sharp; points = p3 ∷ p4 ∷ p5 ∷ [] }) ∷ []
unfolding town_rules town_map
in_farther_view = refl

in_nearer_view : answer town_rules (View (rect 1931001000 375999000 1931001000 375999000) 16) town_map
    ≡ MapRow (record { id = id Node 2; rule = 1; shape = PointShape; name = codes "Bo Bar"; points = p2 ∷ [] }) ∷ []
unfolding town_rules town_map
in_nearer_view = refl

cafes : answer town_rules (Category (codes "cafe") (rect 1930000000 370000000 1940000000 380000000)) town_map
    ≡ PoiRow (record { id = id Node 2; category = codes "cafe"; name = codes "Bo Bar"; point = p2 }) ∷ []
unfolding town_rules town_map
cafes = refl

streets : answer town_rules (Prefix (codes "Stra")) town_map ≡ AddrRow (street p4) ∷ []
unfolding town_rules town_map key caseless chars encode
streets = refl

no_longer_prefix : answer town_rules (Prefix (codes "Aldorfer")) town_map ≡ []
unfolding town_rules town_map key caseless chars encode
no_longer_prefix = refl

houses : answer town_rules (StreetQuery sharp) town_map ≡ AddrRow house ∷ []
unfolding town_rules town_map key caseless chars encode
houses = refl

-- the first segment touches the west edge
roads : answer town_rules (Roads (rect 1931010000 375990000 1931030000 376000000)) town_map
    ≡ SegmentRow (record { id = id Way 20; index = 0; a = road_node 3 p3; b = road_node 4 p4; dir = Both; value = codes "residential" })
    ∷ SegmentRow (record { id = id Way 20; index = 1; a = road_node 4 p4; b = road_node 5 p5; dir = Both; value = codes "residential" }) ∷ BanRow turn ∷ []
unfolding town_rules town_map
roads = refl

-- names are compared by their keys: the sharp s is a double one, whatever the case
streets_by_key : answer town_rules (Prefix (codes "STRASS")) town_map ≡ AddrRow (street p4) ∷ []
unfolding town_rules town_map key caseless chars encode
streets_by_key = refl

houses_by_key : answer town_rules (StreetQuery (codes "STRASSE")) town_map ≡ AddrRow house ∷ []
unfolding town_rules town_map key caseless chars encode
houses_by_key = refl

-- the whole key, not its beginning
houses_of_longer_street : answer town_rules (StreetQuery (codes "Stra")) town_map ≡ []
unfolding town_rules town_map key caseless chars encode
houses_of_longer_street = refl

cafe_on_edges : answer town_rules (Category (codes "cafe") (rect 1931001000 375999000 1931001000 375999000)) town_map
    ≡ PoiRow (record { id = id Node 2; category = codes "cafe"; name = codes "Bo Bar"; point = p2 }) ∷ []
unfolding town_rules town_map
cafe_on_edges = refl

cafe_beside : answer town_rules (Category (codes "cafe") (rect 1931001001 375999000 1931001002 375999000)) town_map ≡ []
unfolding town_rules town_map
cafe_beside = refl

other_category : answer town_rules (Category (codes "caf") (rect 0 0 3600000000 1800000000)) town_map ≡ []
unfolding town_rules town_map
other_category = refl

-- the second segment and the turn at its end
end_of_road : answer town_rules (Roads (rect 1931020000 375998000 1931020000 375998000)) town_map
    ≡ SegmentRow (record { id = id Way 20; index = 1; a = road_node 4 p4; b = road_node 5 p5; dir = Both; value = codes "residential" }) ∷ BanRow turn ∷ []
unfolding town_rules town_map
end_of_road = refl

-- a bounding box is met where no segment passes
box_of_segment : answer [] (Roads (rect 3 1 3 1)) (Road (record { id = id Way 1; rule = 0; value = []; dir = Forward; nodes = road_node 1 (point 1 1) ∷ road_node 2 (point 4 4) ∷ [] }) ∷ [])
    ≡ SegmentRow (record { id = id Way 1; index = 0; a = road_node 1 (point 1 1); b = road_node 2 (point 4 4); dir = Forward; value = [] }) ∷ []
box_of_segment = refl

-- the box of all points, of which none is inside
box_of_line : answer (rule LineShape (codes "a") None 3 MapClass ∷ []) (View (rect 2 2 3 3) 3) (Map (record { id = id Way 1; rule = 0; shape = LineShape; name = []; points = point 9 9 ∷ point 1 4 ∷ point 4 1 ∷ [] }) ∷ [])
    ≡ MapRow (record { id = id Way 1; rule = 0; shape = LineShape; name = []; points = point 9 9 ∷ point 1 4 ∷ point 4 1 ∷ [] }) ∷ []
box_of_line = refl

-- Questions as they are written.

view_text : query_of (codes " V 13.1 52.4 13.101 52.401 15 ") ≡ Some (View (rect 1931000000 375990000 1931010000 376000000) 15)
unfolding opened
view_text = refl

view_of_zoom_23 : query_of (codes "V 13.1 52.4 13.101 52.401 23") ≡ None
unfolding opened
view_of_zoom_23 = refl

view_without_zoom : query_of (codes "V 13.1 52.4 13.101 52.401") ≡ None
unfolding opened
view_without_zoom = refl

category_text : query_of (codes "C cafe 13 52 14 53") ≡ Some (Category (codes "cafe") (rect 1930000000 370000000 1940000000 380000000))
unfolding opened
category_text = refl

category_in_capitals : query_of (codes "C Cafe 13 52 14 53") ≡ None
unfolding opened
category_in_capitals = refl

east_before_west : query_of (codes "S 14 52 13 53") ≡ None
unfolding opened
east_before_west = refl

prefix_text : query_of (codes "A Bo%20%B") ≡ Some (Prefix (codes "Bo B"))
unfolding opened
prefix_text = refl

prefix_of_two_words : query_of (codes "A Bo B") ≡ None
unfolding opened
prefix_of_two_words = refl

prefix_missing : query_of (codes "A ") ≡ None
unfolding opened
prefix_missing = refl

street_text : query_of (codes "H x") ≡ Some (StreetQuery (codes "x"))
unfolding opened
street_text = refl

letter_in_lower_case : query_of (codes "h x") ≡ None
unfolding opened
letter_in_lower_case = refl

roads_text : query_of (9 ∷ codes "S" ++ 9 ∷ codes "13 52" ++ 9 ∷ codes " 14 53" ++ 9 ∷ []) ≡ Some (Roads (rect 1930000000 370000000 1940000000 380000000))
unfolding opened
roads_text = refl

roads_everywhere : query_of (codes "S -180 -90 180 90") ≡ Some (Roads (rect 0 0 3600000000 1800000000))
unfolding opened
roads_everywhere = refl

roads_at_a_point : query_of (codes "S 13 52 13 52") ≡ Some (Roads (rect 1930000000 380000000 1930000000 380000000))
unfolding opened
roads_at_a_point = refl

zoom_of_two_digits : query_of (codes "V 0 0 1 1 05") ≡ Some (View (rect 1800000000 890000000 1810000000 900000000) 5)
unfolding opened
zoom_of_two_digits = refl

no_questions : map query_of
    ([] ∷ codes "  " ∷ codes "S" ∷ codes "SS 13 52 14 53" ∷ codes "v 0 0 1 1 5" ∷ codes "V 0 0 1 1 005" ∷ codes "V 0 0 1 1 5 5" ∷ codes "S 0 0 1" ∷ codes "S 0 0 1 1 1" ∷ codes "S 0 1 1 0"
    ∷ codes "S -180.0000001 0 0 1" ∷ codes "S 0 0 0 90.1" ∷ codes "C cafe 13 52 14" ∷ codes "C 13 52 14 53" ∷ codes "C a.b 13 52 14 53" ∷ codes "A a,b" ∷ codes "A a=b" ∷ codes "A %zz%" ∷ codes "H a b" ∷ codes "H" ∷ codes "X x" ∷ [])
    ≡ None ∷ None ∷ None ∷ None ∷ None ∷ None ∷ None ∷ None ∷ None ∷ None ∷ None ∷ None ∷ None ∷ None ∷ None ∷ None ∷ None ∷ None ∷ None ∷ None ∷ None ∷ []
unfolding opened
no_questions = refl

prefix_of_a_space : query_of (codes "A %20%") ≡ Some (Prefix (32 ∷ []))
unfolding opened
prefix_of_a_space = refl

-- Overlays.

abbrev far : Point
far = point 1935000000 374000000

abbrev moved : List Line
moved = Live (node 4 [] far) ∷ []

abbrev moved_back : List Line
moved_back = Live (node 4 [] p4) ∷ []

abbrev street_rules : List Rule
street_rules = rule LineShape (codes "highway") None 14 MapClass ∷ rule PointShape (codes "amenity") None 15 MapClass ∷ []

-- a bar and a street of two nodes
abbrev bar_and_street : Point → List Entity
bar_and_street p =
    node 2 (tag (codes "amenity") (codes "bar") ∷ []) p2 ∷ node 3 [] p3 ∷ node 4 [] p
    ∷ way 20 (tag (codes "highway") (codes "residential") ∷ []) (pos 3 ∷ pos 4 ∷ []) ∷ []

abbrev bar_drawn : Rec
bar_drawn = Map (record { id = id Node 2; rule = 1; shape = PointShape; name = []; points = p2 ∷ [] })

abbrev street_drawn : Point → Rec
street_drawn p = Map (record { id = id Way 20; rule = 0; shape = LineShape; name = []; points = p3 ∷ p ∷ [] })

abbrev street_overlay : Point → List Line → Overlay
street_overlay p lines = overlay street_rules (bar_and_street p) lines

abbrev drawn_anew : Point → Overlay
drawn_anew p = record { marks = id Way 20 ∷ []; records = street_drawn p ∷ [] }

-- a node without records moves a way
way_moved : street_overlay p4 moved ≡ drawn_anew far
unfolding opened
way_moved = refl

way_moved_back : street_overlay far moved_back ≡ drawn_anew p4
unfolding opened
way_moved_back = refl

nothing_moved : street_overlay p4 moved_back ≡ record { marks = []; records = [] }
unfolding opened
nothing_moved = refl

bar_gone : street_overlay p4 (Gone (id Node 2) 0 ∷ []) ≡ record { marks = id Node 2 ∷ []; records = [] }
unfolding opened
bar_gone = refl

-- an object that was not there
nothing_gone : street_overlay p4 (Gone (id Node 77) 0 ∷ []) ≡ record { marks = []; records = [] }
unfolding opened
nothing_gone = refl

laid_once : laid (bar_drawn ∷ street_drawn p4 ∷ []) (drawn_anew far ∷ []) ≡ bar_drawn ∷ street_drawn far ∷ []
laid_once = refl

rebuilt_once : rebuilt street_rules (map Live (bar_and_street p4)) (moved ∷ []) ≡ bar_drawn ∷ street_drawn far ∷ []
unfolding opened
rebuilt_once = refl

-- the bar goes and the street moves; then the street moves back
fold_of_two : folded (record { marks = id Node 2 ∷ id Way 20 ∷ []; records = street_drawn far ∷ [] } ∷ drawn_anew p4 ∷ [])
    ≡ record { marks = id Node 2 ∷ id Way 20 ∷ []; records = street_drawn p4 ∷ [] }
fold_of_two = refl

-- Changes of the town.

abbrev change_of_town : List Line → Overlay
change_of_town lines = overlay town_rules town lines

abbrev street_records : Point → List Point → List RoadNode → List Rec
street_records middle points nodes =
    street_record points ∷ Addr (street middle) ∷ Road (record { id = id Way 20; rule = 4; value = codes "residential"; dir = Both; nodes = nodes }) ∷ []

-- the node that moves has no records, so the street alone is marked
town_moved : change_of_town moved
    ≡ record { marks = id Way 20 ∷ []; records = street_records (point 1933000000 374999000) (p3 ∷ far ∷ p5 ∷ []) (road_node 3 p3 ∷ road_node 4 far ∷ road_node 5 p5 ∷ []) }
unfolding opened town town_rules
town_moved = refl

cafe_gone : change_of_town (Gone (id Node 2) 0 ∷ []) ≡ record { marks = id Node 2 ∷ []; records = [] }
unfolding opened town town_rules
cafe_gone = refl

-- two points are left
node_of_street_gone : change_of_town (Gone (id Node 4) 0 ∷ [])
    ≡ record { marks = id Way 20 ∷ []; records = street_records (point 1931010000 375998000) (p3 ∷ p5 ∷ []) (road_node 3 p3 ∷ road_node 5 p5 ∷ []) }
unfolding opened town town_rules
node_of_street_gone = refl

-- the node of the turn is on the street too
node_of_turn_gone : change_of_town (Gone (id Node 5) 0 ∷ [])
    ≡ record { marks = id Way 20 ∷ id Relation 30 ∷ []; records = street_records (point 1931005000 375998000) (p3 ∷ p4 ∷ []) (road_node 3 p3 ∷ road_node 4 p4 ∷ []) }
unfolding opened town town_rules
node_of_turn_gone = refl

unknown_gone : change_of_town (Gone (id Node 77) 0 ∷ []) ≡ record { marks = []; records = [] }
unfolding opened town town_rules
unknown_gone = refl

-- gone, and there again without its name
cafe_anew : change_of_town (Gone (id Node 2) 0 ∷ Live (node 2 (tag (codes "amenity") (codes "cafe") ∷ []) p2) ∷ [])
    ≡ record {
      marks = id Node 2 ∷ [];
      records =
          Map (record { id = id Node 2; rule = 1; shape = PointShape; name = []; points = p2 ∷ [] })
          ∷ Poi (record { id = id Node 2; category = codes "cafe"; name = []; point = p2 }) ∷ [];
    }
unfolding opened town town_rules
cafe_anew = refl

-- Three bars, and two changes.

bar_rules : List Rule
bar_rules = rule PointShape (codes "amenity") None 0 MapClass ∷ []

abbrev bar : ℕ → List ℕ → Point → Entity
bar number name p = node number (tag (codes "amenity") (codes "bar") ∷ tag (codes "name") name ∷ []) p

abbrev drawn_bar : ℕ → List ℕ → Point → Rec
drawn_bar number name p = Map (record { id = id Node number; rule = 0; shape = PointShape; name = name; points = p ∷ [] })

abbrev bars : List Entity
bars = bar 1 (codes "a") p1 ∷ bar 2 (codes "b") p2 ∷ bar 3 (codes "c") p3 ∷ []

abbrev drawn_bars : List Rec
drawn_bars = drawn_bar 1 (codes "a") p1 ∷ drawn_bar 2 (codes "b") p2 ∷ drawn_bar 3 (codes "c") p3 ∷ []

-- the second moves and the first goes
abbrev first_change : List Line
first_change = Live (bar 2 (codes "b") far) ∷ Gone (id Node 1) 2 ∷ []

-- the third has another name and the second moves back
abbrev second_change : List Line
second_change = Live (bar 3 (codes "d") p3) ∷ Live (bar 2 (codes "b") p2) ∷ []

abbrev first_overlay : Overlay
first_overlay = record { marks = id Node 1 ∷ id Node 2 ∷ []; records = drawn_bar 2 (codes "b") far ∷ [] }

abbrev second_overlay : Overlay
second_overlay = record { marks = id Node 2 ∷ id Node 3 ∷ []; records = drawn_bar 2 (codes "b") p2 ∷ drawn_bar 3 (codes "d") p3 ∷ [] }

abbrev both_overlays : Overlay
both_overlays = record { marks = id Node 1 ∷ id Node 2 ∷ id Node 3 ∷ []; records = drawn_bar 2 (codes "b") p2 ∷ drawn_bar 3 (codes "d") p3 ∷ [] }

bars_drawn : map_of bar_rules bars ≡ drawn_bars
unfolding opened bar_rules
bars_drawn = refl

first_changed : overlay bar_rules bars first_change ≡ first_overlay
unfolding opened bar_rules
first_changed = refl

second_changed : overlay bar_rules (apply bars first_change) second_change ≡ second_overlay
unfolding opened bar_rules
second_changed = refl

-- the second bar is as it was
both_changed : overlay bar_rules bars (first_change ++ second_change) ≡ record { marks = id Node 1 ∷ id Node 3 ∷ []; records = drawn_bar 3 (codes "d") p3 ∷ [] }
unfolding opened bar_rules
both_changed = refl

-- a version makes no other record
version_changed : overlay bar_rules bars (Live (record {
  id = id Node 1;
  version = 7;
  tags = tag (codes "amenity") (codes "bar") ∷ tag (codes "name") (codes "a") ∷ [];
  place = Some p1;
  refs = [];
  members = [];
}) ∷ []) ≡ record { marks = []; records = [] }
unfolding opened bar_rules
version_changed = refl

bars_added : overlay bar_rules bars (Live (bar 9 [] p2) ∷ Live (bar 0 [] p1) ∷ []) ≡ record { marks = id Node 0 ∷ id Node 9 ∷ []; records = drawn_bar 0 [] p1 ∷ drawn_bar 9 [] p2 ∷ [] }
unfolding opened bar_rules
bars_added = refl

over_first : over drawn_bars first_overlay ≡ drawn_bar 2 (codes "b") far ∷ drawn_bar 3 (codes "c") p3 ∷ []
over_first = refl

-- a mark without records hides
over_marks_alone : over drawn_bars (record { marks = id Node 2 ∷ []; records = [] }) ≡ drawn_bar 1 (codes "a") p1 ∷ drawn_bar 3 (codes "c") p3 ∷ []
over_marks_alone = refl

-- records of an overlay stand among the others
over_in_order : over (drawn_bar 1 [] p1 ∷ drawn_bar 9 [] p1 ∷ []) (record { marks = id Node 5 ∷ []; records = drawn_bar 5 [] p2 ∷ [] }) ≡ drawn_bar 1 [] p1 ∷ drawn_bar 5 [] p2 ∷ drawn_bar 9 [] p1 ∷ []
over_in_order = refl

laid_both : laid drawn_bars (first_overlay ∷ second_overlay ∷ []) ≡ drawn_bar 2 (codes "b") p2 ∷ drawn_bar 3 (codes "d") p3 ∷ []
laid_both = refl

-- the last on top
laid_other_way : laid drawn_bars (second_overlay ∷ first_overlay ∷ []) ≡ drawn_bar 2 (codes "b") far ∷ drawn_bar 3 (codes "d") p3 ∷ []
laid_other_way = refl

rebuilt_both : rebuilt bar_rules (map Live bars) (first_change ∷ second_change ∷ []) ≡ drawn_bar 2 (codes "b") p2 ∷ drawn_bar 3 (codes "d") p3 ∷ []
unfolding opened bar_rules
rebuilt_both = refl

-- the mark of the second bar stays
fold_of_both : folded (first_overlay ∷ second_overlay ∷ []) ≡ both_overlays
fold_of_both = refl

over_fold : over drawn_bars both_overlays ≡ drawn_bar 2 (codes "b") p2 ∷ drawn_bar 3 (codes "d") p3 ∷ []
over_fold = refl

fold_of_folds : folded (folded (first_overlay ∷ []) ∷ folded (second_overlay ∷ first_overlay ∷ []) ∷ []) ≡ folded (first_overlay ∷ second_overlay ∷ first_overlay ∷ [])
fold_of_folds = refl

-- the last overlay that marks an object has no records for it
fold_forgets : folded (first_overlay ∷ record { marks = id Node 2 ∷ []; records = [] } ∷ []) ≡ record { marks = id Node 1 ∷ id Node 2 ∷ []; records = [] }
fold_forgets = refl

-- an hour that moves the street and an hour that moves it back
town_of_two_hours : laid town_map (change_of_town moved ∷ overlay town_rules (apply town moved) moved_back ∷ []) ≡ town_map
unfolding opened town town_rules town_map
town_of_two_hours = refl

fold_of_two_hours : folded (change_of_town moved ∷ overlay town_rules (apply town moved) moved_back ∷ [])
    ≡ record { marks = id Way 20 ∷ []; records = street_records p4 (p3 ∷ p4 ∷ p5 ∷ []) (road_node 3 p3 ∷ road_node 4 p4 ∷ road_node 5 p5 ∷ []) }
unfolding opened town town_rules
fold_of_two_hours = refl

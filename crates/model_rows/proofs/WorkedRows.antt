-- Small texts and values, with what the definitions make of them.
use Rattle.std.proofs.Common.{◌≡◌, ℕ, List, [], ◌∷◌, refl, Option, Some, None, true, false}
use Rattle.std.specs.Prelude.{codes, map, ◌++◌, ℤ, pos, negsuc, replicate}
use Rattle.std.specs.Fmt.{digits}
use Rattle.std.specs.List.{flat_map}
use Rattle.std.specs.Str.{is_utf8, chars}
use Rattle.std.proofs.Math.Utf8.{encode}
use Rattle.text_pieces.specs.Lines.{lines_from, fields_from}
use Rattle.text_pieces.specs.Numbers.{number_of, id_of}
use Rattle.text_pieces.specs.Coordinates.{magnitude_of, degrees_of, magnitude_text, degrees_text}
use Rattle.text_pieces.specs.Escapes.{character_of, unescaped, text_of, escaped}
use Rattle.live_model.specs.declared.ids.Kind.{Kind}
use Rattle.live_model.specs.declared.ids.Kind.TheVariants.{Node, Way, Relation}
use Rattle.live_model.specs.declared.points.Point.{Point}
use Rattle.live_model.specs.declared.points.Rect.{Rect}
use Rattle.live_model.specs.declared.objects.Tag.{Tag}
use Rattle.live_model.specs.declared.objects.Entity.{Entity}
use Rattle.live_model.specs.declared.objects.Line.{Line}
use Rattle.live_model.specs.declared.objects.Line.TheVariants.{Live, Gone}
use Rattle.live_model.specs.declared.objects.Member.{Member}
use Rattle.live_model.specs.declared.opl.OplKind.{OplKind}
use Rattle.live_model.specs.declared.opl.OplKind.TheVariants.{NotUtf8, BadId, BadField, Twice, BadEscape, BadNumber, LocatedRef, BadList, OverLimit}
use Rattle.live_model.specs.declared.opl.Letter.TheVariants.{Tags, Refs}
use Rattle.live_model.specs.Ids.{Id, ordinal}
use Rattle.live_model.specs.Points.{rect_of}
use Rattle.live_model.specs.Stores.{apply}
use Rattle.live_model.specs.FieldValues.{is_few, object_of, ref_of, version_of, gone_of, is_count, is_time, coordinate_of, tag_of, pairs_of, refs_of, member_of, members_of}
use Rattle.live_model.specs.ObjectLines.{letter_of, line_of}
use Rattle.live_model.specs.LineTests.{value_tests, field_tests, failure_kind, tests_of, break_of}
use Rattle.live_model.specs.OplTexts.{object_lines, spelled_lines, row_break, break_from, text_break}
use Rattle.live_model.specs.CanonicalLines.{id_text, tag_text, ref_text, member_text, row_text, line_text, lines_text, nodes_in}

-- all that the rows compute with
opened : Unit {0}
unfolding lines_from fields_from number_of id_of magnitude_of degrees_of magnitude_text degrees_text character_of unescaped text_of escaped rect_of object_of ref_of version_of gone_of is_count is_time coordinate_of tag_of pairs_of refs_of member_of members_of letter_of line_of tests_of break_of text_break id_text tag_text ref_text member_text row_text line_text digits is_utf8 chars encode
opened = tt

-- Values to compare with.

abbrev n : ℤ → Id
n number = record { kind = Node; number = number }

abbrev at : ℕ → ℕ → Option Point
at x y = Some (record { x = x; y = y })

abbrev tag : List ℕ → List ℕ → Tag
tag key value = record { key = key; value = value }

abbrev node : ℤ → ℕ → List Tag → Option Point → Entity
node number version tags place = record { id = n number; version = version; tags = tags; place = place; refs = []; members = [] }

abbrev way : ℤ → ℕ → List Tag → List ℤ → Entity
way number version tags refs = record { id = record { kind = Way; number = number }; version = version; tags = tags; place = None; refs = refs; members = [] }

abbrev relation : ℤ → ℕ → List Tag → List Member → Entity
relation number version tags members = record { id = record { kind = Relation; number = number }; version = version; tags = tags; place = None; refs = []; members = members }

abbrev member : Kind → ℤ → List ℕ → Member
member kind number role = record { target = record { kind = kind; number = number }; role = role }

-- the text breaks at this place and in this way
abbrev Breaks : List ℕ → ℕ → OplKind → Type 0
Breaks bytes place kind = text_break bytes ≡ Some (record { at = place; kind = kind })

abbrev rect : ℕ → ℕ → ℕ → ℕ → Rect
rect left top right bottom = record { left = left; top = top; right = right; bottom = bottom }

-- A whole text.

abbrev town : List ℕ
town = codes "n2 v1 x13.1 y52.4 Tplace=town,name=Aldorf" ++ 10 ∷ codes "n1 x0 y0" ++ 10 ∷ 10 ∷ codes "# note" ++ 10 ∷ codes "n3 dD" ++ 10 ∷ codes "n4"

aldorf : Entity
aldorf = node (pos 2) 1 (tag (codes "name") (codes "Aldorf") ∷ tag (codes "place") (codes "town") ∷ []) (at 1931000000 376000000)

abbrev town_lines : List Line
town_lines = Live aldorf ∷ Live (node (pos 1) 0 [] (at 1800000000 900000000)) ∷ Gone (n (pos 3)) 0 ∷ Live (node (pos 4) 0 [] None) ∷ []

town_objects : object_lines town
    ≡ (0, codes "n2 v1 x13.1 y52.4 Tplace=town,name=Aldorf") ∷ (42, codes "n1 x0 y0") ∷ (59, codes "n3 dD") ∷ (65, codes "n4") ∷ []
unfolding opened
town_objects = refl

town_spelled : spelled_lines (object_lines town) ≡ Some town_lines
unfolding opened aldorf
town_spelled = refl

town_unbroken : text_break town ≡ None
unfolding opened
town_unbroken = refl

town_rect : rect_of (codes "13 52 14 53") ≡ Some (rect 1930000000 370000000 1940000000 380000000)
unfolding opened
town_rect = refl

town_nodes : lines_text (nodes_in (rect 1930000000 370000000 1940000000 380000000) (apply [] town_lines)) ≡ codes "n2 v1 dV Tname=Aldorf,place=town x13.1 y52.4" ++ 10 ∷ []
unfolding opened aldorf
town_nodes = refl

empty_text : spelled_lines (object_lines []) ≡ Some []
unfolding opened
empty_text = refl

-- Five lines with all that a line may hold.

abbrev sharp : List ℕ
sharp = codes "Stra" ++ 195 ∷ 159 ∷ codes "e"

abbrev five_texts : List ℕ
five_texts =
    codes "n1 v1 dV c10 t2024-01-05T10:00:00Z i7 uada Tplace=town,name=Aldorf x13.1 y52.4" ++ 10 ∷ codes "n2 v1 dV Tamenity=cafe,name=Bo%20%Bar x13.1001 y52.4001" ++ 10 ∷ codes "n3 v1 x13.1 y52.4002" ++ 10
    ∷ codes "w20 v1 Thighway=residential,name=Stra%df%e Nn3,n4,n5" ++ 10 ∷ codes "r30 v1 Ttype=restriction,restriction=no_left_turn Mw20@from,n5@via,w22@to" ++ 10 ∷ []

abbrev five_objects : List Entity
five_objects =
    node (pos 1) 1 (tag (codes "name") (codes "Aldorf") ∷ tag (codes "place") (codes "town") ∷ []) (at 1931000000 376000000)
    ∷ node (pos 2) 1 (tag (codes "amenity") (codes "cafe") ∷ tag (codes "name") (codes "Bo Bar") ∷ []) (at 1931001000 375999000)
    ∷ node (pos 3) 1 [] (at 1931000000 375998000)
    ∷ way (pos 20) 1 (tag (codes "highway") (codes "residential") ∷ tag (codes "name") sharp ∷ []) (pos 3 ∷ pos 4 ∷ pos 5 ∷ [])
    ∷ relation (pos 30) 1 (tag (codes "restriction") (codes "no_left_turn") ∷ tag (codes "type") (codes "restriction") ∷ []) (member Way (pos 20) (codes "from") ∷ member Node (pos 5) (codes "via") ∷ member Way (pos 22) (codes "to") ∷ [])
    ∷ []

abbrev five_canonical : List ℕ
five_canonical =
    codes "n1 v1 dV Tname=Aldorf,place=town x13.1 y52.4" ++ 10 ∷ codes "n2 v1 dV Tamenity=cafe,name=Bo%20%Bar x13.1001 y52.4001" ++ 10 ∷ codes "n3 v1 dV T x13.1 y52.4002" ++ 10
    ∷ codes "w20 v1 dV Thighway=residential,name=" ++ sharp ++ codes " Nn3,n4,n5" ++ 10 ∷ codes "r30 v1 dV Trestriction=no_left_turn,type=restriction Mw20@from,n5@via,w22@to" ++ 10 ∷ []

five_spelled : spelled_lines (object_lines five_texts) ≡ Some (map Live five_objects)
unfolding opened
five_spelled = refl

five_unbroken : text_break five_texts ≡ None
unfolding opened
five_unbroken = refl

five_written : lines_text five_objects ≡ five_canonical
unfolding opened
five_written = refl

-- canonical lines are read as the same objects
five_read_back : spelled_lines (object_lines five_canonical) ≡ Some (map Live five_objects)
unfolding opened
five_read_back = refl

-- a comment, an empty line, tabs and a carriage return
abbrev lenient : List ℕ
lenient = codes "# x" ++ 10 ∷ 10 ∷ codes "n-3" ++ 9 ∷ 9 ∷ codes "y2 x1" ++ 13 ∷ 10 ∷ []

lenient_spelled : spelled_lines (object_lines lenient) ≡ Some (Live (node (negsuc 2) 0 [] (at 1810000000 880000000)) ∷ [])
unfolding opened
lenient_spelled = refl

lenient_written : line_text (node (negsuc 2) 0 [] (at 1810000000 880000000)) ≡ codes "n-3 v0 dV T x1 y2" ++ 10 ∷ []
unfolding opened
lenient_written = refl

-- Where a text breaks.

longitude_too_great : Breaks (codes "n5 x180.0000001 y0") 3 BadNumber
unfolding opened
longitude_too_great = refl

half_an_escape : Breaks (codes "n1 x1 y2 Tname=a%20") 9 BadEscape
unfolding opened
half_an_escape = refl

located_reference : Breaks (codes "w7 Nn1,n2x1y2") 3 LocatedRef
unfolding opened
located_reference = refl

longitude_twice : Breaks (codes "n1 x1 x2") 6 Twice
unfolding opened
longitude_twice = refl

references_of_a_node : Breaks (codes "n1 Nn2") 3 BadField
unfolding opened
references_of_a_node = refl

no_object : Breaks (codes "c5") 0 BadId
unfolding opened
no_object = refl

comma_behind_a_tag : Breaks (codes "n1 Ta=b,") 3 BadList
unfolding opened
comma_behind_a_tag = refl

blank_first : Breaks (codes " n1") 0 BadId
unfolding opened
blank_first = refl

tab_first : Breaks (9 ∷ codes "n1") 0 BadId
unfolding opened
tab_first = refl

blank_before_comment : Breaks (codes " # note") 0 BadId
unfolding opened
blank_before_comment = refl

-- Lines of a text.

way_behind_a_node : text_break (codes "n1 x1 y1" ++ 10 ∷ codes "w1") ≡ None
unfolding opened
way_behind_a_node = refl

-- the first line that breaks decides, and its place is counted from the start of the text
first_of_two_breaks : Breaks (codes "n1 v1" ++ 10 ∷ codes "n2 dV vX" ++ 10 ∷ codes "c5") 12 BadNumber
unfolding opened
first_of_two_breaks = refl

last_of_three : Breaks (codes "n1" ++ 10 ∷ codes "w2" ++ 10 ∷ codes "r3 M Mn1") 11 Twice
unfolding opened
last_of_three = refl

-- the places count the carriage returns, the skipped lines and their line feeds
returns_and_comments : Breaks (codes "n1 x1 y1" ++ 13 ∷ 10 ∷ codes "#" ++ 255 ∷ 10 ∷ 13 ∷ 10 ∷ codes " " ++ 9 ∷ 10 ∷ codes "w1" ++ 10 ∷ codes "c5") 21 BadId
unfolding opened
returns_and_comments = refl

-- one carriage return alone is dropped
two_returns : Breaks (codes "n1" ++ 13 ∷ 10 ∷ 13 ∷ 13 ∷ 10 ∷ []) 4 BadId
unfolding opened
two_returns = refl

return_behind_a_number : Breaks (codes "n1 v1" ++ 13 ∷ 13 ∷ 10 ∷ []) 3 BadNumber
unfolding opened
return_behind_a_number = refl

inner_return : Breaks (codes "n1 x1" ++ 13 ∷ codes " y1") 3 BadNumber
unfolding opened
inner_return = refl

return_behind_an_id : Breaks (codes "n1" ++ 13 ∷ codes " x1") 0 BadId
unfolding opened
return_behind_an_id = refl

-- Bytes that are not UTF-8.

not_utf8 : Breaks (codes "n1 Ta=" ++ 255 ∷ []) 0 NotUtf8
unfolding opened
not_utf8 = refl

-- also where the id is bad
not_utf8_and_no_object : Breaks (codes "c5 " ++ 255 ∷ []) 0 NotUtf8
unfolding opened
not_utf8_and_no_object = refl

not_utf8_behind_a_blank : Breaks (32 ∷ 255 ∷ []) 0 NotUtf8
unfolding opened
not_utf8_behind_a_blank = refl

-- also where a field before it breaks
not_utf8_behind_another_break : Breaks (codes "n1 vX u" ++ 255 ∷ []) 0 NotUtf8
unfolding opened
not_utf8_behind_another_break = refl

not_utf8_in_the_second_line : Breaks (codes "n1" ++ 10 ∷ codes "n2 u" ++ 128 ∷ []) 3 NotUtf8
unfolding opened
not_utf8_in_the_second_line = refl

half_a_character : Breaks (codes "n1 u" ++ 195 ∷ []) 0 NotUtf8
unfolding opened
half_a_character = refl

character_over_a_line_feed : Breaks (codes "n1 u" ++ 195 ∷ 10 ∷ 159 ∷ []) 0 NotUtf8
unfolding opened
character_over_a_line_feed = refl

character_over_a_blank : Breaks (codes "n1 u" ++ 195 ∷ 32 ∷ 159 ∷ []) 0 NotUtf8
unfolding opened
character_over_a_blank = refl

longer_than_needed : Breaks (codes "n1 u" ++ 192 ∷ 175 ∷ []) 0 NotUtf8
unfolding opened
longer_than_needed = refl

surrogate_in_bytes : Breaks (codes "n1 u" ++ 237 ∷ 160 ∷ 128 ∷ []) 0 NotUtf8
unfolding opened
surrogate_in_bytes = refl

comment_of_any_bytes : spelled_lines (object_lines (codes "# " ++ 255 ∷ 10 ∷ codes "n1")) ≡ Some (Live (node (pos 1) 0 [] None) ∷ [])
unfolding opened
comment_of_any_bytes = refl

unbroken_comment : text_break (codes "#" ++ 255 ∷ 10 ∷ codes "n1") ≡ None
unfolding opened
unbroken_comment = refl

-- Object lines over the limit.

-- of two good object lines behind 3,999,999 others the second is one too many
too_many_lines : break_from 3999999 ((70, codes "n1") ∷ (73, codes "n2") ∷ []) ≡ Some (record { at = 73; kind = OverLimit })
unfolding opened
too_many_lines = refl

first_break_counts : break_from 3999999 ((70, codes "c1") ∷ (73, codes "n2") ∷ []) ≡ Some (record { at = 70; kind = BadId })
unfolding opened
first_break_counts = refl

last_that_may_come : break_from 3999999 ((70, codes "n1") ∷ []) ≡ None
unfolding opened
last_that_may_come = refl

-- the limit comes before all else
limit_before_not_utf8 : break_from 4000000 ((70, codes "c5" ++ 255 ∷ []) ∷ []) ≡ Some (record { at = 70; kind = OverLimit })
unfolding opened
limit_before_not_utf8 = refl

limit_before_number : row_break 4000000 (codes "n1 vX") ≡ Some (0, OverLimit)
unfolding opened
limit_before_number = refl

tested_within_the_limit : row_break 3999999 (codes "n1 vX") ≡ Some (3, BadNumber)
unfolding opened
tested_within_the_limit = refl

-- Which test of a line decides.

id_before_fields : Breaks (codes "n1x vX dX") 0 BadId
unfolding opened
id_before_fields = refl

id_before_fields_behind_a_blank : Breaks (codes " n1 vX") 0 BadId
unfolding opened
id_before_fields_behind_a_blank = refl

fields_from_the_left : Breaks (codes "n1 vX dX") 3 BadNumber
unfolding opened
fields_from_the_left = refl

fields_from_the_left_turned : Breaks (codes "n1 dX vX") 3 BadField
unfolding opened
fields_from_the_left_turned = refl

escape_before_form : Breaks (codes "n1 ua,%zz%") 3 BadEscape
unfolding opened
escape_before_form = refl

escape_before_form_of_tags : Breaks (codes "n1 Ta,b%") 3 BadEscape
unfolding opened
escape_before_form_of_tags = refl

escape_before_form_of_members : Breaks (codes "r1 Mx1,n1@%") 3 BadEscape
unfolding opened
escape_before_form_of_members = refl

twice_before_value : Breaks (codes "n1 v1 vX") 6 Twice
unfolding opened
twice_before_value = refl

twice_before_state : Breaks (codes "n1 dV dX") 6 Twice
unfolding opened
twice_before_state = refl

first_value_before_twice : Breaks (codes "n1 vX v1") 3 BadNumber
unfolding opened
first_value_before_twice = refl

letter_before_twice : Breaks (codes "n1 q q") 3 BadField
unfolding opened
letter_before_twice = refl

letter_before_twice_in_one_field : failure_kind (field_tests Node (codes "vq") (codes "q")) ≡ Some BadField
unfolding opened
letter_before_twice_in_one_field = refl

twice_in_one_field : failure_kind (field_tests Node (codes "vq") (codes "vX")) ≡ Some Twice
unfolding opened
twice_in_one_field = refl

twice_apart_from_another : Breaks (codes "w1 Nn1 v1 Nn2") 10 Twice
unfolding opened
twice_apart_from_another = refl

twice_dropped : Breaks (codes "n1 ta c5 t") 3 BadNumber
unfolding opened
twice_dropped = refl

changeset_twice : Breaks (codes "n1 c5 c6") 6 Twice
unfolding opened
changeset_twice = refl

-- Lines.

edge_of_the_earth : line_of (codes "n5 x180 y-90") ≡ Some (Live (node (pos 5) 0 [] (at 3600000000 1800000000)))
unfolding opened
edge_of_the_earth = refl

other_edge : line_of (codes "n5 y90.0 x-180.0000000") ≡ Some (Live (node (pos 5) 0 [] (at 0 0)))
unfolding opened
other_edge = refl

latitude_too_great : line_of (codes "n5 x0 y-90.0000001") ≡ None
unfolding opened
latitude_too_great = refl

seventh_place : line_of (codes "n1 x-0.0000001 y000.0000001") ≡ Some (Live (node (pos 1) 0 [] (at 1799999999 899999999)))
unfolding opened
seventh_place = refl

eighth_place : line_of (codes "n1 x0.00000000 y0") ≡ None
unfolding opened
eighth_place = refl

four_whole_digits : line_of (codes "n1 x0001 y0") ≡ None
unfolding opened
four_whole_digits = refl

no_fraction : line_of (codes "n1 x1. y0") ≡ None
unfolding opened
no_fraction = refl

no_whole_part : line_of (codes "n1 x.5 y0") ≡ None
unfolding opened
no_whole_part = refl

two_points : line_of (codes "n1 x1.2.3 y0") ≡ None
unfolding opened
two_points = refl

plus_sign : line_of (codes "n1 x+1 y0") ≡ None
unfolding opened
plus_sign = refl

lone_minus : line_of (codes "n1 x- y0") ≡ None
unfolding opened
lone_minus = refl

minus_nothing : line_of (codes "n1 x-0 y-0.0") ≡ Some (Live (node (pos 1) 0 [] (at 1800000000 900000000)))
unfolding opened
minus_nothing = refl

-- a node is located where both coordinates have values
half_a_place : line_of (codes "n1 x1 y") ≡ Some (Live (node (pos 1) 0 [] None))
unfolding opened
half_a_place = refl

other_half : line_of (codes "n1 y1") ≡ Some (Live (node (pos 1) 0 [] None))
unfolding opened
other_half = refl

twice : line_of (codes "n1 x1 x2") ≡ None
unfolding opened
twice = refl

twice_apart : line_of (codes "n1 T v1 T") ≡ None
unfolding opened
twice_apart = refl

letter_of_another_kind : line_of (codes "n1 Nn2") ≡ None
unfolding opened
letter_of_another_kind = refl

unknown_letter : Breaks (codes "n1 q5") 3 BadField
unfolding opened
unknown_letter = refl

letter_of_the_id : Breaks (codes "n1 n2") 3 BadField
unfolding opened
letter_of_the_id = refl

capital_letter : Breaks (codes "n1 V1") 3 BadField
unfolding opened
capital_letter = refl

letter_of_two_bytes : Breaks (codes "n1 " ++ 195 ∷ 159 ∷ []) 3 BadField
unfolding opened
letter_of_two_bytes = refl

longitude_of_a_way : Breaks (codes "w1 x1") 3 BadField
unfolding opened
longitude_of_a_way = refl

latitude_of_a_relation : Breaks (codes "r1 y1") 3 BadField
unfolding opened
latitude_of_a_relation = refl

references_of_a_relation : Breaks (codes "r1 Nn1") 3 BadField
unfolding opened
references_of_a_relation = refl

members_of_a_way : Breaks (codes "w1 Mn1@") 3 BadField
unfolding opened
members_of_a_way = refl

members_of_a_node : Breaks (codes "n1 Mn1@") 3 BadField
unfolding opened
members_of_a_node = refl

no_letter : line_of (codes "n1 =1") ≡ None
unfolding opened
no_letter = refl

changeset : line_of (codes "c5") ≡ None
unfolding opened
changeset = refl

id_and_more : line_of (codes "n1x1") ≡ None
unfolding opened
id_and_more = refl

id_without_digits : line_of (codes "n- x1 y1") ≡ None
unfolding opened
id_without_digits = refl

id_without_letter : line_of (codes "1 x1 y1") ≡ None
unfolding opened
id_without_letter = refl

id_apart : line_of (codes "n 1") ≡ None
unfolding opened
id_apart = refl

greatest_id : line_of (codes "n281474976710656") ≡ Some (Live (node (pos 281474976710656) 0 [] None))
unfolding opened
greatest_id = refl

least_id : line_of (codes "n-281474976710656") ≡ Some (Live (node (negsuc 281474976710655) 0 [] None))
unfolding opened
least_id = refl

id_too_great : line_of (codes "n281474976710657") ≡ None
unfolding opened
id_too_great = refl

id_of_sixteen_digits : line_of (codes "n0000000000000001") ≡ None
unfolding opened
id_of_sixteen_digits = refl

id_of_fifteen_digits : line_of (codes "n-000000000000000") ≡ Some (Live (node (pos 0) 0 [] None))
unfolding opened
id_of_fifteen_digits = refl

greatest_version : line_of (codes "n1 v4294967295 dV") ≡ Some (Live (node (pos 1) 4294967295 [] None))
unfolding opened
greatest_version = refl

version_too_great : line_of (codes "n1 v4294967296") ≡ None
unfolding opened
version_too_great = refl

version_of_ten_digits : line_of (codes "n1 v0000000007") ≡ Some (Live (node (pos 1) 7 [] None))
unfolding opened
version_of_ten_digits = refl

version_of_eleven_digits : line_of (codes "n1 v00000000007") ≡ None
unfolding opened
version_of_eleven_digits = refl

empty_version : line_of (codes "n1 v") ≡ None
unfolding opened
empty_version = refl

version_below_nothing : line_of (codes "n1 v-1") ≡ None
unfolding opened
version_below_nothing = refl

empty_state : line_of (codes "n1 d") ≡ None
unfolding opened
empty_state = refl

other_state : line_of (codes "n1 dX") ≡ None
unfolding opened
other_state = refl

long_state : line_of (codes "n1 dVD") ≡ None
unfolding opened
long_state = refl

-- the other fields of an object that is gone are tested, and but for the version they are dropped
gone_with_more : line_of (codes "n3 x1 v2 Ta=b dD y2") ≡ Some (Gone (n (pos 3)) 2)
unfolding opened
gone_with_more = refl

gone_and_broken : line_of (codes "n3 dD x181") ≡ None
unfolding opened
gone_and_broken = refl

tabs : line_of (codes "n-3" ++ 9 ∷ 9 ∷ codes "y2 x1") ≡ Some (Live (node (negsuc 2) 0 [] (at 1810000000 880000000)))
unfolding opened
tabs = refl

blanks_at_the_end : line_of (codes "n1 v2 " ++ 9 ∷ []) ≡ Some (Live (node (pos 1) 2 [] None))
unfolding opened
blanks_at_the_end = refl

tabs_and_return : spelled_lines (object_lines (codes "n-3" ++ 9 ∷ 9 ∷ codes "y2 x1" ++ 13 ∷ 10 ∷ [])) ≡ Some (Live (node (negsuc 2) 0 [] (at 1810000000 880000000)) ∷ [])
unfolding opened
tabs_and_return = refl

-- the end of the text ends a line too, also directly behind a carriage return
no_last_line_feed : spelled_lines (object_lines (codes "n1" ++ 10 ∷ codes "n2 dD" ++ 13 ∷ [])) ≡ Some (Live (node (pos 1) 0 [] None) ∷ Gone (n (pos 2)) 0 ∷ [])
unfolding opened
no_last_line_feed = refl

skipped_alone : object_lines (13 ∷ 10 ∷ codes "  " ++ 9 ∷ 10 ∷ 10 ∷ codes "#n1" ++ 10 ∷ codes " ") ≡ []
unfolding opened
skipped_alone = refl

-- What is tested and dropped.

changeset_and_user : line_of (codes "n1 c5 t2024-01-05T10:00:00Z i-7 uada") ≡ Some (Live (node (pos 1) 0 [] None))
unfolding opened
changeset_and_user = refl

no_time : line_of (codes "n1 t") ≡ Some (Live (node (pos 1) 0 [] None))
unfolding opened
no_time = refl

time_of_any_digits : line_of (codes "n1 t9999-99-99T99:99:99Z") ≡ Some (Live (node (pos 1) 0 [] None))
unfolding opened
time_of_any_digits = refl

nineteen_digits : line_of (codes "n1 c-1234567890123456789") ≡ Some (Live (node (pos 1) 0 [] None))
unfolding opened
nineteen_digits = refl

empty_name : line_of (codes "n1 u") ≡ Some (Live (node (pos 1) 0 [] None))
unfolding opened
empty_name = refl

plain_name : line_of (codes "n1 ub@" ++ 13 ∷ 195 ∷ 159 ∷ 127 ∷ codes "%20%") ≡ Some (Live (node (pos 1) 0 [] None))
unfolding opened
plain_name = refl

date_alone : Breaks (codes "n1 t2024-01-05") 3 BadNumber
unfolding opened
date_alone = refl

time_without_its_end : Breaks (codes "n1 t2024-01-05T10:00:00") 3 BadNumber
unfolding opened
time_without_its_end = refl

time_and_more : Breaks (codes "n1 t2024-01-05T10:00:00Z0") 3 BadNumber
unfolding opened
time_and_more = refl

letters_for_digits : Breaks (codes "n1 tdddd-dd-ddTdd:dd:ddZ") 3 BadNumber
unfolding opened
letters_for_digits = refl

twenty_digits : Breaks (codes "n1 c12345678901234567890") 3 BadNumber
unfolding opened
twenty_digits = refl

empty_changeset : Breaks (codes "n1 c") 3 BadNumber
unfolding opened
empty_changeset = refl

changeset_of_two_minuses : Breaks (codes "n1 c--5") 3 BadNumber
unfolding opened
changeset_of_two_minuses = refl

user_without_digits : Breaks (codes "n1 i-") 3 BadNumber
unfolding opened
user_without_digits = refl

comma_in_name : Breaks (codes "n1 ua,b") 3 BadList
unfolding opened
comma_in_name = refl

equals_in_name : Breaks (codes "n1 ua=b") 3 BadList
unfolding opened
equals_in_name = refl

bad_escape_in_name : Breaks (codes "n1 u%zz%") 3 BadEscape
unfolding opened
bad_escape_in_name = refl

-- The same lines and how they break.

broken_by_state : Breaks (codes "n1 dX") 3 BadField
unfolding opened
broken_by_state = refl

broken_by_empty_state : Breaks (codes "n1 d") 3 BadField
unfolding opened
broken_by_empty_state = refl

broken_by_empty_version : Breaks (codes "n1 v") 3 BadNumber
unfolding opened
broken_by_empty_version = refl

broken_by_version : Breaks (codes "n1 v4294967296") 3 BadNumber
unfolding opened
broken_by_version = refl

broken_by_latitude : Breaks (codes "n1 y90.0000001") 3 BadNumber
unfolding opened
broken_by_latitude = refl

broken_though_gone : Breaks (codes "n3 dD x181") 6 BadNumber
unfolding opened
broken_though_gone = refl

-- Ways.

way_alone : line_of (codes "w1") ≡ Some (Live (way (pos 1) 0 [] []))
unfolding opened
way_alone = refl

empty_references : line_of (codes "w1 N") ≡ Some (Live (way (pos 1) 0 [] []))
unfolding opened
empty_references = refl

references : line_of (codes "w-9 Nn1,n-2,n1 v3") ≡ Some (Live (way (negsuc 8) 3 [] (pos 1 ∷ negsuc 1 ∷ pos 1 ∷ [])))
unfolding opened
references = refl

gone_way : line_of (codes "w7 dD Nn1 v4") ≡ Some (Gone (record { kind = Way; number = pos 7 }) 4)
unfolding opened
gone_way = refl

-- a reference is located whatever stands behind the letter
location_of_nothing : Breaks (codes "w1 Nn1x") 3 LocatedRef
unfolding opened
location_of_nothing = refl

latitude_first : Breaks (codes "w1 Nn1y2x3") 3 LocatedRef
unfolding opened
latitude_first = refl

location_of_other_bytes : Breaks (codes "w1 Nn1xy%") 3 LocatedRef
unfolding opened
location_of_other_bytes = refl

-- the first item that is no reference decides
located_before_way : Breaks (codes "w1 Nn1,n2x,w3") 3 LocatedRef
unfolding opened
located_before_way = refl

way_before_located : Breaks (codes "w1 Nn1,w3,n2x") 3 BadList
unfolding opened
way_before_located = refl

nothing_before_located : Breaks (codes "w1 N,n2x") 3 BadList
unfolding opened
nothing_before_located = refl

reference_to_a_way : Breaks (codes "w1 Nn1,w2") 3 BadList
unfolding opened
reference_to_a_way = refl

comma_behind_a_reference : Breaks (codes "w1 Nn1,") 3 BadList
unfolding opened
comma_behind_a_reference = refl

comma_alone_in_references : Breaks (codes "w1 N,") 3 BadList
unfolding opened
comma_alone_in_references = refl

-- a located reference has an id in range
located_by_a_number_too_great : Breaks (codes "w1 Nn281474976710657x1") 3 BadList
unfolding opened
located_by_a_number_too_great = refl

located_by_sixteen_digits : Breaks (codes "w1 Nn0000000000000001x1") 3 BadList
unfolding opened
located_by_sixteen_digits = refl

located_without_digits : Breaks (codes "w1 Nnx1") 3 BadList
unfolding opened
located_without_digits = refl

located_way : Breaks (codes "w1 Nw1x1y1") 3 BadList
unfolding opened
located_way = refl

other_letter_behind_an_id : Breaks (codes "w1 Nn1z1x1") 3 BadList
unfolding opened
other_letter_behind_an_id = refl

escape_in_references : Breaks (codes "w1 Nn1%") 3 BadList
unfolding opened
escape_in_references = refl

-- Relations.

relation_alone : line_of (codes "r1") ≡ Some (Live (relation (pos 1) 0 [] []))
unfolding opened
relation_alone = refl

empty_members : line_of (codes "r1 M") ≡ Some (Live (relation (pos 1) 0 [] []))
unfolding opened
empty_members = refl

empty_role : line_of (codes "r1 Mn1@") ≡ Some (Live (relation (pos 1) 0 [] (member Node (pos 1) [] ∷ [])))
unfolding opened
empty_role = refl

at_sign_in_role : line_of (codes "r1 Mn1@a@b") ≡ Some (Live (relation (pos 1) 0 [] (member Node (pos 1) (codes "a@b") ∷ [])))
unfolding opened
at_sign_in_role = refl

escapes_in_role : line_of (codes "r1 Mr-1@a%2c%b,w2@%40%") ≡ Some (Live (relation (pos 1) 0 [] (member Relation (negsuc 0) (codes "a,b") ∷ member Way (pos 2) (codes "@") ∷ [])))
unfolding opened
escapes_in_role = refl

member_of_no_kind : Breaks (codes "r1 Mx1@a") 3 BadList
unfolding opened
member_of_no_kind = refl

member_without_role : Breaks (codes "r1 Mn1") 3 BadList
unfolding opened
member_without_role = refl

member_without_id : Breaks (codes "r1 M@a") 3 BadList
unfolding opened
member_without_id = refl

equals_in_role : Breaks (codes "r1 Mn1@a=b") 3 BadList
unfolding opened
equals_in_role = refl

comma_behind_a_member : Breaks (codes "r1 Mn1@,") 3 BadList
unfolding opened
comma_behind_a_member = refl

escape_for_the_at_sign : Breaks (codes "r1 Mn1%40%a") 3 BadList
unfolding opened
escape_for_the_at_sign = refl

member_out_of_range : Breaks (codes "r1 Mn281474976710657@") 3 BadList
unfolding opened
member_out_of_range = refl

-- Tags.

no_tags : line_of (codes "n1 T") ≡ Some (Live (node (pos 1) 0 [] None))
unfolding opened
no_tags = refl

empty_tag : line_of (codes "n1 T=") ≡ Some (Live (node (pos 1) 0 (tag [] [] ∷ []) None))
unfolding opened
empty_tag = refl

last_pair_stands : line_of (codes "n1 Ta=1,a=2") ≡ Some (Live (node (pos 1) 0 (tag (codes "a") (codes "2") ∷ []) None))
unfolding opened
last_pair_stands = refl

last_pair_between_others : line_of (codes "n1 Tb=1,a=2,c=3,b=4") ≡ Some (Live (node (pos 1) 0 (tag (codes "a") (codes "2") ∷ tag (codes "b") (codes "4") ∷ tag (codes "c") (codes "3") ∷ []) None))
unfolding opened
last_pair_between_others = refl

-- a shorter key comes before a longer one that begins with it, and capitals before small letters
order_of_keys : line_of (codes "n1 Tab=,a=,B=,=") ≡ Some (Live (node (pos 1) 0 (tag [] [] ∷ tag (codes "B") [] ∷ tag (codes "a") [] ∷ tag (codes "ab") [] ∷ []) None))
unfolding opened
order_of_keys = refl

comma_at_the_end : line_of (codes "n1 Ta=b,") ≡ None
unfolding opened
comma_at_the_end = refl

comma_alone : line_of (codes "n1 T,") ≡ None
unfolding opened
comma_alone = refl

no_value : line_of (codes "n1 Ta") ≡ None
unfolding opened
no_value = refl

two_values : line_of (codes "n1 Ta=b=c") ≡ None
unfolding opened
two_values = refl

at_sign : line_of (codes "n1 Ta=b@c") ≡ Some (Live (node (pos 1) 0 (tag (codes "a") (codes "b@c") ∷ []) None))
unfolding opened
at_sign = refl

escape_in_value : line_of (codes "n1 Ta=%20%") ≡ Some (Live (node (pos 1) 0 (tag (codes "a") (codes " ") ∷ []) None))
unfolding opened
escape_in_value = refl

last_of_an_escape_stands : line_of (codes "n1 Ta=%20%,a=2") ≡ Some (Live (node (pos 1) 0 (tag (codes "a") (codes "2") ∷ []) None))
unfolding opened
last_of_an_escape_stands = refl

order_of_spelled_keys : line_of (codes "n1 T%62%=,a=") ≡ Some (Live (node (pos 1) 0 (tag (codes "a") [] ∷ tag (codes "b") [] ∷ []) None))
unfolding opened
order_of_spelled_keys = refl

-- a key is what it spells
keys_as_they_are_spelled : line_of (codes "n1 Ta=1,%61%=2") ≡ Some (Live (node (pos 1) 0 (tag (codes "a") (codes "2") ∷ []) None))
unfolding opened
keys_as_they_are_spelled = refl

escapes_of_commas : line_of (codes "n1 T%3d%=%2C%%2c%") ≡ Some (Live (node (pos 1) 0 (tag (codes "=") (codes ",,") ∷ []) None))
unfolding opened
escapes_of_commas = refl

sharp_s : line_of (codes "n1 Tb=%df%") ≡ Some (Live (node (pos 1) 0 (tag (codes "b") (195 ∷ 159 ∷ []) ∷ []) None))
unfolding opened
sharp_s = refl

two_values_of_one_key : Breaks (codes "n1 Ta=b=c") 3 BadList
unfolding opened
two_values_of_one_key = refl

pair_without_equals : Breaks (codes "n1 Ta=b,c") 3 BadList
unfolding opened
pair_without_equals = refl

-- percent signs are paired over the whole value
equals_between_percents : Breaks (codes "n1 Ta%20=b%") 3 BadEscape
unfolding opened
equals_between_percents = refl

comma_between_percents : Breaks (codes "n1 Ta=%20,b=20%") 3 BadEscape
unfolding opened
comma_between_percents = refl

surrogate_in_value : Breaks (codes "n1 Ta=%D800%") 3 BadEscape
unfolding opened
surrogate_in_value = refl

ends_of_the_codes : line_of (codes "n1 T%0%=%10ffff%") ≡ Some (Live (node (pos 1) 0 (tag (0 ∷ []) (244 ∷ 143 ∷ 191 ∷ 191 ∷ []) ∷ []) None))
unfolding opened
ends_of_the_codes = refl

ends_of_the_range : line_of (codes "n1 T!=~") ≡ Some (Live (node (pos 1) 0 (tag (codes "!") (codes "~") ∷ []) None))
unfolding opened
ends_of_the_range = refl

-- what is escaped when it is written may still be read as it is
delete_character : line_of (codes "n1 Ta=" ++ 127 ∷ []) ≡ Some (Live (node (pos 1) 0 (tag (codes "a") (127 ∷ []) ∷ []) None))
unfolding opened
delete_character = refl

few_items : is_few (replicate 65534 44) ≡ true
few_items = refl

too_many_items : is_few (replicate 65535 44) ≡ false
too_many_items = refl

-- items as they are written: 65,536 references
abbrev many_refs : List ℕ
many_refs = codes "n1" ++ flat_map {X = ℕ} (λ c. codes ",n1") (replicate 65535 0)

abbrev many_tags : List ℕ
many_tags = codes "=" ++ flat_map {X = ℕ} (λ c. codes ",=") (replicate 65535 0)

limit_of_references : failure_kind (value_tests Refs many_refs) ≡ Some OverLimit
unfolding opened
limit_of_references = refl

-- a key that comes again counts again
limit_of_tags : failure_kind (value_tests Tags many_tags) ≡ Some OverLimit
unfolding opened
limit_of_tags = refl

form_before_limit : failure_kind (value_tests Tags (replicate 65535 44)) ≡ Some BadList
unfolding opened
form_before_limit = refl

-- Stores.

last_line_stands : apply [] (Live (node (pos 1) 5 [] (at 1 2)) ∷ Live (node (pos 1) 2 [] None) ∷ []) ≡ node (pos 1) 2 [] None ∷ []
last_line_stands = refl

gone_is_removed : apply [] (Live (node (pos 1) 1 [] None) ∷ Live (node (pos 2) 1 [] None) ∷ Gone (n (pos 1)) 0 ∷ Gone (n (pos 7)) 3 ∷ []) ≡ node (pos 2) 1 [] None ∷ []
gone_is_removed = refl

back_again : apply (node (pos 1) 9 [] None ∷ []) (Gone (n (pos 1)) 10 ∷ Live (node (pos 1) 2 [] None) ∷ []) ≡ node (pos 1) 2 [] None ∷ []
back_again = refl

way_seven : Entity
way_seven = record { id = record { kind = Way; number = pos 7 }; version = 0; tags = []; place = None; refs = pos 1 ∷ negsuc 1 ∷ []; members = [] }

relation_three : Entity
relation_three = record {
  id = record { kind = Relation; number = pos 3 };
  version = 0;
  tags = [];
  place = None;
  refs = [];
  members =
      record { target = record { kind = Node; number = pos 5 }; role = codes "via" }
      ∷ record { target = record { kind = Way; number = pos 22 }; role = [] }
      ∷ [];
}

way_of_relation : Entity
way_of_relation = record { id = record { kind = Way; number = negsuc 8 }; version = 1; tags = []; place = None; refs = []; members = [] }

order_of_ids : apply [] (Live relation_three ∷ Live way_seven ∷ Live (node (pos 1) 0 [] None) ∷ Live way_of_relation ∷ Live (node (negsuc 0) 0 [] None) ∷ Live (node (pos 9) 0 [] None) ∷ [])
    ≡ node (negsuc 0) 0 [] None ∷ node (pos 1) 0 [] None ∷ node (pos 9) 0 [] None ∷ way_of_relation ∷ way_seven ∷ relation_three ∷ []
unfolding way_seven relation_three way_of_relation
order_of_ids = refl

-- one number names an object of each kind
numbers_of_kinds : apply (node (pos 7) 0 [] None ∷ way_seven ∷ []) (Gone (n (pos 7)) 0 ∷ []) ≡ way_seven ∷ []
unfolding way_seven
numbers_of_kinds = refl

-- Ordinals.

ordinal_of_n1 : ordinal (n (pos 1)) ≡ 281474976710657
ordinal_of_n1 = refl

least_ordinal : ordinal (n (negsuc 281474976710655)) ≡ 0
least_ordinal = refl

ordinal_of_w0 : ordinal (record { kind = Way; number = pos 0 }) ≡ 1407374883553280
ordinal_of_w0 = refl

greatest_ordinal : ordinal (record { kind = Relation; number = pos 281474976710656 }) ≡ 2814749767106560
greatest_ordinal = refl

-- Rectangles.

rect_at_a_corner : rect_of (codes "180 -90 180 -90") ≡ Some (rect 3600000000 1800000000 3600000000 1800000000)
unfolding opened
rect_at_a_corner = refl

whole_earth : rect_of (codes "-180 -90 180 90") ≡ Some (rect 0 0 3600000000 1800000000)
unfolding opened
whole_earth = refl

edges_in_the_wrong_order : rect_of (codes "1 1 0 0") ≡ None
unfolding opened
edges_in_the_wrong_order = refl

south_beyond_north : rect_of (codes "0 1 1 0.9999999") ≡ None
unfolding opened
south_beyond_north = refl

west_beyond_east : rect_of (codes "0.5 0 -0.5 1") ≡ None
unfolding opened
west_beyond_east = refl

blanks_around : rect_of (codes " 0 0  1 1 " ++ 9 ∷ []) ≡ Some (rect 1800000000 890000000 1810000000 900000000)
unfolding opened
blanks_around = refl

three_numbers : rect_of (codes "0 0 1") ≡ None
unfolding opened
three_numbers = refl

five_numbers : rect_of (codes "0 0 1 1 1") ≡ None
unfolding opened
five_numbers = refl

no_numbers : rect_of [] ≡ None
unfolding opened
no_numbers = refl

-- each coordinate is held to its own range
longitude_as_latitude : rect_of (codes "0 91 1 92") ≡ None
unfolding opened
longitude_as_latitude = refl

far_longitudes : rect_of (codes "91 0 92 1") ≡ Some (rect 2710000000 890000000 2720000000 900000000)
unfolding opened
far_longitudes = refl

line_feed_in_rect : rect_of (codes "0 0 1 1" ++ 10 ∷ []) ≡ None
unfolding opened
line_feed_in_rect = refl

-- a node on an edge is in the rectangle, and one a unit beyond it is not
closed_edges : nodes_in (rect 10 20 30 40) (node (pos 1) 0 [] (at 10 40) ∷ node (pos 2) 0 [] (at 9 40) ∷ node (pos 3) 0 [] (at 30 20) ∷ node (pos 4) 0 [] (at 30 19) ∷ node (pos 5) 0 [] None ∷ [])
    ≡ node (pos 1) 0 [] (at 10 40) ∷ node (pos 3) 0 [] (at 30 20) ∷ []
closed_edges = refl

-- Canonical lines.

canonical_node : line_text aldorf ≡ codes "n2 v1 dV Tname=Aldorf,place=town x13.1 y52.4" ++ 10 ∷ []
unfolding opened aldorf
canonical_node = refl

node_without_place : row_text (node (negsuc 0) 4294967295 [] None) ≡ codes "n-1 v4294967295 dV T x y"
unfolding opened
node_without_place = refl

canonical_way : row_text way_seven ≡ codes "w7 v0 dV T Nn1,n-2"
unfolding opened way_seven
canonical_way = refl

way_without_refs : row_text way_of_relation ≡ codes "w-9 v1 dV T N"
unfolding opened way_of_relation
way_without_refs = refl

canonical_relation : row_text relation_three ≡ codes "r3 v0 dV T Mn5@via,w22@"
unfolding opened relation_three
canonical_relation = refl

space_in_value : row_text (node (pos 1) 0 (tag (codes "name") (codes "a b") ∷ []) (at 0 1800000000)) ≡ codes "n1 v0 dV Tname=a%20%b x-180 y-90"
unfolding opened
space_in_value = refl

empty_key : row_text (node (pos 1) 0 (tag [] [] ∷ []) (at 1800000000 900000000)) ≡ codes "n1 v0 dV T= x0 y0"
unfolding opened
empty_key = refl

-- Escapes: `escaped` writes them, and `unescaped` and `text_of` of the escaped texts read them.

written_escapes : escaped (9 ∷ codes " %,=@!~" ++ 127 ∷ 0 ∷ 195 ∷ 159 ∷ []) ≡ codes "%09%%20%%25%%2c%%3d%%40%!~%7f%%00%" ++ 195 ∷ 159 ∷ []
unfolding opened
written_escapes = refl

read_back : text_of (escaped (9 ∷ codes " %,=@!~" ++ 127 ∷ 0 ∷ 195 ∷ 159 ∷ [])) ≡ Some (9 ∷ codes " %,=@!~" ++ 127 ∷ 0 ∷ 195 ∷ 159 ∷ [])
unfolding opened
read_back = refl

read_space : text_of (codes "a%20%b") ≡ Some (codes "a b")
unfolding opened
read_space = refl

read_two_bytes : text_of (codes "Stra%df%e") ≡ Some (codes "Stra" ++ 195 ∷ 159 ∷ codes "e")
unfolding opened
read_two_bytes = refl

read_capitals : text_of (codes "%DF%%0000df%") ≡ Some (195 ∷ 159 ∷ 195 ∷ 159 ∷ [])
unfolding opened
read_capitals = refl

read_four_bytes : text_of (codes "%1F600%") ≡ Some (240 ∷ 159 ∷ 152 ∷ 128 ∷ [])
unfolding opened
read_four_bytes = refl

read_last_character : text_of (codes "%10ffff%") ≡ Some (244 ∷ 143 ∷ 191 ∷ 191 ∷ [])
unfolding opened
read_last_character = refl

read_nothing : text_of [] ≡ Some []
unfolding opened
read_nothing = refl

-- an `@` is plain, and so is a carriage return
read_plain : text_of (64 ∷ 13 ∷ []) ≡ Some (64 ∷ 13 ∷ [])
unfolding opened
read_plain = refl

odd_percent : unescaped (codes "a%20%b%") ≡ None
unfolding opened
odd_percent = refl

one_percent : unescaped (codes "%") ≡ None
unfolding opened
one_percent = refl

no_digits : unescaped (codes "%%") ≡ None
unfolding opened
no_digits = refl

seven_digits : unescaped (codes "%0000020%") ≡ None
unfolding opened
seven_digits = refl

beyond_the_last_character : unescaped (codes "%110000%") ≡ None
unfolding opened
beyond_the_last_character = refl

surrogate : unescaped (codes "%d800%") ≡ None
unfolding opened
surrogate = refl

last_surrogate : unescaped (codes "%DFFF%") ≡ None
unfolding opened
last_surrogate = refl

no_hexadecimal : unescaped (codes "%2g%") ≡ None
unfolding opened
no_hexadecimal = refl

-- percent signs are paired from the left
paired_from_the_left : unescaped (codes "%41%41%41%") ≡ Some (codes "A41A")
unfolding opened
paired_from_the_left = refl

bad_second_pair : unescaped (codes "%41%b%c %") ≡ None
unfolding opened
bad_second_pair = refl

-- an escape may spell what is not plain; outside of escapes it is no escaped text, and no bad escape
comma_as_escape : text_of (codes "%2c%") ≡ Some (codes ",")
unfolding opened
comma_as_escape = refl

comma_outside : text_of (codes "a,%62%") ≡ None
unfolding opened
comma_outside = refl

comma_is_no_bad_escape : unescaped (codes "a,%62%") ≡ Some (codes "a,b")
unfolding opened
comma_is_no_bad_escape = refl

comma_inside : unescaped (codes "%2,0%") ≡ None
unfolding opened
comma_inside = refl

-- Coordinates written.

whole_degrees : degrees_text (pos 1800000000) ≡ codes "180"
unfolding opened
whole_degrees = refl

no_degrees : degrees_text (pos 0) ≡ codes "0"
unfolding opened
no_degrees = refl

half_a_degree : degrees_text (negsuc 4999999) ≡ codes "-0.5"
unfolding opened
half_a_degree = refl

one_unit : degrees_text (negsuc 0) ≡ codes "-0.0000001"
unfolding opened
one_unit = refl

zeros_within : degrees_text (pos 1000500100) ≡ codes "100.05001"
unfolding opened
zeros_within = refl

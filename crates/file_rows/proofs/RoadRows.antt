-- Worked rows of roads and turn restrictions: as a writer packs them, what has to hold of them, and what is read.
use Rattle.std.specs.Prelude.{◌≡◌, ℕ, List, [], ◌∷◌, length, refl, codes, ℤ, pos, negsuc, Result, Ok, Err, Option, Some, None, filter_map}
use Rattle.std.specs.Str.{is_utf8, chars}
use Rattle.std.proofs.Math.Utf8.{encode}
use Rattle.live_model.specs.declared.classes.Class.{Class}
use Rattle.live_model.specs.declared.classes.Class.TheVariants as classes
use Rattle.live_model.specs.declared.directions.Dir.TheVariants.{Both, Forward, Backward}
use Rattle.live_model.specs.declared.ids.Kind.TheVariants.{Way, Relation}
use Rattle.live_model.specs.declared.records.BanRec.{BanRec}
use Rattle.live_model.specs.declared.records.RoadNode.{RoadNode}
use Rattle.live_model.specs.declared.records.RoadRec.{RoadRec}
use Rattle.live_model.specs.declared.rules.Rule.{Rule}
use Rattle.live_model.specs.declared.shapes.Shape.{Shape}
use Rattle.live_model.specs.declared.shapes.Shape.TheVariants as shapes
use Rattle.live_model.specs.Ids.{Id}
use Rattle.obf_wire.specs.Fields.{Window, field_at}
use Rattle.obf_wire.specs.Varint as X
use Rattle.obf_wire.specs.Varint.{varint, varint_in}
use Rattle.obf_wire.specs.declared.file.FileBreak.{FileBreak}
use Rattle.obf_wire.specs.declared.file.FileKind.{FileKind}
use Rattle.obf_wire.specs.declared.file.FileKind.TheVariants as kinds
use Rattle.box_tree.specs.Packing.{code, interleave}
use Rattle.file_grammar.specs.declared.parts.Boxed.TheVariants.{Restriction, Road}
use Rattle.file_grammar.specs.declared.parts.Part.TheVariants.{Boxes}
use Rattle.file_grammar.specs.BoxRules.{Beside, section_facts}
use Rattle.file_grammar.specs.Facts.{failing}
use Rattle.file_grammar.specs.Messages.{Fields}
use Rattle.file_grammar.specs.Readings.{message_at, message_from}
use Rattle.file_grammar.specs.RoadRules.{ban_boxing, bans_in, road_boxing, roads_in}
use Rattle.file_grammar.specs.Sections.{section_in}
use Rattle.boxed_write.specs.Packed.{packed, block}
use Rattle.road_section.specs.Restrictions.{packed_bans}
use Rattle.road_section.specs.Roads.{packed_roads, road_packing}
use Rattle.road_section.specs.Routing.{packed_routing, routing_break}

abbrev node_at : ℤ → ℕ → ℕ → RoadNode
node_at id x y = record { id = id; point = record { x = x; y = y } }

abbrev way : ℕ → Id
way number = record { kind = Way; number = pos number }

abbrev relation : ℕ → Id
relation number = record { kind = Relation; number = pos number }

-- ---- packed

-- backward from node 3 over node 4 to node -5
abbrev w20 : RoadRec
w20 = record { id = way 20; rule = 0; value = codes "residential"; dir = Backward; nodes = node_at (pos 3) 1 2 ∷ node_at (pos 4) 3 2 ∷ node_at (negsuc 4) 3 1 ∷ [] }

-- both ways, without a value
abbrev w6 : RoadRec
w6 = record { id = way 6; rule = 1; value = []; dir = Both; nodes = node_at (pos 1) 8 8 ∷ node_at (pos 2) 9 9 ∷ [] }

-- forward
abbrev w7 : RoadRec
w7 = record { id = way 7; rule = 0; value = codes "b"; dir = Forward; nodes = node_at (pos 1) 0 0 ∷ node_at (pos 2) 1 1 ∷ [] }

-- from way 20 over node 4 to way -21
abbrev r9 : BanRec
r9 = record { id = relation 9; value = codes "no_left_turn"; from = pos 20; via = pos 4; to = negsuc 20; point = record { x = 3; y = 2 } }

block_of_a_road : block road_packing (w20 ∷ [])
    ≡ 22 ∷ 0 ∷ 0 ∷ 0 ∷ 0 ∷ 0 ∷ 0 ∷ 0 ∷ 50 ∷ 14 ∷ 0 ∷ 0 ∷ 0 ∷ 0 ∷ 0 ∷ 0 ∷ 0 ∷ 13 ∷ 10 ∷ 11 ∷ 114 ∷ 101 ∷ 115 ∷ 105 ∷ 100 ∷ 101 ∷ 110 ∷ 116 ∷ 105 ∷ 97 ∷ 108 ∷ 18 ∷ 26 ∷ 8 ∷ 148 ∷ 128 ∷ 128 ∷ 128 ∷ 128 ∷ 128 ∷ 192 ∷ 2 ∷ 16 ∷ 0 ∷ 24 ∷ 1 ∷ 32 ∷ 2 ∷ 42 ∷ 9 ∷ 6 ∷ 2 ∷ 4 ∷ 2 ∷ 4 ∷ 0 ∷ 17 ∷ 0 ∷ 1 ∷ []
unfolding packed code interleave varint X.groups
block_of_a_road = refl

section_of_a_road : packed_roads (w20 ∷ [])
    ≡ 14 ∷ 0 ∷ 0 ∷ 0 ∷ 0 ∷ 0 ∷ 0 ∷ 0 ∷ 10 ∷ 8 ∷ 1 ∷ 16 ∷ 1 ∷ 24 ∷ 3 ∷ 32 ∷ 2 ∷ 40 ∷ 0 ∷ 22 ∷ 0 ∷ 0 ∷ 0 ∷ 0 ∷ 0 ∷ 0 ∷ 0 ∷ 50 ∷ 14 ∷ 0 ∷ 0 ∷ 0 ∷ 0 ∷ 0 ∷ 0 ∷ 0 ∷ 13 ∷ 10 ∷ 11 ∷ 114 ∷ 101 ∷ 115 ∷ 105 ∷ 100 ∷ 101 ∷ 110 ∷ 116 ∷ 105 ∷ 97 ∷ 108 ∷ 18 ∷ 26 ∷ 8 ∷ 148 ∷ 128 ∷ 128 ∷ 128 ∷ 128 ∷ 128 ∷ 192 ∷ 2 ∷ 16 ∷ 0 ∷ 24 ∷ 1 ∷ 32 ∷ 2 ∷ 42 ∷ 9 ∷ 6 ∷ 2 ∷ 4 ∷ 2 ∷ 4 ∷ 0 ∷ 17 ∷ 0 ∷ 1 ∷ []
unfolding packed code interleave varint X.groups
section_of_a_road = refl

-- by the order of records in a block, each ordinal less the one before; the empty value has no text
two_roads : packed_roads (w7 ∷ w6 ∷ [])
    ≡ 14 ∷ 0 ∷ 0 ∷ 0 ∷ 0 ∷ 0 ∷ 0 ∷ 0 ∷ 10 ∷ 8 ∷ 0 ∷ 16 ∷ 0 ∷ 24 ∷ 9 ∷ 32 ∷ 9 ∷ 40 ∷ 0 ∷ 22 ∷ 0 ∷ 0 ∷ 0 ∷ 0 ∷ 0 ∷ 0 ∷ 0 ∷ 55 ∷ 14 ∷ 0 ∷ 0 ∷ 0 ∷ 0 ∷ 0 ∷ 0 ∷ 0 ∷ 3 ∷ 10 ∷ 1 ∷ 98 ∷ 18 ∷ 23 ∷ 8 ∷ 134 ∷ 128 ∷ 128 ∷ 128 ∷ 128 ∷ 128 ∷ 192 ∷ 2 ∷ 16 ∷ 1 ∷ 24 ∷ 0 ∷ 32 ∷ 0 ∷ 42 ∷ 6 ∷ 2 ∷ 16 ∷ 16 ∷ 2 ∷ 2 ∷ 2 ∷ 18 ∷ 16 ∷ 8 ∷ 1 ∷ 16 ∷ 0 ∷ 24 ∷ 1 ∷ 32 ∷ 1 ∷ 42 ∷ 6 ∷ 2 ∷ 0 ∷ 0 ∷ 2 ∷ 2 ∷ 2 ∷ []
unfolding packed code interleave varint X.groups
two_roads = refl

section_of_a_restriction : packed_bans (r9 ∷ [])
    ≡ 14 ∷ 0 ∷ 0 ∷ 0 ∷ 0 ∷ 0 ∷ 0 ∷ 0 ∷ 10 ∷ 8 ∷ 3 ∷ 16 ∷ 2 ∷ 24 ∷ 3 ∷ 32 ∷ 2 ∷ 40 ∷ 0 ∷ 22 ∷ 0 ∷ 0 ∷ 0 ∷ 0 ∷ 0 ∷ 0 ∷ 0 ∷ 46 ∷ 14 ∷ 0 ∷ 0 ∷ 0 ∷ 0 ∷ 0 ∷ 0 ∷ 0 ∷ 14 ∷ 10 ∷ 12 ∷ 110 ∷ 111 ∷ 95 ∷ 108 ∷ 101 ∷ 102 ∷ 116 ∷ 95 ∷ 116 ∷ 117 ∷ 114 ∷ 110 ∷ 18 ∷ 21 ∷ 8 ∷ 137 ∷ 128 ∷ 128 ∷ 128 ∷ 128 ∷ 128 ∷ 192 ∷ 4 ∷ 16 ∷ 1 ∷ 24 ∷ 40 ∷ 32 ∷ 8 ∷ 40 ∷ 41 ∷ 50 ∷ 2 ∷ 6 ∷ 4 ∷ []
unfolding packed code interleave varint X.groups
section_of_a_restriction = refl

-- roads come first, each part behind its length
section_of_both : packed_routing (w20 ∷ []) (r9 ∷ [])
    ≡ 14 ∷ 0 ∷ 0 ∷ 0 ∷ 0 ∷ 0 ∷ 0 ∷ 0 ∷ 78 ∷ 14 ∷ 0 ∷ 0 ∷ 0 ∷ 0 ∷ 0 ∷ 0 ∷ 0 ∷ 10 ∷ 8 ∷ 1 ∷ 16 ∷ 1 ∷ 24 ∷ 3 ∷ 32 ∷ 2 ∷ 40 ∷ 0 ∷ 22 ∷ 0 ∷ 0 ∷ 0 ∷ 0 ∷ 0 ∷ 0 ∷ 0 ∷ 50 ∷ 14 ∷ 0 ∷ 0 ∷ 0 ∷ 0 ∷ 0 ∷ 0 ∷ 0 ∷ 13 ∷ 10 ∷ 11 ∷ 114 ∷ 101 ∷ 115 ∷ 105 ∷ 100 ∷ 101 ∷ 110 ∷ 116 ∷ 105 ∷ 97 ∷ 108 ∷ 18 ∷ 26 ∷ 8 ∷ 148 ∷ 128 ∷ 128 ∷ 128 ∷ 128 ∷ 128 ∷ 192 ∷ 2 ∷ 16 ∷ 0 ∷ 24 ∷ 1 ∷ 32 ∷ 2 ∷ 42 ∷ 9 ∷ 6 ∷ 2 ∷ 4 ∷ 2 ∷ 4 ∷ 0 ∷ 17 ∷ 0 ∷ 1 ∷ 22 ∷ 0 ∷ 0 ∷ 0 ∷ 0 ∷ 0 ∷ 0 ∷ 0 ∷ 74 ∷ 14 ∷ 0 ∷ 0 ∷ 0 ∷ 0 ∷ 0 ∷ 0 ∷ 0 ∷ 10 ∷ 8 ∷ 3 ∷ 16 ∷ 2 ∷ 24 ∷ 3 ∷ 32 ∷ 2 ∷ 40 ∷ 0 ∷ 22 ∷ 0 ∷ 0 ∷ 0 ∷ 0 ∷ 0 ∷ 0 ∷ 0 ∷ 46 ∷ 14 ∷ 0 ∷ 0 ∷ 0 ∷ 0 ∷ 0 ∷ 0 ∷ 0 ∷ 14 ∷ 10 ∷ 12 ∷ 110 ∷ 111 ∷ 95 ∷ 108 ∷ 101 ∷ 102 ∷ 116 ∷ 95 ∷ 116 ∷ 117 ∷ 114 ∷ 110 ∷ 18 ∷ 21 ∷ 8 ∷ 137 ∷ 128 ∷ 128 ∷ 128 ∷ 128 ∷ 128 ∷ 192 ∷ 4 ∷ 16 ∷ 1 ∷ 24 ∷ 40 ∷ 32 ∷ 8 ∷ 40 ∷ 41 ∷ 50 ∷ 2 ∷ 6 ∷ 4 ∷ []
unfolding packed code interleave varint X.groups
section_of_both = refl

section_of_none : packed_routing [] []
    ≡ 14 ∷ 0 ∷ 0 ∷ 0 ∷ 0 ∷ 0 ∷ 0 ∷ 0 ∷ 9 ∷ 14 ∷ 0 ∷ 0 ∷ 0 ∷ 0 ∷ 0 ∷ 0 ∷ 0 ∷ 0 ∷ 22 ∷ 0 ∷ 0 ∷ 0 ∷ 0 ∷ 0 ∷ 0 ∷ 0 ∷ 9 ∷ 14 ∷ 0 ∷ 0 ∷ 0 ∷ 0 ∷ 0 ∷ 0 ∷ 0 ∷ 0 ∷ []
unfolding packed code interleave varint X.groups
section_of_none = refl

-- ---- what has to hold

abbrev rule_of : Shape → Class → Option (List ℕ) → Rule
rule_of shape class value = record { shape = shape; key = codes "a"; value = value; zoom = 0; class = class }

-- roads of any value, and of the value `b`; lines of the map; areas, which make no roads
abbrev rules : List Rule
rules = rule_of shapes.Line classes.Road None ∷ rule_of shapes.Line classes.Road (Some (codes "b")) ∷ rule_of shapes.Line classes.Map None ∷ rule_of shapes.Area classes.Road None ∷ []

abbrev all_of : List ℕ → Window
all_of bytes = record { bytes = bytes; place = 0; end = length bytes }

abbrev at : ℕ → FileKind → FileBreak
at place kind = record { at = place; kind = kind }

-- all facts that fail of roads, and of restrictions
abbrev road_breaks : Beside → Result Fields FileBreak → List FileBreak
road_breaks beside (Err b) = b ∷ []
road_breaks beside (Ok fields) = filter_map failing (section_facts road_boxing beside (section_in fields))

abbrev ban_breaks : Beside → Result Fields FileBreak → List FileBreak
ban_breaks beside (Err b) = b ∷ []
ban_breaks beside (Ok fields) = filter_map failing (section_facts ban_boxing beside (section_in fields))

abbrev all_roads : List ℕ → List FileBreak
all_roads bytes = road_breaks (record { rules = rules; marks = None }) (message_at (Boxes Road) (all_of bytes))

abbrev all_bans : List ℕ → List FileBreak
all_bans bytes = ban_breaks (record { rules = rules; marks = None }) (message_at (Boxes Restriction) (all_of bytes))

-- beside the mark 5 alone
abbrev marked_roads : List ℕ → List FileBreak
marked_roads bytes = road_breaks (record { rules = rules; marks = Some (5 ∷ []) }) (message_at (Boxes Road) (all_of bytes))

abbrev marked_bans : List ℕ → List FileBreak
marked_bans bytes = ban_breaks (record { rules = rules; marks = Some (5 ∷ []) }) (message_at (Boxes Restriction) (all_of bytes))

abbrev roads_of : Result Fields FileBreak → List RoadRec
roads_of (Err b) = []
roads_of (Ok fields) = roads_in (section_in fields)

abbrev bans_of : Result Fields FileBreak → List BanRec
bans_of (Err b) = []
bans_of (Ok fields) = bans_in (section_in fields)

-- A section stands at 0, with a leaf from (0, 0) to (9, 9), and the texts `a` and `b`, or `b` alone.

-- a rule of any value
good_road : all_roads (14 ∷ 0 ∷ 0 ∷ 0 ∷ 0 ∷ 0 ∷ 0 ∷ 0 ∷ 10 ∷ 8 ∷ 0 ∷ 16 ∷ 0 ∷ 24 ∷ 9 ∷ 32 ∷ 9 ∷ 40 ∷ 0 ∷ 22 ∷ 0 ∷ 0 ∷ 0 ∷ 0 ∷ 0 ∷ 0 ∷ 0 ∷ 40 ∷ 14 ∷ 0 ∷ 0 ∷ 0 ∷ 0 ∷ 0 ∷ 0 ∷ 0 ∷ 6 ∷ 10 ∷ 1 ∷ 97 ∷ 10 ∷ 1 ∷ 98 ∷ 18 ∷ 23 ∷ 8 ∷ 148 ∷ 128 ∷ 128 ∷ 128 ∷ 128 ∷ 128 ∷ 192 ∷ 2 ∷ 16 ∷ 0 ∷ 24 ∷ 1 ∷ 32 ∷ 0 ∷ 42 ∷ 6 ∷ 2 ∷ 0 ∷ 0 ∷ 2 ∷ 2 ∷ 2 ∷ [])
    ≡ []
unfolding message_from field_at varint_in section_facts is_utf8 chars encode
good_road = refl

-- the rule has the value `b`, which is the second text
good_value : all_roads (14 ∷ 0 ∷ 0 ∷ 0 ∷ 0 ∷ 0 ∷ 0 ∷ 0 ∷ 10 ∷ 8 ∷ 0 ∷ 16 ∷ 0 ∷ 24 ∷ 9 ∷ 32 ∷ 9 ∷ 40 ∷ 0 ∷ 22 ∷ 0 ∷ 0 ∷ 0 ∷ 0 ∷ 0 ∷ 0 ∷ 0 ∷ 40 ∷ 14 ∷ 0 ∷ 0 ∷ 0 ∷ 0 ∷ 0 ∷ 0 ∷ 0 ∷ 6 ∷ 10 ∷ 1 ∷ 97 ∷ 10 ∷ 1 ∷ 98 ∷ 18 ∷ 23 ∷ 8 ∷ 148 ∷ 128 ∷ 128 ∷ 128 ∷ 128 ∷ 128 ∷ 192 ∷ 2 ∷ 16 ∷ 1 ∷ 24 ∷ 2 ∷ 32 ∷ 2 ∷ 42 ∷ 6 ∷ 2 ∷ 0 ∷ 0 ∷ 2 ∷ 2 ∷ 2 ∷ [])
    ≡ []
unfolding message_from field_at varint_in section_facts is_utf8 chars encode
good_value = refl

-- `a` is not the value of the rule
other_value : all_roads (14 ∷ 0 ∷ 0 ∷ 0 ∷ 0 ∷ 0 ∷ 0 ∷ 0 ∷ 10 ∷ 8 ∷ 0 ∷ 16 ∷ 0 ∷ 24 ∷ 9 ∷ 32 ∷ 9 ∷ 40 ∷ 0 ∷ 22 ∷ 0 ∷ 0 ∷ 0 ∷ 0 ∷ 0 ∷ 0 ∷ 0 ∷ 40 ∷ 14 ∷ 0 ∷ 0 ∷ 0 ∷ 0 ∷ 0 ∷ 0 ∷ 0 ∷ 6 ∷ 10 ∷ 1 ∷ 97 ∷ 10 ∷ 1 ∷ 98 ∷ 18 ∷ 23 ∷ 8 ∷ 148 ∷ 128 ∷ 128 ∷ 128 ∷ 128 ∷ 128 ∷ 192 ∷ 2 ∷ 16 ∷ 1 ∷ 24 ∷ 1 ∷ 32 ∷ 0 ∷ 42 ∷ 6 ∷ 2 ∷ 0 ∷ 0 ∷ 2 ∷ 2 ∷ 2 ∷ [])
    ≡ at 56 kinds.BadRef ∷ []
unfolding message_from field_at varint_in section_facts is_utf8 chars encode
other_value = refl

-- nor is the empty text
no_value : all_roads (14 ∷ 0 ∷ 0 ∷ 0 ∷ 0 ∷ 0 ∷ 0 ∷ 0 ∷ 10 ∷ 8 ∷ 0 ∷ 16 ∷ 0 ∷ 24 ∷ 9 ∷ 32 ∷ 9 ∷ 40 ∷ 0 ∷ 22 ∷ 0 ∷ 0 ∷ 0 ∷ 0 ∷ 0 ∷ 0 ∷ 0 ∷ 40 ∷ 14 ∷ 0 ∷ 0 ∷ 0 ∷ 0 ∷ 0 ∷ 0 ∷ 0 ∷ 6 ∷ 10 ∷ 1 ∷ 97 ∷ 10 ∷ 1 ∷ 98 ∷ 18 ∷ 23 ∷ 8 ∷ 148 ∷ 128 ∷ 128 ∷ 128 ∷ 128 ∷ 128 ∷ 192 ∷ 2 ∷ 16 ∷ 1 ∷ 24 ∷ 0 ∷ 32 ∷ 0 ∷ 42 ∷ 6 ∷ 2 ∷ 0 ∷ 0 ∷ 2 ∷ 2 ∷ 2 ∷ [])
    ≡ at 56 kinds.BadRef ∷ []
unfolding message_from field_at varint_in section_facts is_utf8 chars encode
no_value = refl

-- there are two texts
value_over : all_roads (14 ∷ 0 ∷ 0 ∷ 0 ∷ 0 ∷ 0 ∷ 0 ∷ 0 ∷ 10 ∷ 8 ∷ 0 ∷ 16 ∷ 0 ∷ 24 ∷ 9 ∷ 32 ∷ 9 ∷ 40 ∷ 0 ∷ 22 ∷ 0 ∷ 0 ∷ 0 ∷ 0 ∷ 0 ∷ 0 ∷ 0 ∷ 40 ∷ 14 ∷ 0 ∷ 0 ∷ 0 ∷ 0 ∷ 0 ∷ 0 ∷ 0 ∷ 6 ∷ 10 ∷ 1 ∷ 97 ∷ 10 ∷ 1 ∷ 98 ∷ 18 ∷ 23 ∷ 8 ∷ 148 ∷ 128 ∷ 128 ∷ 128 ∷ 128 ∷ 128 ∷ 192 ∷ 2 ∷ 16 ∷ 0 ∷ 24 ∷ 3 ∷ 32 ∷ 0 ∷ 42 ∷ 6 ∷ 2 ∷ 0 ∷ 0 ∷ 2 ∷ 2 ∷ 2 ∷ [])
    ≡ at 56 kinds.BadRef ∷ []
unfolding message_from field_at varint_in section_facts is_utf8 chars encode
value_over = refl

-- a rule of any value admits the empty text
empty_value : all_roads (14 ∷ 0 ∷ 0 ∷ 0 ∷ 0 ∷ 0 ∷ 0 ∷ 0 ∷ 10 ∷ 8 ∷ 0 ∷ 16 ∷ 0 ∷ 24 ∷ 9 ∷ 32 ∷ 9 ∷ 40 ∷ 0 ∷ 22 ∷ 0 ∷ 0 ∷ 0 ∷ 0 ∷ 0 ∷ 0 ∷ 0 ∷ 40 ∷ 14 ∷ 0 ∷ 0 ∷ 0 ∷ 0 ∷ 0 ∷ 0 ∷ 0 ∷ 6 ∷ 10 ∷ 1 ∷ 97 ∷ 10 ∷ 1 ∷ 98 ∷ 18 ∷ 23 ∷ 8 ∷ 148 ∷ 128 ∷ 128 ∷ 128 ∷ 128 ∷ 128 ∷ 192 ∷ 2 ∷ 16 ∷ 0 ∷ 24 ∷ 0 ∷ 32 ∷ 1 ∷ 42 ∷ 6 ∷ 2 ∷ 0 ∷ 0 ∷ 2 ∷ 2 ∷ 2 ∷ [])
    ≡ []
unfolding message_from field_at varint_in section_facts is_utf8 chars encode
empty_value = refl

-- a rule of lines of the map
rule_of_the_map : all_roads (14 ∷ 0 ∷ 0 ∷ 0 ∷ 0 ∷ 0 ∷ 0 ∷ 0 ∷ 10 ∷ 8 ∷ 0 ∷ 16 ∷ 0 ∷ 24 ∷ 9 ∷ 32 ∷ 9 ∷ 40 ∷ 0 ∷ 22 ∷ 0 ∷ 0 ∷ 0 ∷ 0 ∷ 0 ∷ 0 ∷ 0 ∷ 40 ∷ 14 ∷ 0 ∷ 0 ∷ 0 ∷ 0 ∷ 0 ∷ 0 ∷ 0 ∷ 6 ∷ 10 ∷ 1 ∷ 97 ∷ 10 ∷ 1 ∷ 98 ∷ 18 ∷ 23 ∷ 8 ∷ 148 ∷ 128 ∷ 128 ∷ 128 ∷ 128 ∷ 128 ∷ 192 ∷ 2 ∷ 16 ∷ 2 ∷ 24 ∷ 1 ∷ 32 ∷ 0 ∷ 42 ∷ 6 ∷ 2 ∷ 0 ∷ 0 ∷ 2 ∷ 2 ∷ 2 ∷ [])
    ≡ at 54 kinds.BadRef ∷ []
unfolding message_from field_at varint_in section_facts is_utf8 chars encode
rule_of_the_map = refl

-- a rule of roads that is not of lines
rule_of_areas : all_roads (14 ∷ 0 ∷ 0 ∷ 0 ∷ 0 ∷ 0 ∷ 0 ∷ 0 ∷ 10 ∷ 8 ∷ 0 ∷ 16 ∷ 0 ∷ 24 ∷ 9 ∷ 32 ∷ 9 ∷ 40 ∷ 0 ∷ 22 ∷ 0 ∷ 0 ∷ 0 ∷ 0 ∷ 0 ∷ 0 ∷ 0 ∷ 40 ∷ 14 ∷ 0 ∷ 0 ∷ 0 ∷ 0 ∷ 0 ∷ 0 ∷ 0 ∷ 6 ∷ 10 ∷ 1 ∷ 97 ∷ 10 ∷ 1 ∷ 98 ∷ 18 ∷ 23 ∷ 8 ∷ 148 ∷ 128 ∷ 128 ∷ 128 ∷ 128 ∷ 128 ∷ 192 ∷ 2 ∷ 16 ∷ 3 ∷ 24 ∷ 1 ∷ 32 ∷ 0 ∷ 42 ∷ 6 ∷ 2 ∷ 0 ∷ 0 ∷ 2 ∷ 2 ∷ 2 ∷ [])
    ≡ at 54 kinds.BadRef ∷ []
unfolding message_from field_at varint_in section_facts is_utf8 chars encode
rule_of_areas = refl

-- no rule has this number, so that any value may stand beside it
rule_over : all_roads (14 ∷ 0 ∷ 0 ∷ 0 ∷ 0 ∷ 0 ∷ 0 ∷ 0 ∷ 10 ∷ 8 ∷ 0 ∷ 16 ∷ 0 ∷ 24 ∷ 9 ∷ 32 ∷ 9 ∷ 40 ∷ 0 ∷ 22 ∷ 0 ∷ 0 ∷ 0 ∷ 0 ∷ 0 ∷ 0 ∷ 0 ∷ 40 ∷ 14 ∷ 0 ∷ 0 ∷ 0 ∷ 0 ∷ 0 ∷ 0 ∷ 0 ∷ 6 ∷ 10 ∷ 1 ∷ 97 ∷ 10 ∷ 1 ∷ 98 ∷ 18 ∷ 23 ∷ 8 ∷ 148 ∷ 128 ∷ 128 ∷ 128 ∷ 128 ∷ 128 ∷ 192 ∷ 2 ∷ 16 ∷ 9 ∷ 24 ∷ 1 ∷ 32 ∷ 0 ∷ 42 ∷ 6 ∷ 2 ∷ 0 ∷ 0 ∷ 2 ∷ 2 ∷ 2 ∷ [])
    ≡ at 54 kinds.BadRef ∷ []
unfolding message_from field_at varint_in section_facts is_utf8 chars encode
rule_over = refl

direction_over : all_roads (14 ∷ 0 ∷ 0 ∷ 0 ∷ 0 ∷ 0 ∷ 0 ∷ 0 ∷ 10 ∷ 8 ∷ 0 ∷ 16 ∷ 0 ∷ 24 ∷ 9 ∷ 32 ∷ 9 ∷ 40 ∷ 0 ∷ 22 ∷ 0 ∷ 0 ∷ 0 ∷ 0 ∷ 0 ∷ 0 ∷ 0 ∷ 40 ∷ 14 ∷ 0 ∷ 0 ∷ 0 ∷ 0 ∷ 0 ∷ 0 ∷ 0 ∷ 6 ∷ 10 ∷ 1 ∷ 97 ∷ 10 ∷ 1 ∷ 98 ∷ 18 ∷ 23 ∷ 8 ∷ 148 ∷ 128 ∷ 128 ∷ 128 ∷ 128 ∷ 128 ∷ 192 ∷ 2 ∷ 16 ∷ 0 ∷ 24 ∷ 1 ∷ 32 ∷ 3 ∷ 42 ∷ 6 ∷ 2 ∷ 0 ∷ 0 ∷ 2 ∷ 2 ∷ 2 ∷ [])
    ≡ at 58 kinds.BadRef ∷ []
unfolding message_from field_at varint_in section_facts is_utf8 chars encode
direction_over = refl

road_of_a_node : all_roads (14 ∷ 0 ∷ 0 ∷ 0 ∷ 0 ∷ 0 ∷ 0 ∷ 0 ∷ 10 ∷ 8 ∷ 0 ∷ 16 ∷ 0 ∷ 24 ∷ 9 ∷ 32 ∷ 9 ∷ 40 ∷ 0 ∷ 22 ∷ 0 ∷ 0 ∷ 0 ∷ 0 ∷ 0 ∷ 0 ∷ 0 ∷ 39 ∷ 14 ∷ 0 ∷ 0 ∷ 0 ∷ 0 ∷ 0 ∷ 0 ∷ 0 ∷ 6 ∷ 10 ∷ 1 ∷ 97 ∷ 10 ∷ 1 ∷ 98 ∷ 18 ∷ 22 ∷ 8 ∷ 148 ∷ 128 ∷ 128 ∷ 128 ∷ 128 ∷ 128 ∷ 64 ∷ 16 ∷ 0 ∷ 24 ∷ 1 ∷ 32 ∷ 0 ∷ 42 ∷ 6 ∷ 2 ∷ 0 ∷ 0 ∷ 2 ∷ 2 ∷ 2 ∷ [])
    ≡ at 45 kinds.BadId ∷ []
unfolding message_from field_at varint_in section_facts is_utf8 chars encode
road_of_a_node = refl

road_of_a_relation : all_roads (14 ∷ 0 ∷ 0 ∷ 0 ∷ 0 ∷ 0 ∷ 0 ∷ 0 ∷ 10 ∷ 8 ∷ 0 ∷ 16 ∷ 0 ∷ 24 ∷ 9 ∷ 32 ∷ 9 ∷ 40 ∷ 0 ∷ 22 ∷ 0 ∷ 0 ∷ 0 ∷ 0 ∷ 0 ∷ 0 ∷ 0 ∷ 40 ∷ 14 ∷ 0 ∷ 0 ∷ 0 ∷ 0 ∷ 0 ∷ 0 ∷ 0 ∷ 6 ∷ 10 ∷ 1 ∷ 97 ∷ 10 ∷ 1 ∷ 98 ∷ 18 ∷ 23 ∷ 8 ∷ 148 ∷ 128 ∷ 128 ∷ 128 ∷ 128 ∷ 128 ∷ 192 ∷ 4 ∷ 16 ∷ 0 ∷ 24 ∷ 1 ∷ 32 ∷ 0 ∷ 42 ∷ 6 ∷ 2 ∷ 0 ∷ 0 ∷ 2 ∷ 2 ∷ 2 ∷ [])
    ≡ at 45 kinds.BadId ∷ []
unfolding message_from field_at varint_in section_facts is_utf8 chars encode
road_of_a_relation = refl

-- a way of the number 2^48 + 1
road_of_no_object : all_roads (14 ∷ 0 ∷ 0 ∷ 0 ∷ 0 ∷ 0 ∷ 0 ∷ 0 ∷ 10 ∷ 8 ∷ 0 ∷ 16 ∷ 0 ∷ 24 ∷ 9 ∷ 32 ∷ 9 ∷ 40 ∷ 0 ∷ 22 ∷ 0 ∷ 0 ∷ 0 ∷ 0 ∷ 0 ∷ 0 ∷ 0 ∷ 40 ∷ 14 ∷ 0 ∷ 0 ∷ 0 ∷ 0 ∷ 0 ∷ 0 ∷ 0 ∷ 6 ∷ 10 ∷ 1 ∷ 97 ∷ 10 ∷ 1 ∷ 98 ∷ 18 ∷ 23 ∷ 8 ∷ 129 ∷ 128 ∷ 128 ∷ 128 ∷ 128 ∷ 128 ∷ 128 ∷ 3 ∷ 16 ∷ 0 ∷ 24 ∷ 1 ∷ 32 ∷ 0 ∷ 42 ∷ 6 ∷ 2 ∷ 0 ∷ 0 ∷ 2 ∷ 2 ∷ 2 ∷ [])
    ≡ at 45 kinds.BadId ∷ []
unfolding message_from field_at varint_in section_facts is_utf8 chars encode
road_of_no_object = refl

road_without_a_mark : marked_roads (14 ∷ 0 ∷ 0 ∷ 0 ∷ 0 ∷ 0 ∷ 0 ∷ 0 ∷ 10 ∷ 8 ∷ 0 ∷ 16 ∷ 0 ∷ 24 ∷ 9 ∷ 32 ∷ 9 ∷ 40 ∷ 0 ∷ 22 ∷ 0 ∷ 0 ∷ 0 ∷ 0 ∷ 0 ∷ 0 ∷ 0 ∷ 40 ∷ 14 ∷ 0 ∷ 0 ∷ 0 ∷ 0 ∷ 0 ∷ 0 ∷ 0 ∷ 6 ∷ 10 ∷ 1 ∷ 97 ∷ 10 ∷ 1 ∷ 98 ∷ 18 ∷ 23 ∷ 8 ∷ 148 ∷ 128 ∷ 128 ∷ 128 ∷ 128 ∷ 128 ∷ 192 ∷ 2 ∷ 16 ∷ 0 ∷ 24 ∷ 1 ∷ 32 ∷ 0 ∷ 42 ∷ 6 ∷ 2 ∷ 0 ∷ 0 ∷ 2 ∷ 2 ∷ 2 ∷ [])
    ≡ at 45 kinds.BadMark ∷ []
unfolding message_from field_at varint_in section_facts is_utf8 chars encode
road_without_a_mark = refl

-- the numbers -2^48 and 2^48
least_and_greatest : all_roads (14 ∷ 0 ∷ 0 ∷ 0 ∷ 0 ∷ 0 ∷ 0 ∷ 0 ∷ 10 ∷ 8 ∷ 0 ∷ 16 ∷ 0 ∷ 24 ∷ 9 ∷ 32 ∷ 9 ∷ 40 ∷ 0 ∷ 22 ∷ 0 ∷ 0 ∷ 0 ∷ 0 ∷ 0 ∷ 0 ∷ 0 ∷ 53 ∷ 14 ∷ 0 ∷ 0 ∷ 0 ∷ 0 ∷ 0 ∷ 0 ∷ 0 ∷ 6 ∷ 10 ∷ 1 ∷ 97 ∷ 10 ∷ 1 ∷ 98 ∷ 18 ∷ 36 ∷ 8 ∷ 148 ∷ 128 ∷ 128 ∷ 128 ∷ 128 ∷ 128 ∷ 192 ∷ 2 ∷ 16 ∷ 0 ∷ 24 ∷ 1 ∷ 32 ∷ 0 ∷ 42 ∷ 19 ∷ 255 ∷ 255 ∷ 255 ∷ 255 ∷ 255 ∷ 255 ∷ 127 ∷ 0 ∷ 0 ∷ 128 ∷ 128 ∷ 128 ∷ 128 ∷ 128 ∷ 128 ∷ 128 ∷ 2 ∷ 2 ∷ 2 ∷ [])
    ≡ []
unfolding message_from field_at varint_in section_facts is_utf8 chars encode
least_and_greatest = refl

-- 2^48 + 1, and back
node_over : all_roads (14 ∷ 0 ∷ 0 ∷ 0 ∷ 0 ∷ 0 ∷ 0 ∷ 0 ∷ 10 ∷ 8 ∷ 0 ∷ 16 ∷ 0 ∷ 24 ∷ 9 ∷ 32 ∷ 9 ∷ 40 ∷ 0 ∷ 22 ∷ 0 ∷ 0 ∷ 0 ∷ 0 ∷ 0 ∷ 0 ∷ 0 ∷ 56 ∷ 14 ∷ 0 ∷ 0 ∷ 0 ∷ 0 ∷ 0 ∷ 0 ∷ 0 ∷ 6 ∷ 10 ∷ 1 ∷ 97 ∷ 10 ∷ 1 ∷ 98 ∷ 18 ∷ 39 ∷ 8 ∷ 148 ∷ 128 ∷ 128 ∷ 128 ∷ 128 ∷ 128 ∷ 192 ∷ 2 ∷ 16 ∷ 0 ∷ 24 ∷ 1 ∷ 32 ∷ 0 ∷ 42 ∷ 22 ∷ 2 ∷ 0 ∷ 0 ∷ 128 ∷ 128 ∷ 128 ∷ 128 ∷ 128 ∷ 128 ∷ 128 ∷ 1 ∷ 2 ∷ 2 ∷ 253 ∷ 255 ∷ 255 ∷ 255 ∷ 255 ∷ 255 ∷ 127 ∷ 2 ∷ 2 ∷ [])
    ≡ at 60 kinds.BadId ∷ []
unfolding message_from field_at varint_in section_facts is_utf8 chars encode
node_over = refl

-- -2^48 - 1
node_under : all_roads (14 ∷ 0 ∷ 0 ∷ 0 ∷ 0 ∷ 0 ∷ 0 ∷ 0 ∷ 10 ∷ 8 ∷ 0 ∷ 16 ∷ 0 ∷ 24 ∷ 9 ∷ 32 ∷ 9 ∷ 40 ∷ 0 ∷ 22 ∷ 0 ∷ 0 ∷ 0 ∷ 0 ∷ 0 ∷ 0 ∷ 0 ∷ 47 ∷ 14 ∷ 0 ∷ 0 ∷ 0 ∷ 0 ∷ 0 ∷ 0 ∷ 0 ∷ 6 ∷ 10 ∷ 1 ∷ 97 ∷ 10 ∷ 1 ∷ 98 ∷ 18 ∷ 30 ∷ 8 ∷ 148 ∷ 128 ∷ 128 ∷ 128 ∷ 128 ∷ 128 ∷ 192 ∷ 2 ∷ 16 ∷ 0 ∷ 24 ∷ 1 ∷ 32 ∷ 0 ∷ 42 ∷ 13 ∷ 2 ∷ 0 ∷ 0 ∷ 131 ∷ 128 ∷ 128 ∷ 128 ∷ 128 ∷ 128 ∷ 128 ∷ 1 ∷ 2 ∷ 2 ∷ [])
    ≡ at 60 kinds.BadId ∷ []
unfolding message_from field_at varint_in section_facts is_utf8 chars encode
node_under = refl

node_off_to_the_west : all_roads (14 ∷ 0 ∷ 0 ∷ 0 ∷ 0 ∷ 0 ∷ 0 ∷ 0 ∷ 10 ∷ 8 ∷ 0 ∷ 16 ∷ 0 ∷ 24 ∷ 9 ∷ 32 ∷ 9 ∷ 40 ∷ 0 ∷ 22 ∷ 0 ∷ 0 ∷ 0 ∷ 0 ∷ 0 ∷ 0 ∷ 0 ∷ 40 ∷ 14 ∷ 0 ∷ 0 ∷ 0 ∷ 0 ∷ 0 ∷ 0 ∷ 0 ∷ 6 ∷ 10 ∷ 1 ∷ 97 ∷ 10 ∷ 1 ∷ 98 ∷ 18 ∷ 23 ∷ 8 ∷ 148 ∷ 128 ∷ 128 ∷ 128 ∷ 128 ∷ 128 ∷ 192 ∷ 2 ∷ 16 ∷ 0 ∷ 24 ∷ 1 ∷ 32 ∷ 0 ∷ 42 ∷ 6 ∷ 2 ∷ 1 ∷ 0 ∷ 2 ∷ 4 ∷ 2 ∷ [])
    ≡ at 60 kinds.BadPoint ∷ []
unfolding message_from field_at varint_in section_facts is_utf8 chars encode
node_off_to_the_west = refl

node_off_to_the_south : all_roads (14 ∷ 0 ∷ 0 ∷ 0 ∷ 0 ∷ 0 ∷ 0 ∷ 0 ∷ 10 ∷ 8 ∷ 0 ∷ 16 ∷ 0 ∷ 24 ∷ 9 ∷ 32 ∷ 9 ∷ 40 ∷ 0 ∷ 22 ∷ 0 ∷ 0 ∷ 0 ∷ 0 ∷ 0 ∷ 0 ∷ 0 ∷ 44 ∷ 14 ∷ 0 ∷ 0 ∷ 0 ∷ 0 ∷ 0 ∷ 0 ∷ 0 ∷ 6 ∷ 10 ∷ 1 ∷ 97 ∷ 10 ∷ 1 ∷ 98 ∷ 18 ∷ 27 ∷ 8 ∷ 148 ∷ 128 ∷ 128 ∷ 128 ∷ 128 ∷ 128 ∷ 192 ∷ 2 ∷ 16 ∷ 0 ∷ 24 ∷ 1 ∷ 32 ∷ 0 ∷ 42 ∷ 10 ∷ 2 ∷ 0 ∷ 0 ∷ 2 ∷ 2 ∷ 130 ∷ 200 ∷ 206 ∷ 180 ∷ 13 ∷ [])
    ≡ at 60 kinds.BadPoint ∷ []
unfolding message_from field_at varint_in section_facts is_utf8 chars encode
node_off_to_the_south = refl

-- both, at one place
node_over_and_off : all_roads (14 ∷ 0 ∷ 0 ∷ 0 ∷ 0 ∷ 0 ∷ 0 ∷ 0 ∷ 10 ∷ 8 ∷ 0 ∷ 16 ∷ 0 ∷ 24 ∷ 9 ∷ 32 ∷ 9 ∷ 40 ∷ 0 ∷ 22 ∷ 0 ∷ 0 ∷ 0 ∷ 0 ∷ 0 ∷ 0 ∷ 0 ∷ 53 ∷ 14 ∷ 0 ∷ 0 ∷ 0 ∷ 0 ∷ 0 ∷ 0 ∷ 0 ∷ 6 ∷ 10 ∷ 1 ∷ 97 ∷ 10 ∷ 1 ∷ 98 ∷ 18 ∷ 36 ∷ 8 ∷ 148 ∷ 128 ∷ 128 ∷ 128 ∷ 128 ∷ 128 ∷ 192 ∷ 2 ∷ 16 ∷ 0 ∷ 24 ∷ 1 ∷ 32 ∷ 0 ∷ 42 ∷ 19 ∷ 130 ∷ 128 ∷ 128 ∷ 128 ∷ 128 ∷ 128 ∷ 128 ∷ 1 ∷ 0 ∷ 0 ∷ 253 ∷ 255 ∷ 255 ∷ 255 ∷ 255 ∷ 255 ∷ 127 ∷ 1 ∷ 2 ∷ [])
    ≡ at 60 kinds.BadId ∷ at 60 kinds.BadPoint ∷ []
unfolding message_from field_at varint_in section_facts is_utf8 chars encode
node_over_and_off = refl

one_node : all_roads (14 ∷ 0 ∷ 0 ∷ 0 ∷ 0 ∷ 0 ∷ 0 ∷ 0 ∷ 10 ∷ 8 ∷ 0 ∷ 16 ∷ 0 ∷ 24 ∷ 9 ∷ 32 ∷ 9 ∷ 40 ∷ 0 ∷ 22 ∷ 0 ∷ 0 ∷ 0 ∷ 0 ∷ 0 ∷ 0 ∷ 0 ∷ 37 ∷ 14 ∷ 0 ∷ 0 ∷ 0 ∷ 0 ∷ 0 ∷ 0 ∷ 0 ∷ 6 ∷ 10 ∷ 1 ∷ 97 ∷ 10 ∷ 1 ∷ 98 ∷ 18 ∷ 20 ∷ 8 ∷ 148 ∷ 128 ∷ 128 ∷ 128 ∷ 128 ∷ 128 ∷ 192 ∷ 2 ∷ 16 ∷ 0 ∷ 24 ∷ 1 ∷ 32 ∷ 0 ∷ 42 ∷ 3 ∷ 2 ∷ 0 ∷ 0 ∷ [])
    ≡ at 60 kinds.BadPoint ∷ []
unfolding message_from field_at varint_in section_facts is_utf8 chars encode
one_node = refl

-- two steps of 2^63 - 1 and one of 3 lead to 2^64 + 1, which is not 1
sums_without_a_limit : all_roads (14 ∷ 0 ∷ 0 ∷ 0 ∷ 0 ∷ 0 ∷ 0 ∷ 0 ∷ 10 ∷ 8 ∷ 0 ∷ 16 ∷ 0 ∷ 24 ∷ 9 ∷ 32 ∷ 9 ∷ 40 ∷ 0 ∷ 22 ∷ 0 ∷ 0 ∷ 0 ∷ 0 ∷ 0 ∷ 0 ∷ 0 ∷ 61 ∷ 14 ∷ 0 ∷ 0 ∷ 0 ∷ 0 ∷ 0 ∷ 0 ∷ 0 ∷ 6 ∷ 10 ∷ 1 ∷ 97 ∷ 10 ∷ 1 ∷ 98 ∷ 18 ∷ 44 ∷ 8 ∷ 148 ∷ 128 ∷ 128 ∷ 128 ∷ 128 ∷ 128 ∷ 192 ∷ 2 ∷ 16 ∷ 0 ∷ 24 ∷ 1 ∷ 32 ∷ 0 ∷ 42 ∷ 27 ∷ 254 ∷ 255 ∷ 255 ∷ 255 ∷ 255 ∷ 255 ∷ 255 ∷ 255 ∷ 255 ∷ 1 ∷ 0 ∷ 0 ∷ 254 ∷ 255 ∷ 255 ∷ 255 ∷ 255 ∷ 255 ∷ 255 ∷ 255 ∷ 255 ∷ 1 ∷ 0 ∷ 0 ∷ 6 ∷ 2 ∷ 2 ∷ [])
    ≡ at 60 kinds.BadId ∷ []
unfolding message_from field_at varint_in section_facts is_utf8 chars encode
sums_without_a_limit = refl

-- a node to the east of the leaf's box
node_outside_the_leaf : all_roads (14 ∷ 0 ∷ 0 ∷ 0 ∷ 0 ∷ 0 ∷ 0 ∷ 0 ∷ 10 ∷ 8 ∷ 0 ∷ 16 ∷ 0 ∷ 24 ∷ 0 ∷ 32 ∷ 1 ∷ 40 ∷ 0 ∷ 22 ∷ 0 ∷ 0 ∷ 0 ∷ 0 ∷ 0 ∷ 0 ∷ 0 ∷ 40 ∷ 14 ∷ 0 ∷ 0 ∷ 0 ∷ 0 ∷ 0 ∷ 0 ∷ 0 ∷ 6 ∷ 10 ∷ 1 ∷ 97 ∷ 10 ∷ 1 ∷ 98 ∷ 18 ∷ 23 ∷ 8 ∷ 148 ∷ 128 ∷ 128 ∷ 128 ∷ 128 ∷ 128 ∷ 192 ∷ 2 ∷ 16 ∷ 0 ∷ 24 ∷ 1 ∷ 32 ∷ 0 ∷ 42 ∷ 6 ∷ 2 ∷ 0 ∷ 0 ∷ 2 ∷ 2 ∷ 2 ∷ [])
    ≡ at 9 kinds.BadBox ∷ []
unfolding message_from field_at varint_in section_facts is_utf8 chars encode
node_outside_the_leaf = refl

good_restriction : all_bans (14 ∷ 0 ∷ 0 ∷ 0 ∷ 0 ∷ 0 ∷ 0 ∷ 0 ∷ 10 ∷ 8 ∷ 0 ∷ 16 ∷ 0 ∷ 24 ∷ 9 ∷ 32 ∷ 9 ∷ 40 ∷ 0 ∷ 22 ∷ 0 ∷ 0 ∷ 0 ∷ 0 ∷ 0 ∷ 0 ∷ 0 ∷ 35 ∷ 14 ∷ 0 ∷ 0 ∷ 0 ∷ 0 ∷ 0 ∷ 0 ∷ 0 ∷ 3 ∷ 10 ∷ 1 ∷ 98 ∷ 18 ∷ 21 ∷ 8 ∷ 137 ∷ 128 ∷ 128 ∷ 128 ∷ 128 ∷ 128 ∷ 192 ∷ 4 ∷ 16 ∷ 1 ∷ 24 ∷ 40 ∷ 32 ∷ 8 ∷ 40 ∷ 41 ∷ 50 ∷ 2 ∷ 6 ∷ 4 ∷ [])
    ≡ []
unfolding message_from field_at varint_in section_facts is_utf8 chars encode
good_restriction = refl

restriction_of_a_way : all_bans (14 ∷ 0 ∷ 0 ∷ 0 ∷ 0 ∷ 0 ∷ 0 ∷ 0 ∷ 10 ∷ 8 ∷ 0 ∷ 16 ∷ 0 ∷ 24 ∷ 9 ∷ 32 ∷ 9 ∷ 40 ∷ 0 ∷ 22 ∷ 0 ∷ 0 ∷ 0 ∷ 0 ∷ 0 ∷ 0 ∷ 0 ∷ 35 ∷ 14 ∷ 0 ∷ 0 ∷ 0 ∷ 0 ∷ 0 ∷ 0 ∷ 0 ∷ 3 ∷ 10 ∷ 1 ∷ 98 ∷ 18 ∷ 21 ∷ 8 ∷ 137 ∷ 128 ∷ 128 ∷ 128 ∷ 128 ∷ 128 ∷ 192 ∷ 2 ∷ 16 ∷ 1 ∷ 24 ∷ 40 ∷ 32 ∷ 8 ∷ 40 ∷ 41 ∷ 50 ∷ 2 ∷ 6 ∷ 4 ∷ [])
    ≡ at 42 kinds.BadId ∷ []
unfolding message_from field_at varint_in section_facts is_utf8 chars encode
restriction_of_a_way = refl

restriction_without_a_mark : marked_bans (14 ∷ 0 ∷ 0 ∷ 0 ∷ 0 ∷ 0 ∷ 0 ∷ 0 ∷ 10 ∷ 8 ∷ 0 ∷ 16 ∷ 0 ∷ 24 ∷ 9 ∷ 32 ∷ 9 ∷ 40 ∷ 0 ∷ 22 ∷ 0 ∷ 0 ∷ 0 ∷ 0 ∷ 0 ∷ 0 ∷ 0 ∷ 35 ∷ 14 ∷ 0 ∷ 0 ∷ 0 ∷ 0 ∷ 0 ∷ 0 ∷ 0 ∷ 3 ∷ 10 ∷ 1 ∷ 98 ∷ 18 ∷ 21 ∷ 8 ∷ 137 ∷ 128 ∷ 128 ∷ 128 ∷ 128 ∷ 128 ∷ 192 ∷ 4 ∷ 16 ∷ 1 ∷ 24 ∷ 40 ∷ 32 ∷ 8 ∷ 40 ∷ 41 ∷ 50 ∷ 2 ∷ 6 ∷ 4 ∷ [])
    ≡ at 42 kinds.BadMark ∷ []
unfolding message_from field_at varint_in section_facts is_utf8 chars encode
restriction_without_a_mark = refl

value_of_no_text : all_bans (14 ∷ 0 ∷ 0 ∷ 0 ∷ 0 ∷ 0 ∷ 0 ∷ 0 ∷ 10 ∷ 8 ∷ 0 ∷ 16 ∷ 0 ∷ 24 ∷ 9 ∷ 32 ∷ 9 ∷ 40 ∷ 0 ∷ 22 ∷ 0 ∷ 0 ∷ 0 ∷ 0 ∷ 0 ∷ 0 ∷ 0 ∷ 35 ∷ 14 ∷ 0 ∷ 0 ∷ 0 ∷ 0 ∷ 0 ∷ 0 ∷ 0 ∷ 3 ∷ 10 ∷ 1 ∷ 98 ∷ 18 ∷ 21 ∷ 8 ∷ 137 ∷ 128 ∷ 128 ∷ 128 ∷ 128 ∷ 128 ∷ 192 ∷ 4 ∷ 16 ∷ 2 ∷ 24 ∷ 40 ∷ 32 ∷ 8 ∷ 40 ∷ 41 ∷ 50 ∷ 2 ∷ 6 ∷ 4 ∷ [])
    ≡ at 51 kinds.BadRef ∷ []
unfolding message_from field_at varint_in section_facts is_utf8 chars encode
value_of_no_text = refl

from_over : all_bans (14 ∷ 0 ∷ 0 ∷ 0 ∷ 0 ∷ 0 ∷ 0 ∷ 0 ∷ 10 ∷ 8 ∷ 0 ∷ 16 ∷ 0 ∷ 24 ∷ 9 ∷ 32 ∷ 9 ∷ 40 ∷ 0 ∷ 22 ∷ 0 ∷ 0 ∷ 0 ∷ 0 ∷ 0 ∷ 0 ∷ 0 ∷ 42 ∷ 14 ∷ 0 ∷ 0 ∷ 0 ∷ 0 ∷ 0 ∷ 0 ∷ 0 ∷ 3 ∷ 10 ∷ 1 ∷ 98 ∷ 18 ∷ 28 ∷ 8 ∷ 137 ∷ 128 ∷ 128 ∷ 128 ∷ 128 ∷ 128 ∷ 192 ∷ 4 ∷ 16 ∷ 1 ∷ 24 ∷ 130 ∷ 128 ∷ 128 ∷ 128 ∷ 128 ∷ 128 ∷ 128 ∷ 1 ∷ 32 ∷ 8 ∷ 40 ∷ 41 ∷ 50 ∷ 2 ∷ 6 ∷ 4 ∷ [])
    ≡ at 53 kinds.BadId ∷ []
unfolding message_from field_at varint_in section_facts is_utf8 chars encode
from_over = refl

via_under : all_bans (14 ∷ 0 ∷ 0 ∷ 0 ∷ 0 ∷ 0 ∷ 0 ∷ 0 ∷ 10 ∷ 8 ∷ 0 ∷ 16 ∷ 0 ∷ 24 ∷ 9 ∷ 32 ∷ 9 ∷ 40 ∷ 0 ∷ 22 ∷ 0 ∷ 0 ∷ 0 ∷ 0 ∷ 0 ∷ 0 ∷ 0 ∷ 42 ∷ 14 ∷ 0 ∷ 0 ∷ 0 ∷ 0 ∷ 0 ∷ 0 ∷ 0 ∷ 3 ∷ 10 ∷ 1 ∷ 98 ∷ 18 ∷ 28 ∷ 8 ∷ 137 ∷ 128 ∷ 128 ∷ 128 ∷ 128 ∷ 128 ∷ 192 ∷ 4 ∷ 16 ∷ 1 ∷ 24 ∷ 40 ∷ 32 ∷ 129 ∷ 128 ∷ 128 ∷ 128 ∷ 128 ∷ 128 ∷ 128 ∷ 1 ∷ 40 ∷ 41 ∷ 50 ∷ 2 ∷ 6 ∷ 4 ∷ [])
    ≡ at 55 kinds.BadId ∷ []
unfolding message_from field_at varint_in section_facts is_utf8 chars encode
via_under = refl

to_over : all_bans (14 ∷ 0 ∷ 0 ∷ 0 ∷ 0 ∷ 0 ∷ 0 ∷ 0 ∷ 10 ∷ 8 ∷ 0 ∷ 16 ∷ 0 ∷ 24 ∷ 9 ∷ 32 ∷ 9 ∷ 40 ∷ 0 ∷ 22 ∷ 0 ∷ 0 ∷ 0 ∷ 0 ∷ 0 ∷ 0 ∷ 0 ∷ 42 ∷ 14 ∷ 0 ∷ 0 ∷ 0 ∷ 0 ∷ 0 ∷ 0 ∷ 0 ∷ 3 ∷ 10 ∷ 1 ∷ 98 ∷ 18 ∷ 28 ∷ 8 ∷ 137 ∷ 128 ∷ 128 ∷ 128 ∷ 128 ∷ 128 ∷ 192 ∷ 4 ∷ 16 ∷ 0 ∷ 24 ∷ 40 ∷ 32 ∷ 8 ∷ 40 ∷ 130 ∷ 128 ∷ 128 ∷ 128 ∷ 128 ∷ 128 ∷ 128 ∷ 1 ∷ 50 ∷ 2 ∷ 6 ∷ 4 ∷ [])
    ≡ at 57 kinds.BadId ∷ []
unfolding message_from field_at varint_in section_facts is_utf8 chars encode
to_over = refl

two_points : all_bans (14 ∷ 0 ∷ 0 ∷ 0 ∷ 0 ∷ 0 ∷ 0 ∷ 0 ∷ 10 ∷ 8 ∷ 0 ∷ 16 ∷ 0 ∷ 24 ∷ 9 ∷ 32 ∷ 9 ∷ 40 ∷ 0 ∷ 22 ∷ 0 ∷ 0 ∷ 0 ∷ 0 ∷ 0 ∷ 0 ∷ 0 ∷ 37 ∷ 14 ∷ 0 ∷ 0 ∷ 0 ∷ 0 ∷ 0 ∷ 0 ∷ 0 ∷ 3 ∷ 10 ∷ 1 ∷ 98 ∷ 18 ∷ 23 ∷ 8 ∷ 137 ∷ 128 ∷ 128 ∷ 128 ∷ 128 ∷ 128 ∷ 192 ∷ 4 ∷ 16 ∷ 1 ∷ 24 ∷ 40 ∷ 32 ∷ 8 ∷ 40 ∷ 41 ∷ 50 ∷ 4 ∷ 6 ∷ 4 ∷ 0 ∷ 0 ∷ [])
    ≡ at 59 kinds.BadPoint ∷ []
unfolding message_from field_at varint_in section_facts is_utf8 chars encode
two_points = refl

no_point : all_bans (14 ∷ 0 ∷ 0 ∷ 0 ∷ 0 ∷ 0 ∷ 0 ∷ 0 ∷ 10 ∷ 8 ∷ 0 ∷ 16 ∷ 0 ∷ 24 ∷ 9 ∷ 32 ∷ 9 ∷ 40 ∷ 0 ∷ 22 ∷ 0 ∷ 0 ∷ 0 ∷ 0 ∷ 0 ∷ 0 ∷ 0 ∷ 33 ∷ 14 ∷ 0 ∷ 0 ∷ 0 ∷ 0 ∷ 0 ∷ 0 ∷ 0 ∷ 3 ∷ 10 ∷ 1 ∷ 98 ∷ 18 ∷ 19 ∷ 8 ∷ 137 ∷ 128 ∷ 128 ∷ 128 ∷ 128 ∷ 128 ∷ 192 ∷ 4 ∷ 16 ∷ 1 ∷ 24 ∷ 40 ∷ 32 ∷ 8 ∷ 40 ∷ 41 ∷ 50 ∷ 0 ∷ [])
    ≡ at 59 kinds.BadPoint ∷ []
unfolding message_from field_at varint_in section_facts is_utf8 chars encode
no_point = refl

point_off_the_grid : all_bans (14 ∷ 0 ∷ 0 ∷ 0 ∷ 0 ∷ 0 ∷ 0 ∷ 0 ∷ 10 ∷ 8 ∷ 0 ∷ 16 ∷ 0 ∷ 24 ∷ 9 ∷ 32 ∷ 9 ∷ 40 ∷ 0 ∷ 22 ∷ 0 ∷ 0 ∷ 0 ∷ 0 ∷ 0 ∷ 0 ∷ 0 ∷ 39 ∷ 14 ∷ 0 ∷ 0 ∷ 0 ∷ 0 ∷ 0 ∷ 0 ∷ 0 ∷ 3 ∷ 10 ∷ 1 ∷ 98 ∷ 18 ∷ 25 ∷ 8 ∷ 137 ∷ 128 ∷ 128 ∷ 128 ∷ 128 ∷ 128 ∷ 192 ∷ 4 ∷ 16 ∷ 1 ∷ 24 ∷ 40 ∷ 32 ∷ 8 ∷ 40 ∷ 41 ∷ 50 ∷ 6 ∷ 130 ∷ 144 ∷ 157 ∷ 233 ∷ 26 ∷ 4 ∷ [])
    ≡ at 59 kinds.BadPoint ∷ []
unfolding message_from field_at varint_in section_facts is_utf8 chars encode
point_off_the_grid = refl

road_read_again : roads_of (message_at (Boxes Road) (all_of (14 ∷ 0 ∷ 0 ∷ 0 ∷ 0 ∷ 0 ∷ 0 ∷ 0 ∷ 10 ∷ 8 ∷ 0 ∷ 16 ∷ 0 ∷ 24 ∷ 9 ∷ 32 ∷ 9 ∷ 40 ∷ 0 ∷ 22 ∷ 0 ∷ 0 ∷ 0 ∷ 0 ∷ 0 ∷ 0 ∷ 0 ∷ 40 ∷ 14 ∷ 0 ∷ 0 ∷ 0 ∷ 0 ∷ 0 ∷ 0 ∷ 0 ∷ 6 ∷ 10 ∷ 1 ∷ 97 ∷ 10 ∷ 1 ∷ 98 ∷ 18 ∷ 23 ∷ 8 ∷ 148 ∷ 128 ∷ 128 ∷ 128 ∷ 128 ∷ 128 ∷ 192 ∷ 2 ∷ 16 ∷ 1 ∷ 24 ∷ 2 ∷ 32 ∷ 2 ∷ 42 ∷ 6 ∷ 2 ∷ 0 ∷ 0 ∷ 11 ∷ 2 ∷ 2 ∷ [])))
    ≡ record { id = way 20; rule = 1; value = codes "b"; dir = Backward; nodes = node_at (pos 1) 0 0 ∷ node_at (negsuc 4) 1 1 ∷ [] } ∷ []
unfolding message_from field_at varint_in
road_read_again = refl

restriction_read_again : bans_of (message_at (Boxes Restriction) (all_of (14 ∷ 0 ∷ 0 ∷ 0 ∷ 0 ∷ 0 ∷ 0 ∷ 0 ∷ 10 ∷ 8 ∷ 0 ∷ 16 ∷ 0 ∷ 24 ∷ 9 ∷ 32 ∷ 9 ∷ 40 ∷ 0 ∷ 22 ∷ 0 ∷ 0 ∷ 0 ∷ 0 ∷ 0 ∷ 0 ∷ 0 ∷ 35 ∷ 14 ∷ 0 ∷ 0 ∷ 0 ∷ 0 ∷ 0 ∷ 0 ∷ 0 ∷ 3 ∷ 10 ∷ 1 ∷ 98 ∷ 18 ∷ 21 ∷ 8 ∷ 137 ∷ 128 ∷ 128 ∷ 128 ∷ 128 ∷ 128 ∷ 192 ∷ 4 ∷ 16 ∷ 1 ∷ 24 ∷ 40 ∷ 32 ∷ 8 ∷ 40 ∷ 41 ∷ 50 ∷ 2 ∷ 6 ∷ 4 ∷ [])))
    ≡ record { id = relation 9; value = codes "b"; from = pos 20; via = pos 4; to = negsuc 20; point = record { x = 3; y = 2 } } ∷ []
unfolding message_from field_at varint_in
restriction_read_again = refl

-- an empty section
no_roads : routing_break (record { rules = rules; marks = None }) (all_of (14 ∷ 0 ∷ 0 ∷ 0 ∷ 0 ∷ 0 ∷ 0 ∷ 0 ∷ 9 ∷ 14 ∷ 0 ∷ 0 ∷ 0 ∷ 0 ∷ 0 ∷ 0 ∷ 0 ∷ 0 ∷ 22 ∷ 0 ∷ 0 ∷ 0 ∷ 0 ∷ 0 ∷ 0 ∷ 0 ∷ 9 ∷ 14 ∷ 0 ∷ 0 ∷ 0 ∷ 0 ∷ 0 ∷ 0 ∷ 0 ∷ 0 ∷ []))
    ≡ None
unfolding message_from field_at varint_in section_facts is_utf8 chars encode
no_roads = refl

both_good : routing_break (record { rules = rules; marks = None }) (all_of (14 ∷ 0 ∷ 0 ∷ 0 ∷ 0 ∷ 0 ∷ 0 ∷ 0 ∷ 68 ∷ 14 ∷ 0 ∷ 0 ∷ 0 ∷ 0 ∷ 0 ∷ 0 ∷ 0 ∷ 10 ∷ 8 ∷ 0 ∷ 16 ∷ 0 ∷ 24 ∷ 9 ∷ 32 ∷ 9 ∷ 40 ∷ 0 ∷ 22 ∷ 0 ∷ 0 ∷ 0 ∷ 0 ∷ 0 ∷ 0 ∷ 0 ∷ 40 ∷ 14 ∷ 0 ∷ 0 ∷ 0 ∷ 0 ∷ 0 ∷ 0 ∷ 0 ∷ 6 ∷ 10 ∷ 1 ∷ 97 ∷ 10 ∷ 1 ∷ 98 ∷ 18 ∷ 23 ∷ 8 ∷ 148 ∷ 128 ∷ 128 ∷ 128 ∷ 128 ∷ 128 ∷ 192 ∷ 2 ∷ 16 ∷ 0 ∷ 24 ∷ 1 ∷ 32 ∷ 0 ∷ 42 ∷ 6 ∷ 2 ∷ 0 ∷ 0 ∷ 2 ∷ 2 ∷ 2 ∷ 22 ∷ 0 ∷ 0 ∷ 0 ∷ 0 ∷ 0 ∷ 0 ∷ 0 ∷ 63 ∷ 14 ∷ 0 ∷ 0 ∷ 0 ∷ 0 ∷ 0 ∷ 0 ∷ 0 ∷ 10 ∷ 8 ∷ 0 ∷ 16 ∷ 0 ∷ 24 ∷ 9 ∷ 32 ∷ 9 ∷ 40 ∷ 0 ∷ 22 ∷ 0 ∷ 0 ∷ 0 ∷ 0 ∷ 0 ∷ 0 ∷ 0 ∷ 35 ∷ 14 ∷ 0 ∷ 0 ∷ 0 ∷ 0 ∷ 0 ∷ 0 ∷ 0 ∷ 3 ∷ 10 ∷ 1 ∷ 98 ∷ 18 ∷ 21 ∷ 8 ∷ 137 ∷ 128 ∷ 128 ∷ 128 ∷ 128 ∷ 128 ∷ 192 ∷ 4 ∷ 16 ∷ 1 ∷ 24 ∷ 40 ∷ 32 ∷ 8 ∷ 40 ∷ 41 ∷ 50 ∷ 2 ∷ 6 ∷ 4 ∷ []))
    ≡ None
unfolding message_from field_at varint_in section_facts is_utf8 chars encode
both_good = refl

-- a rule of a road fails, and one of a restriction behind it
roads_break_first : routing_break (record { rules = rules; marks = None }) (all_of (14 ∷ 0 ∷ 0 ∷ 0 ∷ 0 ∷ 0 ∷ 0 ∷ 0 ∷ 68 ∷ 14 ∷ 0 ∷ 0 ∷ 0 ∷ 0 ∷ 0 ∷ 0 ∷ 0 ∷ 10 ∷ 8 ∷ 0 ∷ 16 ∷ 0 ∷ 24 ∷ 9 ∷ 32 ∷ 9 ∷ 40 ∷ 0 ∷ 22 ∷ 0 ∷ 0 ∷ 0 ∷ 0 ∷ 0 ∷ 0 ∷ 0 ∷ 40 ∷ 14 ∷ 0 ∷ 0 ∷ 0 ∷ 0 ∷ 0 ∷ 0 ∷ 0 ∷ 6 ∷ 10 ∷ 1 ∷ 97 ∷ 10 ∷ 1 ∷ 98 ∷ 18 ∷ 23 ∷ 8 ∷ 148 ∷ 128 ∷ 128 ∷ 128 ∷ 128 ∷ 128 ∷ 192 ∷ 2 ∷ 16 ∷ 0 ∷ 24 ∷ 1 ∷ 32 ∷ 3 ∷ 42 ∷ 6 ∷ 2 ∷ 0 ∷ 0 ∷ 2 ∷ 2 ∷ 2 ∷ 22 ∷ 0 ∷ 0 ∷ 0 ∷ 0 ∷ 0 ∷ 0 ∷ 0 ∷ 63 ∷ 14 ∷ 0 ∷ 0 ∷ 0 ∷ 0 ∷ 0 ∷ 0 ∷ 0 ∷ 10 ∷ 8 ∷ 0 ∷ 16 ∷ 0 ∷ 24 ∷ 9 ∷ 32 ∷ 9 ∷ 40 ∷ 0 ∷ 22 ∷ 0 ∷ 0 ∷ 0 ∷ 0 ∷ 0 ∷ 0 ∷ 0 ∷ 35 ∷ 14 ∷ 0 ∷ 0 ∷ 0 ∷ 0 ∷ 0 ∷ 0 ∷ 0 ∷ 3 ∷ 10 ∷ 1 ∷ 98 ∷ 18 ∷ 21 ∷ 8 ∷ 137 ∷ 128 ∷ 128 ∷ 128 ∷ 128 ∷ 128 ∷ 192 ∷ 4 ∷ 16 ∷ 2 ∷ 24 ∷ 40 ∷ 32 ∷ 8 ∷ 40 ∷ 41 ∷ 50 ∷ 2 ∷ 6 ∷ 4 ∷ []))
    ≡ Some (at 67 kinds.BadRef)
unfolding message_from field_at varint_in section_facts is_utf8 chars encode
roads_break_first = refl

restriction_breaks : routing_break (record { rules = rules; marks = None }) (all_of (14 ∷ 0 ∷ 0 ∷ 0 ∷ 0 ∷ 0 ∷ 0 ∷ 0 ∷ 68 ∷ 14 ∷ 0 ∷ 0 ∷ 0 ∷ 0 ∷ 0 ∷ 0 ∷ 0 ∷ 10 ∷ 8 ∷ 0 ∷ 16 ∷ 0 ∷ 24 ∷ 9 ∷ 32 ∷ 9 ∷ 40 ∷ 0 ∷ 22 ∷ 0 ∷ 0 ∷ 0 ∷ 0 ∷ 0 ∷ 0 ∷ 0 ∷ 40 ∷ 14 ∷ 0 ∷ 0 ∷ 0 ∷ 0 ∷ 0 ∷ 0 ∷ 0 ∷ 6 ∷ 10 ∷ 1 ∷ 97 ∷ 10 ∷ 1 ∷ 98 ∷ 18 ∷ 23 ∷ 8 ∷ 148 ∷ 128 ∷ 128 ∷ 128 ∷ 128 ∷ 128 ∷ 192 ∷ 2 ∷ 16 ∷ 0 ∷ 24 ∷ 1 ∷ 32 ∷ 0 ∷ 42 ∷ 6 ∷ 2 ∷ 0 ∷ 0 ∷ 2 ∷ 2 ∷ 2 ∷ 22 ∷ 0 ∷ 0 ∷ 0 ∷ 0 ∷ 0 ∷ 0 ∷ 0 ∷ 63 ∷ 14 ∷ 0 ∷ 0 ∷ 0 ∷ 0 ∷ 0 ∷ 0 ∷ 0 ∷ 10 ∷ 8 ∷ 0 ∷ 16 ∷ 0 ∷ 24 ∷ 9 ∷ 32 ∷ 9 ∷ 40 ∷ 0 ∷ 22 ∷ 0 ∷ 0 ∷ 0 ∷ 0 ∷ 0 ∷ 0 ∷ 0 ∷ 35 ∷ 14 ∷ 0 ∷ 0 ∷ 0 ∷ 0 ∷ 0 ∷ 0 ∷ 0 ∷ 3 ∷ 10 ∷ 1 ∷ 98 ∷ 18 ∷ 21 ∷ 8 ∷ 137 ∷ 128 ∷ 128 ∷ 128 ∷ 128 ∷ 128 ∷ 192 ∷ 4 ∷ 16 ∷ 2 ∷ 24 ∷ 40 ∷ 32 ∷ 8 ∷ 40 ∷ 41 ∷ 50 ∷ 2 ∷ 6 ∷ 4 ∷ []))
    ≡ Some (at 137 kinds.BadRef)
unfolding message_from field_at varint_in section_facts is_utf8 chars encode
restriction_breaks = refl

-- a rule of a road fails, but behind it the form breaks at a key
form_breaks_first : routing_break (record { rules = rules; marks = None }) (all_of (14 ∷ 0 ∷ 0 ∷ 0 ∷ 0 ∷ 0 ∷ 0 ∷ 0 ∷ 68 ∷ 14 ∷ 0 ∷ 0 ∷ 0 ∷ 0 ∷ 0 ∷ 0 ∷ 0 ∷ 10 ∷ 8 ∷ 0 ∷ 16 ∷ 0 ∷ 24 ∷ 9 ∷ 32 ∷ 9 ∷ 40 ∷ 0 ∷ 22 ∷ 0 ∷ 0 ∷ 0 ∷ 0 ∷ 0 ∷ 0 ∷ 0 ∷ 40 ∷ 14 ∷ 0 ∷ 0 ∷ 0 ∷ 0 ∷ 0 ∷ 0 ∷ 0 ∷ 6 ∷ 10 ∷ 1 ∷ 97 ∷ 10 ∷ 1 ∷ 98 ∷ 18 ∷ 23 ∷ 8 ∷ 148 ∷ 128 ∷ 128 ∷ 128 ∷ 128 ∷ 128 ∷ 192 ∷ 2 ∷ 16 ∷ 0 ∷ 24 ∷ 1 ∷ 32 ∷ 3 ∷ 42 ∷ 6 ∷ 2 ∷ 0 ∷ 0 ∷ 2 ∷ 2 ∷ 2 ∷ 22 ∷ 0 ∷ 0 ∷ 0 ∷ 0 ∷ 0 ∷ 0 ∷ 0 ∷ 63 ∷ 13 ∷ 0 ∷ 0 ∷ 0 ∷ 0 ∷ 0 ∷ 0 ∷ 0 ∷ 10 ∷ 8 ∷ 0 ∷ 16 ∷ 0 ∷ 24 ∷ 9 ∷ 32 ∷ 9 ∷ 40 ∷ 0 ∷ 22 ∷ 0 ∷ 0 ∷ 0 ∷ 0 ∷ 0 ∷ 0 ∷ 0 ∷ 35 ∷ 14 ∷ 0 ∷ 0 ∷ 0 ∷ 0 ∷ 0 ∷ 0 ∷ 0 ∷ 3 ∷ 10 ∷ 1 ∷ 98 ∷ 18 ∷ 21 ∷ 8 ∷ 137 ∷ 128 ∷ 128 ∷ 128 ∷ 128 ∷ 128 ∷ 192 ∷ 4 ∷ 16 ∷ 1 ∷ 24 ∷ 40 ∷ 32 ∷ 8 ∷ 40 ∷ 41 ∷ 50 ∷ 2 ∷ 6 ∷ 4 ∷ []))
    ≡ Some (at 86 kinds.BadKey)
unfolding message_from field_at varint_in section_facts is_utf8 chars encode
form_breaks_first = refl

-- the section ends behind the roads
no_restrictions : routing_break (record { rules = rules; marks = None }) (all_of (14 ∷ 0 ∷ 0 ∷ 0 ∷ 0 ∷ 0 ∷ 0 ∷ 0 ∷ 68 ∷ 14 ∷ 0 ∷ 0 ∷ 0 ∷ 0 ∷ 0 ∷ 0 ∷ 0 ∷ 10 ∷ 8 ∷ 0 ∷ 16 ∷ 0 ∷ 24 ∷ 9 ∷ 32 ∷ 9 ∷ 40 ∷ 0 ∷ 22 ∷ 0 ∷ 0 ∷ 0 ∷ 0 ∷ 0 ∷ 0 ∷ 0 ∷ 40 ∷ 14 ∷ 0 ∷ 0 ∷ 0 ∷ 0 ∷ 0 ∷ 0 ∷ 0 ∷ 6 ∷ 10 ∷ 1 ∷ 97 ∷ 10 ∷ 1 ∷ 98 ∷ 18 ∷ 23 ∷ 8 ∷ 148 ∷ 128 ∷ 128 ∷ 128 ∷ 128 ∷ 128 ∷ 192 ∷ 2 ∷ 16 ∷ 0 ∷ 24 ∷ 1 ∷ 32 ∷ 0 ∷ 42 ∷ 6 ∷ 2 ∷ 0 ∷ 0 ∷ 2 ∷ 2 ∷ 2 ∷ []))
    ≡ Some (at 77 kinds.Short)
unfolding message_from field_at varint_in section_facts is_utf8 chars encode
no_restrictions = refl

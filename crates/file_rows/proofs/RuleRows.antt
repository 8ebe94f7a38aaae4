-- Worked rows of what has to hold of a section of map records.
use Rattle.std.specs.Prelude.{◌≡◌, ℕ, zero, suc, ◌+◌, List, [], ◌∷◌, ◌++◌, length, refl, codes, Result, Ok, Err, Option, Some, None, pos, filter_map}
use Rattle.std.specs.Str.{is_utf8, chars}
use Rattle.std.proofs.Math.Utf8.{encode}
use Rattle.obf_wire.specs.Fields.{Window, field_at}
use Rattle.obf_wire.specs.Varint.{varint_in}
use Rattle.obf_wire.specs.declared.file.FileBreak.{FileBreak}
use Rattle.obf_wire.specs.declared.file.FileKind.{FileKind}
use Rattle.obf_wire.specs.declared.file.FileKind.TheVariants as kinds
use Rattle.live_model.specs.declared.shapes.Shape.TheVariants as shapes
use Rattle.live_model.specs.declared.classes.Class.TheVariants as classes
use Rattle.live_model.specs.declared.shapes.Shape.{Shape}
use Rattle.live_model.specs.declared.classes.Class.{Class}
use Rattle.live_model.specs.declared.rules.Rule.{Rule}
use Rattle.live_model.specs.declared.records.MapRec.{MapRec}
use Rattle.live_model.specs.declared.ids.Kind.TheVariants.{Node, Way}
use Rattle.file_grammar.specs.Messages.{Fields}
use Rattle.file_grammar.specs.Readings.{message_at, message_from}
use Rattle.file_grammar.specs.Facts.{first_failing, failing}
use Rattle.file_grammar.specs.Sections.{section_in}
use Rattle.file_grammar.specs.BoxRules.{Beside, section_facts}
use Rattle.file_grammar.specs.MapRules.{map_boxing, map_records_in}
use Rattle.file_grammar.specs.declared.parts.Boxed.TheVariants.{Map}
use Rattle.file_grammar.specs.declared.parts.Part.TheVariants.{Boxes}

abbrev wide : ℕ → List ℕ
wide n = 0 ∷ 0 ∷ 0 ∷ 0 ∷ 0 ∷ 0 ∷ 0 ∷ n ∷ []

-- `point a b 0 map`
abbrev rule : Rule
rule = record { shape = shapes.Point; key = codes "a"; value = Some (codes "b"); zoom = 0; class = classes.Map }

abbrev beside : Beside
beside = record { rules = rule ∷ []; marks = None }

-- 1,800,000,000 and 900,000,000
abbrev x_edge : List ℕ
x_edge = 128 ∷ 164 ∷ 167 ∷ 218 ∷ 6 ∷ []

-- 1,799,999,999
abbrev lower : List ℕ
lower = 255 ∷ 163 ∷ 167 ∷ 218 ∷ 6 ∷ []

abbrev y_edge : List ℕ
y_edge = 128 ∷ 210 ∷ 147 ∷ 173 ∷ 3 ∷ []

-- a leaf around one place, with this right edge
abbrev leaf : List ℕ → List ℕ
leaf right = (8 ∷ x_edge) ++ (16 ∷ y_edge) ++ (24 ∷ right) ++ (32 ∷ y_edge) ++ 40 ∷ 0 ∷ []

abbrev block : List ℕ
block =
    (14 ∷ wide 0) ++ 18 ∷ 26 ∷ 8 ∷ 129 ∷ 128 ∷ 128 ∷ 128 ∷ 128 ∷ 128 ∷ 64 ∷ 16 ∷ 0 ∷ 24 ∷ 0 ∷ 32 ∷ 0 ∷ 42 ∷ 10 ∷ 128 ∷ 200 ∷ 206 ∷ 180 ∷ 13 ∷ 128 ∷ 164 ∷ 167 ∷ 218
    ∷ 6 ∷ []

-- the section of `n1 x0 y0 Ta=b`
abbrev section : List ℕ → List ℕ
section leaf = (14 ∷ wide (length leaf)) ++ leaf ++ (22 ∷ wide 37) ++ block

-- the section stands at 37 of the whole file
abbrev filled_before : List ℕ
filled_before = 0 ∷ 0 ∷ 0 ∷ 0 ∷ 0 ∷ 0 ∷ 0 ∷ 0 ∷ 0 ∷ 0 ∷ 0 ∷ 0 ∷ 0 ∷ 0 ∷ 0 ∷ 0 ∷ 0 ∷ 0 ∷ 0 ∷ 0 ∷ 0 ∷ 0 ∷ 0 ∷ 0 ∷ 0 ∷ 0 ∷ 0 ∷ 0 ∷ 0 ∷ 0 ∷ 0 ∷ 0 ∷ 0 ∷ 0 ∷ 0 ∷ 0 ∷ 0 ∷ []

abbrev in_file : List ℕ → Window
in_file bytes = record { bytes = filled_before ++ bytes; place = 37; end = 37 + length bytes }

abbrev breaks_by : Result Fields FileBreak → Option FileBreak
breaks_by (Err b) = Some b
breaks_by (Ok fields) = first_failing (section_facts map_boxing beside (section_in fields))

abbrev found : List ℕ → Option FileBreak
found bytes = breaks_by (message_at (Boxes Map) (in_file bytes))

abbrev broken : ℕ → FileKind → Option FileBreak
broken at kind = Some (record { at = at; kind = kind })

sound : found (section (leaf x_edge)) ≡ None
unfolding message_from field_at varint_in section_facts
sound = refl

-- the right edge one lower than the place
small_box : found (section (leaf lower)) ≡ broken 46 kinds.BadBox
unfolding message_from field_at varint_in section_facts
small_box = refl

-- without a leaf the block is not named
no_leaf : found (section []) ≡ broken 46 kinds.BadPlace
unfolding message_from field_at varint_in section_facts
no_leaf = refl

-- without a block the leaf names nothing
no_block : found ((14 ∷ wide 26) ++ leaf x_edge) ≡ broken 70 kinds.BadPlace
unfolding message_from field_at varint_in section_facts
no_block = refl

abbrev records : Result Fields FileBreak → List MapRec
records (Err b) = []
records (Ok fields) = map_records_in (section_in fields)

listed : records (message_at (Boxes Map) (in_file (section (leaf x_edge))))
    ≡ record { id = record { kind = Node; number = pos 1 }; rule = 0; shape = shapes.Point; name = []; points = record { x = 1800000000; y = 900000000 } ∷ [] } ∷ []
unfolding message_from field_at varint_in
listed = refl

-- Small sections: all facts that fail, in the order of the definition. The leaf of a small section stands at 46, its
-- block at 56, the texts from 74 on.

abbrev rule_of : Shape → Class → Rule
rule_of shape class = record { shape = shape; key = codes "a"; value = None; zoom = 0; class = class }

-- two of points, one of lines, one of areas, one of roads
abbrev rules : List Rule
rules = rule ∷ rule_of shapes.Line classes.Map ∷ rule_of shapes.Area classes.Map ∷ rule_of shapes.Line classes.Road ∷ rule_of shapes.Point classes.Map ∷ []

abbrev all_broken : Beside → Result Fields FileBreak → List FileBreak
all_broken there (Err b) = b ∷ []
all_broken there (Ok fields) = filter_map failing (section_facts map_boxing there (section_in fields))

abbrev all_in : List ℕ → List FileBreak
all_in bytes = all_broken (record { rules = rules; marks = None }) (message_at (Boxes Map) (in_file bytes))

abbrev all_beside : List ℕ → List ℕ → List FileBreak
all_beside marks bytes = all_broken (record { rules = rules; marks = Some marks }) (message_at (Boxes Map) (in_file bytes))

abbrev at : ℕ → FileKind → FileBreak
at place kind = record { at = place; kind = kind }

abbrev small_leaf : ℕ → ℕ → ℕ → ℕ → List ℕ → List ℕ
small_leaf left top right bottom place = 8 ∷ left ∷ 16 ∷ top ∷ 24 ∷ right ∷ 32 ∷ bottom ∷ 40 ∷ place

-- a leaf from (0, 0) to (2, 2)
abbrev two : List ℕ
two = small_leaf 0 0 2 2 (0 ∷ [])

abbrev record_field : List ℕ → ℕ → ℕ → ℕ → List ℕ → List ℕ
record_field id rule shape name points =
    18 ∷ (length id + 9 + length points) ∷ 8 ∷ id ++ 16 ∷ rule ∷ 24 ∷ shape ∷ 32 ∷ name ∷ 42 ∷ length points ∷ points

abbrev block_field : List ℕ → List ℕ → List ℕ
block_field texts records = (22 ∷ wide (9 + length texts + length records)) ++ (14 ∷ wide (length texts)) ++ texts ++ records

abbrev tree_field : List ℕ → List ℕ
tree_field tree = (14 ∷ wide (length tree)) ++ tree

-- a section of one leaf and one block
abbrev small : List ℕ → List ℕ → List ℕ
small texts records = tree_field two ++ block_field texts records

-- the number -2^48 of a node, the node 1, the way 1, the relation 1
abbrev n_least : List ℕ
n_least = 0 ∷ []

abbrev n1 : List ℕ
n1 = 129 ∷ 128 ∷ 128 ∷ 128 ∷ 128 ∷ 128 ∷ 64 ∷ []

abbrev w1 : List ℕ
w1 = 129 ∷ 128 ∷ 128 ∷ 128 ∷ 128 ∷ 128 ∷ 192 ∷ 2 ∷ []

abbrev r1 : List ℕ
r1 = 129 ∷ 128 ∷ 128 ∷ 128 ∷ 128 ∷ 128 ∷ 192 ∷ 4 ∷ []

abbrev point : List ℕ
point = 0 ∷ 0 ∷ []

-- (0, 0) and (1, 2)
abbrev two_points : List ℕ
two_points = 0 ∷ 0 ∷ 2 ∷ 4 ∷ []

abbrev first_node : List ℕ
first_node = record_field n_least 0 0 0 point

abbrev copies : ℕ → List ℕ → List ℕ
copies zero bytes = []
copies (suc n) bytes = bytes ++ copies n bytes

-- Counts.

one_record : all_in (small [] first_node) ≡ []
unfolding message_from field_at varint_in section_facts
one_record = refl

no_records : all_in (small [] []) ≡ at 56 kinds.BadCount ∷ []
unfolding message_from field_at varint_in section_facts
no_records = refl

sixty_four : all_in (tree_field two ++ (22 ∷ 0 ∷ 0 ∷ 0 ∷ 0 ∷ 0 ∷ 0 ∷ 3 ∷ 137 ∷ []) ++ (14 ∷ wide 0) ++ copies 64 first_node) ≡ []
unfolding message_from field_at varint_in section_facts
sixty_four = refl

sixty_five : all_in (tree_field two ++ (22 ∷ 0 ∷ 0 ∷ 0 ∷ 0 ∷ 0 ∷ 0 ∷ 3 ∷ 151 ∷ []) ++ (14 ∷ wide 0) ++ copies 65 first_node) ≡ at 56 kinds.BadCount ∷ []
unfolding message_from field_at varint_in section_facts
sixty_five = refl

-- Order. The second record stands 20 behind the first.

by_rule : all_in (small [] (record_field n1 0 0 0 point ++ record_field (0 ∷ []) 4 0 0 point)) ≡ []
unfolding message_from field_at varint_in section_facts
by_rule = refl

same_record_twice : all_in (small [] (record_field n1 4 0 0 point ++ record_field (0 ∷ []) 4 0 0 point)) ≡ []
unfolding message_from field_at varint_in section_facts
same_record_twice = refl

rules_fall : all_in (small [] (record_field n1 4 0 0 point ++ record_field (0 ∷ []) 0 0 0 point)) ≡ at 94 kinds.BadOrder ∷ []
unfolding message_from field_at varint_in section_facts
rules_fall = refl

rule_falls_with_a_later_node : all_in (small [] (record_field n1 4 0 0 point ++ record_field (1 ∷ []) 0 0 0 point)) ≡ []
unfolding message_from field_at varint_in section_facts
rule_falls_with_a_later_node = refl

-- an ordinal that is no object's is not compared
rules_fall_of_no_object : all_in (small [] (record_field (128 ∷ 128 ∷ 128 ∷ 128 ∷ 128 ∷ 128 ∷ 128 ∷ 6 ∷ []) 4 0 0 point ++ record_field (0 ∷ []) 0 0 0 point)) ≡ at 76 kinds.BadId ∷ at 97 kinds.BadId ∷ []
unfolding message_from field_at varint_in section_facts
rules_fall_of_no_object = refl

-- Ids.

-- 2^49
greatest_node : all_in (small [] (record_field (128 ∷ 128 ∷ 128 ∷ 128 ∷ 128 ∷ 128 ∷ 128 ∷ 1 ∷ []) 0 0 0 point)) ≡ []
unfolding message_from field_at varint_in section_facts
greatest_node = refl

past_the_greatest_node : all_in (small [] (record_field (129 ∷ 128 ∷ 128 ∷ 128 ∷ 128 ∷ 128 ∷ 128 ∷ 1 ∷ []) 0 0 0 point)) ≡ at 76 kinds.BadId ∷ []
unfolding message_from field_at varint_in section_facts
past_the_greatest_node = refl

greatest_way : all_in (small [] (record_field (128 ∷ 128 ∷ 128 ∷ 128 ∷ 128 ∷ 128 ∷ 128 ∷ 3 ∷ []) 1 1 0 two_points)) ≡ []
unfolding message_from field_at varint_in section_facts
greatest_way = refl

past_the_relations : all_in (small [] (record_field (128 ∷ 128 ∷ 128 ∷ 128 ∷ 128 ∷ 128 ∷ 128 ∷ 6 ∷ []) 0 0 0 point)) ≡ at 76 kinds.BadId ∷ []
unfolding message_from field_at varint_in section_facts
past_the_relations = refl

point_of_a_way : all_in (small [] (record_field w1 0 0 0 point)) ≡ at 76 kinds.BadId ∷ []
unfolding message_from field_at varint_in section_facts
point_of_a_way = refl

line_of_a_node : all_in (small [] (record_field n1 1 1 0 two_points)) ≡ at 76 kinds.BadId ∷ []
unfolding message_from field_at varint_in section_facts
line_of_a_node = refl

area_of_a_relation : all_in (small [] (record_field r1 2 2 0 two_points)) ≡ at 76 kinds.BadId ∷ []
unfolding message_from field_at varint_in section_facts
area_of_a_relation = refl

-- 2^64 - 1 and 1 make no ordinal
sums_have_no_limit : all_in (small [] (record_field (255 ∷ 255 ∷ 255 ∷ 255 ∷ 255 ∷ 255 ∷ 255 ∷ 255 ∷ 255 ∷ 1 ∷ []) 0 0 0 point ++ record_field (1 ∷ []) 0 0 0 point)) ≡ at 76 kinds.BadId ∷ at 99 kinds.BadId ∷ []
unfolding message_from field_at varint_in section_facts
sums_have_no_limit = refl

-- Rules, shapes and names.

shape_3 : all_in (small [] (record_field n_least 0 3 0 point)) ≡ at 78 kinds.BadRef ∷ at 80 kinds.BadRef ∷ []
unfolding message_from field_at varint_in section_facts
shape_3 = refl

-- and of any count of points
shape_3_of_a_way : all_in (small [] (record_field w1 0 3 0 [])) ≡ at 85 kinds.BadRef ∷ at 87 kinds.BadRef ∷ []
unfolding message_from field_at varint_in section_facts
shape_3_of_a_way = refl

shape_3_of_a_relation : all_in (small [] (record_field r1 0 3 0 point)) ≡ at 76 kinds.BadId ∷ at 85 kinds.BadRef ∷ at 87 kinds.BadRef ∷ []
unfolding message_from field_at varint_in section_facts
shape_3_of_a_relation = refl

past_the_rules : all_in (small [] (record_field n_least 5 0 0 point)) ≡ at 78 kinds.BadRef ∷ []
unfolding message_from field_at varint_in section_facts
past_the_rules = refl

rule_of_lines : all_in (small [] (record_field n_least 1 0 0 point)) ≡ at 78 kinds.BadRef ∷ []
unfolding message_from field_at varint_in section_facts
rule_of_lines = refl

rule_of_roads : all_in (small [] (record_field w1 3 1 0 two_points)) ≡ at 85 kinds.BadRef ∷ []
unfolding message_from field_at varint_in section_facts
rule_of_roads = refl

no_texts : all_in (small [] (record_field n_least 0 0 1 point)) ≡ at 82 kinds.BadRef ∷ []
unfolding message_from field_at varint_in section_facts
no_texts = refl

a_name : all_in (small (10 ∷ 1 ∷ 97 ∷ []) (record_field n_least 0 0 1 point)) ≡ []
unfolding message_from field_at varint_in section_facts is_utf8 chars encode
a_name = refl

past_the_texts : all_in (small (10 ∷ 1 ∷ 97 ∷ []) (record_field n_least 0 0 2 point)) ≡ at 85 kinds.BadRef ∷ []
unfolding message_from field_at varint_in section_facts is_utf8 chars encode
past_the_texts = refl

-- Texts.

-- a text that no record uses does not break the file
rising_texts : all_in (small (10 ∷ 1 ∷ 97 ∷ 10 ∷ 2 ∷ 97 ∷ 97 ∷ 10 ∷ 1 ∷ 98 ∷ []) first_node) ≡ []
unfolding message_from field_at varint_in section_facts is_utf8 chars encode
rising_texts = refl

empty_text : all_in (small (10 ∷ 0 ∷ []) first_node) ≡ at 74 kinds.BadText ∷ []
unfolding message_from field_at varint_in section_facts is_utf8 chars encode
empty_text = refl

equal_texts : all_in (small (10 ∷ 1 ∷ 97 ∷ 10 ∷ 1 ∷ 97 ∷ []) first_node) ≡ at 77 kinds.BadText ∷ []
unfolding message_from field_at varint_in section_facts is_utf8 chars encode
equal_texts = refl

falling_texts : all_in (small (10 ∷ 1 ∷ 98 ∷ 10 ∷ 1 ∷ 97 ∷ []) first_node) ≡ at 77 kinds.BadText ∷ []
unfolding message_from field_at varint_in section_facts is_utf8 chars encode
falling_texts = refl

-- what is not UTF-8 is not compared, and those around it neither
no_utf8_between : all_in (small (10 ∷ 1 ∷ 98 ∷ 10 ∷ 1 ∷ 255 ∷ 10 ∷ 1 ∷ 97 ∷ []) first_node) ≡ at 77 kinds.BadText ∷ []
unfolding message_from field_at varint_in section_facts is_utf8 chars encode
no_utf8_between = refl

-- an empty one is
empty_behind_one : all_in (small (10 ∷ 1 ∷ 97 ∷ 10 ∷ 0 ∷ 10 ∷ 1 ∷ 97 ∷ []) first_node) ≡ at 77 kinds.BadText ∷ []
unfolding message_from field_at varint_in section_facts is_utf8 chars encode
empty_behind_one = refl

-- Points. Those of the way stand at 91.

line : all_in (small [] (record_field w1 1 1 0 two_points)) ≡ []
unfolding message_from field_at varint_in section_facts
line = refl

line_of_one : all_in (small [] (record_field w1 1 1 0 point)) ≡ at 91 kinds.BadPoint ∷ []
unfolding message_from field_at varint_in section_facts
line_of_one = refl

area_of_one : all_in (small [] (record_field w1 2 2 0 point)) ≡ at 91 kinds.BadPoint ∷ []
unfolding message_from field_at varint_in section_facts
area_of_one = refl

point_of_two : all_in (small [] (record_field n_least 0 0 0 two_points)) ≡ at 84 kinds.BadPoint ∷ []
unfolding message_from field_at varint_in section_facts
point_of_two = refl

point_of_none : all_in (small [] (record_field n_least 0 0 0 [])) ≡ at 84 kinds.BadPoint ∷ []
unfolding message_from field_at varint_in section_facts
point_of_none = refl

-- (0, 0), (-1, 0), (1, 1)
off_the_grid : all_in (small [] (record_field w1 1 1 0 (0 ∷ 0 ∷ 1 ∷ 0 ∷ 4 ∷ 2 ∷ []))) ≡ at 91 kinds.BadPoint ∷ []
unfolding message_from field_at varint_in section_facts
off_the_grid = refl

-- (0, 0), (-1, 0), (5, 5)
off_the_grid_and_out_of_the_box : all_in (small [] (record_field w1 1 1 0 (0 ∷ 0 ∷ 1 ∷ 0 ∷ 12 ∷ 10 ∷ []))) ≡ at 46 kinds.BadBox ∷ at 91 kinds.BadPoint ∷ []
unfolding message_from field_at varint_in section_facts
off_the_grid_and_out_of_the_box = refl

-- 1,800,000,001: the box need not contain it
south_of_the_grid : all_in (small [] (record_field n_least 0 0 0 (0 ∷ 130 ∷ 164 ∷ 167 ∷ 218 ∷ 13 ∷ []))) ≡ at 84 kinds.BadPoint ∷ []
unfolding message_from field_at varint_in section_facts
south_of_the_grid = refl

edge_of_the_box : all_in (small [] (record_field n_least 0 0 0 (4 ∷ 4 ∷ []))) ≡ []
unfolding message_from field_at varint_in section_facts
edge_of_the_box = refl

past_the_box : all_in (small [] (record_field n_least 0 0 0 (4 ∷ 6 ∷ []))) ≡ at 46 kinds.BadBox ∷ []
unfolding message_from field_at varint_in section_facts
past_the_box = refl

-- 2^63 - 1 twice and 7 to the east are 2^64 + 5, and not 5
places_have_no_limit : all_in (small [] (record_field w1 1 1 0 (0 ∷ 0 ∷ 254 ∷ 255 ∷ 255 ∷ 255 ∷ 255 ∷ 255 ∷ 255 ∷ 255 ∷ 255 ∷ 1 ∷ 0 ∷ 254 ∷ 255 ∷ 255 ∷ 255 ∷ 255 ∷ 255 ∷ 255 ∷ 255 ∷ 255 ∷ 1 ∷ 0 ∷ 14 ∷ 0 ∷ []))) ≡ at 91 kinds.BadPoint ∷ []
unfolding message_from field_at varint_in section_facts
places_have_no_limit = refl

-- Marks. The ordinal of n1 is 281,474,976,710,657.

marked : all_beside (5 ∷ 281474976710657 ∷ []) (small [] (record_field n1 0 0 0 point)) ≡ []
unfolding message_from field_at varint_in section_facts
marked = refl

not_marked : all_beside (5 ∷ []) (small [] (record_field n1 0 0 0 point)) ≡ at 76 kinds.BadMark ∷ []
unfolding message_from field_at varint_in section_facts
not_marked = refl

second_not_marked : all_beside (281474976710657 ∷ []) (small [] (record_field n1 0 0 0 point ++ record_field (1 ∷ []) 0 0 0 point)) ≡ at 96 kinds.BadMark ∷ []
unfolding message_from field_at varint_in section_facts
second_not_marked = refl

-- the third ordinal is the sum of three numbers
third_marked : all_beside (281474976710657 ∷ 281474976710658 ∷ 281474976710659 ∷ [])
    (small [] (record_field n1 0 0 0 point ++ record_field (1 ∷ []) 0 0 0 point ++ record_field (1 ∷ []) 0 0 0 point)) ≡ []
unfolding message_from field_at varint_in section_facts
third_marked = refl

no_object_is_not_marked : all_beside [] (small [] (record_field (129 ∷ 128 ∷ 128 ∷ 128 ∷ 128 ∷ 128 ∷ 128 ∷ 1 ∷ []) 0 0 0 point)) ≡ at 76 kinds.BadId ∷ []
unfolding message_from field_at varint_in section_facts
no_object_is_not_marked = refl

neither_kind_nor_mark : all_beside [] (small [] (record_field w1 0 0 0 point)) ≡ at 76 kinds.BadId ∷ at 76 kinds.BadMark ∷ []
unfolding message_from field_at varint_in section_facts
neither_kind_nor_mark = refl

-- Trees. A block of the first node takes 32 bytes.

abbrev one_block : List ℕ
one_block = block_field [] first_node

abbrev edges : ℕ → ℕ → ℕ → ℕ → List ℕ
edges left top right bottom = 8 ∷ left ∷ 16 ∷ top ∷ 24 ∷ right ∷ 32 ∷ bottom ∷ []

abbrev child : List ℕ → List ℕ
child node = (54 ∷ wide (length node)) ++ node

abbrev two_at : List ℕ → List ℕ
two_at place = child (small_leaf 0 0 2 2 place)

abbrev eight : List ℕ
eight =
    two_at (0 ∷ []) ++ two_at (32 ∷ []) ++ two_at (64 ∷ []) ++ two_at (96 ∷ []) ++ two_at (128 ∷ 1 ∷ []) ++ two_at (160 ∷ 1 ∷ []) ++ two_at (192 ∷ 1 ∷ [])
    ++ two_at (224 ∷ 1 ∷ [])

eight_children : all_in (tree_field (edges 0 0 2 2 ++ eight) ++ copies 8 one_block) ≡ []
unfolding message_from field_at varint_in section_facts
eight_children = refl

nine_children : all_in (tree_field (edges 0 0 2 2 ++ eight ++ two_at (128 ∷ 2 ∷ [])) ++ copies 9 one_block) ≡ at 46 kinds.BadCount ∷ []
unfolding message_from field_at varint_in section_facts
nine_children = refl

larger_child : all_in (tree_field (edges 0 0 2 2 ++ child (small_leaf 0 0 3 2 (0 ∷ []))) ++ one_block) ≡ at 46 kinds.BadBox ∷ []
unfolding message_from field_at varint_in section_facts
larger_child = refl

-- to 3,600,000,001
child_off_the_grid : all_in (tree_field (edges 0 0 2 2 ++ child (8 ∷ 0 ∷ 16 ∷ 0 ∷ 24 ∷ 129 ∷ 200 ∷ 206 ∷ 180 ∷ 13 ∷ 32 ∷ 2 ∷ 40 ∷ 0 ∷ [])) ++ one_block) ≡ at 63 kinds.BadBox ∷ []
unfolding message_from field_at varint_in section_facts
child_off_the_grid = refl

-- to 3,600,000,000
child_to_the_edge_of_the_grid : all_in (tree_field (edges 0 0 2 2 ++ child (8 ∷ 0 ∷ 16 ∷ 0 ∷ 24 ∷ 128 ∷ 200 ∷ 206 ∷ 180 ∷ 13 ∷ 32 ∷ 2 ∷ 40 ∷ 0 ∷ [])) ++ one_block) ≡ at 46 kinds.BadBox ∷ []
unfolding message_from field_at varint_in section_facts
child_to_the_edge_of_the_grid = refl

each_node_beyond_the_one_above : all_in (tree_field (edges 0 0 1 1 ++ child (edges 0 0 2 2 ++ child (small_leaf 0 0 3 3 (0 ∷ [])))) ++ one_block) ≡ at 46 kinds.BadBox ∷ at 63 kinds.BadBox ∷ []
unfolding message_from field_at varint_in section_facts
each_node_beyond_the_one_above = refl

-- a point off the grid, which no box need contain
left_past_right : all_in (tree_field (small_leaf 2 0 1 2 (0 ∷ [])) ++ block_field [] (record_field n_least 0 0 0 (1 ∷ 0 ∷ []))) ≡ at 46 kinds.BadBox ∷ at 84 kinds.BadPoint ∷ []
unfolding message_from field_at varint_in section_facts
left_past_right = refl

top_past_bottom : all_in (tree_field (small_leaf 0 2 2 1 (0 ∷ [])) ++ block_field [] (record_field n_least 0 0 0 (1 ∷ 0 ∷ []))) ≡ at 46 kinds.BadBox ∷ at 84 kinds.BadPoint ∷ []
unfolding message_from field_at varint_in section_facts
top_past_bottom = refl

two_and_two : all_in (tree_field (edges 0 0 2 2 ++ two_at (0 ∷ []) ++ two_at (32 ∷ [])) ++ copies 2 one_block) ≡ []
unfolding message_from field_at varint_in section_facts
two_and_two = refl

second_place_wrong : all_in (tree_field (edges 0 0 2 2 ++ two_at (0 ∷ []) ++ two_at (31 ∷ [])) ++ copies 2 one_block) ≡ at 90 kinds.BadPlace ∷ []
unfolding message_from field_at varint_in section_facts
second_place_wrong = refl

places_swapped : all_in (tree_field (edges 0 0 2 2 ++ two_at (32 ∷ []) ++ two_at (0 ∷ [])) ++ copies 2 one_block) ≡ at 71 kinds.BadPlace ∷ at 90 kinds.BadPlace ∷ []
unfolding message_from field_at varint_in section_facts
places_swapped = refl

two_leaves_one_block : all_in (tree_field (edges 0 0 2 2 ++ two_at (0 ∷ []) ++ two_at (32 ∷ [])) ++ one_block) ≡ at 90 kinds.BadPlace ∷ []
unfolding message_from field_at varint_in section_facts
two_leaves_one_block = refl

one_leaf_two_blocks : all_in (tree_field two ++ copies 2 one_block) ≡ at 88 kinds.BadPlace ∷ []
unfolding message_from field_at varint_in section_facts
one_leaf_two_blocks = refl

first_place_wrong : all_in (tree_field (small_leaf 0 0 2 2 (1 ∷ [])) ++ one_block) ≡ at 54 kinds.BadPlace ∷ []
unfolding message_from field_at varint_in section_facts
first_place_wrong = refl

no_tree : all_in (tree_field [] ++ copies 2 one_block) ≡ at 46 kinds.BadPlace ∷ at 78 kinds.BadPlace ∷ []
unfolding message_from field_at varint_in section_facts
no_tree = refl

nothing : all_in (tree_field []) ≡ []
unfolding message_from field_at varint_in section_facts
nothing = refl

-- told at its leaf
second_block_out_of_its_box : all_in (tree_field (edges 0 0 2 2 ++ two_at (0 ∷ []) ++ two_at (32 ∷ [])) ++ one_block ++ block_field [] (record_field n_least 0 0 0 (6 ∷ 0 ∷ []))) ≡ at 82 kinds.BadBox ∷ []
unfolding message_from field_at varint_in section_facts
second_block_out_of_its_box = refl

-- each block has its own texts
texts_of_the_second_block : all_in (tree_field (edges 0 0 2 2 ++ two_at (0 ∷ []) ++ two_at (32 ∷ [])) ++ one_block ++ block_field (10 ∷ 0 ∷ []) first_node) ≡ at 142 kinds.BadText ∷ []
unfolding message_from field_at varint_in section_facts is_utf8 chars encode
texts_of_the_second_block = refl

-- 2^48 + 1 in both: a sum over blocks would be no ordinal
each_block_begins_anew : all_in (tree_field (edges 0 0 2 2 ++ two_at (0 ∷ []) ++ two_at (38 ∷ [])) ++ copies 2 (block_field [] (record_field n1 0 0 0 point))) ≡ []
unfolding message_from field_at varint_in section_facts
each_block_begins_anew = refl

-- Records.

abbrev with_names : List ℕ
with_names =
    small (10 ∷ 1 ∷ 97 ∷ 10 ∷ 1 ∷ 98 ∷ [])
    (record_field n1 0 0 2 (2 ∷ 4 ∷ []) ++ record_field (128 ∷ 128 ∷ 128 ∷ 128 ∷ 128 ∷ 128 ∷ 128 ∷ 2 ∷ []) 1 1 0 (4 ∷ 4 ∷ 1 ∷ 0 ∷ []))

names_sound : all_in with_names ≡ []
unfolding message_from field_at varint_in section_facts is_utf8 chars encode
names_sound = refl

names_listed : records (message_at (Boxes Map) (in_file with_names))
    ≡ record { id = record { kind = Node; number = pos 1 }; rule = 0; shape = shapes.Point; name = codes "b"; points = record { x = 1; y = 2 } ∷ [] }
    ∷ record { id = record { kind = Way; number = pos 1 }; rule = 1; shape = shapes.Line; name = []; points = record { x = 2; y = 2 } ∷ record { x = 1; y = 2 } ∷ [] } ∷ []
unfolding message_from field_at varint_in
names_listed = refl

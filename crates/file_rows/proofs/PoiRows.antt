-- Worked rows of points of interest: groups as a writer packs them, what has to hold of them, and the records that they stand for.
use Rattle.std.specs.Prelude.{◌≡◌, ℕ, ◌+◌, List, [], ◌∷◌, ◌++◌, length, take, map, codes, refl, pos, Result, Ok, Err, Option, Some, None, filter_map}
use Rattle.std.specs.List.{range_with_len}
use Rattle.std.specs.Str.{is_utf8, chars}
use Rattle.std.proofs.Math.Utf8.{encode}
use Rattle.live_model.specs.declared.points.Point.{Point}
use Rattle.live_model.specs.declared.records.PoiRec.{PoiRec}
use Rattle.live_model.specs.declared.ids.Kind.{Kind}
use Rattle.live_model.specs.declared.ids.Kind.TheVariants.{Node, Way}
use Rattle.obf_wire.specs.declared.file.FileBreak.{FileBreak}
use Rattle.obf_wire.specs.declared.file.FileKind.{FileKind}
use Rattle.obf_wire.specs.declared.file.FileKind.TheVariants as kinds
use Rattle.obf_wire.specs.Fields.{Window, field_at}
use Rattle.obf_wire.specs.Varint as X
use Rattle.obf_wire.specs.Varint.{varint, varint_in}
use Rattle.box_tree.specs.Packing.{code, interleave}
use Rattle.file_grammar.specs.declared.parts.Boxed.TheVariants.{Poi}
use Rattle.file_grammar.specs.declared.parts.Part.TheVariants.{Boxes, Pois}
use Rattle.file_grammar.specs.BoxRules.{Beside, section_facts}
use Rattle.file_grammar.specs.Facts.{failing}
use Rattle.file_grammar.specs.Messages.{Fields, ends, has_number, has_bytes, has_numbers, has_message}
use Rattle.file_grammar.specs.PoiRules.{groups_facts, poi_boxing, poi_records_in}
use Rattle.file_grammar.specs.Readings.{message_at, message_from}
use Rattle.file_grammar.specs.Sections.{section_in}
use Rattle.boxed_write.specs.Packed.{packed}
use Rattle.poi_section.specs.Packed.{packed_pois, poi_packing}

abbrev wide : ℕ → List ℕ
wide n = 0 ∷ 0 ∷ 0 ∷ 0 ∷ 0 ∷ 0 ∷ 0 ∷ n ∷ []

abbrev poi : Kind → ℕ → List ℕ → List ℕ → ℕ → ℕ → PoiRec
poi kind number category name x y = record { id = record { kind = kind; number = pos number }; category = category; name = name; point = record { x = x; y = y } }

abbrev n1 : PoiRec
n1 = poi Node 1 (codes "cafe") (codes "b") 1 2

abbrev n2 : PoiRec
n2 = poi Node 2 (codes "cafe") [] 0 0

abbrev w1 : PoiRec
w1 = poi Way 1 (codes "bar") (codes "a") 2 2

-- ---- packed

-- a record names its text by 1, and does not spell its category
section_of_one : packed poi_packing (n1 ∷ [])
    ≡ (14 ∷ wide 10) ++ (8 ∷ 1 ∷ 16 ∷ 2 ∷ 24 ∷ 1 ∷ 32 ∷ 2 ∷ 40 ∷ 0 ∷ []) ++ (22 ∷ wide 28) ++ (14 ∷ wide 3) ++ (10 ∷ 1 ∷ 98 ∷ [])
    ++ (18 ∷ 14 ∷ 8 ∷ 129 ∷ 128 ∷ 128 ∷ 128 ∷ 128 ∷ 128 ∷ 64 ∷ 16 ∷ 1 ∷ 26 ∷ 2 ∷ 2 ∷ 4 ∷ [])
unfolding packed code interleave varint X.groups
section_of_one = refl

-- two categories, given out of order: `bar` stands first, and `cafe` has its two records in one block
groups_of_two : packed_pois (n2 ∷ w1 ∷ n1 ∷ [])
    ≡ (14 ∷ wide 71) ++ (10 ∷ 3 ∷ 98 ∷ 97 ∷ 114 ∷ []) ++ (22 ∷ wide 57)
    ++ (14 ∷ wide 10) ++ (8 ∷ 2 ∷ 16 ∷ 2 ∷ 24 ∷ 2 ∷ 32 ∷ 2 ∷ 40 ∷ 0 ∷ []) ++ (22 ∷ wide 29) ++ (14 ∷ wide 3) ++ (10 ∷ 1 ∷ 97 ∷ [])
    ++ (18 ∷ 15 ∷ 8 ∷ 129 ∷ 128 ∷ 128 ∷ 128 ∷ 128 ∷ 128 ∷ 192 ∷ 2 ∷ 16 ∷ 1 ∷ 26 ∷ 2 ∷ 4 ∷ 4 ∷ [])
    ++ (14 ∷ wide 81) ++ (10 ∷ 4 ∷ 99 ∷ 97 ∷ 102 ∷ 101 ∷ []) ++ (22 ∷ wide 66)
    ++ (14 ∷ wide 10) ++ (8 ∷ 0 ∷ 16 ∷ 0 ∷ 24 ∷ 1 ∷ 32 ∷ 2 ∷ 40 ∷ 0 ∷ []) ++ (22 ∷ wide 38) ++ (14 ∷ wide 3) ++ (10 ∷ 1 ∷ 98 ∷ [])
    ++ (18 ∷ 14 ∷ 8 ∷ 129 ∷ 128 ∷ 128 ∷ 128 ∷ 128 ∷ 128 ∷ 64 ∷ 16 ∷ 1 ∷ 26 ∷ 2 ∷ 2 ∷ 4 ∷ [])
    ++ (18 ∷ 8 ∷ 8 ∷ 1 ∷ 16 ∷ 0 ∷ 26 ∷ 2 ∷ 0 ∷ 0 ∷ [])
unfolding packed_pois packed code interleave varint X.groups
groups_of_two = refl

groups_of_none : packed_pois [] ≡ []
unfolding packed_pois
groups_of_none = refl

-- a record that stands twice is packed twice, in one group
twice : packed_pois (n2 ∷ n2 ∷ [])
    ≡ (14 ∷ wide 78) ++ (10 ∷ 4 ∷ 99 ∷ 97 ∷ 102 ∷ 101 ∷ []) ++ (22 ∷ wide 63)
    ++ (14 ∷ wide 10) ++ (8 ∷ 0 ∷ 16 ∷ 0 ∷ 24 ∷ 0 ∷ 32 ∷ 0 ∷ 40 ∷ 0 ∷ []) ++ (22 ∷ wide 35) ++ (14 ∷ wide 0)
    ++ (18 ∷ 14 ∷ 8 ∷ 130 ∷ 128 ∷ 128 ∷ 128 ∷ 128 ∷ 128 ∷ 64 ∷ 16 ∷ 0 ∷ 26 ∷ 2 ∷ 0 ∷ 0 ∷ [])
    ++ (18 ∷ 8 ∷ 8 ∷ 0 ∷ 16 ∷ 0 ∷ 26 ∷ 2 ∷ 0 ∷ 0 ∷ [])
unfolding packed_pois packed code interleave varint X.groups
twice = refl

-- 65 nodes of one category, node k at (k, 0): two leaves, and the second names its block by the 664 bytes of the first

abbrev along : ℕ → PoiRec
along k = poi Node k (codes "c") [] k 0

two_blocks : take 110 (packed_pois (map along (range_with_len 0 65)))
    ≡ (14 ∷ 0 ∷ 0 ∷ 0 ∷ 0 ∷ 0 ∷ 0 ∷ 2 ∷ 255 ∷ []) ++ (10 ∷ 1 ∷ 99 ∷ []) ++ (22 ∷ 0 ∷ 0 ∷ 0 ∷ 0 ∷ 0 ∷ 0 ∷ 2 ∷ 243 ∷ [])
    ++ (14 ∷ wide 47) ++ (8 ∷ 0 ∷ 16 ∷ 0 ∷ 24 ∷ 64 ∷ 32 ∷ 0 ∷ []) ++ (54 ∷ wide 10) ++ (8 ∷ 0 ∷ 16 ∷ 0 ∷ 24 ∷ 63 ∷ 32 ∷ 0 ∷ 40 ∷ 0 ∷ [])
    ++ (54 ∷ wide 11) ++ (8 ∷ 64 ∷ 16 ∷ 0 ∷ 24 ∷ 64 ∷ 32 ∷ 0 ∷ 40 ∷ 152 ∷ 5 ∷ []) ++ (22 ∷ 0 ∷ 0 ∷ 0 ∷ 0 ∷ 0 ∷ 0 ∷ 2 ∷ 143 ∷ []) ++ (14 ∷ wide 0)
    ++ (18 ∷ 14 ∷ 8 ∷ 128 ∷ 128 ∷ 128 ∷ 128 ∷ 128 ∷ 128 ∷ 64 ∷ 16 ∷ 0 ∷ 26 ∷ 2 ∷ 0 ∷ [])
unfolding packed_pois packed code interleave varint X.groups
two_blocks = refl

-- ---- what has to hold of a record

-- A section with a leaf from (0, 0) to (2, 2), whose left edge stands at 9, and a block of one record without texts: its step
-- stands at 39, and, for an ordinal of seven bytes, its name at 47 and its steps to its point at 49.

abbrev in_memory : List ℕ → Window
in_memory bytes = record { bytes = bytes; place = 0; end = length bytes }

abbrev at : ℕ → FileKind → FileBreak
at place kind = record { at = place; kind = kind }

abbrev section : List ℕ → ℕ → List ℕ → List ℕ
section id name points =
    (14 ∷ wide 10) ++ (8 ∷ 0 ∷ 16 ∷ 0 ∷ 24 ∷ 2 ∷ 32 ∷ 2 ∷ 40 ∷ 0 ∷ []) ++ (22 ∷ wide (16 + length id + length points)) ++ (14 ∷ wide 0)
    ++ 18 ∷ (5 + length id + length points) ∷ 8 ∷ id ++ 16 ∷ name ∷ 26 ∷ length points ∷ points

-- all that fails, in the order of the definition
abbrev all_of : Beside → Result Fields FileBreak → List FileBreak
all_of there (Err b) = b ∷ []
all_of there (Ok fields) = filter_map failing (section_facts poi_boxing there (section_in fields))

abbrev beside : Beside
beside = record { rules = []; marks = None }

abbrev all_in : List ℕ → List FileBreak
all_in bytes = all_of beside (message_at (Boxes Poi) (in_memory bytes))

-- node 1
abbrev node : List ℕ
node = 129 ∷ 128 ∷ 128 ∷ 128 ∷ 128 ∷ 128 ∷ 64 ∷ []

good : all_in (section node 0 (2 ∷ 2 ∷ [])) ≡ []
unfolding message_from field_at varint_in section_facts
good = refl

-- there is no text
no_such_name : all_in (section node 1 (2 ∷ 2 ∷ [])) ≡ at 47 kinds.BadRef ∷ []
unfolding message_from field_at varint_in section_facts
no_such_name = refl

-- relation 1, and the number 2^49 + 1, which is no object's
of_a_relation : all_in (section (129 ∷ 128 ∷ 128 ∷ 128 ∷ 128 ∷ 128 ∷ 192 ∷ 4 ∷ []) 0 (2 ∷ 2 ∷ [])) ≡ at 39 kinds.BadId ∷ []
unfolding message_from field_at varint_in section_facts
of_a_relation = refl

of_no_object : all_in (section (129 ∷ 128 ∷ 128 ∷ 128 ∷ 128 ∷ 128 ∷ 128 ∷ 1 ∷ []) 0 (2 ∷ 2 ∷ [])) ≡ at 39 kinds.BadId ∷ []
unfolding message_from field_at varint_in section_facts
of_no_object = refl

two_points : all_in (section node 0 (2 ∷ 2 ∷ 0 ∷ 0 ∷ [])) ≡ at 49 kinds.BadPoint ∷ []
unfolding message_from field_at varint_in section_facts
two_points = refl

no_point : all_in (section node 0 []) ≡ at 49 kinds.BadPoint ∷ []
unfolding message_from field_at varint_in section_facts
no_point = refl

-- x is 3,600,000,001, of which no box is asked
off_the_grid : all_in (section node 0 (130 ∷ 144 ∷ 157 ∷ 233 ∷ 26 ∷ 0 ∷ [])) ≡ at 49 kinds.BadPoint ∷ []
unfolding message_from field_at varint_in section_facts
off_the_grid = refl

-- the point (3, 0) is outside its leaf
out_of_its_box : all_in (section node 0 (6 ∷ 0 ∷ [])) ≡ at 9 kinds.BadBox ∷ []
unfolding message_from field_at varint_in section_facts
out_of_its_box = refl

-- beside the marks of other objects
not_marked : all_of (record { rules = []; marks = Some (281474976710658 ∷ []) }) (message_at (Boxes Poi) (in_memory (section node 0 (2 ∷ 2 ∷ [])))) ≡ at 39 kinds.BadMark ∷ []
unfolding message_from field_at varint_in section_facts
not_marked = refl

-- ---- groups

-- a group at an offset, whose category stands 9 and whose records 20 behind it
abbrev group : ℕ → List ℕ → Fields → Fields → Fields
group place category boxed rest = has_message place 14 (has_bytes (place + 9) 10 category (has_message (place + 20) 22 boxed ends)) rest

-- boxes with the record of this step and one point at (1, 1) in a leaf from (0, 0) to (2, 2)
abbrev boxes : ℕ → ℕ → Fields
boxes place step =
    has_message place 14 (has_number (place + 9) 8 0 (has_number (place + 11) 16 0 (has_number (place + 13) 24 2 (has_number (place + 15) 32 2 (has_number (place + 17) 40 0 ends)))))
    (has_message (place + 19) 22 (has_message (place + 28) 14 ends (has_message (place + 37) 18 (has_number (place + 39) 8 step (has_number (place + 47) 16 0 (has_numbers (place + 49) 26 (2 ∷ 2 ∷ []) ends))) ends)) ends)

-- boxes without a block
abbrev no_block : ℕ → Fields
no_block place = has_message place 14 ends ends

abbrev all_groups : Fields → List FileBreak
all_groups fields = filter_map failing (groups_facts beside fields)

rising : all_groups (group 0 (codes "bar") (boxes 29 281474976710657) (group 200 (codes "cafe") (boxes 229 281474976710657) ends)) ≡ []
unfolding groups_facts section_facts
rising = refl

-- equal categories may stand side by side
equal : all_groups (group 0 (codes "bar") (boxes 29 281474976710657) (group 200 (codes "bar") (boxes 229 281474976710657) ends)) ≡ []
unfolding groups_facts section_facts
equal = refl

falling : all_groups (group 0 (codes "cafe") (boxes 29 281474976710657) (group 200 (codes "bar") (boxes 229 281474976710657) ends)) ≡ at 200 kinds.BadOrder ∷ []
unfolding groups_facts section_facts is_utf8 chars encode
falling = refl

-- a capital letter; the empty text; a byte that is not UTF-8, of which no order is asked
no_category : all_groups (group 0 (codes "Bar") (boxes 29 281474976710657) ends) ≡ at 9 kinds.BadText ∷ []
unfolding groups_facts section_facts
no_category = refl

empty_category : all_groups (group 0 [] (boxes 29 281474976710657) ends) ≡ at 9 kinds.BadText ∷ []
unfolding groups_facts section_facts
empty_category = refl

not_utf8 : all_groups (group 0 (255 ∷ []) (boxes 29 281474976710657) (group 200 (codes "bar") (boxes 229 281474976710657) ends)) ≡ at 9 kinds.BadText ∷ []
unfolding groups_facts section_facts is_utf8 chars encode
not_utf8 = refl

without_a_block : all_groups (group 0 (codes "bar") (no_block 29) ends) ≡ at 0 kinds.BadCount ∷ []
unfolding groups_facts section_facts
without_a_block = refl

-- each record is of the category of its group
records : poi_records_in (group 0 (codes "bar") (boxes 29 281474976710657) (group 200 (codes "cafe") (boxes 229 1407374883553281) ends))
    ≡ poi Node 1 (codes "bar") [] 1 1 ∷ poi Way 1 (codes "cafe") [] 1 1 ∷ []
records = refl

-- ---- the bytes of groups

abbrev all_of_groups : Result Fields FileBreak → List FileBreak
all_of_groups (Err b) = b ∷ []
all_of_groups (Ok fields) = all_groups fields

abbrev records_of : Result Fields FileBreak → List PoiRec
records_of (Err b) = []
records_of (Ok fields) = poi_records_in fields

-- a group with the section above
abbrev one_group : List ℕ → ℕ → List ℕ
one_group category name =
    let boxed = section node name (2 ∷ 2 ∷ []) in
    (14 ∷ wide (2 + length category + 9 + length boxed)) ++ (10 ∷ length category ∷ category) ++ (22 ∷ wide (length boxed)) ++ boxed

read_groups : records_of (message_at Pois (in_memory (one_group (codes "bar") 0 ++ one_group (codes "cafe") 0))) ≡ poi Node 1 (codes "bar") [] 1 1 ∷ poi Node 1 (codes "cafe") [] 1 1 ∷ []
unfolding message_from field_at varint_in
read_groups = refl

no_groups : all_of_groups (message_at Pois (in_memory [])) ≡ []
unfolding message_from field_at varint_in groups_facts
no_groups = refl

-- the second group stands at 76, its category at 85, and the number of its name at 146
groups_break : all_of_groups (message_at Pois (in_memory (one_group (codes "bar") 0 ++ one_group (codes "Bar") 1))) ≡ at 76 kinds.BadOrder ∷ at 85 kinds.BadText ∷ at 146 kinds.BadRef ∷ []
unfolding message_from field_at varint_in groups_facts section_facts is_utf8 chars encode
groups_break = refl

-- a group without its category, and a category without its records
no_category_field : message_at Pois (in_memory ((14 ∷ wide 9) ++ (22 ∷ wide 0))) ≡ Err (at 9 kinds.BadKey)
unfolding message_from field_at varint_in
no_category_field = refl

category_alone : message_at Pois (in_memory ((14 ∷ wide 3) ++ (10 ∷ 1 ∷ 97 ∷ []))) ≡ Err (at 12 kinds.Short)
unfolding message_from field_at varint_in
category_alone = refl

-- Worked rows of whole files.
use Rattle.std.specs.Prelude.{◌≡◌, ℕ, ◌+◌, List, [], ◌∷◌, ◌++◌, length, map, take, drop, refl, codes, pos, Option, Some, None, Result, Ok, Err, true, false, nat_lt, ◌^◌}
use Rattle.obf_wire.specs.Fields.{field_at}
use Rattle.obf_wire.specs.Varint.{varint_in}
use Rattle.obf_wire.specs.declared.file.FileBreak.{FileBreak}
use Rattle.obf_wire.specs.declared.file.FileKind.{FileKind}
use Rattle.obf_wire.specs.declared.file.FileKind.TheVariants as kinds
use Rattle.std.specs.Fmt.{digits}
use Rattle.std.specs.Str.{is_utf8, chars}
use Rattle.std.proofs.Math.Utf8.{encode}
use Rattle.caseless.proofs.Computing.{caseless}
use Rattle.name_fold.specs.Keys.{key}
use Rattle.text_pieces.specs.Lines.{lines_from, fields_from}
use Rattle.text_pieces.specs.Numbers.{number_of}
use Rattle.text_pieces.specs.Escapes.{character_of, unescaped, text_of, escaped}
use Rattle.live_model.specs.declared.classes.Class.TheVariants.{Map as MapClass}
use Rattle.live_model.specs.declared.ids.Kind.TheVariants.{Node}
use Rattle.live_model.specs.declared.shapes.Shape.TheVariants.{Point as PointShape}
use Rattle.live_model.specs.declared.records.Rec.{Rec}
use Rattle.live_model.specs.declared.records.Rec.TheVariants.{Map}
use Rattle.live_model.specs.Rules.{shape_of, admitted_of, zoom_of, poi_of, named_class, rule_fields, rule_of, rule_row, rule_line}
use Rattle.file_grammar.specs.declared.parts.Version.TheVariants.{One}
use Rattle.file_grammar.specs.declared.parts.Part.TheVariants.{File}
use Rattle.file_grammar.specs.Messages.{Fields, ends, IsMessage}
use Rattle.file_grammar.specs.Readings.{IsInMemory, message_from, message_at}
use Rattle.file_grammar.specs.BoxRules.{section_facts}
use Rattle.file_grammar.specs.PoiRules.{groups_facts}
use Rattle.file_grammar.specs.AddressRules.{keyed_facts}
use Rattle.file_grammar.specs.Files.{HeadNumbers, FileParts, file_break, file_facts, file_in, file_records, is_hour, is_head, whole, IsFile}
use Rattle.file_grammar.specs.Facts.{first_failing}
use Rattle.file_grammar.proofs.Earlier.{one_first_break_law}
use Rattle.file_grammar.proofs.ReadIsSpelled.{read_is_spelled}
use Rattle.std.specs.List.{AllByRecursion, list_all}
use Rattle.std.proofs.lemmas.Bool.{ltb-true, leb-true, and_parts}
use Rattle.std.proofs.Common.{◌<◌}

abbrev wide : ℕ → List ℕ
wide n = 0 ∷ 0 ∷ 0 ∷ 0 ∷ 0 ∷ 0 ∷ 0 ∷ n ∷ []

-- behind the map section
abbrev behind : List ℕ → List ℕ
behind marks =
    (62 ∷ wide 18) ++ (14 ∷ wide 0) ++ (22 ∷ wide 0) ++ (70 ∷ wide 0) ++ (78 ∷ wide 36) ++ (14 ∷ wide 9) ++ (14 ∷ wide 0) ++ (22 ∷ wide 9) ++ (14 ∷ wide 0)
    ++ (134 ∷ 1 ∷ wide (length marks)) ++ marks

-- the base of this version, which says this version again at its end
abbrev base_with : ℕ → ℕ → List ℕ
base_with version again = (8 ∷ version ∷ 18 ∷ 6 ∷ 8 ∷ 0 ∷ 16 ∷ 0 ∷ 24 ∷ 0 ∷ 26 ∷ 0 ∷ []) ++ (54 ∷ wide 9) ++ (14 ∷ wide 0) ++ behind (10 ∷ 0 ∷ []) ++ (128 ∷ 2 ∷ again ∷ [])

abbrev base : List ℕ
base = base_with 1 1

abbrev broken : ℕ → FileKind → Option FileBreak
broken at kind = Some (record { at = at; kind = kind })

abbrev with_byte : ℕ → ℕ → List ℕ
with_byte place value = take place base ++ value ∷ drop (place + 1) base

base_is_good : file_break base ≡ None
unfolding message_from field_at varint_in file_facts section_facts keyed_facts groups_facts lines_from
base_is_good = refl

-- Both versions, and no other. Each says itself again at its end.

bytes_of_second : length (base_with 2 2) ≡ 126
bytes_of_second = refl

second_is_good : file_break (base_with 2 2) ≡ None
unfolding message_from field_at varint_in file_facts section_facts keyed_facts groups_facts lines_from
second_is_good = refl

first_again_in_second : file_break (base_with 2 1) ≡ broken 123 kinds.BadConfirm
unfolding message_from field_at varint_in file_facts section_facts keyed_facts groups_facts lines_from
first_again_in_second = refl

second_again_in_first : file_break (base_with 1 2) ≡ broken 123 kinds.BadConfirm
unfolding message_from field_at varint_in file_facts section_facts keyed_facts groups_facts lines_from
second_again_in_first = refl

third_version : file_break (base_with 3 3) ≡ broken 0 kinds.BadVersion
unfolding message_from field_at varint_in file_facts section_facts keyed_facts groups_facts lines_from
third_version = refl

no_version : file_break (base_with 0 0) ≡ broken 0 kinds.BadVersion
unfolding message_from field_at varint_in file_facts section_facts keyed_facts groups_facts lines_from
no_version = refl

-- The base of `n1 Tplace=town x0 y0` with no rule for it: one address, a town `a`, in the form of this version, with these bytes behind
-- its points.

abbrev with_address : ℕ → List ℕ → List ℕ
with_address version lang =
    (8 ∷ version ∷ 18 ∷ 6 ∷ 8 ∷ 0 ∷ 16 ∷ 0 ∷ 24 ∷ 0 ∷ 26 ∷ 0 ∷ []) ++ (54 ∷ wide 9) ++ (14 ∷ wide 0)
    ++ (62 ∷ wide (69 + length lang)) ++ (14 ∷ wide (51 + length lang)) ++ (10 ∷ 8 ∷ 10 ∷ 1 ∷ 97 ∷ 18 ∷ 1 ∷ 97 ∷ 24 ∷ 0 ∷ []) ++ (22 ∷ wide (32 + length lang))
    ++ (10 ∷ (30 + length lang) ∷ 8 ∷ 129 ∷ 128 ∷ 128 ∷ 128 ∷ 128 ∷ 128 ∷ 64 ∷ 16 ∷ 0 ∷ 26 ∷ 1 ∷ 97 ∷ 34 ∷ 1 ∷ 97 ∷ 42 ∷ 0 ∷ 50 ∷ 10 ∷ 128 ∷ 200 ∷ 206 ∷ 180 ∷ 13 ∷ 128
    ∷ 164 ∷ 167 ∷ 218 ∷ 6 ∷ []) ++ lang ++ (22 ∷ wide 0) ++ drop 57 (base_with version version)

address_of_first : file_break (with_address 1 []) ≡ None
unfolding message_from field_at varint_in file_facts section_facts keyed_facts groups_facts lines_from is_utf8 chars encode key caseless
address_of_first = refl

language_in_first : file_break (with_address 1 (58 ∷ 0 ∷ [])) ≡ broken 99 kinds.BadKey
unfolding message_from field_at varint_in
language_in_first = refl

address_of_second : file_break (with_address 2 (58 ∷ 0 ∷ [])) ≡ None
unfolding message_from field_at varint_in file_facts section_facts keyed_facts groups_facts lines_from is_utf8 chars encode key caseless
address_of_second = refl

no_language_in_second : file_break (with_address 2 []) ≡ broken 99 kinds.Short
unfolding message_from field_at varint_in
no_language_in_second = refl

no_level : file_break (with_byte 5 4) ≡ broken 2 kinds.BadHead
unfolding message_from field_at varint_in file_facts section_facts keyed_facts groups_facts lines_from
no_level = refl

hour_without_stamps : file_break (with_byte 5 1) ≡ broken 2 kinds.BadHead
unfolding message_from field_at varint_in file_facts section_facts keyed_facts groups_facts lines_from
hour_without_stamps = refl

base_with_a_mark : file_break (take 111 base ++ (134 ∷ 1 ∷ wide 3) ++ 10 ∷ 1 ∷ 5 ∷ 128 ∷ 2 ∷ 1 ∷ []) ≡ broken 121 kinds.BadMark
unfolding message_from field_at varint_in file_facts section_facts keyed_facts groups_facts lines_from
base_with_a_mark = refl

leap_day : is_hour 2024022923 ≡ true
leap_day = refl

no_leap_day : is_hour 2023022900 ≡ false
no_leap_day = refl

day_in_one_day : is_head (record { level = 2; first = 2024010100; last = 2024010123 }) ≡ true
day_in_one_day = refl

day_in_two_days : is_head (record { level = 2; first = 2024010100; last = 2024010200 }) ≡ false
day_in_two_days = refl

-- The base of `n1 x0 y0 Ta=b` under `point a b 0 map`, with this right edge of its leaf.

abbrev section : List ℕ → List ℕ
section right =
    (14 ∷ wide 26) ++ (8 ∷ 128 ∷ 164 ∷ 167 ∷ 218 ∷ 6 ∷ []) ++ (16 ∷ 128 ∷ 210 ∷ 147 ∷ 173 ∷ 3 ∷ []) ++ (24 ∷ right) ++ (32 ∷ 128 ∷ 210 ∷ 147 ∷ 173 ∷ 3 ∷ []) ++ (40 ∷ 0 ∷ [])
    ++ (22 ∷ wide 37) ++ (14 ∷ wide 0) ++ 18 ∷ 26 ∷ 8 ∷ 129 ∷ 128 ∷ 128 ∷ 128 ∷ 128 ∷ 128 ∷ 64 ∷ 16 ∷ 0 ∷ 24 ∷ 0 ∷ 32 ∷ 0 ∷ 42 ∷ 10 ∷ 128 ∷ 200 ∷ 206 ∷ 180 ∷ 13 ∷ 128
    ∷ 164 ∷ 167 ∷ 218 ∷ 6 ∷ []

abbrev one_node : List ℕ → List ℕ → List ℕ
one_node rules right =
    (8 ∷ 1 ∷ 18 ∷ 6 ∷ 8 ∷ 0 ∷ 16 ∷ 0 ∷ 24 ∷ 0 ∷ 26 ∷ length rules ∷ []) ++ rules ++ (54 ∷ wide 81) ++ section right ++ behind (10 ∷ 0 ∷ []) ++ (128 ∷ 2 ∷ 1 ∷ [])

abbrev drawn : List ℕ
drawn = codes "point a b 0 map" ++ 10 ∷ []

rules_of_drawn : length drawn ≡ 16
rules_of_drawn = refl

one_node_is_good : file_break (one_node drawn (128 ∷ 164 ∷ 167 ∷ 218 ∷ 6 ∷ [])) ≡ None
unfolding message_from field_at varint_in file_facts section_facts keyed_facts groups_facts lines_from fields_from number_of character_of unescaped text_of escaped shape_of admitted_of zoom_of poi_of named_class rule_fields rule_of rule_row rule_line digits is_utf8 chars encode
one_node_is_good = refl

right_edge_lower : file_break (one_node drawn (255 ∷ 163 ∷ 167 ∷ 218 ∷ 6 ∷ [])) ≡ broken 46 kinds.BadBox
unfolding message_from field_at varint_in file_facts section_facts keyed_facts groups_facts lines_from fields_from number_of character_of unescaped text_of escaped shape_of admitted_of zoom_of poi_of named_class rule_fields rule_of rule_row rule_line digits is_utf8 chars encode
right_edge_lower = refl

-- a zoom with a leading zero is not canonical; that comes before what fails behind it
not_canonical : file_break (one_node (codes "point a b 00 map" ++ 10 ∷ []) (255 ∷ 163 ∷ 167 ∷ 218 ∷ 6 ∷ [])) ≡ broken 10 kinds.BadRules
unfolding message_from field_at varint_in file_facts section_facts keyed_facts groups_facts lines_from fields_from number_of character_of unescaped text_of escaped shape_of admitted_of zoom_of poi_of named_class rule_fields rule_of rule_row rule_line digits is_utf8 chars encode
not_canonical = refl

-- A file above a base, under that rule: at this level, with these hours, with this map section, with these marks.

abbrev file_above : ℕ → List ℕ → List ℕ → List ℕ → List ℕ → List ℕ
file_above level first last boxed marks =
    (8 ∷ 1 ∷ 18 ∷ 14 ∷ 8 ∷ level ∷ 16 ∷ []) ++ first ++ (24 ∷ last) ++ (26 ∷ 16 ∷ drawn) ++ (54 ∷ wide (length boxed)) ++ boxed
    ++ behind (10 ∷ length marks ∷ marks) ++ (128 ∷ 2 ∷ 1 ∷ [])

-- with that one record
abbrev above : ℕ → List ℕ → List ℕ → List ℕ → List ℕ
above level first last marks = file_above level first last (section (128 ∷ 164 ∷ 167 ∷ 218 ∷ 6 ∷ [])) marks

-- hours by their numbers: 2023022900, 2024010100, 2024010123, 2024010200
abbrev no_day : List ℕ
no_day = 180 ∷ 194 ∷ 211 ∷ 196 ∷ 7 ∷ []

abbrev new_year : List ℕ
new_year = 244 ∷ 226 ∷ 143 ∷ 197 ∷ 7 ∷ []

abbrev late_evening : List ℕ
late_evening = 139 ∷ 227 ∷ 143 ∷ 197 ∷ 7 ∷ []

abbrev next_day : List ℕ
next_day = 216 ∷ 227 ∷ 143 ∷ 197 ∷ 7 ∷ []

-- ordinals: of n1, of n2, and one that is no object's, since it is greater by one than that of the last node
abbrev of_n1 : List ℕ
of_n1 = 129 ∷ 128 ∷ 128 ∷ 128 ∷ 128 ∷ 128 ∷ 64 ∷ []

abbrev of_n2 : List ℕ
of_n2 = 130 ∷ 128 ∷ 128 ∷ 128 ∷ 128 ∷ 128 ∷ 64 ∷ []

abbrev of_none : List ℕ
of_none = 129 ∷ 128 ∷ 128 ∷ 128 ∷ 128 ∷ 128 ∷ 128 ∷ 1 ∷ []

hour_is_good : file_break (above 1 new_year new_year of_n1) ≡ None
unfolding message_from field_at varint_in file_facts section_facts keyed_facts groups_facts lines_from fields_from number_of character_of unescaped text_of escaped shape_of admitted_of zoom_of poi_of named_class rule_fields rule_of rule_row rule_line digits is_utf8 chars encode
hour_is_good = refl

record_without_mark : file_break (above 1 new_year new_year of_n2) ≡ broken 100 kinds.BadMark
unfolding message_from field_at varint_in file_facts section_facts keyed_facts groups_facts lines_from fields_from number_of character_of unescaped text_of escaped shape_of admitted_of zoom_of poi_of named_class rule_fields rule_of rule_row rule_line digits is_utf8 chars encode
record_without_mark = refl

no_marks : file_break (above 1 new_year new_year []) ≡ broken 100 kinds.BadMark
unfolding message_from field_at varint_in file_facts section_facts keyed_facts groups_facts lines_from fields_from number_of character_of unescaped text_of escaped shape_of admitted_of zoom_of poi_of named_class rule_fields rule_of rule_row rule_line digits is_utf8 chars encode
no_marks = refl

-- the record has no mark, and is not asked for one
marks_that_stand_still : file_break (above 1 new_year new_year (of_n2 ++ 0 ∷ [])) ≡ broken 217 kinds.BadOrder
unfolding message_from field_at varint_in file_facts section_facts keyed_facts groups_facts lines_from fields_from number_of character_of unescaped text_of escaped shape_of admitted_of zoom_of poi_of named_class rule_fields rule_of rule_row rule_line digits is_utf8 chars encode
marks_that_stand_still = refl

mark_of_no_object : file_break (above 1 new_year new_year of_none) ≡ broken 217 kinds.BadId
unfolding message_from field_at varint_in file_facts section_facts keyed_facts groups_facts lines_from fields_from number_of character_of unescaped text_of escaped shape_of admitted_of zoom_of poi_of named_class rule_fields rule_of rule_row rule_line digits is_utf8 chars encode
mark_of_no_object = refl

-- the first mark is that of the node -2^48, and the step behind it leads to n1
two_marks : file_break (above 1 new_year new_year (0 ∷ of_n1)) ≡ None
unfolding message_from field_at varint_in file_facts section_facts keyed_facts groups_facts lines_from fields_from number_of character_of unescaped text_of escaped shape_of admitted_of zoom_of poi_of named_class rule_fields rule_of rule_row rule_line digits is_utf8 chars encode
two_marks = refl

day_is_good : file_break (above 2 new_year late_evening of_n1) ≡ None
unfolding message_from field_at varint_in file_facts section_facts keyed_facts groups_facts lines_from fields_from number_of character_of unescaped text_of escaped shape_of admitted_of zoom_of poi_of named_class rule_fields rule_of rule_row rule_line digits is_utf8 chars encode
day_is_good = refl

-- that the record has no mark is told at a later place
day_over_two_days : file_break (above 2 late_evening next_day of_n2) ≡ broken 2 kinds.BadHead
unfolding message_from field_at varint_in file_facts section_facts keyed_facts groups_facts lines_from fields_from number_of character_of unescaped text_of escaped shape_of admitted_of zoom_of poi_of named_class rule_fields rule_of rule_row rule_line digits is_utf8 chars encode
day_over_two_days = refl

month_of_two_days : file_break (above 3 late_evening next_day of_n1) ≡ None
unfolding message_from field_at varint_in file_facts section_facts keyed_facts groups_facts lines_from fields_from number_of character_of unescaped text_of escaped shape_of admitted_of zoom_of poi_of named_class rule_fields rule_of rule_row rule_line digits is_utf8 chars encode
month_of_two_days = refl

first_after_last : file_break (above 3 next_day late_evening of_n1) ≡ broken 2 kinds.BadHead
unfolding message_from field_at varint_in file_facts section_facts keyed_facts groups_facts lines_from fields_from number_of character_of unescaped text_of escaped shape_of admitted_of zoom_of poi_of named_class rule_fields rule_of rule_row rule_line digits is_utf8 chars encode
first_after_last = refl

day_that_is_none : file_break (above 1 no_day no_day of_n1) ≡ broken 2 kinds.BadHead
unfolding message_from field_at varint_in file_facts section_facts keyed_facts groups_facts lines_from fields_from number_of character_of unescaped text_of escaped shape_of admitted_of zoom_of poi_of named_class rule_fields rule_of rule_row rule_line digits is_utf8 chars encode
day_that_is_none = refl

base_with_hours : file_break (above 0 new_year new_year []) ≡ broken 2 kinds.BadHead
unfolding message_from field_at varint_in file_facts section_facts keyed_facts groups_facts lines_from fields_from number_of character_of unescaped text_of escaped shape_of admitted_of zoom_of poi_of named_class rule_fields rule_of rule_row rule_line digits is_utf8 chars encode
base_with_hours = refl

hour_of_two_hours : is_head (record { level = 1; first = 2024010100; last = 2024010101 }) ≡ false
hour_of_two_hours = refl

month_over_two_months : is_head (record { level = 3; first = 2024013123; last = 2024020100 }) ≡ false
month_over_two_months = refl

same_month_of_another_year : is_head (record { level = 3; first = 2023020100; last = 2024020100 }) ≡ false
same_month_of_another_year = refl

last_day_that_is_none : is_head (record { level = 3; first = 2024020100; last = 2024023000 }) ≡ false
last_day_that_is_none = refl

base_with_first_alone : is_head (record { level = 0; first = 2024010100; last = 0 }) ≡ false
base_with_first_alone = refl

first_hour : is_hour 10100 ≡ true
first_hour = refl

leap_day_of_year_0 : is_hour 22900 ≡ true
leap_day_of_year_0 = refl

last_hour : is_hour 9999123123 ≡ true
last_hour = refl

year_of_five_digits : is_hour 10000010100 ≡ false
year_of_five_digits = refl

hour_24 : is_hour 2024010124 ≡ false
hour_24 = refl

month_13 : is_hour 2024130100 ≡ false
month_13 = refl

day_0 : is_hour 2024010000 ≡ false
day_0 = refl

-- the line feed of the last of two rules is missing
no_last_line_feed : file_break (one_node (drawn ++ codes "line c * 12 road") (128 ∷ 164 ∷ 167 ∷ 218 ∷ 6 ∷ [])) ≡ broken 10 kinds.BadRules
unfolding message_from field_at varint_in file_facts section_facts keyed_facts groups_facts lines_from fields_from number_of character_of unescaped text_of escaped shape_of admitted_of zoom_of poi_of named_class rule_fields rule_of rule_row rule_line digits is_utf8 chars encode
no_last_line_feed = refl

two_rules_are_good : file_break (one_node (drawn ++ codes "line c * 12 road" ++ 10 ∷ []) (128 ∷ 164 ∷ 167 ∷ 218 ∷ 6 ∷ [])) ≡ None
unfolding message_from field_at varint_in file_facts section_facts keyed_facts groups_facts lines_from fields_from number_of character_of unescaped text_of escaped shape_of admitted_of zoom_of poi_of named_class rule_fields rule_of rule_row rule_line digits is_utf8 chars encode
two_rules_are_good = refl

record_without_rule : file_break (one_node [] (128 ∷ 164 ∷ 167 ∷ 218 ∷ 6 ∷ [])) ≡ broken 84 kinds.BadRef
unfolding message_from field_at varint_in file_facts section_facts keyed_facts groups_facts lines_from fields_from number_of character_of unescaped text_of escaped shape_of admitted_of zoom_of poi_of named_class rule_fields rule_of rule_row rule_line digits is_utf8 chars encode
record_without_rule = refl

-- Form comes before what has to hold.

no_bytes : file_break [] ≡ broken 0 kinds.Short
unfolding message_from field_at varint_in file_facts section_facts keyed_facts groups_facts lines_from
no_bytes = refl

one_byte_more : file_break (base ++ 0 ∷ []) ≡ broken 126 kinds.BadKey
unfolding message_from field_at varint_in file_facts section_facts keyed_facts groups_facts lines_from
one_byte_more = refl

cut_before_marks : file_break (take 111 base) ≡ broken 111 kinds.Short
unfolding message_from field_at varint_in file_facts section_facts keyed_facts groups_facts lines_from
cut_before_marks = refl

cut_in_key_of_marks : file_break (take 112 base) ≡ broken 111 kinds.Short
unfolding message_from field_at varint_in file_facts section_facts keyed_facts groups_facts lines_from
cut_in_key_of_marks = refl

cut_before_length_of_marks : file_break (take 113 base) ≡ broken 113 kinds.Short
unfolding message_from field_at varint_in file_facts section_facts keyed_facts groups_facts lines_from
cut_before_length_of_marks = refl

cut_in_length_of_marks : file_break (take 120 base) ≡ broken 113 kinds.Short
unfolding message_from field_at varint_in file_facts section_facts keyed_facts groups_facts lines_from
cut_in_length_of_marks = refl

cut_before_list_of_marks : file_break (take 121 base) ≡ broken 111 kinds.OverEnd
unfolding message_from field_at varint_in file_facts section_facts keyed_facts groups_facts lines_from
cut_before_list_of_marks = refl

cut_in_list_of_marks : file_break (take 122 base) ≡ broken 111 kinds.OverEnd
unfolding message_from field_at varint_in file_facts section_facts keyed_facts groups_facts lines_from
cut_in_list_of_marks = refl

cut_behind_marks : file_break (take 123 base) ≡ broken 123 kinds.Short
unfolding message_from field_at varint_in file_facts section_facts keyed_facts groups_facts lines_from
cut_behind_marks = refl

cut_in_key_of_last : file_break (take 124 base) ≡ broken 123 kinds.Short
unfolding message_from field_at varint_in file_facts section_facts keyed_facts groups_facts lines_from
cut_in_key_of_last = refl

cut_before_last : file_break (take 125 base) ≡ broken 125 kinds.Short
unfolding message_from field_at varint_in file_facts section_facts keyed_facts groups_facts lines_from
cut_before_last = refl

overlong_version : file_break (8 ∷ 129 ∷ 0 ∷ drop 2 base) ≡ broken 1 kinds.LongVarint
unfolding message_from field_at varint_in file_facts section_facts keyed_facts groups_facts lines_from
overlong_version = refl

length_past_the_end : file_break (take 13 base ++ 255 ∷ 255 ∷ 255 ∷ 255 ∷ 255 ∷ 255 ∷ 255 ∷ 255 ∷ drop 21 base) ≡ broken 12 kinds.OverEnd
unfolding message_from field_at varint_in file_facts section_facts keyed_facts groups_facts lines_from
length_past_the_end = refl

zeros : file_break (0 ∷ 0 ∷ 0 ∷ []) ≡ broken 0 kinds.BadKey
unfolding message_from field_at varint_in file_facts section_facts keyed_facts groups_facts lines_from
zeros = refl

bad_head_cut : file_break (take 125 (with_byte 5 4)) ≡ broken 125 kinds.Short
unfolding message_from field_at varint_in file_facts section_facts keyed_facts groups_facts lines_from
bad_head_cut = refl

bad_head_and_confirm : file_break (take 125 (with_byte 5 4) ++ 2 ∷ []) ≡ broken 2 kinds.BadHead
unfolding message_from field_at varint_in file_facts section_facts keyed_facts groups_facts lines_from
bad_head_and_confirm = refl

-- The parts: n2 in the first block and n1 in the second, whose leaf is to the east.

abbrev one_record : List ℕ → ℕ → List ℕ
one_record ordinal step =
    (22 ∷ wide 29) ++ (14 ∷ wide 0) ++ (18 ∷ 18 ∷ 8 ∷ ordinal) ++ 16 ∷ 0 ∷ 24 ∷ 0 ∷ 32 ∷ 0 ∷ 42 ∷ 2 ∷ step ∷ 0 ∷ []

abbrev two_leaves : List ℕ
two_leaves =
    (14 ∷ wide 46) ++ (8 ∷ 0 ∷ 16 ∷ 0 ∷ 24 ∷ 1 ∷ 32 ∷ 0 ∷ []) ++ (54 ∷ wide 10) ++ (8 ∷ 0 ∷ 16 ∷ 0 ∷ 24 ∷ 0 ∷ 32 ∷ 0 ∷ 40 ∷ 0 ∷ [])
    ++ (54 ∷ wide 10) ++ (8 ∷ 1 ∷ 16 ∷ 0 ∷ 24 ∷ 1 ∷ 32 ∷ 0 ∷ 40 ∷ 38 ∷ []) ++ one_record of_n2 0 ++ one_record of_n1 2

two_blocks_are_good : file_break (file_above 1 new_year new_year two_leaves (of_n1 ++ 1 ∷ [])) ≡ None
unfolding message_from field_at varint_in file_facts section_facts keyed_facts groups_facts lines_from fields_from number_of character_of unescaped text_of escaped shape_of admitted_of zoom_of poi_of named_class rule_fields rule_of rule_row rule_line digits is_utf8 chars encode
two_blocks_are_good = refl

second_block_without_mark : file_break (file_above 1 new_year new_year two_leaves of_n2) ≡ broken 158 kinds.BadMark
unfolding message_from field_at varint_in file_facts section_facts keyed_facts groups_facts lines_from fields_from number_of character_of unescaped text_of escaped shape_of admitted_of zoom_of poi_of named_class rule_fields rule_of rule_row rule_line digits is_utf8 chars encode
second_block_without_mark = refl

abbrev parts_of : Result Fields FileBreak → Option FileParts
parts_of (Err b) = None
parts_of (Ok fields) = file_in fields

abbrev head_of : Option FileParts → Option HeadNumbers
head_of None = None
head_of (Some file) = Some file.head.value

abbrev marks_of : Option FileParts → List ℕ
marks_of None = []
marks_of (Some file) = file.marks.value

abbrev records_of : Option FileParts → List Rec
records_of None = []
records_of (Some file) = file_records file

abbrev parts_of_two : Option FileParts
parts_of_two = parts_of (message_at (File One) (whole (file_above 1 new_year new_year two_leaves (of_n1 ++ 1 ∷ []))))

abbrev node_at : ℕ → ℕ → Rec
node_at number x = Map (record { id = record { kind = Node; number = pos number }; rule = 0; shape = PointShape; name = []; points = record { x = x; y = 0 } ∷ [] })

head_of_two : head_of parts_of_two ≡ Some (record { level = 1; first = 2024010100; last = 2024010100 })
unfolding message_from field_at varint_in
head_of_two = refl

marks_of_two : marks_of parts_of_two ≡ 281474976710657 ∷ 281474976710658 ∷ []
unfolding message_from field_at varint_in
marks_of_two = refl

three_marks : marks_of (parts_of (message_at (File One) (whole (above 1 new_year new_year (of_n1 ++ 3 ∷ 4 ∷ [])))))
    ≡ 281474976710657 ∷ 281474976710660 ∷ 281474976710664 ∷ []
unfolding message_from field_at varint_in
three_marks = refl

-- in the order of records, which is not that of the blocks
records_of_two : records_of parts_of_two ≡ node_at 1 1 ∷ node_at 2 0 ∷ []
unfolding message_from field_at varint_in
records_of_two = refl

-- The whole relation.

all_bytes : (xs : List ℕ) → list_all (λ b. nat_lt b 256) xs ≡ true → AllByRecursion (λ b. b < 256) xs
all_bytes [] e = tt
all_bytes (x ∷ xs) e = let both = and_parts (nat_lt x 256) (list_all (λ b. nat_lt b 256) xs) e in (ltb-true x 256 both.0, all_bytes xs both.1)

abbrev bytes_of_two : List ℕ
bytes_of_two = file_above 1 new_year new_year two_leaves (of_n1 ++ 1 ∷ [])

abbrev fields_of : Result Fields FileBreak → Fields
fields_of (Err b) = ends
fields_of (Ok fields) = fields

abbrev or_no_parts : Option FileParts → FileParts
or_no_parts None = record { version = 0; head = record { at = 0; value = record { level = 0; first = 0; last = 0 } }; rules = record { at = 0; value = [] }; map = ends; addresses = ends; pois = ends; roads = ends; marks = record { at = 0; value = [] }; again = record { at = 0; value = 0 } }
or_no_parts (Some file) = file

two_in_memory : IsInMemory (whole bytes_of_two)
two_in_memory = record {
  window = record { ordered = leb-true 0 (length bytes_of_two) refl; within = leb-true (length bytes_of_two) (length bytes_of_two) refl };
  bytes = all_bytes bytes_of_two refl;
  few = ltb-true (length bytes_of_two) (2 ^ 64) refl;
}

two_is_read : message_at (File One) (whole bytes_of_two) ≡ Ok (fields_of (message_at (File One) (whole bytes_of_two)))
unfolding message_from field_at varint_in
two_is_read = refl

two_is_message : IsMessage (File One) (whole bytes_of_two) (fields_of (message_at (File One) (whole bytes_of_two)))
two_is_message =
    let s = read_is_spelled (File One) None (whole bytes_of_two) (fields_of (message_at (File One) (whole bytes_of_two))) two_in_memory two_is_read in
    record { form = s.form; spelled = s.spelled }

none_fails : first_failing (file_facts (or_no_parts parts_of_two)) ≡ None
unfolding message_from field_at varint_in file_facts section_facts keyed_facts groups_facts lines_from fields_from number_of character_of unescaped text_of escaped shape_of admitted_of zoom_of poi_of named_class rule_fields rule_of rule_row rule_line digits is_utf8 chars encode
none_fails = refl

two_is_file : IsFile bytes_of_two One (record { level = 1; first = 2024010100; last = 2024010100 })
    (record { shape = PointShape; key = codes "a"; value = Some (codes "b"); zoom = 0; class = MapClass } ∷ []) (281474976710657 ∷ 281474976710658 ∷ [])
    (node_at 1 1 ∷ node_at 2 0 ∷ [])
unfolding message_from field_at varint_in file_facts section_facts keyed_facts groups_facts lines_from fields_from number_of character_of unescaped text_of escaped shape_of admitted_of zoom_of poi_of named_class rule_fields rule_of rule_row rule_line digits is_utf8 chars encode
two_is_file = record {
  fields = fields_of (message_at (File One) (whole bytes_of_two));
  parts = or_no_parts parts_of_two;
  form = two_is_message;
  parts_are = refl;
  sound = (one_first_break_law (file_facts (or_no_parts parts_of_two))).none.0 none_fails;
  head_is = refl;
  rules_are = refl;
  marks_are = refl;
  records_are = refl;
}

-- the order of two that are no object's is not asked
equal_marks_of_no_object : file_break (above 1 new_year new_year (of_none ++ 0 ∷ [])) ≡ broken 217 kinds.BadId
unfolding message_from field_at varint_in file_facts section_facts keyed_facts groups_facts lines_from fields_from number_of character_of unescaped text_of escaped shape_of admitted_of zoom_of poi_of named_class rule_fields rule_of rule_row rule_line digits is_utf8 chars encode
equal_marks_of_no_object = refl

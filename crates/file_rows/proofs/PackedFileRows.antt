-- Worked rows of whole files as a writer packs them.
use Rattle.std.specs.Prelude.{◌≡◌, ℕ, List, [], ◌∷◌, ◌++◌, length, map, codes, refl, pos, Option, Some, None, Result, Ok, Err}
use Rattle.std.specs.List.{range_with_len}
use Rattle.std.specs.Fmt.{digits}
use Rattle.std.specs.Str.{is_utf8, chars}
use Rattle.std.proofs.Math.Utf8.{encode}
use Rattle.live_model.specs.declared.classes.Class.TheVariants.{Map as MapClass, Road as RoadClass}
use Rattle.live_model.specs.declared.ids.Kind.TheVariants.{Node, Way, Relation}
use Rattle.live_model.specs.declared.shapes.Shape.TheVariants.{Point as PointShape, Line as LineShape}
use Rattle.live_model.specs.declared.addresses.AddrKind.TheVariants.{Place}
use Rattle.live_model.specs.declared.directions.Dir.TheVariants.{Forward}
use Rattle.live_model.specs.declared.records.Rec.{Rec}
use Rattle.live_model.specs.declared.records.Rec.TheVariants.{Map, Poi, Addr, Road, Ban}
use Rattle.live_model.specs.declared.rules.Rule.{Rule}
use Rattle.live_model.specs.Rules.{shape_of, admitted_of, zoom_of, poi_of, named_class, rule_fields, rule_of, rule_row, rule_line}
use Rattle.caseless.proofs.Computing.{caseless}
use Rattle.name_fold.specs.Keys.{key}
use Rattle.obf_wire.specs.declared.file.FileBreak.{FileBreak}
use Rattle.text_pieces.specs.Lines.{lines_from, fields_from}
use Rattle.text_pieces.specs.Numbers.{number_of}
use Rattle.text_pieces.specs.Escapes.{character_of, unescaped, text_of, escaped}
use Rattle.obf_wire.specs.Fields.{field_at}
use Rattle.obf_wire.specs.Varint as X
use Rattle.obf_wire.specs.Varint.{varint, varint_in}
use Rattle.box_tree.specs.Packing.{code, interleave}
use Rattle.file_grammar.specs.declared.parts.Part.TheVariants.{File}
use Rattle.file_grammar.specs.declared.parts.Version.TheVariants.{Two}
use Rattle.file_grammar.specs.Messages.{Fields}
use Rattle.file_grammar.specs.Readings.{message_at, message_from}
use Rattle.file_grammar.specs.BoxRules.{section_facts}
use Rattle.file_grammar.specs.AddressRules.{keyed_facts}
use Rattle.file_grammar.specs.PoiRules.{groups_facts}
use Rattle.file_grammar.specs.Files.{FileParts, HeadNumbers, file_break, file_facts, file_in, file_records, whole}
use Rattle.boxed_write.specs.Packed.{packed}
use Rattle.addr_section.specs.Packed.{packed_addresses}
use Rattle.poi_section.specs.Packed.{packed_pois}
use Rattle.obf_writer.specs.PackedFile.{packed_file}

abbrev wide : ℕ → List ℕ
wide n = 0 ∷ 0 ∷ 0 ∷ 0 ∷ 0 ∷ 0 ∷ 0 ∷ n ∷ []

-- behind the map section
abbrev behind : List ℕ → List ℕ
behind marks =
    (62 ∷ wide 18) ++ (14 ∷ wide 0) ++ (22 ∷ wide 0) ++ (70 ∷ wide 0) ++ (78 ∷ wide 36) ++ (14 ∷ wide 9) ++ (14 ∷ wide 0) ++ (22 ∷ wide 9) ++ (14 ∷ wide 0)
    ++ (134 ∷ 1 ∷ wide (length marks)) ++ marks ++ (128 ∷ 2 ∷ 2 ∷ [])

abbrev of_base : HeadNumbers
of_base = record { level = 0; first = 0; last = 0 }

base : packed_file of_base [] [] [] ≡ (8 ∷ 2 ∷ 18 ∷ 6 ∷ 8 ∷ 0 ∷ 16 ∷ 0 ∷ 24 ∷ 0 ∷ 26 ∷ 0 ∷ []) ++ (54 ∷ wide 9) ++ (14 ∷ wide 0) ++ behind (10 ∷ 0 ∷ [])
unfolding packed_file packed_addresses packed_pois packed code interleave varint X.groups
base = refl

bytes_of_base : length (packed_file of_base [] [] []) ≡ 126
unfolding packed_file packed_addresses packed_pois packed code interleave varint X.groups
bytes_of_base = refl

-- `point a b 0 map`
abbrev drawn : Rule
drawn = record { shape = PointShape; key = codes "a"; value = Some (codes "b"); zoom = 0; class = MapClass }

-- `n1 x0 y0 Ta=b`
abbrev only : Rec
only = Map (record { id = record { kind = Node; number = pos 1 }; rule = 0; shape = PointShape; name = []; points = record { x = 1800000000; y = 900000000 } ∷ [] })

abbrev of_only : List ℕ
of_only =
    (14 ∷ wide 26) ++ (8 ∷ 128 ∷ 164 ∷ 167 ∷ 218 ∷ 6 ∷ 16 ∷ 128 ∷ 210 ∷ 147 ∷ 173 ∷ 3 ∷ 24 ∷ 128 ∷ 164 ∷ 167 ∷ 218 ∷ 6 ∷ 32 ∷ 128 ∷ 210 ∷ 147 ∷ 173 ∷ 3 ∷ 40 ∷ 0 ∷ [])
    ++ (22 ∷ wide 37) ++ (14 ∷ wide 0) ++ 18 ∷ 26 ∷ 8 ∷ 129 ∷ 128 ∷ 128 ∷ 128 ∷ 128 ∷ 128 ∷ 64 ∷ 16 ∷ 0 ∷ 24 ∷ 0 ∷ 32 ∷ 0 ∷ 42 ∷ 10 ∷ 128 ∷ 200 ∷ 206 ∷ 180 ∷ 13 ∷ 128
    ∷ 164 ∷ 167 ∷ 218 ∷ 6 ∷ []

base_of_one : packed_file of_base (drawn ∷ []) [] (only ∷ [])
    ≡ (8 ∷ 2 ∷ 18 ∷ 6 ∷ 8 ∷ 0 ∷ 16 ∷ 0 ∷ 24 ∷ 0 ∷ 26 ∷ 16 ∷ []) ++ codes "point a b 0 map" ++ 10 ∷ (54 ∷ wide 81) ++ of_only ++ behind (10 ∷ 0 ∷ [])
unfolding packed_file packed_addresses packed_pois packed code interleave varint X.groups rule_row rule_line escaped digits is_utf8 chars encode
base_of_one = refl

-- the hour 2024-01-01-00 with the marks n1 and n4
hour_of_one : packed_file (record { level = 1; first = 2024010100; last = 2024010100 }) (drawn ∷ []) (281474976710657 ∷ 281474976710660 ∷ []) (only ∷ [])
    ≡ (8 ∷ 2 ∷ 18 ∷ 14 ∷ 8 ∷ 1 ∷ 16 ∷ 244 ∷ 226 ∷ 143 ∷ 197 ∷ 7 ∷ 24 ∷ 244 ∷ 226 ∷ 143 ∷ 197 ∷ 7 ∷ 26 ∷ 16 ∷ []) ++ codes "point a b 0 map" ++ 10 ∷ (54 ∷ wide 81) ++ of_only
    ++ behind (10 ∷ 8 ∷ 129 ∷ 128 ∷ 128 ∷ 128 ∷ 128 ∷ 128 ∷ 64 ∷ 3 ∷ [])
unfolding packed_file packed_addresses packed_pois packed code interleave varint X.groups rule_row rule_line escaped digits is_utf8 chars encode
hour_of_one = refl

-- What is packed has no break.

base_has_no_break : file_break (packed_file of_base [] [] []) ≡ None
unfolding packed_file packed_addresses packed_pois packed code interleave varint X.groups rule_row rule_line escaped digits is_utf8 chars encode message_from field_at varint_in file_facts section_facts keyed_facts groups_facts lines_from fields_from number_of character_of unescaped text_of shape_of admitted_of zoom_of poi_of named_class rule_fields rule_of
base_has_no_break = refl

hour_has_no_break : file_break (packed_file (record { level = 1; first = 2024010100; last = 2024010100 }) (drawn ∷ []) (281474976710657 ∷ 281474976710660 ∷ []) (only ∷ [])) ≡ None
unfolding packed_file packed_addresses packed_pois packed code interleave varint X.groups rule_row rule_line escaped digits is_utf8 chars encode message_from field_at varint_in file_facts section_facts keyed_facts groups_facts lines_from fields_from number_of character_of unescaped text_of shape_of admitted_of zoom_of poi_of named_class rule_fields rule_of
hour_has_no_break = refl

-- 65 nodes in two blocks, node k at (k, 0)
abbrev along : ℕ → Rec
along k = Map (record { id = record { kind = Node; number = pos k }; rule = 0; shape = PointShape; name = codes "a"; points = record { x = k; y = 0 } ∷ [] })

two_blocks_have_no_break : file_break (packed_file of_base (drawn ∷ []) [] (map along (range_with_len 0 65))) ≡ None
unfolding packed_file packed_addresses packed_pois packed code interleave varint X.groups rule_row rule_line escaped digits is_utf8 chars encode message_from field_at varint_in file_facts section_facts keyed_facts groups_facts lines_from fields_from number_of character_of unescaped text_of shape_of admitted_of zoom_of poi_of named_class rule_fields rule_of
two_blocks_have_no_break = refl

-- A record of each class: a node that is drawn, a cafe and a town, a way that is a road, and a restriction.

-- `line highway * 12 road`
abbrev driven : Rule
driven = record { shape = LineShape; key = codes "highway"; value = None; zoom = 12; class = RoadClass }

abbrev one_of_each : List Rec
one_of_each =
    only
    ∷ Poi (record { id = record { kind = Node; number = pos 1 }; category = codes "cafe"; name = codes "b"; point = record { x = 1800000000; y = 900000000 } })
    ∷ Addr (record { id = record { kind = Node; number = pos 1 }; kind = Place; lang = codes "de"; name = codes "a"; number = []; point = record { x = 1800000000; y = 900000000 } })
    ∷ Road (record {
      id = record { kind = Way; number = pos 20 };
      rule = 1;
      value = codes "track";
      dir = Forward;
      nodes = record { id = pos 1; point = record { x = 1; y = 2 } } ∷ record { id = pos 2; point = record { x = 3; y = 0 } } ∷ [];
    })
    ∷ Ban (record { id = record { kind = Relation; number = pos 1 }; value = codes "no_left_turn"; from = pos 20; via = pos 1; to = pos 21; point = record { x = 1; y = 2 } })
    ∷ []

each_has_no_break : file_break (packed_file of_base (drawn ∷ driven ∷ []) [] one_of_each) ≡ None
unfolding packed_file packed_addresses packed_pois packed code interleave varint X.groups rule_row rule_line escaped digits is_utf8 chars encode message_from field_at varint_in file_facts section_facts keyed_facts groups_facts lines_from fields_from number_of character_of unescaped text_of shape_of admitted_of zoom_of poi_of named_class rule_fields rule_of key caseless
each_has_no_break = refl

abbrev records_of : Option FileParts → List Rec
records_of None = []
records_of (Some file) = file_records file

abbrev records_in : Result Fields FileBreak → List Rec
records_in (Err b) = []
records_in (Ok fields) = records_of (file_in fields)

each_comes_back : records_in (message_at (File Two) (whole (packed_file of_base (drawn ∷ driven ∷ []) [] one_of_each))) ≡ one_of_each
unfolding packed_file packed_addresses packed_pois packed code interleave varint X.groups rule_row rule_line escaped digits is_utf8 chars encode message_from field_at varint_in lines_from fields_from number_of character_of unescaped text_of shape_of admitted_of zoom_of poi_of named_class rule_fields rule_of key caseless
each_comes_back = refl

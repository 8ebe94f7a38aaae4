-- What has to hold of points of interest in their groups, and the records that they stand for.
use Rattle.std.specs.Prelude.{ℕ, List, [], ◌∷◌, filter_map, flat_map, length, Bool, ◌&&◌, ◌||◌, not, nat_le, nat_lt, Option, Some, None}
use Rattle.std.specs.Ordering.{is_le}
use Rattle.std.specs.Str.{is_utf8}
use Rattle.live_model.specs.declared.records.PoiRec.{PoiRec}
use Rattle.live_model.specs.Rules.{is_category}
use Rattle.coord_delta.specs.Steps.{places}
use Rattle.text_table.specs.Tables.{text_cmp}
use Rattle.obf_wire.specs.declared.file.FileKind.TheVariants.{BadText, BadOrder, BadId, BadRef, BadPoint, BadMark, BadCount}
use Rattle.file_grammar.specs.Messages.{Fields, has_number, has_bytes, has_numbers, has_message}
use Rattle.file_grammar.specs.Facts.{Fact, fact}
use Rattle.file_grammar.specs.Sections.{Placed, placed, Entry, Block, Section, messages_in, object_of, section_in, text_of}
use Rattle.file_grammar.specs.BoxRules.{Beside, Boxing, follows, is_marked, is_ordinal, section_facts, with_before}
use Rattle.file_grammar.specs.Listed.{records_in}
use Rattle.file_grammar.specs.RecordRules.{is_node_or_way, is_one_location, only_point, ordinals_rise}

-- The records of a group.

-- the fields of a point of interest
pub record PoiFields : Type 0 where
  pub step : Placed ℕ
  pub name : Placed ℕ
  pub points : Placed (List ℕ)

-- none
abbrev pub no_poi : PoiFields
no_poi = record { step = placed 0 0; name = placed 0 0; points = placed 0 [] }

-- the three fields in their order
abbrev pub poi_fields : Fields → PoiFields
poi_fields (has_number a j step (has_number b k name (has_numbers c l points rest))) =
    record { step = placed a step; name = placed b name; points = placed c points }
poi_fields fields = no_poi

-- what has to hold of a record behind another, by its fields
abbrev pub poi_facts_of : Beside → Block → Option Entry × Entry → PoiFields → List Fact
poi_facts_of beside block pair f =
    fact pair.1.at BadOrder (follows ordinals_rise pair)
    ∷ fact f.step.at BadId (is_ordinal pair.1.ordinal && is_node_or_way pair.1.ordinal)
    ∷ fact f.step.at BadMark (is_marked beside.marks pair.1.ordinal)
    ∷ fact f.name.at BadRef (nat_le f.name.value (length block.texts))
    ∷ fact f.points.at BadPoint (is_one_location (places f.points.value))
    ∷ []

-- the same by the record as it stands
abbrev pub poi_facts : Beside → Block → Option Entry × Entry → List Fact
poi_facts beside block pair = poi_facts_of beside block pair (poi_fields pair.1.fields)

-- boxed points of interest
abbrev pub poi_boxing : Boxing
poi_boxing = record { facts = poi_facts; points = λ entry. places (poi_fields entry.fields).points.value }

-- Groups: a category, and its points of interest in boxes.

-- a group
pub record Group : Type 0 where
  pub at : ℕ
  pub category : Placed (List ℕ)
  pub section : Section

-- a group at an offset
abbrev pub group_with : ℕ → Fields → Option Group
group_with at (has_bytes a k category (has_message b l boxed rest)) =
    Some (record { at = at; category = placed a category; section = section_in boxed })
group_with at fields = None

-- the groups, in order
abbrev pub groups_in : Fields → List Group
groups_in fields = filter_map (λ m. group_with m.at m.value) (messages_in fields)

-- rising by the bytes of the category, where equal ones may stand side by side; it holds of one that is not UTF-8
abbrev pub categories_rise : Group → Group → Bool
categories_rise a b =
    is_le (text_cmp a.category.value b.category.value) || not (is_utf8 a.category.value && is_utf8 b.category.value)

-- what has to hold of a group behind another: it has a category and a block
abbrev pub group_facts : Beside → Option Group × Group → List Fact
group_facts beside pair =
    fact pair.1.at BadOrder (follows categories_rise pair)
    ∷ fact pair.1.category.at BadText (is_category pair.1.category.value)
    ∷ fact pair.1.at BadCount (nat_lt 0 (length pair.1.section.blocks))
    ∷ section_facts poi_boxing beside pair.1.section

-- all that has to hold of the groups of a section of good form
unfoldable pub groups_facts : Beside → Fields → List Fact
groups_facts beside fields = flat_map (group_facts beside) (with_before None (groups_in fields))

-- The records.

-- the record of a category by its fields
abbrev pub poi_record_of : List ℕ → Block → Entry → PoiFields → PoiRec
poi_record_of category block entry f = record {
  id = object_of entry.ordinal;
  category = category;
  name = text_of block.texts f.name.value;
  point = only_point (places f.points.value);
}

-- the record of a category that an entry of a block stands for
abbrev pub poi_read : List ℕ → Block → Entry → PoiRec
poi_read category block entry = poi_record_of category block entry (poi_fields entry.fields)

-- the records of a group, in the order of its blocks
abbrev pub group_records : Group → List PoiRec
group_records group = records_in (poi_read group.category.value) group.section

-- the records of a section, group by group
abbrev pub poi_records_in : Fields → List PoiRec
poi_records_in fields = flat_map group_records (groups_in fields)

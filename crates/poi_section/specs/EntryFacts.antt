-- The rules of a point of interest over what was read of it.
use Rattle.std.specs.Prelude.{◌≡◌, ℕ, List, [], ◌∷◌, Bool, true, ◌&&◌, ◌||◌, not, nat_le, ◌==◌, length, Option, Some, None}
use Rattle.std.specs.List.{list_all}
use Rattle.live_model.specs.declared.points.Rect.{Rect}
use Rattle.obf_wire.specs.declared.file.FileKind.TheVariants.{BadOrder, BadId, BadRef, BadPoint, BadMark}
use Rattle.coord_delta.specs.Steps.{places}
use Rattle.file_grammar.specs.BoxRules.{Beside, holds_place, is_marked, is_on_grid, is_ordinal}
use Rattle.file_grammar.specs.Facts.{Fact, fact}
use Rattle.file_grammar.specs.PoiRules.{PoiFields, poi_fields}
use Rattle.file_grammar.specs.RecordRules.{is_node_or_way}
use Rattle.file_grammar.specs.Sections.{Entry}
use Rattle.poi_section.specs.declared.record_rules.EntrySeen.{EntrySeen}
use Rattle.poi_section.specs.Fields.{IsNumber}

-- what the order of records goes by
abbrev pub ordinal_of : Entry → ℕ
ordinal_of entry = entry.ordinal

-- rising by ordinal; it holds of a number that is no ordinal
abbrev pub rises : ℕ → ℕ → Bool
rises a b = nat_le a b || not (is_ordinal a && is_ordinal b)

-- the record may stand behind one of this ordinal
abbrev pub may_follow : Option ℕ → ℕ → Bool
may_follow None ordinal = true
may_follow (Some before) ordinal = rises before ordinal

-- the fields of a record, and its points, were seen so
pub record AreFieldsSeen (holder : Rect) (f : PoiFields) (seen : EntrySeen) : Type 0 where
  pub step : IsNumber seen.fields.step f.step
  pub name : IsNumber seen.fields.name f.name
  pub points_at : seen.fields.points.at ≡ f.points.at
  pub count : seen.points.count ≡ length (places f.points.value)
  pub on_grid : seen.points.on_grid ≡ list_all is_on_grid (places f.points.value)
  pub in_box : seen.points.in_box ≡ list_all (holds_place holder) (places f.points.value)

-- the record was seen so
pub record IsSeen (holder : Rect) (entry : Entry) (seen : EntrySeen) : Type 0 where
  pub at : seen.at ≡ entry.at
  pub ordinal : seen.ordinal ≡ entry.ordinal
  pub fields : AreFieldsSeen holder (poi_fields entry.fields) seen

-- the rules of a record as it was seen, in a block with so many texts
abbrev pub seen_facts : Beside → ℕ → Option ℕ → EntrySeen → List Fact
seen_facts beside texts before seen =
    fact seen.at BadOrder (may_follow before seen.ordinal)
    ∷ fact seen.fields.step.at BadId (is_ordinal seen.ordinal && is_node_or_way seen.ordinal)
    ∷ fact seen.fields.step.at BadMark (is_marked beside.marks seen.ordinal)
    ∷ fact seen.fields.name.at BadRef (nat_le seen.fields.name.value texts)
    ∷ fact seen.fields.points.at BadPoint (seen.points.on_grid && (seen.points.count == 1))
    ∷ []

-- the rules of a record that is good, but that its points are on the grid
pub record IsGoodPoi (beside : Beside) (texts : ℕ) (before : Option ℕ) (ordinal name count : ℕ) : Type 0 where
  pub order : may_follow before ordinal ≡ true
  pub id : (is_ordinal ordinal && is_node_or_way ordinal) ≡ true
  pub mark : is_marked beside.marks ordinal ≡ true
  pub name_is : nat_le name texts ≡ true
  pub count_is : (count == 1) ≡ true

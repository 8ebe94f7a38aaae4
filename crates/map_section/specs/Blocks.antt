-- Map records as they were seen.
use Rattle.std.specs.Prelude.{◌≡◌, length}
use Rattle.std.specs.List.{list_all}
use Rattle.live_model.specs.declared.points.Rect.{Rect}
use Rattle.coord_delta.specs.Steps.{places}
use Rattle.file_grammar.specs.BoxRules.{holds_place, is_on_grid}
use Rattle.file_grammar.specs.MapRules.{MapFields, map_fields}
use Rattle.file_grammar.specs.Sections.{Entry}
use Rattle.map_section.specs.declared.record_rules.EntrySeen.{EntrySeen}
use Rattle.map_section.specs.declared.record_rules.Key.{Key}
use Rattle.map_section.specs.Fields.{IsNumber}

-- what the order of records goes by
abbrev pub key_seen : EntrySeen → Key
key_seen seen = record { ordinal = seen.ordinal; rule = seen.fields.rule.value }

-- the fields of a record, and its points, were seen so
pub record AreFieldsSeen (holder : Rect) (f : MapFields) (seen : EntrySeen) : Type 0 where
  pub step : IsNumber seen.fields.step f.step
  pub rule : IsNumber seen.fields.rule f.rule
  pub shape : IsNumber seen.fields.shape f.shape
  pub name : IsNumber seen.fields.name f.name
  pub points_at : seen.fields.points.at ≡ f.points.at
  pub count : seen.points.count ≡ length (places f.points.value)
  pub on_grid : seen.points.on_grid ≡ list_all is_on_grid (places f.points.value)
  pub in_box : seen.points.in_box ≡ list_all (holds_place holder) (places f.points.value)

-- the record was seen so
pub record IsSeen (holder : Rect) (entry : Entry) (seen : EntrySeen) : Type 0 where
  pub at : seen.at ≡ entry.at
  pub ordinal : seen.ordinal ≡ entry.ordinal
  pub fields : AreFieldsSeen holder (map_fields entry.fields) seen

-- Points of interest in a rectangle stand in boxes that meet it.
use Rattle.std.specs.Prelude.{Bool}
use Rattle.live_model.specs.declared.points.Rect.{Rect}
use Rattle.live_model.specs.declared.records.PoiRec.{PoiRec}
use Rattle.live_model.specs.Points.{is_inside}
use Rattle.coord_delta.specs.Steps.{places}
use Rattle.file_grammar.specs.PoiRules.{poi_boxing, poi_fields, poi_read}
use Rattle.boxed_read.specs.Filters.{PassesOnlyNear}
use Rattle.boxed_read.specs.NearPoints.{one_place_near}

-- a point of interest whose point is in the rectangle
abbrev pub placed_in : Rect → PoiRec → Bool
placed_in rect p = is_inside rect p.point

pub placed_near : (rect : Rect) → PassesOnlyNear poi_boxing poi_read (placed_in rect) rect
placed_near rect group beside block prev entry box facts held passes =
    one_place_near box rect (places (poi_fields entry.fields).points.value) facts.1.1.1.1.0 held passes

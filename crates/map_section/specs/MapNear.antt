-- Map records that are shown at a rectangle stand in boxes that meet it.
use Rattle.std.specs.Prelude.{◌≡◌, ℕ, List, Bool, true, ◌&&◌, length, map}
use Rattle.std.specs.List.{list_all}
use Rattle.std.proofs.lemmas.Bool.{and_parts}
use Rattle.live_model.specs.declared.points.Rect.{Rect}
use Rattle.live_model.specs.declared.records.MapRec.{MapRec}
use Rattle.live_model.specs.declared.rules.Rule.{Rule}
use Rattle.live_model.specs.Maps.{is_shown, meets}
use Rattle.coord_delta.specs.Steps.{places}
use Rattle.file_grammar.specs.BoxRules.{is_on_grid}
use Rattle.file_grammar.specs.MapRules.{is_count_for, map_boxing, map_fields, point_from}
use Rattle.boxed_read.specs.Filters.{PassesOnlyNear}
use Rattle.boxed_read.specs.NearPoints.{places_inside, points_meet}
use Rattle.map_section.specs.MapReading.{map_reading}

-- a record that is shown at a zoom and whose points have a box that meets the rectangle
abbrev pub shown_in : List Rule → Rect → ℕ → MapRec → Bool
shown_in rules rect zoom m = is_shown rules zoom m.rule && meets rect m.points

pub shown_near : (rules : List Rule) (rect : Rect) (zoom : ℕ) → PassesOnlyNear map_boxing map_reading (shown_in rules rect zoom) rect
shown_near rules rect zoom group beside block prev entry box facts held passes =
    let f = map_fields entry.fields in
    let on = and_parts (list_all is_on_grid (places f.points.value)) (is_count_for f.shape.value (length (places f.points.value))) facts.1.1.1.1.1.1.0 in
    let met = and_parts (is_shown rules zoom f.rule.value) (meets rect (map point_from (places f.points.value))) passes in
    points_meet box rect (map point_from (places f.points.value)) (places_inside box (places f.points.value) on.0 held) met.1

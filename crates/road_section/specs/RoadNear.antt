-- Roads that pass a rectangle and restrictions in it stand in boxes that meet it.
use Rattle.std.proofs.Common.{◌≡◌, Bool, true, false, List, [], ◌∷◌, map, length, inl, inr}
use Rattle.std.specs.Prelude.{◌||◌, nat_le}
use Rattle.std.specs.List.{list_all}
use Rattle.std.proofs.lemmas.Bool.{and_parts, cases_Bool}
use Rattle.live_model.specs.declared.points.Rect.{Rect}
use Rattle.live_model.specs.declared.records.BanRec.{BanRec}
use Rattle.live_model.specs.declared.records.RoadNode.{RoadNode}
use Rattle.live_model.specs.declared.records.RoadRec.{RoadRec}
use Rattle.live_model.specs.Maps.{meets}
use Rattle.live_model.specs.Points.{is_inside, overlaps}
use Rattle.coord_delta.specs.Steps.{places}
use Rattle.file_grammar.specs.BoxRules.{holds_place, is_on_grid}
use Rattle.file_grammar.specs.MapRules.{point_from}
use Rattle.file_grammar.specs.RoadRules.{Stop, ban_boxing, ban_fields, road_boxing, road_fields, road_node_of, stops}
use Rattle.boxed_read.specs.Filters.{PassesOnlyNear}
use Rattle.boxed_read.specs.NearPoints.{one_place_near, place_inside, points_meet}
use Rattle.road_section.specs.Readings.{ban_reading, road_reading}

-- the segment between two neighbours among nodes has a box that meets the rectangle
abbrev pub meets_segment : Rect → List RoadNode → Bool
meets_segment rect (a ∷ b ∷ nodes) = meets rect (a.point ∷ b.point ∷ []) || meets_segment rect (b ∷ nodes)
meets_segment rect nodes = false

-- the road has such a segment
abbrev pub passes_by : Rect → RoadRec → Bool
passes_by rect road = meets_segment rect road.nodes

-- the point of the restriction is in the rectangle
abbrev pub banned_in : Rect → BanRec → Bool
banned_in rect ban = is_inside rect ban.point

segments_near : (box rect : Rect) (stops : List Stop) → list_all (λ stop. is_on_grid stop.location) stops ≡ true → list_all (holds_place box) (map (λ stop. stop.location) stops) ≡ true
    → meets_segment rect (map road_node_of stops) ≡ true → overlaps box rect ≡ true
segments_near box rect [] on held m = absurd cc
segments_near box rect (a ∷ []) on held m = absurd cc
segments_near box rect (a ∷ b ∷ stops) on held m =
    let grid = and_parts (is_on_grid a.location) (list_all (λ (stop : Stop). is_on_grid stop.location) (b ∷ stops)) on in
    let next = and_parts (is_on_grid b.location) (list_all (λ (stop : Stop). is_on_grid stop.location) stops) grid.1 in
    let here = and_parts (holds_place box a.location) (list_all (holds_place box) (map (λ (stop : Stop). stop.location) (b ∷ stops))) held in
    let there = and_parts (holds_place box b.location) (list_all (holds_place box) (map (λ (stop : Stop). stop.location) stops)) here.1 in
    elim (cases_Bool (meets rect (point_from a.location ∷ point_from b.location ∷ []))) [
      | inl passes ↦ points_meet box rect (point_from a.location ∷ point_from b.location ∷ []) (place_inside box a.location grid.0 here.0, (place_inside box b.location next.0 there.0, tt)) passes
      | inr fails ↦ segments_near box rect (b ∷ stops) grid.1 here.1 (let later = rw fails at m in later)
    ]

pub road_near : (rect : Rect) → PassesOnlyNear road_boxing road_reading (passes_by rect) rect
road_near rect group beside block prev entry box facts held passes =
    let all = stops (road_fields entry.fields).triples.value in
    let on = and_parts (list_all (λ (stop : Stop). is_on_grid stop.location) all) (nat_le 2 (length all)) facts.1.1.1.1.1.1.1.0 in
    segments_near box rect all on.0 held passes

pub ban_near : (rect : Rect) → PassesOnlyNear ban_boxing ban_reading (banned_in rect) rect
ban_near rect group beside block prev entry box facts held passes =
    one_place_near box rect (places (ban_fields entry.fields).points.value) facts.1.1.1.1.1.1.1.0 held passes

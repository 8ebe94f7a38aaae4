-- Points of interest by the rules that match an object with points.
use Rattle.std.proofs.Common.{◌≡◌, List, [], ◌∷◌, Option, Some, ◌∙◌, ap, filter, map}
use Rattle.std.specs.List.{list_any, enumerate_from}
use Rattle.live_model.specs.declared.objects.Entity.{Entity}
use Rattle.live_model.specs.declared.points.Point.{Point}
use Rattle.live_model.specs.declared.records.PoiRec.{PoiRec}
use Rattle.live_model.specs.declared.rules.Rule.{Rule}
use Rattle.live_model.specs.Ids.{Id}
use Rattle.live_model.specs.Rules.{matches}
use Rattle.live_model.specs.Geometry.{points_of, shapes_with, kind_shapes, one_point}
use Rattle.live_model.specs.Records.{poi_record, pois_at, poi_records}
use Rattle.object_geometry.specs.Matching.{rules_for}
use Rattle.derive_poi.specs.Categories.{categories_of, each_once}

module _ (rules : List Rule) (e : Entity) (referred : List (Id × Option Entity)) where
  -- the records, were these the points
  with_points : List Point → List PoiRec
  with_points points =
      pois_at (one_point points) e (each_once (categories_of (filter (λ r. list_any (λ shape. matches r.1 shape e.tags) (shapes_with points (kind_shapes e.id.kind e.refs))) (enumerate_from 0 rules))))

  found_with : (p : Point) (ps : List Point) (point : Point) → p ∷ ps ≡ points_of e referred → Some point ≡ one_point (p ∷ ps) → map (poi_record e point) (each_once (categories_of (rules_for rules e))) ≡ poi_records rules e referred
  unfolding with_points
  found_with p ps point are one = ap (λ o. pois_at o e (each_once (categories_of (rules_for rules e)))) one ∙ ap with_points are

  pub found : (points : List Point) (point : Point) → points ≡ points_of e referred → Some point ≡ one_point points → map (poi_record e point) (each_once (categories_of (rules_for rules e))) ≡ poi_records rules e referred
  found [] point are one = cc
  found (p ∷ ps) point are one = found_with p ps point are one

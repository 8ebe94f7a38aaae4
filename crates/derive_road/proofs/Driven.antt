-- The road by the first rule of roads that matches an object with points.
use Rattle.std.proofs.Common.{◌≡◌, ◌≢◌, ℕ, List, [], ◌∷◌, false, refl, sym, ◌∙◌, ap, Option, filter, map}
use Rattle.std.specs.Prelude.{take}
use Rattle.std.specs.List.{list_any, enumerate_from}
use Rattle.live_model.specs.declared.objects.Entity.{Entity}
use Rattle.live_model.specs.declared.points.Point.{Point}
use Rattle.live_model.specs.declared.records.RoadNode.{RoadNode}
use Rattle.live_model.specs.declared.records.RoadRec.{RoadRec}
use Rattle.live_model.specs.declared.rules.Rule.{Rule}
use Rattle.live_model.specs.Ids.{Id}
use Rattle.live_model.specs.Rules.{matches}
use Rattle.live_model.specs.Geometry.{kind_points, kind_shapes, located_nodes, points_of, shapes_with}
use Rattle.live_model.specs.Records.{road_records}
use Rattle.object_geometry.specs.declared.matches.Wanted.TheVariants.{Road}
use Rattle.object_geometry.specs.Matching.{of_class, rules_for}
use Rattle.derive_road.specs.Roads.{road_along}

none_pass : {A : Type 0} (xs : List A) → filter (λ x. false) xs ≡ []
none_pass [] = refl
none_pass (x ∷ xs) = none_pass xs

module _ (rules : List Rule) (e : Entity) (referred : List (Id × Option Entity)) where
  -- the road, were these the points
  with_points : List Point → List RoadRec
  with_points points =
      map (road_along e (located_nodes referred)) (take 1 (of_class Road (filter (λ r. list_any (λ shape. matches r.1 shape e.tags) (shapes_with points (kind_shapes e.id.kind e.refs))) (enumerate_from 0 rules))))

  empty : [] ≡ with_points []
  unfolding with_points
  empty = sym (ap (λ rs. map (road_along e (located_nodes referred)) (take 1 (of_class Road rs))) (none_pass (enumerate_from 0 rules)))

  undriven_at : of_class Road (rules_for rules e) ≡ [] → (points : List Point) → [] ≡ with_points points
  unfolding with_points
  undriven_at none [] = empty
  undriven_at none (p ∷ ps) = sym (ap (λ rs. map (road_along e (located_nodes referred)) (take 1 rs)) none)

  -- no rule of roads matches
  pub undriven : (rs : List (ℕ × Rule)) → rs ≡ rules_for rules e → of_class Road rs ≡ [] → [] ≡ road_records rules e referred
  unfolding with_points
  undriven rs are none = undriven_at (ap (of_class Road) (sym are) ∙ none) (points_of e referred)

  no_points : (points : List Point) → (points ≢ [] → ⊥) → [] ≡ with_points points
  no_points [] none = empty
  no_points (p ∷ ps) none = absurd (none (λ f. absurd (cc)))

  -- an object without points is no road
  pub pointless : (nodes : List RoadNode) → nodes ≡ located_nodes referred → (kind_points e.id.kind e.place nodes ≢ [] → ⊥) → [] ≡ road_records rules e referred
  unfolding with_points
  pointless nodes are none = no_points (points_of e referred) (λ some. none (λ f. some (ap (kind_points e.id.kind e.place) (sym are) ∙ f)))

  driven_at : (r : ℕ × Rule) (rest : List (ℕ × Rule)) → of_class Road (rules_for rules e) ≡ r ∷ rest → (points : List Point) → points ≢ [] → road_along e (located_nodes referred) r ∷ [] ≡ with_points points
  unfolding with_points
  driven_at r rest first [] some = absurd (some refl)
  driven_at r rest first (p ∷ ps) some = sym (ap (λ rs. map (road_along e (located_nodes referred)) (take 1 rs)) first)

  -- the first rule of roads makes the road of an object with points
  pub driven : (rs : List (ℕ × Rule)) → rs ≡ rules_for rules e → (r : ℕ × Rule) (rest : List (ℕ × Rule)) → of_class Road rs ≡ r ∷ rest
      → (nodes : List RoadNode) → nodes ≡ located_nodes referred → kind_points e.id.kind e.place nodes ≢ [] → road_along e nodes r ∷ [] ≡ road_records rules e referred
  unfolding with_points
  driven rs are r rest first nodes there some =
      ap (λ ns. road_along e ns r ∷ []) there
      ∙ driven_at r rest (ap (of_class Road) (sym are) ∙ first) (points_of e referred) (λ f. some (ap (kind_points e.id.kind e.place) there ∙ f))

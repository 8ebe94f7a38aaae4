-- Map records by the rules that match an object with points.
use Rattle.std.proofs.Common.{◌≡◌, ◌≢◌, ℕ, List, [], ◌∷◌, false, refl, sym, ◌∙◌, ap, Option, filter, map}
use Rattle.std.specs.List.{list_any, enumerate_from}
use Rattle.live_model.specs.declared.objects.Entity.{Entity}
use Rattle.live_model.specs.declared.points.Point.{Point}
use Rattle.live_model.specs.declared.records.MapRec.{MapRec}
use Rattle.live_model.specs.declared.rules.Rule.{Rule}
use Rattle.live_model.specs.Ids.{Id}
use Rattle.live_model.specs.Rules.{matches}
use Rattle.live_model.specs.Geometry.{points_of, shapes_with, kind_shapes}
use Rattle.live_model.specs.Records.{map_records}
use Rattle.object_geometry.specs.Matching.{rules_for}
use Rattle.derive_map.specs.Drawings.{map_rules, drawing, drawings}

none_pass : {A : Type 0} (xs : List A) → filter (λ x. false) xs ≡ []
none_pass [] = refl
none_pass (x ∷ xs) = none_pass xs

module _ (rules : List Rule) (e : Entity) (referred : List (Id × Option Entity)) where
  -- the records, were these the points
  with_points : List Point → List MapRec
  with_points points =
      map (drawing e points) (map_rules (filter (λ r. list_any (λ shape. matches r.1 shape e.tags) (shapes_with points (kind_shapes e.id.kind e.refs))) (enumerate_from 0 rules)))

  -- without points there are none
  empty : [] ≡ with_points []
  unfolding with_points
  empty = sym (ap (λ rs. map (drawing e []) (map_rules rs)) (none_pass (enumerate_from 0 rules)))

  pub pointless : (points : List Point) → points ≡ points_of e referred → points ≡ [] → [] ≡ map_records rules e referred
  unfolding with_points
  pointless points are none = empty ∙ ap with_points (sym none ∙ are)

  drawn_with : (p : Point) (ps : List Point) → p ∷ ps ≡ points_of e referred → drawings rules e (p ∷ ps) ≡ map_records rules e referred
  unfolding with_points
  drawn_with p ps are = ap with_points are

  pub drawn : (points : List Point) → points ≡ points_of e referred → points ≢ [] → drawings rules e points ≡ map_records rules e referred
  drawn [] are some = absurd (some refl)
  drawn (p ∷ ps) are some = drawn_with p ps are

  undrawn_at : map_rules (rules_for rules e) ≡ [] → (points : List Point) → [] ≡ with_points points
  unfolding with_points
  undrawn_at none [] = empty
  undrawn_at none (p ∷ ps) = sym (ap (map (drawing e (p ∷ ps))) none)

  pub undrawn : (rs : List (ℕ × Rule)) → rs ≡ rules_for rules e → map_rules rs ≡ [] → [] ≡ map_records rules e referred
  unfolding with_points
  undrawn rs are none = undrawn_at (ap map_rules (sym are) ∙ none) (points_of e referred)

-- The map records of a good store fit the rules.
use Rattle.std.proofs.Common.{◌≡◌, ◌==◌, ℕ, List, [], ◌∷◌, Bool, true, false, ◌&&◌, cond, length, Option, Some, None, refl, sym, ◌∙◌, subst, arith, map, find, slice_get}
use Rattle.std.specs.Prelude.{codes, IsUtf8, bytes_eq, unwrap_or, ℤ}
use Rattle.std.specs.Option.{IfSome, option_map}
use Rattle.std.specs.List.{AllByRecursion, cons_option, enumerate_from, flat_map, list_any}
use Rattle.std.proofs.lemmas.Bool.{false≢true}
use Rattle.std.proofs.lemmas.Str.{IsUtf8-nil}
use Rattle.live_model.specs.declared.ids.Kind.{Kind}
use Rattle.live_model.specs.declared.ids.Kind.TheVariants.{Node, Way, Relation}
use Rattle.live_model.specs.declared.points.Point.{Point}
use Rattle.live_model.specs.declared.objects.Tag.{Tag}
use Rattle.live_model.specs.declared.objects.Entity.{Entity}
use Rattle.live_model.specs.declared.shapes.Shape.{Shape}
use Rattle.live_model.specs.declared.shapes.Shape.TheVariants.{Point as PointShape, Line as LineShape, Area as AreaShape}
use Rattle.live_model.specs.declared.classes.Class.{Class}
use Rattle.live_model.specs.declared.classes.Class.TheVariants.{Map as MapClass, Poi as PoiClass, Road as RoadClass, Place as PlaceClass}
use Rattle.live_model.specs.declared.rules.Rule.{Rule}
use Rattle.live_model.specs.declared.records.MapRec.{MapRec}
use Rattle.live_model.specs.declared.records.RoadNode.{RoadNode}
use Rattle.live_model.specs.Ids.{Id, ordinal}
use Rattle.live_model.specs.Points.{IsInGrid}
use Rattle.live_model.specs.Objects.{IsGood}
use Rattle.live_model.specs.Stores.{key, IsStore}
use Rattle.live_model.specs.CanonicalLines.{HasTexts}
use Rattle.live_model.specs.Rules.{same_shape, admits_tag}
use Rattle.live_model.specs.Closures.{entity_at, looked_up, refers_to}
use Rattle.live_model.specs.Geometry.{is_closed, kind_points, kind_shapes, located, located_nodes, node_at, shapes_with}
use Rattle.live_model.specs.Records.{applies, is_map, map_record, matching, matching_class, name_of}
use Rattle.live_model.specs.Fits.{FitsMap, IsCount, drawn_kind}
use Rattle.object_geometry.specs.Referred.{referred_in}
use Rattle.derive_map.specs.MapRecords.{AreNamed, drawn_of}
use Rattle.derive_map.proofs.Lists.{all_append, all_each, all_filter, all_join, all_map, all_pass, found, numbered}
use Rattle.derive_map.proofs.WholeMaps.{made, drawn_is}

-- ---- the points

found_in_grid : (id : Id) (o : Option Entity) → IfSome o IsGood → (rest : List RoadNode) → AllByRecursion (λ n. IsInGrid n.point) rest → AllByRecursion (λ n. IsInGrid n.point) (cons_option (located (id, o)) rest)
found_in_grid id None good rest all = all
found_in_grid id (Some e) good rest all = placed e.place good.place
  where
    placed : (place : Option Point) → IfSome place IsInGrid → AllByRecursion (λ n. IsInGrid n.point) (cons_option (option_map (node_at id.number) place) rest)
    placed None in_grid = all
    placed (Some p) in_grid = (in_grid, all)

nodes_in_grid : (store : List Entity) → AllByRecursion IsGood store → (ids : List Id) → AllByRecursion (λ n. IsInGrid n.point) (located_nodes (map (looked_up store) ids))
nodes_in_grid store good [] = tt
nodes_in_grid store good (id ∷ ids) =
    found_in_grid id (entity_at store id) (found IsGood (λ e. key e == ordinal id) store good) (located_nodes (map (looked_up store) ids)) (nodes_in_grid store good ids)

points_in_grid : (kind : Kind) (place : Option Point) (nodes : List RoadNode) → IfSome place IsInGrid → AllByRecursion (λ n. IsInGrid n.point) nodes → AllByRecursion IsInGrid (kind_points kind place nodes)
points_in_grid Node None nodes placed all = tt
points_in_grid Node (Some p) nodes placed all = (placed, tt)
points_in_grid Way place [] placed all = tt
points_in_grid Way place (m ∷ []) placed all = tt
points_in_grid Way place (m ∷ n ∷ nodes) placed all = all_map IsInGrid (λ n. n.point) (m ∷ n ∷ nodes) all
points_in_grid Relation place nodes placed all = tt

-- ---- the shape

no_point : (closed t : Bool) → list_any (λ shape. same_shape PointShape shape && t) (cond closed (LineShape ∷ AreaShape ∷ []) (LineShape ∷ [])) ≡ false
no_point true t = refl
no_point false t = refl

-- the shape that is drawn is one of the kind, and has as many points
drawn_as : (shape : Shape) (t : Bool) (kind : Kind) (place : Option Point) (refs : List ℤ) (nodes : List RoadNode)
    → list_any (λ s. same_shape shape s && t) (shapes_with (kind_points kind place nodes) (kind_shapes kind refs)) ≡ true
    → (kind ≡ drawn_kind shape) × IsCount shape (length (kind_points kind place nodes))
drawn_as shape t Node None refs nodes drawn = absurd (false≢true drawn)
drawn_as PointShape t Node (Some p) refs nodes drawn = (refl, refl)
drawn_as LineShape t Node (Some p) refs nodes drawn = absurd (false≢true drawn)
drawn_as AreaShape t Node (Some p) refs nodes drawn = absurd (false≢true drawn)
drawn_as shape t Way place refs [] drawn = absurd (false≢true drawn)
drawn_as shape t Way place refs (m ∷ []) drawn = absurd (false≢true drawn)
drawn_as PointShape t Way place refs (m ∷ n ∷ nodes) drawn = absurd (false≢true (sym (no_point (is_closed refs) t) ∙ drawn))
drawn_as LineShape t Way place refs (m ∷ n ∷ nodes) drawn = (refl, omega arith)
drawn_as AreaShape t Way place refs (m ∷ n ∷ nodes) drawn = (refl, omega arith)
drawn_as shape t Relation place refs nodes drawn = absurd (false≢true drawn)

map_class : (class : Class) → is_map class ≡ true → class ≡ MapClass
map_class MapClass is = refl
map_class (PoiClass category) is = absurd (false≢true is)
map_class RoadClass is = absurd (false≢true is)
map_class PlaceClass is = absurd (false≢true is)

-- ---- the records

module _ (rules : List Rule) (store : List Entity) (good : AllByRecursion IsGood store) where
  -- the record fits, where its name does
  abbrev FitsNamed : MapRec → Type 0
  FitsNamed m = IsUtf8 m.name → FitsMap rules m

  fits_by : (e : Entity) → IsGood e → (r : ℕ × Rule) → slice_get rules r.0 ≡ Some r.1 → applies e (referred_in store e) r.1 ≡ true → is_map r.1.class ≡ true → FitsNamed (map_record e (referred_in store e) r)
  fits_by e is r there matches drawn named =
      let shaped = drawn_as r.1.shape (list_any (admits_tag r.1) e.tags) e.id.kind e.place e.refs (located_nodes (referred_in store e)) matches in
      record {
        rule = r.1;
        in_table = there;
        class = map_class r.1.class drawn;
        shape = refl;
        id = is.id;
        kind = shaped.0;
        name = named;
        count = shaped.1;
        grid = points_in_grid e.id.kind e.place (located_nodes (referred_in store e)) is.place (nodes_in_grid store good (refers_to e));
      }

  fits_made : (e : Entity) → IsGood e → AllByRecursion FitsNamed (made rules store e)
  fits_made e is =
      let referred = referred_in store e in
      let Matches : ℕ × Rule → Type 0 = λ r. applies e referred r.1 ≡ true in
      let There : ℕ × Rule → Type 0 = λ r. slice_get rules r.0 ≡ Some r.1 in
      let Drawn : ℕ × Rule → Type 0 = λ r. is_map r.1.class ≡ true in
      let chosen = matching_class is_map rules e referred in
      let there : AllByRecursion There chosen =
      all_filter There (λ r. is_map r.1.class) (matching rules e referred) (all_filter There (λ r. applies e referred r.1) (enumerate_from 0 rules) (numbered rules)) in
      let matched : AllByRecursion Matches chosen =
      all_filter Matches (λ r. is_map r.1.class) (matching rules e referred) (all_pass (λ r. applies e referred r.1) (enumerate_from 0 rules)) in
      let both : AllByRecursion (λ r. There r × Matches r) chosen = all_join There Matches (λ r. There r × Matches r) (λ r a b. (a, b)) chosen there matched in
      all_map FitsNamed (map_record e referred) chosen
      (all_join (λ r. There r × Matches r) Drawn (λ r. FitsNamed (map_record e referred r)) (λ r a b. fits_by e is r a.0 a.1 b) chosen both (all_pass (λ r. is_map r.1.class) (matching rules e referred)))

  fits_in_turn : (es : List Entity) → AllByRecursion IsGood es → AllByRecursion FitsNamed (flat_map (made rules store) es)
  fits_in_turn [] are = tt
  fits_in_turn (e ∷ es) are = all_append FitsNamed (made rules store e) (flat_map (made rules store) es) (fits_made e are.0) (fits_in_turn es are.1)

-- records that are those of a good store, and whose names are UTF-8, fit the rules
pub drawn_fit : (rules : List Rule) (store : List Entity) → IsStore store → (records : List MapRec) → records ≡ drawn_of rules store → AreNamed records → AllByRecursion (FitsMap rules) records
drawn_fit rules store good records are named =
    let fit : AllByRecursion (FitsNamed rules store good.good) records = subst (AllByRecursion (FitsNamed rules store good.good)) (sym (are ∙ drawn_is rules store good.rising)) (fits_in_turn rules store good.good store good.good) in
    all_join (λ m. IsUtf8 m.name) (FitsNamed rules store good.good) (FitsMap rules) (λ m utf8 fits. fits utf8) records named fit

-- ---- the names

name_utf8 : (e : Entity) → HasTexts e → IsUtf8 (name_of e)
name_utf8 e texts = named (find (λ t. bytes_eq t.key (codes "name")) e.tags) (found (λ t. IsUtf8 t.key × IsUtf8 t.value) (λ t. bytes_eq t.key (codes "name")) e.tags texts.tags)
  where
    named : (o : Option Tag) → IfSome o (λ t. IsUtf8 t.key × IsUtf8 t.value) → IsUtf8 (unwrap_or (option_map (λ t. t.value) o) [])
    named None utf8 = IsUtf8-nil
    named (Some t) utf8 = utf8.1

named_in_turn : (rules : List Rule) (store es : List Entity) → AllByRecursion HasTexts es → AreNamed (flat_map (made rules store) es)
named_in_turn rules store [] texts = tt
named_in_turn rules store (e ∷ es) texts =
    let chosen = matching_class is_map rules e (referred_in store e) in
    all_append (λ m. IsUtf8 m.name) (made rules store e) (flat_map (made rules store) es)
    (all_map (λ m. IsUtf8 m.name) (map_record e (referred_in store e)) chosen (all_each (λ r. IsUtf8 (name_of e)) (λ r. name_utf8 e texts.0) chosen))
    (named_in_turn rules store es texts.1)

pub drawn_fit_law : (rules : List Rule) (store : List Entity) → IsStore store → AllByRecursion HasTexts store → AllByRecursion (FitsMap rules) (drawn_of rules store)
drawn_fit_law rules store good texts =
    drawn_fit rules store good (drawn_of rules store) refl (subst AreNamed (sym (drawn_is rules store good.rising)) (named_in_turn rules store store texts))

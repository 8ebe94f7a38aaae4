-- An object without tags has no records.
use Rattle.std.proofs.Common.{◌≡◌, ℕ, ◌+◌, ◌*◌, ◌==◌, List, [], ◌∷◌, ◌++◌, Bool, true, false, ◌&&◌, ◌||◌, cond, length, Option, Some, None, refl, sym, ◌∙◌, ap, arith, filter, filter_map, map, eq-eqb}
use Rattle.std.specs.Prelude.{take}
use Rattle.std.specs.List.{AllByRecursion, enumerate_from, list_any}
use Rattle.std.specs.Cmp.Lexicographic.{slice_cmp}
use Rattle.std.specs.Ordering.{nat_cmp}
use Rattle.std.specs.declared.cmp.Ordering.TheVariants.{Less}
use Rattle.std.proofs.lemmas.Bool.Decides.{nat_tests}
use Rattle.ordered_lists.specs.Ordered.{put_all}
use Rattle.live_model.specs.declared.objects.Entity.{Entity}
use Rattle.live_model.specs.declared.objects.Tag.{Tag}
use Rattle.live_model.specs.declared.points.Point.{Point}
use Rattle.live_model.specs.declared.rules.Rule.{Rule}
use Rattle.live_model.specs.declared.shapes.Shape.{Shape}
use Rattle.live_model.specs.declared.addresses.AddrKind.TheVariants.{Place, Street}
use Rattle.live_model.specs.declared.records.Rec.{Rec}
use Rattle.live_model.specs.declared.records.Rec.TheVariants.{Map, Poi, Addr, Road, Ban}
use Rattle.live_model.specs.Ids.{Id}
use Rattle.live_model.specs.Closures.{entity_at}
use Rattle.live_model.specs.Geometry.{point_of, shapes_of}
use Rattle.live_model.specs.Records.{applies, category_of, house_records, is_map, is_place, is_road, map_record, named_at, names_of, pois_at, records, records_with, restriction_records, road_record}
use Rattle.live_model.specs.Rules.{matches, same_shape}
use Rattle.live_model.specs.Stores.{key, IsRising}
use Rattle.object_geometry.specs.Referred.{referred_in}
use Rattle.object_geometry.proofs.Derived.{made_of_object}
use Rattle.change_diff.specs.Counts.{has_any, steps_for, tagged}

never : (b : Bool) → (b && false) ≡ false
never true = refl
never false = refl

none_pass : {A : Type 0} (p : A → Bool) → ((x : A) → p x ≡ false) → (xs : List A) → filter p xs ≡ []
none_pass p none [] = refl
none_pass p none (x ∷ xs) = ap (λ b. cond b (x ∷ filter p xs) (filter p xs)) (none x) ∙ none_pass p none xs

none_match : (r : Rule) (shapes : List Shape) → list_any (λ shape. matches r shape []) shapes ≡ false
none_match r [] = refl
none_match r (s ∷ ss) = ap (λ b. b || list_any (λ shape. matches r shape []) ss) (never (same_shape r.shape s)) ∙ none_match r ss

module _ (rules : List Rule) (e : Entity) (referred : List (Id × Option Entity)) where
  -- the object, were these its tags
  abbrev with_tags : List Tag → Entity
  with_tags tags = record { id = e.id; version = e.version; tags = tags; place = e.place; refs = e.refs; members = e.members }

  -- without tags, were these the rules that match it
  made : List (ℕ × Rule) → List Rec
  made matched =
      let bare = with_tags [] in
      map Map (map (map_record bare referred) (filter (λ r. is_map r.1.class) matched))
      ++ map Poi (pois_at (point_of bare referred) bare (put_all (slice_cmp nat_cmp) (λ c. c) [] (filter_map (λ r. category_of r.1.class) matched)))
      ++ map Addr ((cond (list_any (λ r. is_place r.1.class) matched) (named_at (point_of bare referred) e.id Place (names_of bare)) [] ++ cond (list_any (λ r. is_road r.1.class) matched) (named_at (point_of bare referred) e.id Street (names_of bare)) []) ++ house_records bare referred)
      ++ map Road (map (road_record bare referred) (take 1 (filter (λ r. is_road r.1.class) matched)))
      ++ map Ban (restriction_records bare referred)

  no_pois : (o : Option Point) (bare : Entity) → pois_at o bare [] ≡ []
  no_pois None bare = refl
  no_pois (Some p) bare = refl

  nothing : made [] ≡ []
  unfolding made
  nothing = ap (λ pois. map Poi pois ++ [] ++ [] ++ []) (no_pois (point_of (with_tags []) referred) (with_tags []))

  bare_has_none : records_with rules (with_tags []) referred ≡ []
  unfolding made
  bare_has_none = ap made (none_pass (λ r. applies (with_tags []) referred r.1) (λ r. none_match r.1 (shapes_of (with_tags []) referred)) (enumerate_from 0 rules)) ∙ nothing

  pub untagged : e.tags ≡ [] → records_with rules e referred ≡ []
  untagged none = ap (λ tags. records_with rules (with_tags tags) referred) none ∙ bare_has_none

-- the same of an object of a store
pub no_records : (rules : List Rule) (store : List Entity) (e : Entity) → entity_at store e.id ≡ Some e → e.tags ≡ [] → records rules store e.id ≡ []
unfolding records
no_records rules store e there none = made_of_object (records_with rules) store e.id e (sym there) ∙ untagged rules e (referred_in store e) none

-- ---- each object of a store is found by its id

later_found : (x : Entity) (xs : List Entity) → (ys : List Entity) → AllByRecursion (λ y. nat_cmp (key x) (key y) ≡ Less) ys → AllByRecursion (λ y. entity_at xs y.id ≡ Some y) ys → AllByRecursion (λ y. entity_at (x ∷ xs) y.id ≡ Some y) ys
later_found x xs [] less there = tt
later_found x xs (y ∷ ys) less there =
    let lower : nat_cmp (key x) (key y) ≡ Less = less.0 in
    let other : (key x == key y) ≡ false = grind (arith, nat_tests) in
    (ap (λ b. cond b (Some x) (entity_at xs y.id)) other ∙ there.0, later_found x xs ys less.1 there.1)

pub all_found : (es : List Entity) → IsRising es → AllByRecursion (λ e. entity_at es e.id ≡ Some e) es
all_found [] rising = tt
all_found (x ∷ xs) rising = (ap (λ b. cond b (Some x) (entity_at xs x.id)) (eq-eqb (key x) (key x) refl), later_found x xs xs rising.0 (all_found xs rising.1))

-- ---- steps

-- the steps of one object and of those after it
pub steps_of_both : (e : Entity) (rest : List Entity) → steps_for (e ∷ rest) ≡ steps_for (e ∷ []) + steps_for rest
steps_of_both e rest = one (has_any e.tags)
  where
    one : (b : Bool) → 4 * length (cond b (e ∷ tagged rest) (tagged rest)) ≡ 4 * length (cond b (e ∷ []) []) + 4 * length (tagged rest)
    one true = omega arith
    one false = omega arith

pub no_steps : (e : Entity) → e.tags ≡ [] → steps_for (e ∷ []) ≡ 0
no_steps e none = ap (λ tags. 4 * length (cond (has_any tags) (e ∷ []) [])) none

pub four_steps : (e : Entity) → (e.tags ≡ [] → ⊥) → steps_for (e ∷ []) ≡ 4
four_steps e some = one e.tags some
  where
    one : (tags : List Tag) → (tags ≡ [] → ⊥) → 4 * length (cond (has_any tags) (e ∷ []) []) ≡ 4
    one [] some = absurd (some refl)
    one (t ∷ ts) some = refl

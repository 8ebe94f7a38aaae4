-- The map records of a whole store, object by object.
use Rattle.std.proofs.Common.{◌≡◌, ◌==◌, ℕ, ◌≤◌, List, [], ◌∷◌, ◌++◌, length, take, false, cond, Option, Some, None, refl, sym, ◌∙◌, ap, arith, map, filter_map, eq-eqb, append_assoc}
use Rattle.std.specs.List.{AllByRecursion, cons_option, flat_map}
use Rattle.std.specs.Ordering.{nat_cmp}
use Rattle.std.specs.declared.cmp.Ordering.TheVariants.{Less}
use Rattle.std.proofs.lemmas.Bool.Decides.{nat_tests}
use Rattle.std.proofs.lemmas.List.{append-nil, take_all}
use Rattle.std.proofs.lemmas.List.Elements.{filter_map-append}
use Rattle.live_model.specs.declared.objects.Entity.{Entity}
use Rattle.live_model.specs.declared.rules.Rule.{Rule}
use Rattle.live_model.specs.declared.records.MapRec.{MapRec}
use Rattle.live_model.specs.declared.records.Rec.{Rec}
use Rattle.live_model.specs.declared.records.Rec.TheVariants.{Map, Poi, Addr, Road, Ban}
use Rattle.live_model.specs.Ids.{Id}
use Rattle.live_model.specs.Stores.{key, IsRising}
use Rattle.live_model.specs.Closures.{entity_at}
use Rattle.live_model.specs.Records.{records, records_with, map_records, poi_records, address_records, road_records, restriction_records}
use Rattle.object_geometry.specs.Referred.{referred_in}
use Rattle.object_geometry.proofs.Derived.{made_of_object}
use Rattle.derive_map.specs.MapRecords.{as_map, drawn_of}
use Rattle.derive_map.proofs.Lists.{all_join, all_weaker}

-- ---- of one object

all_drawn : (ms : List MapRec) → filter_map as_map (map Map ms) ≡ ms
all_drawn [] = refl
all_drawn (m ∷ ms) = ap (λ xs. m ∷ xs) (all_drawn ms)

none_drawn : {A : Type 0} (make : A → Rec) → ((x : A) → as_map (make x) ≡ None) → (xs : List A) → filter_map as_map (map make xs) ≡ []
none_drawn make none [] = refl
none_drawn make none (x ∷ xs) = ap (λ o. cons_option o (filter_map as_map (map make xs))) (none x) ∙ none_drawn make none xs

-- behind other records
drawn_before : {A : Type 0} (front : List Rec) (make : A → Rec) → ((x : A) → as_map (make x) ≡ None) → (xs : List A) → filter_map as_map (front ++ map make xs) ≡ filter_map as_map front
drawn_before front make none xs =
    filter_map-append as_map front (map make xs) ∙ ap (λ ms. filter_map as_map front ++ ms) (none_drawn make none xs) ∙ append-nil (filter_map as_map front)

-- the map records of an object with what it refers to
abbrev pub made : List Rule → List Entity → Entity → List MapRec
made rules store e = map_records rules e (referred_in store e)

drawn_with : (rules : List Rule) (e : Entity) (referred : List (Id × Option Entity)) → filter_map as_map (records_with rules e referred) ≡ map_records rules e referred
drawn_with rules e referred =
    let maps = map Map (map_records rules e referred) in
    let pois = maps ++ map Poi (poi_records rules e referred) in
    let addresses = pois ++ map Addr (address_records rules e referred) in
    let roads = addresses ++ map Road (road_records rules e referred) in
    drawn_before roads Ban (λ x. refl) (restriction_records e referred)
    ∙ drawn_before addresses Road (λ x. refl) (road_records rules e referred)
    ∙ drawn_before pois Addr (λ x. refl) (address_records rules e referred)
    ∙ drawn_before maps Poi (λ x. refl) (poi_records rules e referred)
    ∙ all_drawn (map_records rules e referred)

drawn_of_one : (rules : List Rule) (store : List Entity) (e : Entity) → entity_at store e.id ≡ Some e → filter_map as_map (records rules store e.id) ≡ made rules store e
unfolding records
drawn_of_one rules store e there =
    ap (filter_map as_map) (made_of_object (records_with rules) store e.id e (sym there)) ∙ drawn_with rules e (referred_in store e)

-- ---- of a store

later_found : (x : Entity) (xs : List Entity) (y : Entity) → nat_cmp (key x) (key y) ≡ Less → entity_at xs y.id ≡ Some y → entity_at (x ∷ xs) y.id ≡ Some y
later_found x xs y less there =
    let other : (key x == key y) ≡ false = grind (arith, nat_tests) in
    ap (λ b. cond b (Some x) (entity_at xs y.id)) other ∙ there

-- each entity is found by its id
all_found : (es : List Entity) → IsRising es → AllByRecursion (λ e. entity_at es e.id ≡ Some e) es
all_found [] rising = tt
all_found (x ∷ xs) rising = (
  ap (λ b. cond b (Some x) (entity_at xs x.id)) (eq-eqb (key x) (key x) refl),
  all_join (λ y. nat_cmp (key x) (key y) ≡ Less) (λ y. entity_at xs y.id ≡ Some y) (λ y. entity_at (x ∷ xs) y.id ≡ Some y) (later_found x xs) xs rising.0 (all_found xs rising.1),
)

drawn_in_turn : {A : Type 0} (f : A → List Rec) (g : A → List MapRec) (xs : List A) → AllByRecursion (λ x. filter_map as_map (f x) ≡ g x) xs → filter_map as_map (flat_map f xs) ≡ flat_map g xs
drawn_in_turn f g [] all = refl
drawn_in_turn f g (x ∷ xs) all =
    filter_map-append as_map (f x) (flat_map f xs) ∙ ap (λ ms. ms ++ filter_map as_map (flat_map f xs)) all.0 ∙ ap (λ ms. g x ++ ms) (drawn_in_turn f g xs all.1)

-- the map records of a store are those of its objects in turn
pub drawn_is : (rules : List Rule) (store : List Entity) → IsRising store → drawn_of rules store ≡ flat_map (made rules store) store
drawn_is rules store rising =
    drawn_in_turn (λ e. records rules store e.id) (made rules store) store
    (all_weaker (λ e. entity_at store e.id ≡ Some e) (λ e. filter_map as_map (records rules store e.id) ≡ made rules store e) (drawn_of_one rules store) store (all_found store rising))

-- the records of all objects that there are
pub drawn_whole : (rules : List Rule) (store left : List Entity) (records : List MapRec) → IsRising store → left ≡ []
    → records ++ flat_map (made rules store) left ≡ flat_map (made rules store) store → records ≡ drawn_of rules store
drawn_whole rules store left records rising none are =
    sym (append-nil records) ∙ sym (ap (λ es. records ++ flat_map (made rules store) es) none) ∙ are ∙ sym (drawn_is rules store rising)

-- the records of one object more
pub one_more : (rules : List Rule) (store look left rest : List Entity) (e : Entity) (before after whole : List MapRec) → look ≡ store → left ≡ e ∷ rest → after ≡ before ++ map_records rules e (referred_in look e)
    → before ++ flat_map (made rules store) left ≡ whole → after ++ flat_map (made rules store) rest ≡ whole
one_more rules store look left rest e before after whole same first is so_far =
    ap (λ ms. ms ++ flat_map (made rules store) rest) (is ∙ ap (λ s. before ++ map_records rules e (referred_in s e)) same)
    ∙ append_assoc before (made rules store e) (flat_map (made rules store) rest)
    ∙ sym (ap (λ es. before ++ flat_map (made rules store) es) first) ∙ so_far

-- The map records of a store stand in the order of records.
use Rattle.std.proofs.Common.{◌≡◌, ℕ, ◌+◌, ◌<◌, List, [], ◌∷◌, false, Option, refl, ◌∙◌, ap, subst, sym, arith}
use Rattle.std.specs.List.{AllByRecursion, enumerate_from, flat_map}
use Rattle.std.specs.List.Sorted.{IsSorted}
use Rattle.std.specs.Ordering.{nat_cmp, ordering_then, is_lt}
use Rattle.std.specs.declared.cmp.Ordering.{Ordering}
use Rattle.std.specs.declared.cmp.Ordering.TheVariants.{Less, Equal, Greater}
use Rattle.std.proofs.lemmas.Bool.Decides.{nat_tests}
use Rattle.live_model.specs.declared.objects.Entity.{Entity}
use Rattle.live_model.specs.declared.rules.Rule.{Rule}
use Rattle.live_model.specs.declared.records.MapRec.{MapRec}
use Rattle.live_model.specs.Ids.{Id, ordinal}
use Rattle.live_model.specs.Stores.{key, IsRising}
use Rattle.live_model.specs.Records.{map_cmp, drawing_cmp, applies, is_map, map_record, map_records, matching, matching_class}
use Rattle.object_geometry.specs.Referred.{referred_in}
use Rattle.derive_map.specs.MapRecords.{drawn_of}
use Rattle.derive_map.proofs.Lists.{InTurn, all_append, all_each, all_map, all_weaker, in_turn_append, in_turn_filter, in_turn_map, numbers_in_turn, pairs_in_turn}
use Rattle.derive_map.proofs.WholeMaps.{made, drawn_is}

-- the one does not come behind the other
abbrev Before : MapRec → MapRec → Type 0
Before a b = is_lt (map_cmp b a) ≡ false

higher : (a b : ℕ) → a < b → nat_cmp b a ≡ Greater
higher a b lt = grind (arith, nat_tests)

level : (a : ℕ) → nat_cmp a a ≡ Equal
level a = grind (arith, nat_tests)

lower : (a b : ℕ) → nat_cmp a b ≡ Less → a < b
lower a b less = grind (arith, nat_tests)

by_first : (first rest : Ordering) → first ≡ Greater → is_lt (ordering_then first rest) ≡ false
by_first first rest e = ap (λ o. is_lt (ordering_then o rest)) e

by_second : (first rest : Ordering) → first ≡ Equal → is_lt rest ≡ false → is_lt (ordering_then first rest) ≡ false
by_second first rest e second = ap (λ o. is_lt (ordering_then o rest)) e ∙ second

by_id : (a b : MapRec) → ordinal a.id < ordinal b.id → Before a b
by_id a b lt = by_first (nat_cmp (ordinal b.id) (ordinal a.id)) (ordering_then (nat_cmp b.rule a.rule) (drawing_cmp b a)) (higher (ordinal a.id) (ordinal b.id) lt)

by_rule : (a b : MapRec) → a.id ≡ b.id → a.rule < b.rule → Before a b
by_rule a b same lt =
    by_second (nat_cmp (ordinal b.id) (ordinal a.id)) (ordering_then (nat_cmp b.rule a.rule) (drawing_cmp b a)) (ap (λ o. nat_cmp (ordinal b.id) (ordinal o)) same ∙ level (ordinal b.id))
    (by_first (nat_cmp b.rule a.rule) (drawing_cmp b a) (higher a.rule b.rule lt))

-- ---- of one object

module _ (rules : List Rule) (e : Entity) (referred : List (Id × Option Entity)) where
  rules_in_turn : InTurn Before (map_records rules e referred)
  rules_in_turn =
      in_turn_map (λ r s. r.0 < s.0) Before (map_record e referred) (λ r s lt. by_rule (map_record e referred r) (map_record e referred s) refl lt) (matching_class is_map rules e referred)
      (in_turn_filter (λ r s. r.0 < s.0) (λ r. is_map r.1.class) (matching rules e referred)
      (in_turn_filter (λ r s. r.0 < s.0) (λ r. applies e referred r.1) (enumerate_from 0 rules) (numbers_in_turn 0 rules)))

  -- a record stands before all records of the object, where it is of an object with a lower id
  before_all : (m : MapRec) → ordinal m.id < key e → AllByRecursion (Before m) (map_records rules e referred)
  before_all m lt = all_map (Before m) (map_record e referred) (matching_class is_map rules e referred) (all_each (λ r. Before m (map_record e referred r)) (λ r. by_id m (map_record e referred r) lt) (matching_class is_map rules e referred))

  -- what holds of each record with the id of the object
  all_of_id : (P : MapRec → Type 0) → ((m : MapRec) → m.id ≡ e.id → P m) → AllByRecursion P (map_records rules e referred)
  all_of_id P h = all_map P (map_record e referred) (matching_class is_map rules e referred) (all_each (λ r. P (map_record e referred r)) (λ r. h (map_record e referred r) refl) (matching_class is_map rules e referred))

-- ---- of a store

module _ (rules : List Rule) (store : List Entity) where
  before_later : (m : MapRec) (es : List Entity) → AllByRecursion (λ e. ordinal m.id < key e) es → AllByRecursion (Before m) (flat_map (made rules store) es)
  before_later m [] later = tt
  before_later m (e ∷ es) later =
      all_append (Before m) (made rules store e) (flat_map (made rules store) es) (before_all rules e (referred_in store e) m later.0) (before_later m es later.1)

  objects_in_turn : (es : List Entity) → IsRising es → InTurn Before (flat_map (made rules store) es)
  objects_in_turn [] rising = tt
  objects_in_turn (e ∷ es) rising =
      let later = all_weaker (λ f. nat_cmp (key e) (key f) ≡ Less) (λ f. key e < key f) (λ f less. lower (key e) (key f) less) es rising.0 in
      in_turn_append Before (made rules store e) (flat_map (made rules store) es) (rules_in_turn rules e (referred_in store e)) (objects_in_turn es rising.1)
      (all_of_id rules e (referred_in store e) (λ m. AllByRecursion (Before m) (flat_map (made rules store) es))
      (λ m same. before_later m es (subst (λ id. AllByRecursion (λ f. ordinal id < key f) es) (sym same) later)))

-- records that are those of a store are sorted
pub drawn_sorted : (rules : List Rule) (store : List Entity) → IsRising store → (records : List MapRec) → records ≡ drawn_of rules store → IsSorted map_cmp records
drawn_sorted rules store rising records are =
    let turn : InTurn Before records = subst (InTurn Before) (sym (are ∙ drawn_is rules store rising)) (objects_in_turn rules store store rising) in
    λ k d low high. pairs_in_turn Before records turn k (k + 1) d (omega arith) high

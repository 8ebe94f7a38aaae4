-- The map of a store: of each rank it has the records of one object, and it is in order.
use Rattle.std.proofs.Common.{◌≡◌, ℕ, ◌<◌, List, [], ◌∷◌, Bool, true, false, cond, ◌||◌, eqb, Option, Some, None, refl, sym, ap, ◌∙◌, subst, arith}
use Rattle.std.specs.Prelude.{filter, flat_map, map, find}
use Rattle.std.specs.List.{AllByRecursion, list_any}
use Rattle.std.specs.Ordering.{nat_cmp}
use Rattle.std.specs.declared.cmp.Ordering.TheVariants.{Less}
use Rattle.std.proofs.lemmas.Bool.{eqb-true}
use Rattle.live_model.specs.declared.objects.Entity.{Entity}
use Rattle.live_model.specs.declared.rules.Rule.{Rule}
use Rattle.live_model.specs.declared.records.Rec.{Rec}
use Rattle.live_model.specs.Ids.{Id, IsId, ordinal}
use Rattle.live_model.specs.Objects.{IsGood}
use Rattle.ordered_lists.specs.Ordered.{IsRisingBy}
use Rattle.live_model.specs.Stores.{key, IsRising}
use Rattle.live_model.specs.Closures.{entity_at, looked_up, referred}
use Rattle.live_model.specs.Records.{records, records_with, record_id}
use Rattle.live_model.specs.Maps.{map_of}
use Rattle.live_model.specs.MapLaws.{OrderLaw}
use Rattle.ordered_lists.proofs.PutAll.{all_append}
use Rattle.ordered_lists.proofs.StableSort.{InTurn}
use Rattle.map_laws.proofs.Turns.{all_weaker, turn_append}
use Rattle.map_laws.proofs.Picks.{AreOf, picked, lower}
use Rattle.map_laws.proofs.InOrder.{ranked, of_one, order_of_up}
use Rattle.map_laws.proofs.Untouched.{or_false, records_from, records_are}
use Rattle.map_laws.proofs.ObjectRecords.{Le, lower_object, records_turn, records_own}

-- ---- lists of ids that rise

module _ {X : Type 0} (key : X → Id) (made : Id → List Rec) (own : (id : Id) → AreOf id (made id)) where
  over_all : (n : ℕ) (r : Rec) → ordinal (record_id r) ≡ n → (ys : List X) → AllByRecursion (λ y. n < ordinal (key y)) ys → AllByRecursion (Le r) (flat_map (λ y. made (key y)) ys)
  over_all n r e [] all = tt
  over_all n r e (y ∷ ys) all =
      let lt = all.0 in
      all_append (Le r) (made (key y)) (flat_map (λ y. made (key y)) ys)
      (all_weaker (λ s. ordinal (record_id s) ≡ ordinal (key y)) (Le r) (λ s f. lower_object r s (omega arith)) (made (key y)) (own (key y)))
      (over_all n r e ys all.1)

  -- joined end to end they are in turn, if each is
  pub turn_flat : ((id : Id) → InTurn Le (made id)) → (xs : List X) → IsRisingBy nat_cmp (λ x. ordinal (key x)) xs → InTurn Le (flat_map (λ x. made (key x)) xs)
  turn_flat each [] rising = tt
  turn_flat each (x ∷ xs) rising =
      turn_append Le (made (key x)) (flat_map (λ x. made (key x)) xs) (each (key x)) (turn_flat each xs rising.1)
      (all_weaker (λ r. ordinal (record_id r) ≡ ordinal (key x)) (λ r. AllByRecursion (Le r) (flat_map (λ x. made (key x)) xs))
      (λ r e. over_all (ordinal (key x)) r e xs (all_weaker (λ y. nat_cmp (ordinal (key x)) (ordinal (key y)) ≡ Less) (λ y. ordinal (key x) < ordinal (key y)) (λ y less. lower (ordinal (key x)) (ordinal (key y)) less) xs rising.0))
      (made (key x)) (own (key x)))

-- each of these ids stands among them
pub each_in : (xs : List Id) → AllByRecursion (λ m. list_any (λ k. eqb (ordinal k) (ordinal m)) xs ≡ true) xs
each_in [] = tt
each_in (x ∷ xs) = (here x, all_weaker (λ m. list_any (λ k. eqb (ordinal k) (ordinal m)) xs ≡ true) (λ m. list_any (λ k. eqb (ordinal k) (ordinal m)) (x ∷ xs) ≡ true) (λ m e. later m (eqb (ordinal x) (ordinal m)) e) xs (each_in xs))
  where
    here : (x : Id) → list_any (λ k. eqb (ordinal k) (ordinal x)) (x ∷ xs) ≡ true
    here x = grind arith

    later : (m : Id) (b : Bool) → list_any (λ k. eqb (ordinal k) (ordinal m)) xs ≡ true → (b || list_any (λ k. eqb (ordinal k) (ordinal m)) xs) ≡ true
    later m true e = refl
    later m false e = e

-- the records of some of these ids are of ids among them
pub flat_in : (made : Id → List Rec) → ((id : Id) → AreOf id (made id)) → (all ms : List Id) → AllByRecursion (λ m. list_any (λ k. eqb (ordinal k) (ordinal m)) all ≡ true) ms
    → AllByRecursion (λ r. list_any (λ k. eqb (ordinal k) (ordinal (record_id r))) all ≡ true) (flat_map made ms)
flat_in made own all [] among = tt
flat_in made own all (m ∷ ms) among =
    all_append (λ r. list_any (λ k. eqb (ordinal k) (ordinal (record_id r))) all ≡ true) (made m) (flat_map made ms)
    (all_weaker (λ r. ordinal (record_id r) ≡ ordinal m) (λ r. list_any (λ k. eqb (ordinal k) (ordinal (record_id r))) all ≡ true) (λ r e. ap (λ n. list_any (λ k. eqb (ordinal k) n) all) e ∙ among.0) (made m) (own m))
    (flat_in made own all ms among.1)

-- ---- what is found

found_is : {A : Type 0} (P : A → Type 0) (p : A → Bool) (xs : List A) (x : A) → AllByRecursion P xs → find p xs ≡ Some x → P x × (p x ≡ true)
found_is P p [] x all e = absurd (cc)
found_is P p (y ∷ ys) x all e = one (p y) refl e (found_is P p ys x all.1)
  where
    one : (b : Bool) → p y ≡ b → cond b (Some y) (find p ys) ≡ Some x → (find p ys ≡ Some x → P x × (p x ≡ true)) → P x × (p x ≡ true)
    one true s f again = let g : y ≡ x = cc in subst (λ w. P w × (p w ≡ true)) g (all.0, s)
    one false s f again = again f

none_found : {A : Type 0} (p : A → Bool) (xs : List A) → list_any p xs ≡ false → find p xs ≡ None
none_found p [] e = refl
none_found p (x ∷ xs) e =
    let parts = or_false (p x) (list_any p xs) e in
    ap (λ b. cond b (Some x) (find p xs)) parts.0 ∙ none_found p xs parts.1

-- ---- the records of an object of a store

module _ (rules : List Rule) (store : List Entity) where
  pub records_tied : (a b : Id) → ordinal a ≡ ordinal b → records rules store a ≡ records rules store b
  records_tied a b e =
      records_are rules store a
      ∙ ap (λ n. records_from rules (find (λ e. eqb (key e) n) store) (map (looked_up store) (referred (find (λ e. eqb (key e) n) store)))) e
      ∙ sym (records_are rules store b)

  -- what holds of no records, and of those of each entity that may be found, holds
  of_found : (P : List Rec → Type 0) (id : Id) → P [] → ((e : Entity) (found : List (Id × Option Entity)) → entity_at store id ≡ Some e → P (records_with rules e found)) → P (records rules store id)
  of_found P id none some = subst P (sym (records_are rules store id)) (one (entity_at store id) refl (map (looked_up store) (referred (entity_at store id))))
    where
      one : (o : Option Entity) → entity_at store id ≡ o → (found : List (Id × Option Entity)) → P (records_from rules o found)
      one None e found = none
      one (Some x) e found = some x found e

  unit_all : {A : Type 0} (xs : List A) → AllByRecursion (λ x. Unit {0}) xs
  unit_all [] = tt
  unit_all (x ∷ xs) = (tt, unit_all xs)

  pub of_object : (id : Id) → AreOf id (records rules store id)
  of_object id =
      of_found (AreOf id) id tt (λ e found f.
      let k = found_is (λ x. Unit {0}) (λ x. eqb (key x) (ordinal id)) store e (unit_all store) f in
      all_weaker (λ r. record_id r ≡ e.id) (λ r. ordinal (record_id r) ≡ ordinal id) (λ r own. ap ordinal own ∙ eqb-true (key e) (ordinal id) k.1) (records_with rules e found) (records_own e rules found))

  pub in_turn : AllByRecursion IsGood store → (id : Id) → InTurn Le (records rules store id)
  in_turn good id = of_found (InTurn Le) id tt (λ e found f. records_turn e rules found (found_is IsGood (λ x. eqb (key x) (ordinal id)) store e good f).0.tags)

  pub good_ids : AllByRecursion IsGood store → (id : Id) → AllByRecursion (λ r. IsId (record_id r)) (records rules store id)
  good_ids good id =
      of_found (AllByRecursion (λ r. IsId (record_id r))) id tt (λ e found f.
      let k = found_is IsGood (λ x. eqb (key x) (ordinal id)) store e good f in
      all_weaker (λ r. record_id r ≡ e.id) (λ r. IsId (record_id r)) (λ r own. subst IsId (sym own) k.0.id) (records_with rules e found) (records_own e rules found))

  pub none_there : (id : Id) → list_any (λ e. eqb (key e) (ordinal id)) store ≡ false → records rules store id ≡ []
  none_there id none =
      records_are rules store id ∙ ap (λ o. records_from rules o (map (looked_up store) (referred o))) (none_found (λ e. eqb (key e) (ordinal id)) store none)

  -- ---- the map

  pub map_ranked : IsRising store → (z : Rec) → filter (ranked z) (map_of rules store) ≡ filter (ranked z) (records rules store (record_id z))
  map_ranked rising z =
      picked ranked of_one (λ (e : Entity). e.id) (records rules store) records_tied of_object z store rising
      ∙ one (list_any (λ e. eqb (key e) (ordinal (record_id z))) store) refl
    where
      one : (b : Bool) → list_any (λ e. eqb (key e) (ordinal (record_id z))) store ≡ b → cond b (filter (ranked z) (records rules store (record_id z))) [] ≡ filter (ranked z) (records rules store (record_id z))
      one true e = refl
      one false e = ap (filter (ranked z)) (sym (none_there (record_id z) e))

  pub map_turn : AllByRecursion IsGood store → IsRising store → InTurn Le (map_of rules store)
  map_turn good rising = turn_flat (λ (e : Entity). e.id) (records rules store) of_object (in_turn good) store rising

pub order_law : OrderLaw
order_law = λ rules store is. order_of_up (map_of rules store) (map_turn rules store is.good is.rising)

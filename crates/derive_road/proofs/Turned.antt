-- The node over which a turn goes, where a member names it.
use Rattle.std.proofs.Common.{◌≡◌, ℕ, List, [], ◌∷◌, ◌++◌, Bool, true, false, cond, ◌||◌, ◌==◌, refl, sym, ◌∙◌, ap, Option, Some, None, find, filter, map, arith}
use Rattle.std.specs.Option.{option_and_then}
use Rattle.std.specs.List.{list_any}
use Rattle.std.proofs.lemmas.Bool.{eqb-true}
use Rattle.live_model.specs.declared.objects.Entity.{Entity}
use Rattle.live_model.specs.declared.objects.Member.{Member}
use Rattle.live_model.specs.declared.ids.Kind.{Kind}
use Rattle.live_model.specs.Ids.{Id, ordinal}
use Rattle.live_model.specs.Stores.{key}
use Rattle.live_model.specs.Closures.{same_id, node_id, entity_at, looked_up, refers_to}
use Rattle.live_model.specs.Geometry.{located}
use Rattle.live_model.specs.Records.{located_among, target_as, the_only}
use Rattle.object_geometry.specs.Referred.{referred_in}
use Rattle.derive_road.specs.Turns.{is_member_as, targets_as}

any_after : {A : Type 0} (q : A → Bool) (xs ys : List A) → list_any q ys ≡ true → list_any q (xs ++ ys) ≡ true
any_after q [] ys e = e
any_after q (x ∷ xs) ys e = one (q x) (any_after q xs ys e)
  where
    one : (b : Bool) → list_any q (xs ++ ys) ≡ true → (b || list_any q (xs ++ ys)) ≡ true
    one true again = refl
    one false again = again

module _ (via : Id) where
  abbrev is_via : Id → Bool
  is_via id = same_id id via

  itself : is_via via ≡ true
  itself = refl-eqb (ordinal via)
    where
      refl-eqb : (n : ℕ) → (n == n) ≡ true
      refl-eqb n = grind arith

  only_is : (ids : List Id) → the_only ids ≡ Some via → list_any is_via ids ≡ true
  only_is [] e = absurd (cc)
  only_is (id ∷ []) e = let same : id ≡ via = cc in ap (λ i. is_via i || false) same ∙ ap (λ b. b || false) itself
  only_is (id ∷ other ∷ ids) e = absurd (cc)

  of_members : (kind : Kind) (role : List ℕ) (members : List Member) → list_any is_via (targets_as kind role members) ≡ true → list_any is_via (map (λ m. m.target) members) ≡ true
  of_members kind role [] e = e
  of_members kind role (m ∷ ms) e = one (is_member_as kind role m) (is_via m.target) e (of_members kind role ms)
    where
      one : (b c : Bool) → list_any is_via (map (λ n. n.target) (cond b (m ∷ filter (is_member_as kind role) ms) (filter (is_member_as kind role) ms))) ≡ true
          → (list_any is_via (targets_as kind role ms) ≡ true → list_any is_via (map (λ n. n.target) ms) ≡ true) → (is_via m.target || list_any is_via (map (λ n. n.target) ms)) ≡ true
      one true c e again = two (is_via m.target) e
        where
          two : (d : Bool) → (d || list_any is_via (targets_as kind role ms)) ≡ true → (d || list_any is_via (map (λ n. n.target) ms)) ≡ true
          two true f = refl
          two false f = again f
      one false c e again = three (is_via m.target)
        where
          three : (d : Bool) → (d || list_any is_via (map (λ n. n.target) ms)) ≡ true
          three true = refl
          three false = again e

  -- the object of an id is found among those that are referred to, if it is one of them
  found : (store : List Entity) (ids : List Id) → list_any is_via ids ≡ true
      → option_and_then (λ object. located (via, object.1)) (find (λ object. is_via object.0) (map (looked_up store) ids)) ≡ located (via, entity_at store via)
  found store [] some = absurd (cc)
  found store (id ∷ ids) some = one (is_via id) refl some (found store ids)
    where
      one : (b : Bool) → is_via id ≡ b → (b || list_any is_via ids) ≡ true
          → (list_any is_via ids ≡ true → option_and_then (λ object. located (via, object.1)) (find (λ object. is_via object.0) (map (looked_up store) ids)) ≡ located (via, entity_at store via))
          → option_and_then (λ object. located (via, object.1)) (cond b (Some (looked_up store id)) (find (λ object. is_via object.0) (map (looked_up store) ids))) ≡ located (via, entity_at store via)
      one true same some again = ap (λ n. located (via, find (λ e. key e == n) store)) (eqb-true (ordinal id) (ordinal via) same)
      one false other some again = again some

-- the node that the only member of a kind and a role names, as it is looked up
pub located_is : (store : List Entity) (e : Entity) (kind : Kind) (role : List ℕ) (target : Option Id) → target ≡ target_as kind role e
    → option_and_then (located_among (referred_in store e)) (target_as kind role e) ≡ option_and_then (λ via. located (via, entity_at store via)) target
located_is store e kind role None is = sym (ap (option_and_then (located_among (referred_in store e))) is)
located_is store e kind role (Some via) is =
    sym (ap (option_and_then (located_among (referred_in store e))) is)
    ∙ found via store (refers_to e) (any_after (λ id. same_id id via) (map node_id e.refs) (map (λ m. m.target) e.members) (of_members via kind role e.members (only_is via (targets_as kind role e.members) (sym is))))

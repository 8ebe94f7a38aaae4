-- Users of an id: who they are, and who they are after lines.
use Rattle.std.proofs.Common.{◌≡◌, List, [], ◌∷◌, ◌++◌, Bool, true, false, cond, ◌||◌, ◌&&◌, not, eqb, Some, refl, sym, ap, ◌∙◌}
use Rattle.std.specs.Prelude.{filter, map, find}
use Rattle.std.specs.List.{AllByRecursion, list_any}
use Rattle.std.specs.Ordering.{nat_cmp}
use Rattle.std.specs.declared.cmp.Ordering.TheVariants.{Less}
use Rattle.std.proofs.lemmas.Bool.{eqb-true}
use Rattle.std.proofs.lemmas.Cmp.{nat_cmp_total}
use Rattle.live_model.specs.declared.objects.Entity.{Entity}
use Rattle.live_model.specs.declared.objects.Line.{Line}
use Rattle.live_model.specs.declared.objects.Line.TheVariants.{Live, Gone}
use Rattle.live_model.specs.Ids.{Id, IsId, ordinal}
use Rattle.live_model.specs.Objects.{IsGood, IsGoodLine}
use Rattle.ordered_lists.specs.Ordered.{IsRisingBy}
use Rattle.live_model.specs.Stores.{key, IsRising, IsStore, apply}
use Rattle.live_model.specs.Closures.{same_id, referred, entity_at, line_id, is_named}
use Rattle.ordered_lists.proofs.PutAll.{all_filter, all_append, rising_filter, rising-put_all}
use Rattle.map_laws.proofs.Turns.{all_put, all_mapped, all_weaker}
use Rattle.map_laws.proofs.Folds.{any_append, any_rising}
use Rattle.map_laws.proofs.Untouched.{or_false, entity_kept}
use Rattle.map_laws.proofs.OverlayProof.{applied_store}
use Rattle.live_model.specs.Users.{is_among, refers, users_of}
use Rattle.change_laws.specs.Users.{users_then, refers_at, targets, UsersLaw, UsersRiseLaw, UsersThenLaw, UsersStayLaw}
use Rattle.change_laws.proofs.Members.{and_false, and_true, or_no, any_map, any_flat, any_filter, any_filter_no, none_behind, same_members}

-- the ids of rising entities rise
pub rising_mapped : (es : List Entity) → IsRising es → IsRisingBy nat_cmp ordinal (map (λ e. e.id) es)
rising_mapped [] rising = tt
rising_mapped (e ∷ es) rising = (all_mapped (λ id. nat_cmp (key e) (ordinal id) ≡ Less) (λ (x : Entity). x.id) es rising.0, rising_mapped es rising.1)

users_are : (store : List Entity) (id user : Id) → IsRising store → list_any (λ e. same_id e.id user) (filter (refers id) store) ≡ refers_at store id user
users_are [] id user rising = refl
users_are (e ∷ es) id user rising = one (eqb (key e) (ordinal user)) (refers id e) refl refl (users_are es id user rising.1)
  where
    gone : eqb (key e) (ordinal user) ≡ true → list_any (λ x. same_id x.id user) (filter (refers id) es) ≡ false
    gone f =
        any_filter_no (λ x. same_id x.id user) (refers id) es
        (sym (any_map (λ i. same_id i user) (λ (x : Entity). x.id) es) ∙ none_behind user e.id (map (λ x. x.id) es) (sym (eqb-true (key e) (ordinal user) f)) (rising_mapped (e ∷ es) rising).0)

    one : (s t : Bool) → eqb (key e) (ordinal user) ≡ s → refers id e ≡ t → list_any (λ x. same_id x.id user) (filter (refers id) es) ≡ refers_at es id user
        → list_any (λ x. same_id x.id user) (cond t (e ∷ filter (refers id) es) (filter (refers id) es)) ≡ is_among (referred (cond s (Some e) (entity_at es user))) id
    one true true f g again = ap (λ b. b || list_any (λ x. same_id x.id user) (filter (refers id) es)) f ∙ sym g
    one true false f g again = gone f ∙ sym g
    one false true f g again = ap (λ b. b || list_any (λ x. same_id x.id user) (filter (refers id) es)) f ∙ again
    one false false f g again = again

pub users_law : UsersLaw
users_law = λ store id user is. any_map (λ i. same_id i user) (λ (e : Entity). e.id) (filter (refers id) store) ∙ users_are store id user is.rising

pub users_rise : UsersRiseLaw
users_rise = λ store id is. (
  rising_mapped (filter (refers id) store) (rising_filter nat_cmp key nat_cmp_total (refers id) store is.rising),
  all_mapped IsId (λ (e : Entity). e.id) (filter (refers id) store) (all_filter (λ e. IsId e.id) (refers id) store (all_weaker IsGood (λ e. IsId e.id) (λ e good. good.id) store is.good)),
)

pub line_ids : (lines : List Line) → AllByRecursion IsGoodLine lines → AllByRecursion IsId (map line_id lines)
line_ids [] good = tt
line_ids (Live e ∷ lines) good = (good.0.id, line_ids lines good.1)
line_ids (Gone o version ∷ lines) good = (good.0, line_ids lines good.1)

pub named_are : (lines : List Line) (id : Id) → is_among (map line_id lines) id ≡ is_named lines id
named_are lines id = any_map (λ i. same_id i id) line_id lines

module _ (store : List Entity) (lines : List Line) (id : Id) (is : IsStore store) (good : AllByRecursion IsGoodLine lines) (after : IsStore (apply store lines)) where
  abbrev old_users : List Id
  old_users = filter (λ u. not (is_named lines u)) (users_of store id)

  abbrev new_users : List Id
  new_users = filter (refers_at (apply store lines) id) (map line_id lines)

  olds : (u : Id) → is_among old_users u ≡ (refers_at store id u && not (is_named lines u))
  olds u =
      any_filter (λ i. same_id i u) (λ i. not (is_named lines i)) (not (is_named lines u))
      (λ x e. ap (λ n. not (list_any (λ line. eqb (ordinal (line_id line)) n) lines)) (eqb-true (ordinal x) (ordinal u) e)) (users_of store id)
      ∙ ap (λ b. b && not (is_named lines u)) (users_law store id u is)

  news : (u : Id) → is_among new_users u ≡ (is_named lines u && refers_at (apply store lines) id u)
  news u =
      any_filter (λ i. same_id i u) (refers_at (apply store lines) id) (refers_at (apply store lines) id u)
      (λ x e. ap (λ n. is_among (referred (find (λ e. eqb (key e) n) (apply store lines))) id) (eqb-true (ordinal x) (ordinal u) e)) (map line_id lines)
      ∙ ap (λ b. b && refers_at (apply store lines) id u) (named_are lines u)

  told : (u : Id) → is_among (users_of (apply store lines) id) u ≡ is_among (users_then store lines id) u
  told u =
      users_law (apply store lines) id u after
      ∙ one (is_named lines u) refl
      ∙ sym (any_rising u (old_users ++ new_users) ∙ any_append (λ i. same_id i u) old_users new_users ∙ (λ i. olds u i || news u i))
    where
      one : (b : Bool) → is_named lines u ≡ b → refers_at (apply store lines) id u ≡ ((refers_at store id u && not b) || (b && refers_at (apply store lines) id u))
      one true e = ap (λ b. b || refers_at (apply store lines) id u) (sym (and_false (refers_at store id u)))
      one false e = ap (λ o. is_among (referred o) id) (entity_kept store lines u e) ∙ sym (or_no (refers_at store id u && true) ∙ and_true (refers_at store id u))

  then : users_of (apply store lines) id ≡ users_then store lines id
  then =
      same_members (users_of (apply store lines) id) (users_then store lines id) (users_rise (apply store lines) id after).0 (rising-put_all nat_cmp ordinal nat_cmp_total [] (old_users ++ new_users) tt)
      (users_rise (apply store lines) id after).1
      (all_put IsId nat_cmp ordinal (old_users ++ new_users) [] tt (all_append IsId old_users new_users (all_filter IsId _ (users_of store id) (users_rise store id is).1) (all_filter IsId _ (map line_id lines) (line_ids lines good))))
      told

pub users_after : UsersThenLaw
users_after = λ store lines id is good. then store lines id is good (applied_store store lines is good)

-- ---- users that stay

module _ (before after : List Entity) (id user : Id) where
  abbrev refs_of : Line → List Id
  refs_of line = referred (entity_at before (line_id line)) ++ referred (entity_at after (line_id line))

  at_tied : (store : List Entity) (o : Id) → ordinal o ≡ ordinal user → is_among (referred (entity_at store o)) id ≡ refers_at store id user
  at_tied store o same = ap (λ n. is_among (referred (find (λ e. eqb (key e) n) store)) id) same

  none_named : (lines : List Line) → list_any (λ line. is_among (refs_of line) id) lines ≡ false → is_named lines user ≡ true → (refers_at before id user ≡ false) × (refers_at after id user ≡ false)
  none_named [] none named = absurd (cc)
  none_named (line ∷ lines) none named =
      let parts = or_false (is_among (refs_of line) id) (list_any (λ line. is_among (refs_of line) id) lines) none in
      one (eqb (ordinal (line_id line)) (ordinal user)) refl named (or_false (is_among (referred (entity_at before (line_id line))) id) (is_among (referred (entity_at after (line_id line))) id) (sym (any_append (λ i. same_id i id) (referred (entity_at before (line_id line))) (referred (entity_at after (line_id line)))) ∙ parts.0))
      (none_named lines parts.1)
    where
      one : (b : Bool) → eqb (ordinal (line_id line)) (ordinal user) ≡ b → (b || is_named lines user) ≡ true
          → (is_among (referred (entity_at before (line_id line))) id ≡ false) × (is_among (referred (entity_at after (line_id line))) id ≡ false)
          → (is_named lines user ≡ true → (refers_at before id user ≡ false) × (refers_at after id user ≡ false)) → (refers_at before id user ≡ false) × (refers_at after id user ≡ false)
      one true e named both again =
          let same = eqb-true (ordinal (line_id line)) (ordinal user) e in
          (sym (at_tied before (line_id line) same) ∙ both.0, sym (at_tied after (line_id line) same) ∙ both.1)
      one false e named both again = again named

pub users_stay : UsersStayLaw
users_stay = λ store lines id is good none. all store lines id is good none (applied_store store lines is good)
  where
    same : (store : List Entity) (lines : List Line) (id user : Id) → is_among (targets store lines) id ≡ false → (b : Bool) → is_named lines user ≡ b → refers_at (apply store lines) id user ≡ refers_at store id user
    same store lines id user none false e = ap (λ o. is_among (referred o) id) (entity_kept store lines user e)
    same store lines id user none true e =
        let both = none_named store (apply store lines) id user lines (sym (any_flat (λ i. same_id i id) (refs_of store (apply store lines) id user) lines) ∙ none) e in
        both.1 ∙ sym both.0

    all : (store : List Entity) (lines : List Line) (id : Id) → IsStore store → AllByRecursion IsGoodLine lines → is_among (targets store lines) id ≡ false → IsStore (apply store lines) → users_of (apply store lines) id ≡ users_of store id
    all store lines id is good none after =
        same_members (users_of (apply store lines) id) (users_of store id) (users_rise (apply store lines) id after).0 (users_rise store id is).0 (users_rise (apply store lines) id after).1 (users_rise store id is).1
        (λ u. users_law (apply store lines) id u after ∙ same store lines id u none (is_named lines u) refl ∙ sym (users_law store id u is))

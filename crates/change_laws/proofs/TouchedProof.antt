-- The touched objects, and that the marks of an overlay are among them.
use Rattle.std.proofs.Common.{◌≡◌, List, [], ◌∷◌, Bool, true, false, ◌||◌, ◌&&◌, refl, sym, ap, ◌∙◌}
use Rattle.std.specs.Prelude.{filter, flat_map}
use Rattle.std.specs.List.{AllByRecursion, list_any}
use Rattle.std.specs.Ordering.{nat_cmp, is_ne}
use Rattle.std.specs.Cmp.Lexicographic.{slice_cmp}
use Rattle.std.proofs.lemmas.Bool.{eqb-true}
use Rattle.std.proofs.lemmas.Cmp.{nat_cmp_total, lists_total, tied_itself}
use Rattle.live_model.specs.declared.objects.Entity.{Entity}
use Rattle.live_model.specs.declared.objects.Line.{Line}
use Rattle.live_model.specs.declared.objects.Line.TheVariants.{Live, Gone}
use Rattle.live_model.specs.declared.rules.Rule.{Rule}
use Rattle.live_model.specs.Ids.{Id, IsId, ordinal}
use Rattle.live_model.specs.Objects.{IsGoodLine}
use Rattle.live_model.specs.Stores.{IsStore, apply}
use Rattle.live_model.specs.Closures.{same_id, referred, entity_at, line_id, is_named, is_touched}
use Rattle.live_model.specs.Records.{records, record_cmp}
use Rattle.live_model.specs.Maps.{differs, changed, ids_of_both}
use Rattle.ordered_lists.proofs.PutAll.{all_filter, all_append, rising_filter, rising-put_all}
use Rattle.map_laws.proofs.Turns.{all_put}
use Rattle.map_laws.proofs.RecordOrder.{record_total}
use Rattle.map_laws.proofs.Folds.{any_rising}
use Rattle.map_laws.proofs.Untouched.{entity_kept, untouched_kept}
use Rattle.map_laws.proofs.StoreMaps.{records_tied}
use Rattle.map_laws.proofs.OverlayProof.{applied_store, unmarked, is_overlay}
use Rattle.live_model.specs.Users.{is_among, users_of, touched}
use Rattle.change_laws.specs.Users.{refers_at, TouchedLaw, TouchedMarksLaw}
use Rattle.change_laws.proofs.Members.{any_alike, any_or, any_flat, any_swap, any_filter, eqb_turned, implied, same_members}
use Rattle.change_laws.proofs.UsersProof.{users_law, users_rise}

-- an object is among these where a line names it, or it refers to an object of a line
abbrev pub candidates : List Entity → List Line → List Id
candidates store lines = flat_map (λ line. line_id line ∷ users_of store (line_id line)) lines

pub among_touched : (store : List Entity) (lines : List Line) (id : Id) → IsStore store → is_among (touched store lines) id ≡ is_touched store lines id
among_touched store lines id is =
    any_rising id (candidates store lines)
    ∙ any_flat (λ i. same_id i id) (λ line. line_id line ∷ users_of store (line_id line)) lines
    ∙ any_or (λ line. same_id (line_id line) id) (λ line. is_among (users_of store (line_id line)) id) lines
    ∙ ap (λ b. is_named lines id || b)
    (any_alike (λ line. is_among (users_of store (line_id line)) id) (λ line. refers_at store (line_id line) id) lines (λ line. users_law store (line_id line) id is)
    ∙ any_swap (λ line r. same_id r (line_id line)) lines (referred (entity_at store id))
    ∙ any_alike (λ r. list_any (λ line. same_id r (line_id line)) lines) (is_named lines) (referred (entity_at store id))
    (λ r. any_alike (λ line. same_id r (line_id line)) (λ line. same_id (line_id line) r) lines (λ line. eqb_turned (ordinal r) (ordinal (line_id line)))))

-- what lines touch before them they touch after them
pub touched_alike : (store : List Entity) (lines : List Line) (id : Id) → is_touched store lines id ≡ is_touched (apply store lines) lines id
touched_alike store lines id = one (is_named lines id) refl
  where
    one : (b : Bool) → is_named lines id ≡ b → (b || list_any (is_named lines) (referred (entity_at store id))) ≡ (b || list_any (is_named lines) (referred (entity_at (apply store lines) id)))
    one true e = refl
    one false e = ap (λ o. list_any (is_named lines) (referred o)) (sym (entity_kept store lines id e))

candidates_good : (store : List Entity) (lines : List Line) → IsStore store → AllByRecursion IsGoodLine lines → AllByRecursion IsId (candidates store lines)
candidates_good store [] is good = tt
candidates_good store (line ∷ lines) is good =
    all_append IsId (line_id line ∷ users_of store (line_id line)) (candidates store lines) (own line good.0, (users_rise store (line_id line) is).1) (candidates_good store lines is good.1)
  where
    own : (line : Line) → IsGoodLine line → IsId (line_id line)
    own (Live e) g = g.id
    own (Gone o version) g = g

pub touched_law : TouchedLaw
touched_law = λ store lines is good. record {
  rising = rising-put_all nat_cmp ordinal nat_cmp_total [] (candidates store lines) tt;
  good = all_put IsId nat_cmp ordinal (candidates store lines) [] tt (candidates_good store lines is good);
  before = λ id. among_touched store lines id is;
  after = λ id. among_touched store lines id is ∙ touched_alike store lines id;
}

module _ (rules : List Rule) (store : List Entity) (lines : List Line) (is : IsStore store) (good : AllByRecursion IsGoodLine lines) where
  differs_alike : (i x : Id) → same_id x i ≡ true → differs rules store (apply store lines) x ≡ differs rules store (apply store lines) i
  differs_alike i x e =
      let k = eqb-true (ordinal x) (ordinal i) e in
      λ j. is_ne (slice_cmp record_cmp (records_tied rules store x i k j) (records_tied rules (apply store lines) x i k j))

  same_records : (i : Id) → records rules (apply store lines) i ≡ records rules store i → differs rules store (apply store lines) i ≡ false
  same_records i e = ap (λ rs. is_ne (slice_cmp record_cmp (records rules store i) rs)) e ∙ ap is_ne (tied_itself (lists_total record_total) (records rules store i))

  in_changed : (i : Id) → is_among (changed rules store (apply store lines)) i ≡ differs rules store (apply store lines) i
  in_changed i =
      both ∙ implied (is_among (ids_of_both store (apply store lines)) i) (differs rules store (apply store lines) i)
      (λ none. same_records i (sym (unmarked rules store (apply store lines) is (applied_store store lines is good) i (both ∙ ap (λ b. b && differs rules store (apply store lines) i) none))))
    where
      both : is_among (changed rules store (apply store lines)) i ≡ (is_among (ids_of_both store (apply store lines)) i && differs rules store (apply store lines) i)
      both = any_filter (λ x. same_id x i) (differs rules store (apply store lines)) (differs rules store (apply store lines) i) (differs_alike i) (ids_of_both store (apply store lines))

  in_touched : (i : Id) → is_among (filter (differs rules store (apply store lines)) (touched store lines)) i ≡ differs rules store (apply store lines) i
  in_touched i =
      any_filter (λ x. same_id x i) (differs rules store (apply store lines)) (differs rules store (apply store lines) i) (differs_alike i) (touched store lines)
      ∙ ap (λ b. b && differs rules store (apply store lines) i) (among_touched store lines i is)
      ∙ implied (is_touched store lines i) (differs rules store (apply store lines) i) (λ none. same_records i (untouched_kept rules store lines i none))

  marks : changed rules store (apply store lines) ≡ filter (differs rules store (apply store lines)) (touched store lines)
  marks =
      let whole = is_overlay rules store (apply store lines) is (applied_store store lines is good) in
      let few = touched_law store lines is good in
      same_members (changed rules store (apply store lines)) (filter (differs rules store (apply store lines)) (touched store lines)) whole.rising
      (rising_filter nat_cmp ordinal nat_cmp_total (differs rules store (apply store lines)) (touched store lines) few.rising) whole.ids (all_filter IsId (differs rules store (apply store lines)) (touched store lines) few.good)
      (λ i. in_changed i ∙ sym (in_touched i))

pub touched_marks : TouchedMarksLaw
touched_marks = λ rules store lines is good. marks rules store lines is good

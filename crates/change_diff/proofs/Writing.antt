-- The overlay of good lines can be written: its marks rise, and its records stand in order and are of marked objects.
use Rattle.std.proofs.Common.{◌≡◌, ◌∙◌, List, [], ◌∷◌, ◌++◌, Bool, true, false, ◌||◌, Option, Some, None, arith, cond, filter, flat_map, refl, sym, subst}
use Rattle.std.specs.Prelude.{Contains, IfSome, IsTrue}
use Rattle.std.specs.List.{AllByRecursion, list_any}
use Rattle.std.specs.List.Sorted.{IsSorted}
use Rattle.std.specs.Ordering.{nat_cmp}
use Rattle.std.proofs.lemmas.Bool.{eqb-true}
use Rattle.std.proofs.lemmas.List.Elements.{Contains-append_right}
use Rattle.ordered_lists.specs.Ordered.{IsRisingBy}
use Rattle.ordered_lists.proofs.PutAll.{all_append}
use Rattle.live_model.specs.declared.objects.Entity.{Entity}
use Rattle.live_model.specs.declared.objects.Line.{Line}
use Rattle.live_model.specs.declared.records.Rec.{Rec}
use Rattle.live_model.specs.declared.rules.Rule.{Rule}
use Rattle.live_model.specs.CanonicalLines.{HasTexts}
use Rattle.live_model.specs.Closures.{entity_at, same_id}
use Rattle.live_model.specs.Fits.{FitsRules}
use Rattle.live_model.specs.Ids.{Id, IsId, ordinal}
use Rattle.live_model.specs.MapLaws.{IsOverlay}
use Rattle.live_model.specs.Maps.{Overlay, changed, differs, is_mark, overlay}
use Rattle.live_model.specs.Objects.{IsGood, IsGoodLine}
use Rattle.live_model.specs.Records.{record_cmp, record_id, records}
use Rattle.live_model.specs.Rules.{IsRule}
use Rattle.live_model.specs.Stores.{IsStore, apply}
use Rattle.map_laws.proofs.FitsProof.{object_fits}
use Rattle.map_laws.proofs.InOrder.{sorted_of_order}
use Rattle.map_laws.proofs.OverlayProof.{applied_store, overlay_law}
use Rattle.map_laws.proofs.RecordOrder.{one_id}
use Rattle.map_laws.proofs.StoreMaps.{good_ids}
use Rattle.change_diff.specs.Overlays.{CanBeWritten, IsOverlayOf}

-- an id with the ordinal of one of good ids is this one
among : (ids : List Id) (id : Id) → AllByRecursion IsId ids → IsId id → list_any (λ m. same_id m id) ids ≡ true → Contains ids id
among [] id good is some = absurd (cc)
among (m ∷ ids) id good is some = one (same_id m id) refl some (among ids id good.1 is)
  where
    one : (b : Bool) → same_id m id ≡ b → (b || list_any (λ m. same_id m id) ids) ≡ true → (list_any (λ m. same_id m id) ids ≡ true → Contains ids id) → Contains (m ∷ ids) id
    one true same some later = (0, omega arith, one_id m id good.0 is (eqb-true (ordinal m) (ordinal id) same))
    one false same some later = Contains-append_right (m ∷ []) ids id (later some)

-- so records of marked objects are of objects among the marks
all_among : (o : Overlay) (rs : List Rec) → AllByRecursion IsId o.marks → AllByRecursion (λ r. IsId (record_id r)) rs → AllByRecursion (λ r. IsTrue (is_mark o (record_id r))) rs → AllByRecursion (λ r. Contains o.marks (record_id r)) rs
all_among o [] good are marked = tt
all_among o (r ∷ rs) good are marked = (among o.marks (record_id r) good are.0 marked.0, all_among o rs good are.1 marked.1)

-- the records of some objects of good ones have good ids
all_good : (rules : List Rule) (store : List Entity) → IsStore store → (ids : List Id) → AllByRecursion (λ r. IsId (record_id r)) (flat_map (records rules store) ids)
all_good rules store is [] = tt
all_good rules store is (id ∷ ids) = all_append (λ r. IsId (record_id r)) (records rules store id) (flat_map (records rules store) ids) (good_ids rules store is.good id) (all_good rules store is ids)

-- the overlay of good lines can be written, where its records fit the rules
pub overlay_written : (rules : List Rule) (store : List Entity) (lines : List Line) (ids : List Id) (recs : List Rec) → IsStore store → AllByRecursion IsGoodLine lines → IsOverlayOf rules store lines ids recs
    → FitsRules rules recs → CanBeWritten rules ids recs
overlay_written rules store lines ids recs is good are fit =
    let o = (overlay_law rules store lines is good).0 in
    let whole = overlay rules store lines in
    let ids_good = all_good rules (apply store lines) (applied_store store lines is good) whole.marks in
    record {
      rising = subst (IsRisingBy nat_cmp ordinal) (sym are.marks) o.rising;
      sorted = subst (IsSorted record_cmp) (sym are.records) (sorted_of_order whole.records o.ordered);
      fit = fit;
      marked = subst (λ ms. AllByRecursion (λ r. Contains ms (record_id r)) recs) (sym are.marks)
          (subst (AllByRecursion (λ r. Contains whole.marks (record_id r))) (sym are.records) (all_among whole whole.records o.ids ids_good o.marked));
    }

-- the objects of a store after good lines are good
pub good_after : (store after : List Entity) (lines : List Line) → after ≡ apply store lines → IsStore store → AllByRecursion IsGoodLine lines → AllByRecursion IsGood after
good_after store after lines same is good = subst (AllByRecursion IsGood) (sym same) (applied_store store lines is good).good

-- the records of an object that was looked up fit, where its texts are UTF-8 and all objects are good
pub looked_fit : (rules : List Rule) (store : List Entity) (id : Id) (o : Option Entity) → AllByRecursion IsRule rules → o ≡ entity_at store id → IfSome o HasTexts → AllByRecursion IsGood store
    → FitsRules rules (records rules store id)
looked_fit rules store id o are same texts good = object_fits rules are store good id (subst (λ (o : Option Entity). IfSome o HasTexts) same texts)

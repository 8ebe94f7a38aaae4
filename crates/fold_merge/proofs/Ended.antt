-- What a fold is packed of meets what is asked of parts.
use Rattle.std.proofs.Common.{◌≡◌, ◌≢◌, List, [], ◌∷◌, map, Option, Some, None, inl, inr, refl}
use Rattle.std.specs.Prelude.{◌⊎◌, Contains}
use Rattle.std.specs.List.{AllByRecursion}
use Rattle.std.specs.List.Sorted.{IsSorted}
use Rattle.std.specs.Ordering.{nat_cmp}
use Rattle.live_model.specs.declared.levels.Level.{Level}
use Rattle.live_model.specs.declared.levels.Level.TheVariants.{Base, Hour, Day, Month}
use Rattle.live_model.specs.declared.records.Rec.{Rec}
use Rattle.live_model.specs.Fits.{FitsRules}
use Rattle.live_model.specs.Ids.{ordinal}
use Rattle.live_model.specs.Maps.{folded}
use Rattle.live_model.specs.MapLaws.{IsOverlay}
use Rattle.live_model.specs.Records.{record_cmp, record_id}
use Rattle.ordered_lists.specs.Ordered.{IsRisingBy}
use Rattle.stamp_core.specs.Heads.{IsGoodHead}
use Rattle.file_order.specs.Folding.{not_fold}
use Rattle.map_laws.proofs.InOrder.{sorted_of_order}
use Rattle.map_laws.proofs.OverlayProof.{fold_is_overlay}
use Rattle.obf_reader.specs.Images.{Seen}
use Rattle.obf_writer.proofs.Classes.{ids_of}
use Rattle.packed_image.specs.Overlays.{HoldsParts}
use Rattle.fold_merge.specs.Folds.{CanBePacked, common_rules, fold_head, overlays_of, placed_of}
use Rattle.fold_merge.proofs.Asked.{are_overlays, fold_parts, have_rules, mark_theirs}
use Rattle.fold_merge.proofs.Covering.{AreCivil, good_fold}
use Rattle.fold_merge.proofs.Folded.{fold_fits}
use Rattle.fold_merge.proofs.Marking.{all_among}

-- what the fold of images that can become one holds meets what is asked of parts
pub can_be_packed : (level : Level) → (level ≡ Day) ⊎ (level ≡ Month) → (images : List Seen) → images ≢ [] → not_fold level (map placed_of images) ≡ None → AllByRecursion HoldsParts images → AllByRecursion AreCivil images
    → CanBePacked level images
can_be_packed level which [] some follow held civil = absurd (some refl)
can_be_packed level which (first ∷ images) some follow held civil =
    let parts = fold_parts level first images follow in
    let theirs = are_overlays level (placed_of first) None (first ∷ images) parts held in
    let overlay = fold_is_overlay (overlays_of (first ∷ images)) theirs in
    let fit = fold_fits first.rules (first ∷ images) (have_rules level first None (first ∷ images) held.0 parts held) held (mark_theirs (first ∷ images) theirs) in
    record {
      good = good_fold level which first images parts held civil;
      overlay = overlay;
      sorted = sorted_of_order (folded (overlays_of (first ∷ images))).records overlay.ordered;
      fit = fit;
      marked = all_among (folded (overlays_of (first ∷ images))) (folded (overlays_of (first ∷ images))).records overlay.ids (ids_of first.rules (folded (overlays_of (first ∷ images))).records fit) overlay.marked;
      theirs = mark_theirs (first ∷ images) theirs;
    }

-- a fold is of no base
pub above_base : (level : Level) → (level ≡ Day) ⊎ (level ≡ Month) → level ≢ Base
above_base Base which is = elim which [
  | inl day ↦ absurd (let d = day in cc)
  | inr month ↦ absurd (let m = month in cc)
]
above_base Hour which is = absurd (let e = is in cc)
above_base Day which is = absurd (let e = is in cc)
above_base Month which is = absurd (let e = is in cc)

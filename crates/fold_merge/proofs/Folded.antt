-- The records of a fold fit its rules.
use Rattle.std.proofs.Common.{◌≡◌, List, [], ◌∷◌, sym, ap, subst}
use Rattle.std.specs.Prelude.{filter}
use Rattle.std.specs.List.{AllByRecursion}
use Rattle.live_model.specs.declared.records.Rec.{Rec}
use Rattle.live_model.specs.declared.rules.Rule.{Rule}
use Rattle.live_model.specs.Fits.{Fits, FitsRules}
use Rattle.live_model.specs.Maps.{Overlay, folded}
use Rattle.live_model.specs.MapLaws.{MarksItsRecords}
use Rattle.obf_reader.specs.Images.{Seen}
use Rattle.ordered_lists.proofs.PutAll.{all_append, all_filter}
use Rattle.map_laws.specs.Laws.{later_records, untouched_by}
use Rattle.map_laws.proofs.InOrder.{all_ordered}
use Rattle.map_laws.proofs.MoreLaws.{merged_is}
use Rattle.obf_reader.specs.Overlays.{overlay_of}
use Rattle.packed_image.specs.Overlays.{HoldsParts}
use Rattle.fold_merge.specs.Folds.{overlays_of}
use Rattle.fold_merge.proofs.Asked.{HaveRules}

later_fit : (rules : List Rule) (images : List Seen) → HaveRules rules images → AllByRecursion HoldsParts images → FitsRules rules (later_records (overlays_of images))
later_fit rules [] same held = tt
later_fit rules (i ∷ is) same held =
    all_append (Fits rules) (filter (untouched_by (overlays_of is)) (overlay_of i).records) (later_records (overlays_of is))
    (all_filter (Fits rules) (untouched_by (overlays_of is)) (overlay_of i).records (subst (λ (rules : List Rule). FitsRules rules (overlay_of i).records) same.0 held.0.fit))
    (later_fit rules is same.1 held.1)

pub fold_fits : (rules : List Rule) (images : List Seen) → HaveRules rules images → AllByRecursion HoldsParts images → AllByRecursion MarksItsRecords (overlays_of images) → FitsRules rules (folded (overlays_of images)).records
fold_fits rules images same held marked =
    subst (FitsRules rules) (sym (ap (λ (o : Overlay). o.records) (merged_is (overlays_of images) marked)))
    (all_ordered (Fits rules) (later_records (overlays_of images)) (later_fit rules images same held))

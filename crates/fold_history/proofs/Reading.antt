-- The packed file of a fold is read as this fold.
use Rattle.std.proofs.Common.{List, [], ◌∷◌, Option, None, refl}
use Rattle.std.specs.Prelude.{IfSome}
use Rattle.std.specs.List.{AllByRecursion}
use Rattle.live_model.specs.Maps.{folded}
use Rattle.ordered_lists.proofs.PutAll.{all_map}
use Rattle.stamp_core.specs.Hours.{CivilHour, IsCivilHour}
use Rattle.file_grammar.specs.Files.{whole}
use Rattle.file_grammar.specs.Readings.{IsInMemory}
use Rattle.obf_reader.specs.Images.{IsImage, IsImageFile, Seen}
use Rattle.packed_image.specs.Overlays.{HoldsParts}
use Rattle.packed_image.proofs.PackedImages.{image_of_parts}
use Rattle.fold_merge.specs.Folds.{common_rules, first_hour, fold_head, last_hour, overlays_of}
use Rattle.fold_merge.proofs.Covering.{AreCivil}
use Rattle.fold_merge.proofs.Ended.{can_be_packed}
use Rattle.fold_history.specs.Files.{IsReadAsFold}

-- what it holds can be packed, and its hours are hours of the calendar
abbrev pub Holds : Seen → Type 0
Holds image = HoldsParts image × AreCivil image

begins_civil : (images : List Seen) → AllByRecursion Holds images → IfSome (first_hour images) IsCivilHour
begins_civil [] all = tt
begins_civil (i ∷ is) all = all.0.1.0

ends_civil : (last : Option CivilHour) → IfSome last IsCivilHour → (images : List Seen) → AllByRecursion Holds images → IfSome (last_hour last images) IsCivilHour
ends_civil last civil [] all = civil
ends_civil last civil (i ∷ is) all = ends_civil i.head.last all.0.1.1 is all.1

pub read_as_fold : (images : List Seen) (image : Seen) → AllByRecursion Holds images → IsImage image → IsImageFile image → IsInMemory (whole image.bytes) → AreCivil image → IsReadAsFold images image
read_as_fold images image all is file memory own = λ level some which none packed.
    let held = all_map Holds HoldsParts images (λ i h. h.0) all in
    let civil = all_map Holds AreCivil images (λ i h. h.1) all in
    let can = can_be_packed level which images some none held civil in
    record {
      some = some;
      period = which;
      fold = record {
        follow = none;
        parts = image_of_parts image image.bytes (fold_head level images) (common_rules images) (folded (overlays_of images)).marks (folded (overlays_of images)).records refl packed is file memory own
            (begins_civil images all, ends_civil None tt images all) can.overlay.ids;
      };
    }

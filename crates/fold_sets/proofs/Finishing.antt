-- The images of a plan can become one, and their fold finishes it.
use Rattle.std.proofs.Common.{◌≡◌, ◌≢◌, List, [], ◌∷◌, Option, None, map, refl, ap, ap₂, ◌∙◌}
use Rattle.live_model.specs.declared.rules.Rule.{Rule}
use Rattle.live_model.specs.Maps.{Overlay, folded}
use Rattle.stamp_core.specs.Hours.{CivilHour}
use Rattle.stamp_core.specs.declared.head.Head.{Head}
use Rattle.file_order.specs.Folding.{not_fold}
use Rattle.file_order.specs.Runs.{Placed}
use Rattle.obf_reader.specs.Images.{Seen}
use Rattle.obf_reader.specs.Overlays.{overlay_of}
use Rattle.overlay_set.specs.Sets.{Image, MapFile, images_of, overlays_of}
use Rattle.overlay_set.specs.Swaps.{common_rules, first_stamp, fold_image, last_stamp}
use Rattle.overlay_set.proofs.Planning.{level_of}
use Rattle.fold_merge.specs.Folds.{first_hour, last_hour, common_rules as rules_of_first, overlays_of as overlays_seen, placed_of}
use Rattle.published_set.specs.Sets.{images_in}
use Rattle.fold_sets.specs.Folding.{AcceptedLaw, FinishedLaw}
use Rattle.fold_sets.proofs.Accepting.{files_follow, placed}

-- Images that can become one.

-- what the place of an image depends on is among what it stands for
abbrev placed_as : Image → Placed
placed_as i = record { head = i.head; rules = i.rules }

images_placed : (is : List Seen) → map placed_of is ≡ map placed_as (images_in is)
images_placed [] = refl
images_placed (i ∷ is) = ap (λ l. placed_of i ∷ l) (images_placed is)

files_placed : (fs : List MapFile) → map placed_as (images_of fs) ≡ map placed fs
files_placed [] = refl
files_placed (f ∷ fs) = ap (λ l. placed f ∷ l) (files_placed fs)

-- files have images
some_images : (is : List Seen) (fs : List MapFile) → images_in is ≡ images_of fs → fs ≢ [] → is ≢ []
some_images is [] same some none = some refl
some_images [] (f ∷ fs) same some none = absurd cc
some_images (i ∷ is) (f ∷ fs) same some none = absurd cc

pub accepted_law : AcceptedLaw
accepted_law plan s images rising fits same = record {
  some = some_images images plan.files same fits.some;
  level_is = level_of plan.level fits.level;
  follow = ap (not_fold plan.level) (images_placed images ∙ ap (map placed_as) same ∙ files_placed plan.files) ∙ files_follow plan s rising fits;
}

-- The fold of images.

firsts : (is : List Seen) → first_hour is ≡ first_stamp (images_in is)
firsts [] = refl
firsts (i ∷ is) = refl

lasts : (last : Option CivilHour) (is : List Seen) → last_hour last is ≡ last_stamp last (images_in is)
lasts last [] = refl
lasts last (i ∷ is) = lasts i.head.last is

tables : (is : List Seen) → rules_of_first is ≡ common_rules (images_in is)
tables [] = refl
tables (i ∷ is) = refl

overlays : (is : List Seen) → overlays_seen is ≡ overlays_of (images_in is)
overlays [] = refl
overlays (i ∷ is) = ap (λ l. overlay_of i ∷ l) (overlays is)

pub finished_law : FinishedLaw
finished_law plan images image same f =
    ap (λ (h : Head). record { head = h; rules = image.rules; overlay = overlay_of image })
    (f.parts.head_is ∙ ap₂ (λ (first last : Option CivilHour). record { level = plan.level; first = first; last = last }) (firsts images) (lasts None images))
    ∙ ap₂ (λ (rules : List Rule) (o : Overlay). record { head = record { level = plan.level; first = first_stamp (images_in images); last = last_stamp None (images_in images) }; rules = rules; overlay = o })
    (f.parts.rules_are ∙ tables images) (f.parts.overlay_is ∙ ap folded (overlays images))
    ∙ ap (fold_image plan.level) same

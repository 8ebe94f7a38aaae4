-- The fold of images.
use Rattle.std.specs.Prelude.{◌≡◌, List, [], ◌∷◌, Contains, map, Option, Some, None}
use Rattle.std.specs.List.{AllByRecursion}
use Rattle.std.specs.List.Sorted.{IsSorted}
use Rattle.live_model.specs.declared.levels.Level.{Level}
use Rattle.live_model.specs.declared.rules.Rule.{Rule}
use Rattle.live_model.specs.Fits.{FitsRules}
use Rattle.live_model.specs.MapLaws.{IsOverlay, MarksItsRecords}
use Rattle.live_model.specs.Maps.{Overlay, folded}
use Rattle.live_model.specs.Records.{record_cmp, record_id}
use Rattle.stamp_core.specs.declared.head.Head.{Head}
use Rattle.stamp_core.specs.Heads.{IsGoodHead}
use Rattle.stamp_core.specs.Hours.{CivilHour}
use Rattle.file_order.specs.Folding.{not_fold}
use Rattle.file_order.specs.Runs.{Placed}
use Rattle.obf_reader.specs.Images.{Seen}
use Rattle.obf_reader.specs.Overlays.{overlay_of}
use Rattle.packed_image.specs.Packed.{IsImageOfParts}
use Rattle.fold_merge.specs.declared.error.FoldError.{FoldError}
use Rattle.fold_merge.specs.declared.error.FoldError.TheVariants.{NoMemory, Not}

-- what the place of an image among others depends on
abbrev pub placed_of : Seen → Placed
placed_of image = record { head = image.head; rules = image.rules }

-- what images lay over a map, one after another
abbrev pub overlays_of : List Seen → List Overlay
overlays_of images = map overlay_of images

-- the first hour of the first
abbrev pub first_hour : List Seen → Option CivilHour
first_hour [] = None
first_hour (image ∷ images) = image.head.first

-- the last hour of the last, and this one where there is none
abbrev pub last_hour : Option CivilHour → List Seen → Option CivilHour
last_hour last [] = last
last_hour last (image ∷ images) = last_hour image.head.last images

-- the rules of the first
abbrev pub common_rules : List Seen → List Rule
common_rules [] = []
common_rules (image ∷ images) = image.rules

-- from the first hour to the last
abbrev pub fold_head : Level → List Seen → Head
fold_head level images = record { level = level; first = first_hour images; last = last_hour None images }

-- the fold of images meets what is asked of parts that are packed
pub record CanBePacked (level : Level) (images : List Seen) : Type 0 where
  pub good : IsGoodHead (fold_head level images)
  pub overlay : IsOverlay (folded (overlays_of images))
  pub sorted : IsSorted record_cmp (folded (overlays_of images)).records
  pub fit : FitsRules (common_rules images) (folded (overlays_of images)).records
  pub marked : AllByRecursion (λ r. Contains (folded (overlays_of images)).marks (record_id r)) (folded (overlays_of images)).records
  pub theirs : AllByRecursion MarksItsRecords (overlays_of images)

-- the images can become one, and this is the image of the packed file of their fold
pub record IsFoldOf (level : Level) (images : List Seen) (image : Seen) : Type 0 where
  pub follow : not_fold level (map placed_of images) ≡ None
  pub parts : IsImageOfParts image (fold_head level images) (common_rules images) (folded (overlays_of images)).marks (folded (overlays_of images)).records

-- the first image that cannot become one with those before it is reported; out of memory nothing is
abbrev pub IsRefused : FoldError → Level → List Seen → Type 0
IsRefused NoMemory level images = Unit {0}
IsRefused (Not misfit) level images = not_fold level (map placed_of images) ≡ Some misfit

-- What an image holds, and that it can be packed.
use Rattle.std.specs.Prelude.{◌≡◌, ◌≢◌, ◌≤◌, [], length, map}
use Rattle.std.specs.List.{AllByRecursion}
use Rattle.live_model.specs.declared.levels.Level.TheVariants.{Base}
use Rattle.live_model.specs.Fits.{FitsRules}
use Rattle.live_model.specs.Ids.{ordinal}
use Rattle.live_model.specs.MapLaws.{IsOverlay}
use Rattle.live_model.specs.Rules.{IsRule}
use Rattle.stamp_core.specs.Heads.{IsGoodHead}
use Rattle.obf_reader.specs.Images.{Seen}
use Rattle.obf_reader.specs.Overlays.{overlay_of}

-- what every image holds can be packed: its head is good, a base marks nothing, above it the records are of marked objects, in order,
-- all records fit the rules, and a text can spell these
pub record HoldsParts (image : Seen) : Type 0 where
  pub head : IsGoodHead image.head
  pub marks : map ordinal (overlay_of image).marks ≡ image.marks
  pub base : image.head.level ≡ Base → image.marks ≡ []
  pub above : image.head.level ≢ Base → IsOverlay (overlay_of image)
  pub fit : FitsRules image.rules (overlay_of image).records
  pub spelled : AllByRecursion IsRule image.rules × (length image.rules ≤ 100000)

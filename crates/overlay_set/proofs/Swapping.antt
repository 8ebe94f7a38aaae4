-- A set stands after each swap that may come, and after a journal.
use Rattle.std.proofs.Common.{◌≡◌, List, [], ◌∷◌, refl}
use Rattle.live_model.specs.MapLaws.{FoldsLaw}
use Rattle.overlay_set.specs.Sets.{MapFile}
use Rattle.overlay_set.specs.Standing.{Stands}
use Rattle.overlay_set.specs.Swaps.{Add, Replace, applied}
use Rattle.overlay_set.proofs.Overlays.{SwapOverLaw}
use Rattle.overlay_set.proofs.Adding.{stands_add}
use Rattle.overlay_set.proofs.Folding.{stands_fold}
use Rattle.overlay_set.proofs.Staying.{plan_stands}

pub swap_law : FoldsLaw → SwapOverLaw
swap_law law rules base s (Add entry image) good st takes = stands_add rules base s entry image st takes
swap_law law rules base s (Replace plan image) good st takes = go plan.files refl
  where
    go : (files : List MapFile) → plan.files ≡ files → Stands rules base (applied s (Replace plan image))
    go [] e = absurd (takes.0.some e)
    go (r ∷ rs) e = stands_fold law rules base s plan image r rs e good st takes.0 (plan_stands rules base s plan st takes.0 takes.1) takes.2

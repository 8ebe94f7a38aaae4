-- Folds that were written and read.
use Rattle.std.specs.Prelude.{◌≡◌, ◌≢◌, ◌⊎◌, List, [], map, None}
use Rattle.live_model.specs.declared.levels.Level.{Level}
use Rattle.live_model.specs.declared.levels.Level.TheVariants.{Day, Month}
use Rattle.live_model.specs.Ids.{ordinal}
use Rattle.live_model.specs.Maps.{folded}
use Rattle.file_grammar.specs.Files.{head_numbers}
use Rattle.file_order.specs.Folding.{not_fold}
use Rattle.obf_reader.specs.Images.{Seen}
use Rattle.obf_writer.specs.PackedFile.{IsPackedFile}
use Rattle.fold_merge.specs.Folds.{common_rules, fold_head, overlays_of, placed_of}
use Rattle.fold_history.specs.Forests.{IsPeriodOf}

-- where the images can become one, and the bytes of this one are the packed file of their fold, it is their fold
abbrev pub IsReadAsFold : List Seen → Seen → Type 0
IsReadAsFold images image =
    (level : Level) → images ≢ [] → (level ≡ Day) ⊎ (level ≡ Month) → not_fold level (map placed_of images) ≡ None
    → IsPackedFile image.bytes (head_numbers (fold_head level images)) (common_rules images) (map ordinal (folded (overlays_of images)).marks) (folded (overlays_of images)).records
    → IsPeriodOf level images image

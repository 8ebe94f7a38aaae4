-- Whether the images of map files that were read follow one another is what the files tell.
use Rattle.std.proofs.Common.{◌≡◌, ◌∙◌, ℕ, List, [], ◌∷◌, map, Option, ap, refl}
use Rattle.std.specs.Option.{option_map}
use Rattle.file_order.specs.declared.kinds.NotRun.{NotRun}
use Rattle.file_order.specs.Runs.{Placed}
use Rattle.obf_reader.specs.Images.{Seen}
use Rattle.obf_reader.specs.Overlays.{overlay_of}
use Rattle.run_model.specs.Inputs.{misfit_of}
use Rattle.run_model.specs.MapFiles.{map_files_in, overlays_in, placed_in}
use Rattle.obf_run.specs.Images.{AreHeld}

-- what the place of an image among others depends on
abbrev pub placed_of : Seen → Placed
placed_of image = record { head = image.head; rules = image.rules }

pub placed_same : (texts : List (List ℕ)) (images : List Seen) → AreHeld texts images → map placed_in (map_files_in texts) ≡ map placed_of images
placed_same [] [] held = refl
placed_same [] (i ∷ images) held = absurd held
placed_same (t ∷ texts) [] held = absurd held
placed_same (t ∷ texts) (i ∷ images) held =
    let more = placed_same texts images held.1 in λ k. record { head = held.0.head k; rules = held.0.rules k } ∷ more k

pub overlays_same : (texts : List (List ℕ)) (images : List Seen) → AreHeld texts images → overlays_in (map_files_in texts) ≡ map overlay_of images
overlays_same [] [] held = refl
overlays_same [] (i ∷ images) held = absurd held
overlays_same (t ∷ texts) [] held = absurd held
overlays_same (t ∷ texts) (i ∷ images) held = let more = overlays_same texts images held.1 in λ k. held.0.overlay k ∷ more k

-- what fails of the places of images fails of the map files that were read
pub fails_alike : (fails : List Placed → Option NotRun) (names : List (List ℕ)) (texts : List (List ℕ)) (images : List Seen) (told : Option NotRun) → AreHeld texts images
    → fails (map placed_of images) ≡ told → option_map (misfit_of names) (fails (map placed_in (map_files_in texts))) ≡ option_map (misfit_of names) told
fails_alike fails names texts images told held is = ap (option_map (misfit_of names)) (ap fails (placed_same texts images held) ∙ is)

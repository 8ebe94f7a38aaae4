-- What texts hold is what their images hold.
use Rattle.std.proofs.Common.{◌≡◌, List, [], ◌∷◌, map, None, refl, ap, ◌∙◌}
use Rattle.std.specs.List.{AllByRecursion}
use Rattle.std.specs.Option.{option_map}
use Rattle.live_model.specs.declared.objects.Line.{Line}
use Rattle.live_model.specs.declared.queries.Query.{Query}
use Rattle.live_model.specs.declared.rows.Row.{Row}
use Rattle.live_model.specs.declared.rules.Rule.{Rule}
use Rattle.live_model.specs.Maps.{answer, laid}
use Rattle.file_order.specs.Runs.{Placed, not_run}
use Rattle.obf_reader.specs.Images.{Seen}
use Rattle.query_merge.specs.Questions.{answer_over}
use Rattle.query_text.specs.Lines.{answer_text}
use Rattle.fold_merge.specs.Folds.{placed_of}
use Rattle.map_history.specs.Written.{AreOfHistory, Change}
use Rattle.fold_history.specs.Cuts.{CutAnswers, IsCut}
use Rattle.run_model.specs.Inputs.{misfit_of}
use Rattle.run_model.specs.Jobs.{prints, rows_over}
use Rattle.run_model.specs.MapFiles.{map_files_in}
use Rattle.obf_run.specs.Images.{AreHeld, IsHeld}
use Rattle.obf_run.proofs.Follows.{overlays_same, placed_same}
use Rattle.run_history.specs.Shown.{ShowsRebuilt, TellTheirTexts, texts_of}
use Rattle.run_history.proofs.History.{of_history}

-- the bytes of an image hold what it holds
abbrev pub IsOwn : Seen → Type 0
IsOwn image = IsHeld image.bytes image

are_held : (images : List Seen) → AllByRecursion IsOwn images → AreHeld (texts_of images) images
are_held [] all = tt
are_held (i ∷ is) all = (all.0, are_held is all.1)

rows_told : (query : Query) (images : List Seen) → AllByRecursion IsOwn images → rows_over query (map_files_in (texts_of images)) ≡ answer_over query images
rows_told query [] all = refl
rows_told query (i ∷ is) all =
    let more = overlays_same (texts_of is) is (are_held is all.1) in
    λ k. answer (all.0.rules k) query (laid (all.0.overlay k).records (more k))

pub told : (images : List Seen) → AllByRecursion IsOwn images → TellTheirTexts images
told images all = λ query.
    (rows_told query images all, λ names. ap (λ (places : List Placed). option_map (misfit_of names) (not_run places)) (placed_same (texts_of images) images (are_held images all)))

-- what is told of images, and holds of a cut of a history, is shown
pub shown : (written images : List Seen) → TellTheirTexts images
    → ((rules : List Rule) (base : List Line) (changes : List Change) → AreOfHistory rules base changes written → IsCut written images → not_run (map placed_of images) ≡ None)
    → CutAnswers written images → ShowsRebuilt written images
shown written images tell follow answers = λ rules base changes runs cut query names.
    let history : AreOfHistory rules base changes written = of_history rules base changes written runs in
    let t = tell query in (
      t.1 names ∙ ap (option_map (misfit_of names)) (follow rules base changes history cut),
      λ outcome is. is ∙ ap (λ (rows : List Row). prints (answer_text rows)) (t.0 ∙ answers rules base changes query history cut),
    )

-- What a run of `ask` prints of map files that runs wrote.
use Rattle.std.specs.Prelude.{◌≡◌, ℕ, List, map, None}
use Rattle.std.specs.Option.{option_map}
use Rattle.live_model.specs.declared.objects.Line.{Line}
use Rattle.live_model.specs.declared.queries.Query.{Query}
use Rattle.live_model.specs.declared.rules.Rule.{Rule}
use Rattle.live_model.specs.Maps.{answer, rebuilt}
use Rattle.file_order.specs.Runs.{not_run}
use Rattle.obf_reader.specs.Images.{Seen}
use Rattle.query_merge.specs.Questions.{answer_over}
use Rattle.query_text.specs.Lines.{answer_text}
use Rattle.fold_merge.specs.Folds.{placed_of}
use Rattle.map_history.specs.Written.{Change, lines_of}
use Rattle.fold_history.specs.Cuts.{IsCut}
use Rattle.run_model.specs.Inputs.{misfit_in, misfit_of}
use Rattle.run_model.specs.Jobs.{Job, Outcome, prints, rows_over}
use Rattle.run_model.specs.MapFiles.{map_files_in}
use Rattle.run_model.specs.Requests.{ask_files}
use Rattle.run_history.specs.Written.{AreWritten}

-- the bytes of images
abbrev pub texts_of : List Seen → List (List ℕ)
texts_of images = map (λ i. i.bytes) images

-- what a run owes of the bytes of images is told by the images: the rows, and the first file that does not follow
abbrev pub TellTheirTexts : List Seen → Type 0
TellTheirTexts images =
    (query : Query) → (rows_over query (map_files_in (texts_of images)) ≡ answer_over query images)
    × ((names : List (List ℕ)) → misfit_in (ask_files query names) (texts_of images) ≡ option_map (misfit_of names) (not_run (map placed_of images)))

-- where runs wrote the files of a base and of changes, `ask` over any cut of these finds no file that does not follow, and prints the rows of
-- the map made anew
abbrev pub ShowsRebuilt : (written images : List Seen) → Type 0
ShowsRebuilt written images =
    (rules : List Rule) (base : List Line) (changes : List Change) → AreWritten rules base changes (texts_of written) → IsCut written images → (query : Query) (names : List (List ℕ))
    → (misfit_in (ask_files query names) (texts_of images) ≡ None)
    × ((outcome : Outcome) → Job (ask_files query names) (texts_of images) outcome → outcome ≡ prints (answer_text (answer rules query (rebuilt rules base (lines_of changes)))))

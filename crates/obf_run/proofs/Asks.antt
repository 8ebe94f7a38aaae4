-- The answer of a question over map files that were read, and what it costs.
use Rattle.std.proofs.Common.{◌≡◌, ◌≤◌, ◌+◌, ◌∙◌, ℕ, List, [], ◌∷◌, map, Option, Some, None, ap, inl, inr, refl, subst, sym}
use Rattle.std.specs.Option.{option_map}
use Rattle.std.proofs.lemmas.List.Sums.{sum_by-cons}
use Rattle.live_model.specs.declared.queries.Query.{Query}
use Rattle.live_model.specs.declared.rows.Row.{Row}
use Rattle.live_model.specs.Maps.{answer, laid}
use Rattle.file_order.specs.declared.kinds.NotRun.{NotRun}
use Rattle.file_order.specs.Runs.{Placed, not_run}
use Rattle.obf_reader.specs.Images.{Seen}
use Rattle.query_merge.specs.Questions.{answer_over, due_in, due_over}
use Rattle.query_text.specs.Lines.{answer_text}
use Rattle.outside.specs.Files.{FilesState}
use Rattle.run_model.specs.Endings.{Ending, misfit, no_memory}
use Rattle.run_model.specs.Inputs.{in_turn, map_files, misfit_of}
use Rattle.run_model.specs.Jobs.{prints, rows_over, task_of}
use Rattle.run_model.specs.MapFiles.{blocks_due, map_files_in, parts_in, placed_in}
use Rattle.run_model.specs.Requests.{ask_files}
use Rattle.run_model.specs.Runs.{StepsFor, WorksTo, change}
use Rattle.run_model.proofs.Readings.{all_short}
use Rattle.obf_run.specs.Finishing.{EndsEarly}
use Rattle.obf_run.specs.Images.{AreHeld, AreRead}
use Rattle.obf_run.proofs.Follows.{fails_alike, overlays_same, placed_of}

-- the places of what are images are those of the images
placed_each : {X : Type 0} (of : X → Seen) (xs : List X) → map placed_of (map of xs) ≡ map (λ (x : X). record { head = (of x).head; rules = (of x).rules }) xs
placed_each of [] = refl
placed_each of (x ∷ xs) = ap (λ (ps : List Placed). placed_of (of x) ∷ ps) (placed_each of xs)

-- the rows over map files are those over their images
rows_same : (query : Query) (texts : List (List ℕ)) (images : List Seen) → AreHeld texts images → rows_over query (map_files_in texts) ≡ answer_over query images
rows_same query [] [] held = refl
rows_same query [] (i ∷ images) held = absurd held
rows_same query (t ∷ texts) [] held = absurd held
rows_same query (t ∷ texts) (i ∷ images) held =
    let more = overlays_same texts images held.1 in
    λ k. answer (held.0.rules k) query (laid (held.0.overlay k).records (more k))

-- and so are the blocks that are due
due_same : (query : Query) (texts : List (List ℕ)) (images : List Seen) → AreHeld texts images → due_over query images ≡ blocks_due query texts
due_same query [] [] held = refl
due_same query [] (i ∷ images) held = absurd held
due_same query (t ∷ texts) [] held = absurd held
due_same query (t ∷ texts) (i ∷ images) held =
    let more = due_same query texts images held.1 in
    let each : List ℕ → ℕ = λ text. due_in query (parts_in text) in
    (λ k. due_in query (sym held.0.parts k) + more k) ∙ sym (sum_by-cons (λ (n : ℕ). n) (each t) (map each texts))

module _ (before after : FilesState) (query : Query) (names : List (List ℕ)) {X : Type 0} (of : X → Seen) (xs : List X) (made : AreRead before after names (map of xs)) where
  -- whether the files follow is whether their images do
  follow_same : (told : Option NotRun) → not_run (map (λ (x : X). record { head = (of x).head; rules = (of x).rules }) xs) ≡ told
      → option_map (misfit_of names) (not_run (map placed_in (map_files_in made.texts))) ≡ option_map (misfit_of names) told
  follow_same told is = fails_alike not_run names made.texts (map of xs) told made.held (ap not_run (placed_each of xs) ∙ is)

  -- one of the files does not follow
  pub question_refused : (told : NotRun) (e : Ending) → not_run (map (λ (x : X). record { head = (of x).head; rules = (of x).rules }) xs) ≡ Some told
      → e ≡ misfit (misfit_of names told) → EndsEarly e (change before after) (task_of (ask_files query names))
  question_refused told e is same = inr (misfit_of names told, same, record { texts = made.texts; reads = made.reads; first = follow_same (Some told) is })

  -- all follow, and the answer has the rows over their images
  pub question_works : (answer : List ℕ) → not_run (map (λ (x : X). record { head = (of x).head; rules = (of x).rules }) xs) ≡ None
      → answer ≡ answer_text (answer_over query (map of xs)) → WorksTo before after (task_of (ask_files query names)) (prints answer)
  question_works answer is same = record {
    texts = made.texts;
    between = after;
    reads = made.reads;
    follow = follow_same None is;
    outcome = prints answer;
    does = ap (λ (text : List ℕ). prints text) (same ∙ ap (λ (rows : List Row). answer_text rows) (sym (rows_same query made.texts (map of xs) made.held)));
    holds = (refl, refl);
  }

  -- out of memory after all files were read
  pub question_short : (e : Ending) → e ≡ no_memory → EndsEarly e (change before after) (task_of (ask_files query names))
  question_short e same =
      subst (λ (e : Ending). EndsEarly e (change before after) (task_of (ask_files query names))) (sym same)
      (inl (all_short (in_turn (map_files names)) made.texts before after made.reads))

  -- no more steps than blocks that are due
  pub question_steps : (old new : ℕ) → new ≤ old + due_over query (map of xs) → StepsFor (Some (ask_files query names)) (change before after) (change old new)
  question_steps old new within = inr (record {
    texts = made.texts;
    reads = made.reads;
    within = subst (λ (n : ℕ). new ≤ old + n) (due_same query made.texts (map of xs) made.held) within;
  })

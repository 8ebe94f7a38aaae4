-- One map file in place of several that were read.
use Rattle.std.proofs.Common.{◌≡◌, ◌≢◌, ◌∙◌, ℕ, List, [], ◌∷◌, length, map, Option, Some, None, ap, inl, inr, refl, subst, sym}
use Rattle.std.specs.List.{last_or}
use Rattle.std.specs.Option.{option_and_then}
use Rattle.std.proofs.lemmas.List.{length-map}
use Rattle.live_model.specs.declared.levels.Level.{Level}
use Rattle.live_model.specs.Ids.{ordinal}
use Rattle.live_model.specs.Maps.{Overlay, folded}
use Rattle.stamp_core.specs.declared.head.Head.{Head}
use Rattle.stamp_core.specs.Hours.{CivilHour}
use Rattle.file_order.specs.declared.kinds.NotRun.{NotRun}
use Rattle.file_order.specs.Folding.{not_fold}
use Rattle.file_grammar.specs.Sections.{object_of}
use Rattle.file_lines.specs.FileLines.{file_line}
use Rattle.obf_reader.specs.Images.{Seen}
use Rattle.fold_merge.specs.declared.error.FoldError.{FoldError}
use Rattle.fold_merge.specs.declared.error.FoldError.TheVariants.{Not}
use Rattle.fold_merge.specs.Folds as F
use Rattle.fold_merge.specs.Folds.{IsFoldOf, IsRefused, common_rules, overlays_of}
use Rattle.outside.specs.Files.{FilesState}
use Rattle.run_model.specs.declared.request.Period.{Period}
use Rattle.run_model.specs.Endings.{Ending, misfit, no_memory}
use Rattle.run_model.specs.Inputs.{in_turn, map_files, misfit_of}
use Rattle.run_model.specs.Jobs.{IsPacked, Parts, fold_parts, task_of}
use Rattle.run_model.specs.MapFiles.{MapFile, first_hour, first_rules, last_hour, map_file_in, map_files_in}
use Rattle.run_model.specs.Reads.{ReadInOrder}
use Rattle.run_model.specs.Requests.{fold_files, level_of}
use Rattle.run_model.specs.Runs.{WorksTo, change}
use Rattle.run_model.proofs.Readings.{all_short}
use Rattle.obf_run.specs.declared.folding.Folded.{Folded}
use Rattle.obf_run.specs.Finishing.{EndsEarly, outcome_of_fold}
use Rattle.obf_run.specs.Images.{AreHeld, AreRead}
use Rattle.obf_run.proofs.Follows.{fails_alike, overlays_same}

-- The parts of the file.

first_same : (texts : List (List ℕ)) (images : List Seen) → AreHeld texts images → first_hour (map_files_in texts) ≡ F.first_hour images
first_same [] [] held = refl
first_same [] (i ∷ images) held = absurd held
first_same (t ∷ texts) [] held = absurd held
first_same (t ∷ texts) (i ∷ images) held = ap (λ (h : Head). h.first) held.0.head

-- the last hour of the last file, after one that ends at this hour
last_after : (texts : List (List ℕ)) (images : List Seen) (before : Option MapFile) (hour : Option CivilHour) → option_and_then (λ (f : MapFile). f.head.last) before ≡ hour → AreHeld texts images
    → option_and_then (λ (f : MapFile). f.head.last) (last_or before (map_files_in texts)) ≡ F.last_hour hour images
last_after [] [] before hour same held = same
last_after [] (i ∷ images) before hour same held = absurd held
last_after (t ∷ texts) [] before hour same held = absurd held
last_after (t ∷ texts) (i ∷ images) before hour same held = last_after texts images (Some (map_file_in t)) i.head.last (ap (λ (h : Head). h.last) held.0.head) held.1

last_same : (texts : List (List ℕ)) (images : List Seen) → AreHeld texts images → last_hour (map_files_in texts) ≡ F.last_hour None images
last_same texts images held = last_after texts images None None refl held

rules_same : (texts : List (List ℕ)) (images : List Seen) → AreHeld texts images → first_rules (map_files_in texts) ≡ common_rules images
rules_same [] [] held = refl
rules_same [] (i ∷ images) held = absurd held
rules_same (t ∷ texts) [] held = absurd held
rules_same (t ∷ texts) (i ∷ images) held = held.0.rules

-- what images become as one
abbrev image_parts : Level → List Seen → Parts
image_parts level images =
    let o = folded (overlays_of images) in
    record { head = F.fold_head level images; rules = common_rules images; marks = map ordinal o.marks; records = o.records }

-- it is what the files become
parts_same : (level : Level) (texts : List (List ℕ)) (images : List Seen) → AreHeld texts images → fold_parts level (map_files_in texts) ≡ image_parts level images
parts_same level texts images held =
    let first = first_same texts images held in
    let last = last_same texts images held in
    let rules = rules_same texts images held in
    let os = overlays_same texts images held in
    λ k. record {
      head = record { level = level; first = first k; last = last k };
      rules = rules k;
      marks = map ordinal (folded (os k)).marks;
      records = (folded (os k)).records;
    }

-- the line that was put beside the image of a fold tells this image
abbrev IsTold : Folded → Seen → Type 0
IsTold made image = (made.image ≡ image) × (made.line.items ≡ file_line image.head (length image.marks) image.records)

-- so the packed file of what the files become is written, and its line is printed
fold_packed : (level : Level) (texts : List (List ℕ)) (images : List Seen) (image : Seen) (made : Folded) → AreHeld texts images → IsFoldOf level images image → IsTold made image
    → IsPacked (fold_parts level (map_files_in texts)) (outcome_of_fold made)
fold_packed level texts images image made held fold told =
    let p = fold.parts in
    let o = folded (overlays_of images) in
    let marks : length image.marks ≡ length (map ordinal o.marks) =
    sym (length-map image.marks object_of) ∙ ap (λ (v : Overlay). length v.marks) p.overlay_is ∙ sym (length-map o.marks ordinal) in
    let line : made.line.items ≡ file_line (F.fold_head level images) (length (map ordinal o.marks)) (length o.records) =
    told.1 ∙ (λ k. file_line (p.head_is k) (marks k) (p.count k)) in
    let bytes : made.image.bytes ≡ image.bytes = ap (λ (i : Seen). i.bytes) told.0 in
    subst (λ (parts : Parts). IsPacked parts (outcome_of_fold made)) (sym (parts_same level texts images held))
    (record { bytes = image.bytes; file = p.packed; same = λ k. record { answer = line k; written = Some (bytes k) } })

-- The verb.

module _ {X : Type 0} (of : X → Seen) where
  no_names : (before after : FilesState) (names texts : List (List ℕ)) (xs : List X) → ReadInOrder before after (in_turn (map_files names)) texts → AreHeld texts (map of xs) → xs ≡ [] → names ≡ []
  no_names before after [] texts xs reads held none = refl
  no_names before after (name ∷ names) [] xs reads held none = absurd reads
  no_names before after (name ∷ names) (text ∷ texts) [] reads held none = absurd held
  no_names before after (name ∷ names) (text ∷ texts) (x ∷ xs) reads held none = absurd cc

  -- there is an image where there is a name
  pub some_read : (before after : FilesState) (names : List (List ℕ)) (xs ys : List X) → AreRead before after names (map of xs) → names ≢ [] → ys ≡ xs → ys ≢ []
  some_read before after names xs ys made named same = λ none. named (no_names before after names made.texts xs made.reads made.held (sym same ∙ none))

module _ (before after : FilesState) (period : Period) (output : List ℕ) (names : List (List ℕ)) {X : Type 0} (of : X → Seen) (xs : List X) (made : AreRead before after names (map of xs)) where
  -- all can become one, and this is their fold with its line
  pub fold_works : (level : Level) (image : Seen) (folded : Folded) → level ≡ level_of period → IsFoldOf level (map of xs) image → IsTold folded image
      → WorksTo before after (task_of (fold_files period output names)) (outcome_of_fold folded)
  fold_works level image folded same fold told =
      let fold : IsFoldOf (level_of period) (map of xs) image = subst (λ (l : Level). IsFoldOf l (map of xs) image) same fold in
      record {
        texts = made.texts;
        between = after;
        reads = made.reads;
        follow = fails_alike (not_fold (level_of period)) names made.texts (map of xs) None made.held fold.follow;
        outcome = outcome_of_fold folded;
        does = fold_packed (level_of period) made.texts (map of xs) image folded made.held fold told;
        holds = (refl, refl);
      }

  -- one of the files cannot become one with those before it
  pub fold_refused : (level : Level) (error : FoldError) (told : NotRun) (e : Ending) → level ≡ level_of period → error ≡ Not told → IsRefused error level (map of xs)
      → e ≡ misfit (misfit_of names told) → EndsEarly e (change before after) (task_of (fold_files period output names))
  fold_refused level error told e same is refused ends =
      let first : IsRefused (Not told) (level_of period) (map of xs) = subst (λ (l : Level). IsRefused (Not told) l (map of xs)) same (subst (λ (x : FoldError). IsRefused x level (map of xs)) is refused) in
      inr (
        misfit_of names told,
        ends,
        record {
          texts = made.texts;
          reads = made.reads;
          first = fails_alike (not_fold (level_of period)) names made.texts (map of xs) (Some told) made.held first;
        },
      )

  -- out of memory after all files were read
  pub fold_short : (e : Ending) → e ≡ no_memory → EndsEarly e (change before after) (task_of (fold_files period output names))
  fold_short e same =
      subst (λ (e : Ending). EndsEarly e (change before after) (task_of (fold_files period output names))) (sym same)
      (inl (all_short (in_turn (map_files names)) made.texts before after made.reads))

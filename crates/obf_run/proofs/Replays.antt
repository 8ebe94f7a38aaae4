-- Scripts that were read with the changes that they name, and what was played of them.
use Rattle.std.proofs.Common.{◌≡◌, ◌++◌, ◌∙◌, ℕ, List, [], ◌∷◌, cond, length, map, Option, Some, None, ap, append-nil, arith, inl, inr, refl, subst, sym}
use Rattle.std.specs.Prelude.{filter, filter_map, unwrap_or}
use Rattle.std.specs.List.{AllByRecursion, cons_option}
use Rattle.std.proofs.lemmas.List.{length-map}
use Rattle.std.proofs.lemmas.List.Elements.{filter_map-append}
use Rattle.ordered_lists.proofs.PutAll.{all_append}
use Rattle.live_model.specs.declared.objects.Line.{Line}
use Rattle.live_model.specs.declared.rules.Rule.{Rule}
use Rattle.live_model.specs.Objects.{IsGoodLine}
use Rattle.live_model.specs.OplTexts.{OplText, object_lines}
use Rattle.live_model.specs.Rules.{RuleText}
use Rattle.line_texts.specs.Forms.{IsText}
use Rattle.script_text.specs.declared.steps.Step.{Step}
use Rattle.script_text.specs.declared.steps.What.{What}
use Rattle.script_text.specs.declared.steps.What.TheVariants.{Publish, Ask}
use Rattle.script_text.specs.Scripts.{script_form}
use Rattle.session_text.specs.Plays.{played_text}
use Rattle.outside.specs.Files.{FilesState, OnlyReads}
use Rattle.run_model.specs.Endings.{Ending, no_memory}
use Rattle.run_model.specs.Inputs.{Input, in_turn, input, object_text, object_texts, plan_of, rule_table, script_text}
use Rattle.run_model.specs.Jobs.{AreTexts, prints, task_of}
use Rattle.run_model.specs.PlayedScripts.{changes_named, file_of, steps_in}
use Rattle.run_model.specs.Reads.{EndsAmong, EndsAt, HasRead, ReadInOrder}
use Rattle.run_model.specs.Requests.{replay_script}
use Rattle.run_model.specs.Runs.{WorksTo}
use Rattle.run_model.proofs.Readings.{all_short}
use Rattle.live_session.specs.Scripts.{publications, publishes}
use Rattle.obf_run.specs.Replaying.{AreChanges, EndsAtStep, ReadsLines, ReadsStep}
use Rattle.obf_run.proofs.Changes.{both_names, ends_after, one_more_text, read_after}

-- Changes.

-- the lines of a change that was read, put after others
pub lines_put : (before after : FilesState) (name : List ℕ) (lines : List Line) (old new : List (List Line)) → HasRead before after (input name object_text) (λ text. OplText text lines)
    → AllByRecursion IsGoodLine lines → new ≡ old ++ lines ∷ [] → ReadsLines before after name old new
lines_put before after name lines old new has good last =
    record { text = has.text; read = has.read; lines = lines; spelled = has.holds; good = good; last = last }

-- no change was read yet
pub none_read : (state : FilesState) → AreChanges state state [] []
none_read state = record { texts = []; reads = refl; spelled = tt; good = tt }

-- one change more
one_more_read : (before between after : FilesState) (names : List (List ℕ)) (name : List ℕ) (old new : List (List Line)) → AreChanges before between names old
    → ReadsLines between after name old new → AreChanges before after (names ++ name ∷ []) new
one_more_read before between after names name old new made more = record {
  texts = made.texts ++ more.text ∷ [];
  reads = subst (λ (files : List Input). ReadInOrder before after (in_turn files) (made.texts ++ more.text ∷ [])) (both_names names (name ∷ []))
      (read_after (object_texts names) (input name object_text ∷ []) made.texts (more.text ∷ []) before between after made.reads (after, more.read, refl));
  spelled = subst (λ (changes : List (List Line)). AreTexts (made.texts ++ more.text ∷ []) changes) (sym more.last) (one_more_text made.texts old more.text more.lines made.spelled more.spelled);
  good = subst (λ (changes : List (List Line)). AllByRecursion (λ ls. AllByRecursion IsGoodLine ls) changes) (sym more.last) (all_append (λ ls. AllByRecursion IsGoodLine ls) old (more.lines ∷ []) made.good (more.good, tt));
}

-- what a step names comes after what those before it name
named_after : (steps : List Step) (step : Step) (others : List Step) → changes_named (steps ++ step ∷ others) ≡ changes_named steps ++ cons_option (file_of step.what) (changes_named others)
named_after steps step others = filter_map-append (λ s. file_of s.what) steps (step ∷ others)

-- one step more
pub one_step_more : (before between after : FilesState) (steps : List Step) (step : Step) (old new : List (List Line)) → AreChanges before between (changes_named steps) old
    → ReadsStep between after (file_of step.what) old new → AreChanges before after (changes_named (steps ++ step ∷ [])) new
one_step_more before between after steps step old new made more =
    subst (λ (names : List (List ℕ)). AreChanges before after names new) (sym (named_after steps step [])) (one (file_of step.what) more)
  where
    one : (named : Option (List ℕ)) → ReadsStep between after named old new → AreChanges before after (changes_named steps ++ cons_option named []) new
    one None passed =
        let same : AreChanges before after (changes_named steps) new =
        subst (λ (state : FilesState). AreChanges before state (changes_named steps) new) (sym passed.0) (subst (λ (changes : List (List Line)). AreChanges before between (changes_named steps) changes) (sym passed.1) made) in
        subst (λ (names : List (List ℕ)). AreChanges before after names new) (sym (append-nil (changes_named steps))) same
    one (Some name) read = one_more_read before between after (changes_named steps) name old new made read

-- after the changes of some steps the run ended at that of one
pub ends_at_step : (before between after : FilesState) (steps all : List Step) (step : Step) (others : List Step) (old : List (List Line)) (e : Ending) → AreChanges before between (changes_named steps) old
    → all ≡ steps ++ step ∷ others → EndsAtStep (file_of step.what) between after e → EndsAmong (in_turn (object_texts (changes_named all))) before after e
ends_at_step before between after steps all step others old e made are ends =
    subst (λ (names : List (List ℕ)). EndsAmong (in_turn (object_texts names)) before after e) (sym (ap changes_named are ∙ named_after steps step others)) (one (file_of step.what) ends)
  where
    one : (named : Option (List ℕ)) → EndsAtStep named between after e → EndsAmong (in_turn (object_texts (changes_named steps ++ cons_option named (changes_named others)))) before after e
    one None never = absurd never
    one (Some name) at =
        subst (λ (files : List Input). EndsAmong (in_turn files) before after e) (both_names (changes_named steps) (name ∷ changes_named others))
        (ends_after (object_texts (changes_named steps)) (object_texts (name ∷ changes_named others)) made.texts before between after e made.reads (inl at))

-- There is a change for each publication.

as_many_texts : (texts : List (List ℕ)) (changes : List (List Line)) → AreTexts texts changes → length changes ≡ length texts
as_many_texts [] [] are = refl
as_many_texts [] (c ∷ changes) are = absurd are
as_many_texts (t ∷ texts) [] are = absurd are
as_many_texts (t ∷ texts) (c ∷ changes) are = let rest = as_many_texts texts changes are.1 in omega (arith, rest)

as_many_names : (names texts : List (List ℕ)) (before after : FilesState) → ReadInOrder before after (in_turn (object_texts names)) texts → length texts ≡ length names
as_many_names [] [] before after reads = refl
as_many_names [] (t ∷ texts) before after reads = absurd reads
as_many_names (n ∷ names) [] before after reads = absurd reads
as_many_names (n ∷ names) (t ∷ texts) before after reads = let rest = as_many_names names texts reads.0 after reads.2 in omega (arith, rest)

as_many_steps : (steps : List Step) → length (changes_named steps) ≡ publications steps
as_many_steps [] = refl
as_many_steps (step ∷ steps) = one step.what (as_many_steps steps)
  where
    one : (what : What) → length (changes_named steps) ≡ publications steps
        → length (cons_option (file_of what) (changes_named steps)) ≡ length (cond (publishes what) (step ∷ filter (λ s. publishes s.what) steps) (filter (λ s. publishes s.what) steps))
    one (Publish stamp file) rest = omega (arith, rest)
    one (Ask query) rest = rest

-- of the same steps and changes, seen again
pub changes_count : {X : Type 0} (of : X → List Line) (before after : FilesState) (read seen steps : List Step) (xs shown : List X) → AreChanges before after (changes_named read) (map of xs)
    → read ≡ steps → seen ≡ steps → shown ≡ xs → length shown ≡ publications seen
changes_count of before after read seen steps xs shown made one other same =
    ap length same ∙ sym (length-map xs of) ∙ as_many_texts made.texts (map of xs) made.spelled ∙ as_many_names (changes_named read) made.texts before after made.reads
    ∙ as_many_steps read ∙ ap (λ (ss : List Step). publications ss) (one ∙ sym other)

-- The verb.

module _ (start first second third after : FilesState) (rules base script : List ℕ) (table : List Rule) (lines : List Line) (steps : List Step)
    (has_rules : HasRead start first (input rules rule_table) (λ text. RuleText text table)) (has_base : HasRead first second (input base object_text) (λ text. OplText text lines))
    (has_script : HasRead second third (input script script_text) (λ text. IsText script_form text steps)) where
  -- what is read behind the script is what its steps name
  named_same : changes_named steps ≡ changes_named (steps_in has_script.text)
  named_same = ap (λ (spelled : Option (List Step)). changes_named (unwrap_or spelled [])) (sym has_script.holds.spelled)

  -- the run ended among the changes
  pub changes_end : (e : Ending) → EndsAmong (in_turn (object_texts (changes_named steps))) third after e → EndsAmong (plan_of (replay_script rules base script)) start after e
  changes_end e ends =
      let behind = subst (λ (names : List (List ℕ)). EndsAmong (in_turn (object_texts names)) third after e) named_same ends in
      inr (has_rules.text, first, has_rules.read, inr (has_base.text, second, has_base.read, inr (has_script.text, third, has_script.read, behind)))

  -- or after them, out of memory
  pub play_short : (changes : List (List Line)) → AreChanges third after (changes_named steps) changes → EndsAmong (plan_of (replay_script rules base script)) start after no_memory
  play_short changes made = changes_end no_memory (all_short (in_turn (object_texts (changes_named steps))) made.texts third after made.reads)

  -- all were read, and what was played of the same steps and changes is printed
  pub play_works : {X : Type 0} (of : X → List Line) (xs shown : List X) (seen : List Step) (answer : List ℕ) → AreChanges third after (changes_named steps) (map of xs) → seen ≡ steps → shown ≡ xs
      → answer ≡ played_text table lines seen (map of shown) → WorksTo start after (task_of (replay_script rules base script)) (prints answer)
  play_works of xs shown seen answer made same also is = record {
    texts = has_rules.text ∷ has_base.text ∷ has_script.text ∷ made.texts;
    between = after;
    reads = (
      first,
      has_rules.read,
      (
        second,
        has_base.read,
        (
          third,
          has_script.read,
          subst (λ (names : List (List ℕ)). ReadInOrder third after (in_turn (object_texts names)) made.texts) named_same made.reads,
        ),
      ),
    );
    follow = refl;
    outcome = prints answer;
    does = record {
      rules = table;
      spelled = has_rules.holds;
      base = lines;
      lines = has_base.holds;
      steps = steps;
      read = has_script.holds;
      changes = map of xs;
      spell = made.spelled;
      same = ap (λ (text : List ℕ). prints text) (is ∙ (λ i. played_text table lines (same i) (map of (also i))));
    };
    holds = (refl, refl);
  }

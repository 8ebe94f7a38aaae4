-- All that is said of a run, from the cause of its ending and the line that was put.
use Rattle.std.proofs.Common.{◌≡◌, ◌⊎◌, ℕ, List, Bool, true, false, Option, Some, None, sym, subst, inl, inr}
use Rattle.outside.specs.Files.{FilesState}
use Rattle.outside.specs.Sinks.{SinkState}
use Rattle.run_model.specs.Endings.{Ending, bad_words, too_many_files, no_memory, NamesFile}
use Rattle.run_model.specs.Jobs.{Task, task_of}
use Rattle.run_model.specs.Requests.{Asked, BeginsQuestion, nodes, dump, build, change_map, fold_files, ask_files, check, replay_script, asked_by}
use Rattle.run_model.specs.Runs.{CausedBy, CausedByWords, CausedWithin, Change, Completes, EndsSo, IsDue, IsUntouched, PutsLine, Run, StepsFor, names_too_many, output_for}
use Rattle.run_model.proofs.Causes.{short_caused}
use Rattle.run_model.proofs.Completion.{task_ends}
use Rattle.run_model.proofs.Keeping.{untouched_keeps, words_keep}

-- The ending that is told: that of the run, or out of memory for its line.
abbrev pub IsToldAs : Ending → Ending → Type 0
IsToldAs told e = (told ≡ e) ⊎ ((told ≡ no_memory) × NamesFile e)

-- an ending of too many files names no file
names_none : (e : Ending) → e ≡ too_many_files → NamesFile e → ⊥
names_none e same names = subst NamesFile same names

within_told : (many : Bool) (told e : Ending) (files : Change FilesState) (out : Change SinkState) (task : Task) → CausedWithin many e files out task
    → IsToldAs told e → CausedWithin many told files out task
within_told many told e files out task cause (inl same) = subst (λ (t : Ending). CausedWithin many t files out task) (sym same) cause
within_told true told e files out task cause (inr short) = absurd (names_none e cause.0 short.1)
within_told false told e files out task cause (inr short) =
    subst (λ (t : Ending). CausedWithin false t files out task) (sym short.0) (short_caused e files out task short.1 cause)

words_told : (told : Ending) (files : Change FilesState) (out : Change SinkState) (a : Option Asked) (b : Asked) → a ≡ Some b → CausedBy told files out (task_of b)
    → CausedByWords told files out a
words_told told files out a b is cause = subst (λ (a : Option Asked). CausedByWords told files out a) (sym is) cause

asked_completes : (told : Ending) (words : List (List ℕ)) (run : Run) (a : Asked) → asked_by words ≡ Some a → CausedBy told run.files run.out (task_of a) → Completes told words run
asked_completes told words run a is cause = λ other contents asks tells fresh.
    let one : a ≡ other = cc in
    subst (λ (o : Asked). IsDue told (task_of o) contents ⊎ (told ≡ no_memory)) one (task_ends told run.files run.out (task_of a) contents cause tells fresh)

-- what takes no step takes no more than it may
pub no_steps : (a : Option Asked) (files : Change FilesState) (steps : Change ℕ) → steps.after ≡ steps.before → StepsFor a files steps
no_steps None files steps none_taken = none_taken
no_steps (Some (ask_files query names)) files steps none_taken = inl none_taken
no_steps (Some (nodes rect base)) files steps none_taken = tt
no_steps (Some (dump base)) files steps none_taken = tt
no_steps (Some (build rules base output)) files steps none_taken = tt
no_steps (Some (change_map rules base hour output changes)) files steps none_taken = tt
no_steps (Some (fold_files period output names)) files steps none_taken = tt
no_steps (Some (check file)) files steps none_taken = tt
no_steps (Some (replay_script rules base script)) files steps none_taken = tt

-- a run of words that ask for something
pub asked_ends : (told e : Ending) (words : List (List ℕ)) (run : Run) (a : Asked) → asked_by words ≡ Some a → CausedBy e run.files run.out (task_of a)
    → StepsFor (Some a) run.files run.steps → IsToldAs told e → PutsLine told run.err → EndsSo told words run
asked_ends told e words run a is cause steps told_as line =
    let told_cause : CausedBy told run.files run.out (task_of a) = within_told (names_too_many (task_of a)) told e run.files run.out (task_of a) cause told_as in
    let by_words : CausedByWords told run.files run.out (asked_by words) = words_told told run.files run.out (asked_by words) a is told_cause in
    record {
      cause = inl by_words;
      keeps = words_keep told run.files run.out (asked_by words) by_words;
      complete = asked_completes told words run a is told_cause;
      steps = subst (λ (a : Option Asked). StepsFor a run.files run.steps) (sym is) steps;
      told = line;
    }

-- a run of words that ask for nothing
pub unasked_ends : (told : Ending) (words : List (List ℕ)) (run : Run) → asked_by words ≡ None → IsToldAs told bad_words → IsUntouched run.files run.out
    → run.steps.after ≡ run.steps.before → PutsLine told run.err → EndsSo told words run
unasked_ends told words run is (inr short) untouched none_taken line = absurd short.1
unasked_ends told words run is (inl same) untouched none_taken line =
    let none : CausedByWords told run.files run.out None = (same, untouched) in
    let by_words : CausedByWords told run.files run.out (asked_by words) = subst (λ (a : Option Asked). CausedByWords told run.files run.out a) (sym is) none in
    record {
      cause = inl by_words;
      keeps = words_keep told run.files run.out (asked_by words) by_words;
      complete = λ other contents asks tells fresh. absurd cc;
      steps = no_steps (asked_by words) run.files run.steps none_taken;
      told = line;
    }

-- out of memory no other ending is told
told_short : (told : Ending) → IsToldAs told no_memory → told ≡ no_memory
told_short told (inl same) = same
told_short told (inr short) = short.0

-- a run whose words could not be read out of memory
pub unread_ends : (told : Ending) (words : List (List ℕ)) (run : Run) → BeginsQuestion words → IsToldAs told no_memory → IsUntouched run.files run.out
    → run.steps.after ≡ run.steps.before → PutsLine told run.err → EndsSo told words run
unread_ends told words run begins told_as untouched none_taken line =
    let short = told_short told told_as in
    record {
      cause = inr (record { short = short; begins = begins; untouched = untouched });
      keeps = untouched_keeps told (output_for (asked_by words)) run.files run.out untouched;
      complete = λ a contents asks tells fresh. inr short;
      steps = no_steps (asked_by words) run.files run.steps none_taken;
      told = line;
    }

-- The causes of endings: among the files, where an answer was put, and where a file was written.
use Rattle.std.proofs.Common.{◌≡◌, ℕ, Bool, true, false, List, Option, Some, None, refl, sym, subst, inl, inr}
use Rattle.std.specs.Prelude.{IfErr, IfOk, Result, Ok, Err}
use Rattle.outside.specs.Files.{FilesState}
use Rattle.outside.specs.Sinks.{SinkState}
use Rattle.run_model.specs.Endings.{Ending, done, bad_words, too_many_files, refused, misfit, read_fault, write_fault, answer_fault, no_memory, over_limit}
use Rattle.run_model.specs.Inputs.{Input, Plan, no_more, reads}
use Rattle.run_model.specs.Jobs.{Outcome, Task, prints}
use Rattle.run_model.specs.Reads.{EndsAmong, EndsAt}
use Rattle.run_model.specs.Runs.{Caused, CausedWithin, Change, IsNotWritten, IsOutput, IsTooLong, IsWrittenAs, Receives, ReceivesLess, ReceivesNothing, Works, WorksTo, change}
use Rattle.obf_run.specs.Finishing.{EndsEarly, IsFinished, IsPut}

-- Ended among the files.

-- what is no ending at a file is none among files
never : (e : Ending) → ((file : Input) (before after : FilesState) → EndsAt file before after e → ⊥) → (e ≡ no_memory → ⊥) → (plan : Plan) (before after : FilesState)
    → EndsAmong plan before after e → ⊥
never e at other no_more before after ends = other ends.0
never e at other (reads file rest) before after (inl now) = at file before after now.0
never e at other (reads file rest) before after (inr later) = never e at other (rest later.0) later.1 after later.3

pub ended_caused : (e : Ending) (files : Change FilesState) (out : Change SinkState) (task : Task) → EndsAmong task.plan files.before files.after e → ReceivesNothing out
    → Caused e files out task
ended_caused (refused name first) files out task ends nothing = (ends, nothing)
ended_caused (read_fault name) files out task ends nothing = (ends, nothing)
ended_caused (over_limit name) files out task ends nothing = (inl ends, nothing)
ended_caused no_memory files out task ends nothing = (inl ends, nothing)
ended_caused done files out task ends nothing = absurd (never done (λ file before after now. now) (λ same. cc) task.plan files.before files.after ends)
ended_caused bad_words files out task ends nothing = absurd (never bad_words (λ file before after now. now) (λ same. cc) task.plan files.before files.after ends)
ended_caused too_many_files files out task ends nothing = absurd (never too_many_files (λ file before after now. now) (λ same. cc) task.plan files.before files.after ends)
ended_caused (misfit which) files out task ends nothing = absurd (never (misfit which) (λ file before after now. now) (λ same. cc) task.plan files.before files.after ends)
ended_caused (write_fault name) files out task ends nothing = absurd (never (write_fault name) (λ file before after now. now) (λ same. cc) task.plan files.before files.after ends)
ended_caused answer_fault files out task ends nothing = absurd (never answer_fault (λ file before after now. now) (λ same. cc) task.plan files.before files.after ends)

-- ended among the files, or at one that does not follow
pub early_caused : (e : Ending) (files : Change FilesState) (out : Change SinkState) (task : Task) → EndsEarly e files task → ReceivesNothing out → Caused e files out task
early_caused e files out task (inl ends) nothing = ended_caused e files out task ends nothing
early_caused e files out task (inr found) nothing = subst (λ (e : Ending). Caused e files out task) (sym found.1) (found.2, nothing)

-- Too many files.

-- the words name no more files than they may
pub within_caused : (many : Bool) (e : Ending) (files : Change FilesState) (out : Change SinkState) (task : Task) → many ≡ false → Caused e files out task
    → CausedWithin many e files out task
within_caused false e files out task few cause = cause
within_caused true e files out task few cause = absurd cc

-- they name more, and nothing was done
pub too_many_caused : (many : Bool) (state : FilesState) (sink : SinkState) (task : Task) → many ≡ true
    → CausedWithin many too_many_files (change state state) (change sink sink) task
too_many_caused true state sink task more = (refl, record { same_files = refl; same_out = refl })
too_many_caused false state sink task more = absurd cc

-- What worked to an outcome, where a fact holds of this outcome.
worked : (before between : FilesState) (task : Task) (outcome : Outcome) (P : FilesState → Outcome → Type 0) → WorksTo before between task outcome → P between outcome
    → Works before task P
worked before between task outcome P works holds = record {
  texts = works.texts;
  between = works.between;
  reads = works.reads;
  follow = works.follow;
  outcome = works.outcome;
  does = works.does;
  holds = subst (λ (o : Outcome). P works.between o) (sym works.holds.1) (subst (λ (state : FilesState). P state outcome) (sym works.holds.0) holds);
}

-- Printed.

-- where nothing is to be written, the files stay as the last read left them
none_written : (output : Option (List ℕ)) (after : FilesState) → output ≡ None → IsWrittenAs after after output None
none_written output after none = let same : IsWrittenAs after after None None = refl in subst (λ (o : Option (List ℕ)). IsWrittenAs after after o None) (sym none) same

pub printed_caused : (e : Ending) (files : Change FilesState) (out : Change SinkState) (task : Task) (answer : List ℕ) → task.output ≡ None
    → WorksTo files.before files.after task (prints answer) → IsPut e out answer → Caused e files out task
printed_caused done files out task answer none works put =
    worked files.before files.after task (prints answer) (λ between found. IsWrittenAs between files.after task.output found.written × Receives out found.answer) works
    (none_written task.output files.after none, put)
printed_caused answer_fault files out task answer none works put =
    worked files.before files.after task (prints answer) (λ between found. IsWrittenAs between files.after task.output found.written × ReceivesLess out found.answer) works
    (none_written task.output files.after none, put)
printed_caused bad_words files out task answer none works put = absurd put
printed_caused too_many_files files out task answer none works put = absurd put
printed_caused (refused name first) files out task answer none works put = absurd put
printed_caused (misfit which) files out task answer none works put = absurd put
printed_caused (read_fault name) files out task answer none works put = absurd put
printed_caused (write_fault name) files out task answer none works put = absurd put
printed_caused no_memory files out task answer none works put = absurd put
printed_caused (over_limit name) files out task answer none works put = absurd put

-- Finished.

-- what holds of the name of the output holds of the output of the task
named : (name : List ℕ) (output : Option (List ℕ)) (written : Option (List ℕ)) (P : List ℕ → Type 0) (out : List ℕ) → output ≡ Some out
    → IsOutput name (Some out) written P → IsOutput name output written P
named name output written P out is holds = subst (λ (o : Option (List ℕ)). IsOutput name o written P) (sym is) holds

written_as : (between after : FilesState) (output : Option (List ℕ)) (written : Option (List ℕ)) (name : List ℕ) → output ≡ Some name
    → IsWrittenAs between after (Some name) written → IsWrittenAs between after output written
written_as between after output written name is holds = subst (λ (o : Option (List ℕ)). IsWrittenAs between after o written) (sym is) holds

pub finished_caused : (e : Ending) (files : Change FilesState) (between : FilesState) (out : Change SinkState) (task : Task) (name : List ℕ) (outcome : Outcome) → task.output ≡ Some name
    → WorksTo files.before between task outcome → IsFinished e name outcome (change between files.after) out → Caused e files out task
finished_caused done files between out task name outcome is works finished =
    worked files.before between task outcome (λ state found. IsWrittenAs state files.after task.output found.written × Receives out found.answer) works
    (written_as between files.after task.output outcome.written name is finished.0, finished.1)
finished_caused answer_fault files between out task name outcome is works finished =
    worked files.before between task outcome (λ state found. IsWrittenAs state files.after task.output found.written × ReceivesLess out found.answer) works
    (written_as between files.after task.output outcome.written name is finished.0, finished.1)
finished_caused (write_fault lost) files between out task name outcome is works finished = (
  worked files.before between task outcome (λ state found. IsOutput lost task.output found.written (IsNotWritten state files.after lost)) works
      (named lost task.output outcome.written (IsNotWritten between files.after lost) name is finished.0),
  finished.1,
)
finished_caused (over_limit long) files between out task name outcome is works finished = (
  inr (worked files.before between task outcome (λ state found. IsOutput long task.output found.written (IsTooLong state files.after)) works
      (named long task.output outcome.written (IsTooLong between files.after) name is finished.0)),
  finished.1,
)
finished_caused bad_words files between out task name outcome is works finished = absurd finished.1
finished_caused too_many_files files between out task name outcome is works finished = absurd finished.1
finished_caused (refused other first) files between out task name outcome is works finished = absurd finished.1
finished_caused (misfit which) files between out task name outcome is works finished = absurd finished.1
finished_caused (read_fault other) files between out task name outcome is works finished = absurd finished.1
finished_caused no_memory files between out task name outcome is works finished = absurd finished.1

-- Answered, or not.

-- the answer that a verb without an output made was put, or there was none
pub answer_caused : {A B : Type 0} (made : Result A B) (text : A → List ℕ) (told : B → Ending) (many : Bool) (e : Ending) (files : Change FilesState) (out : Change SinkState) (task : Task)
    → many ≡ false → task.output ≡ None → IfOk made (λ a. WorksTo files.before files.after task (prints (text a))) → IfErr made (λ b. EndsEarly (told b) files task)
    → IfOk made (λ a. IsPut e out (text a)) → IfErr made (λ b. (e ≡ told b) × ReceivesNothing out) → CausedWithin many e files out task
answer_caused (Ok a) text told many e files out task few none works ends put not_put =
    within_caused many e files out task few (printed_caused e files out task (text a) none works put)
answer_caused (Err b) text told many e files out task few none works ends put not_put =
    within_caused many e files out task few (subst (λ (e : Ending). Caused e files out task) (sym not_put.0) (early_caused (told b) files out task ends not_put.1))

-- what ended among the files ended early
pub among_early : {A B : Type 0} (made : Result A B) (told : B → Ending) (files : Change FilesState) (task : Task)
    → IfErr made (λ b. EndsAmong task.plan files.before files.after (told b)) → IfErr made (λ b. EndsEarly (told b) files task)
among_early (Ok a) told files task ends = ends
among_early (Err b) told files task ends = inl ends

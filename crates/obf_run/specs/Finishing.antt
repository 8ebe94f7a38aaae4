-- What the last part of a run does: it writes what was made, and puts the answer.
use Rattle.std.specs.Prelude.{◌≡◌, ◌⊎◌, List, ℕ, Some}
use Rattle.outside.specs.Files.{FilesState}
use Rattle.outside.specs.Sinks.{SinkState}
use Rattle.outside.specs.declared.whole.WholeError.{WholeError}
use Rattle.outside.specs.declared.whole.WholeError.TheVariants as error
use Rattle.run_model.specs.Endings.{Ending, done, misfit, read_fault, write_fault, answer_fault, no_memory, over_limit}
use Rattle.run_model.specs.Inputs.{Misfit}
use Rattle.run_model.specs.Jobs.{Outcome, Task}
use Rattle.run_model.specs.Reads.{EndsAmong}
use Rattle.run_model.specs.Runs.{Change, FindsMisfit, IsNotWritten, IsTooLong, IsWrittenAs, IsOutput, Receives, ReceivesLess, ReceivesNothing}
use Rattle.obf_run.specs.declared.folding.Folded.{Folded}
use Rattle.obf_run.specs.declared.packing.Built.{Built}

-- a file of these bytes, and its line
abbrev pub file_and_line : List ℕ → List ℕ → Outcome
file_and_line bytes line = record { answer = line; written = Some bytes }

-- a file that was built, and its line
abbrev pub outcome_of : Built → Outcome
outcome_of built = file_and_line built.bytes.items built.line.items

-- a file in place of several, and its line
abbrev pub outcome_of_fold : Folded → Outcome
outcome_of_fold folded = file_and_line folded.image.bytes folded.line.items

-- the answer was put, or a part of it
abbrev pub IsPut : Ending → Change SinkState → List ℕ → Type 0
IsPut done out answer = Receives out answer
IsPut answer_fault out answer = ReceivesLess out answer
IsPut e out answer = ⊥

-- the output of this name was written and its line put, or one of both was not
abbrev pub IsFinished : Ending → List ℕ → Outcome → Change FilesState → Change SinkState → Type 0
IsFinished (over_limit name) output outcome files out =
    IsOutput name (Some output) outcome.written (IsTooLong files.before files.after) × ReceivesNothing out
IsFinished (write_fault name) output outcome files out =
    IsOutput name (Some output) outcome.written (IsNotWritten files.before files.after name) × ReceivesNothing out
IsFinished e output outcome files out = IsWrittenAs files.before files.after (Some output) outcome.written × IsPut e out outcome.answer

-- the ending where a file of this name was not read whole
abbrev pub unread : List ℕ → WholeError → Ending
unread name error.NoMemory = no_memory
unread name error.Failed = read_fault name
unread name error.OverLimit = over_limit name

-- the run ended among the files, or all are good and one of them does not follow
abbrev pub EndsEarly : Ending → Change FilesState → Task → Type 0
EndsEarly e files task =
    EndsAmong task.plan files.before files.after e ⊎ ((which : Misfit) × (e ≡ misfit which) × FindsMisfit files task which)

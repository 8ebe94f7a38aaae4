-- What a run answers: the cause of each ending, what stays, which ending must come, and what the error sink is told.
use Rattle.std.specs.Prelude.{◌≡◌, ◌⊎◌, ◌≤◌, ◌<◌, ◌+◌, ℕ, nat_lt, Bool, true, false, if◌then◌else◌, length, List, [], ◌∷◌, ◌++◌, Option, Some, None}
use Rattle.std.specs.Option.{option_and_then, option_map, option_or}
use Rattle.outside.specs.Faults.{Rose}
use Rattle.outside.specs.Files.{Contents, FilesState, OnlyWrites, OthersStay, Replaces}
use Rattle.outside.specs.Readings.{Writing, writing}
use Rattle.outside.specs.Sinks.{SinkState, ReceivesPart}
use Rattle.live_model.specs.declared.queries.Query.{Query}
use Rattle.run_model.specs.Requests.{Asked, BeginsQuestion, ask_files, asked_by}
use Rattle.run_model.specs.MapFiles.{blocks_due}
use Rattle.run_model.specs.Inputs.{Input, Misfit, Plan, break_in, map_files, in_turn, most_files, no_more, output_of, reads}
use Rattle.run_model.specs.Jobs.{Outcome, Task, task_of}
use Rattle.run_model.specs.Endings.{Ending, done, bad_words, too_many_files, refused, misfit, read_fault, write_fault, answer_fault, no_memory, over_limit, code_of, ending_line}
use Rattle.run_model.specs.Reads.{EndsAmong, ReadInOrder, limit}
use Rattle.run_model.specs.declared.arguments.Arguments.{Arguments}
use Rattle.run_model.specs.declared.arguments.Arguments.TheVariants as arguments

-- What is observed.

-- a state before a run and after it
pub record Change (T : Type 0) : Type 0 where
  pub before : T
  pub after : T

abbrev pub change : {T : Type 0} → T → T → Change T
change before after = record { before = before; after = after }

-- what can be observed of a run: the files, the sink for the answer, the error sink, and the count of steps
pub record Run : Type 0 where
  pub files : Change FilesState
  pub out : Change SinkState
  pub err : Change SinkState
  pub steps : Change ℕ

-- neither a file nor the sink for the answer was touched
pub record IsUntouched (files : Change FilesState) (out : Change SinkState) : Type 0 where
  pub same_files : files.after ≡ files.before
  pub same_out : out.after ≡ out.before

-- The answer.

pub record Receives (out : Change SinkState) (answer : List ℕ) : Type 0 where
  pub received : out.after.received ≡ out.before.received ++ answer
  pub count : out.before.faults ≤ out.after.faults

-- a put failed: the count rose, and a part of the answer was received
pub record ReceivesLess (out : Change SinkState) (answer : List ℕ) : Type 0 where
  pub fault : Rose out.before.faults out.after.faults
  pub part : ReceivesPart out.before out.after answer
  pub count : out.before.faults ≤ out.after.faults

-- nothing was put
abbrev pub ReceivesNothing : Change SinkState → Type 0
ReceivesNothing out = out.after ≡ out.before

-- The file that is written.

-- of told files the name has these bytes now, and no other changed
abbrev pub Holds : Option Contents → Option Contents → List ℕ → List ℕ → Type 0
Holds None new name bytes = new ≡ None
Holds (Some old) None name bytes = ⊥
Holds (Some old) (Some new) name bytes = Replaces old new name bytes

-- of told files no other than this one changed
abbrev pub ChangesOnly : Option Contents → Option Contents → List ℕ → Type 0
ChangesOnly None new name = new ≡ None
ChangesOnly (Some old) None name = ⊥
ChangesOnly (Some old) (Some new) name = OthersStay old new name

-- one write was tried, of these bytes under the name, and it answered Ok
pub record IsWritten (before after : FilesState) (name bytes : List ℕ) : Type 0 where
  pub within : length bytes ≤ limit
  pub once : after.writes ≡ before.writes ++ writing name bytes true ∷ []
  pub holds : Holds before.contents after.contents name bytes
  pub count : before.write_faults ≤ after.write_faults
  pub only : OnlyWrites before after

-- one write was tried, and it failed: the count rose, and nothing is said of what stands under the name
pub record IsNotWritten (before after : FilesState) (name bytes : List ℕ) : Type 0 where
  pub within : length bytes ≤ limit
  pub once : after.writes ≡ before.writes ++ writing name bytes false ∷ []
  pub fault : Rose before.write_faults after.write_faults
  pub others : ChangesOnly before.contents after.contents name
  pub count : before.write_faults ≤ after.write_faults
  pub only : OnlyWrites before after

-- the bytes, where there are some, were written under the name of the output, once; where there is no output, nothing was
abbrev pub IsWrittenAs : FilesState → FilesState → Option (List ℕ) → Option (List ℕ) → Type 0
IsWrittenAs before after None None = after ≡ before
IsWrittenAs before after (Some name) (Some bytes) = IsWritten before after name bytes
IsWrittenAs before after output written = ⊥

-- there is an output of this name, and of the bytes for it this holds
abbrev pub IsOutput : List ℕ → Option (List ℕ) → Option (List ℕ) → (List ℕ → Type 0) → Type 0
IsOutput name (Some output) (Some bytes) P = (name ≡ output) × P bytes
IsOutput name output written P = ⊥

-- the file would get more bytes than it may, and was not touched
abbrev pub IsTooLong : FilesState → FilesState → List ℕ → Type 0
IsTooLong before after bytes = (limit < length bytes) × (after ≡ before)

-- The causes.

-- All files were read, one after another, and are good; this one of them does not follow, and nothing more happened.
pub record FindsMisfit (files : Change FilesState) (task : Task) (which : Misfit) : Type 0 where
  pub texts : List (List ℕ)
  pub reads : ReadInOrder files.before files.after task.plan texts
  pub first : task.misfit texts ≡ Some which

-- All files were read, one after another, are good, and follow. Of the files after the last read, and of the outcome of what is
-- asked for, a fact holds.
pub record Works (before : FilesState) (task : Task) (P : FilesState → Outcome → Type 0) : Type 0 where
  pub texts : List (List ℕ)
  pub between : FilesState
  pub reads : ReadInOrder before between task.plan texts
  pub follow : task.misfit texts ≡ None
  pub outcome : Outcome
  pub does : task.Does texts outcome
  pub holds : P between outcome

-- the same, where they are the files after, and this is the outcome
abbrev pub WorksTo : FilesState → FilesState → Task → Outcome → Type 0
WorksTo before after task outcome = Works before task (λ between found. (between ≡ after) × (found ≡ outcome))

-- the outcome was written, and of its answer this holds
abbrev pub WritesAnd : Change FilesState → Task → (List ℕ → Type 0) → Type 0
WritesAnd files task P = Works files.before task (λ between outcome. IsWrittenAs between files.after task.output outcome.written × P outcome.answer)

-- the one write of the outcome was tried and failed
abbrev pub LosesOutput : List ℕ → Change FilesState → Task → Type 0
LosesOutput name files task = Works files.before task (λ between outcome. IsOutput name task.output outcome.written (IsNotWritten between files.after name))

-- why a run ends so where the words name no more files than they may; nothing was put but after `done` and `answer_fault`
abbrev pub Caused : Ending → Change FilesState → Change SinkState → Task → Type 0
Caused done files out task = WritesAnd files task (Receives out)
Caused answer_fault files out task = WritesAnd files task (ReceivesLess out)
Caused (refused name first) files out task = EndsAmong task.plan files.before files.after (refused name first) × ReceivesNothing out
Caused (read_fault name) files out task = EndsAmong task.plan files.before files.after (read_fault name) × ReceivesNothing out
Caused (misfit which) files out task = FindsMisfit files task which × ReceivesNothing out
Caused (over_limit name) files out task =
    (EndsAmong task.plan files.before files.after (over_limit name)
    ⊎ Works files.before task (λ between outcome. IsOutput name task.output outcome.written (IsTooLong between files.after))) × ReceivesNothing out
Caused (write_fault name) files out task = LosesOutput name files task × ReceivesNothing out
Caused no_memory files out task =
    (EndsAmong task.plan files.before files.after no_memory ⊎ ((name : List ℕ) × LosesOutput name files task)) × ReceivesNothing out
Caused bad_words files out task = ⊥
Caused too_many_files files out task = ⊥

-- too many files are the one cause of `too_many_files`, and nothing else comes of them: no file is read
abbrev pub CausedWithin : Bool → Ending → Change FilesState → Change SinkState → Task → Type 0
CausedWithin true e files out task = (e ≡ too_many_files) × IsUntouched files out
CausedWithin false e files out task = Caused e files out task

-- whether the words name more files than they may
abbrev pub names_too_many : Task → Bool
names_too_many task = nat_lt most_files task.file_count

abbrev pub CausedBy : Ending → Change FilesState → Change SinkState → Task → Type 0
CausedBy e files out task = CausedWithin (names_too_many task) e files out task

-- words that ask for nothing are the one cause of `bad_words`, and nothing else comes of them: no file is read
abbrev pub CausedByWords : Ending → Change FilesState → Change SinkState → Option Asked → Type 0
CausedByWords e files out None = (e ≡ bad_words) × IsUntouched files out
CausedByWords e files out (Some a) = CausedBy e files out (task_of a)

-- Memory was refused as the words of `ask` were read, and nothing else came of them: no file is read. It can be so too where these words
-- hold no question, or name too many files; of every other verb no memory is taken for its words.
pub record EndsUnread (e : Ending) (words : List (List ℕ)) (run : Run) : Type 0 where
  pub short : e ≡ no_memory
  pub begins : BeginsQuestion words
  pub untouched : IsUntouched run.files run.out

abbrev pub Cause : Ending → List (List ℕ) → Run → Type 0
Cause e words run = CausedByWords e run.files run.out (asked_by words) ⊎ EndsUnread e words run

-- What stays.

-- the file that a run may have written when it ended so: its output, unless it ended before
abbrev pub changed_by : Ending → Option (List ℕ) → Option (List ℕ)
changed_by done output = output
changed_by (write_fault name) output = output
changed_by answer_fault output = output
changed_by no_memory output = output
changed_by e output = None

-- no write was tried, and no file changed
pub record WritesNothing (files : Change FilesState) : Type 0 where
  pub contents : files.after.contents ≡ files.before.contents
  pub writes : files.after.writes ≡ files.before.writes
  pub faults : files.after.write_faults ≡ files.before.write_faults

-- at most one write was tried, under this name
abbrev pub OneWrite : List Writing → List Writing → List ℕ → Type 0
OneWrite old new name = (new ≡ old) ⊎ ((bytes : List ℕ) × (is_done : Bool) × (new ≡ old ++ writing name bytes is_done ∷ []))

-- and no other file changed
pub record WritesOnly (files : Change FilesState) (name : List ℕ) : Type 0 where
  pub contents : ChangesOnly files.before.contents files.after.contents name
  pub writes : OneWrite files.before.writes files.after.writes name
  pub faults : files.before.write_faults ≤ files.after.write_faults

abbrev pub WritesAtMost : Option (List ℕ) → Change FilesState → Type 0
WritesAtMost None files = WritesNothing files
WritesAtMost (Some name) files = WritesOnly files name

-- at most the output was written, and no count fell
pub record Keeps (e : Ending) (output : Option (List ℕ)) (files : Change FilesState) (out : Change SinkState) : Type 0 where
  pub writes : WritesAtMost (changed_by e output) files
  pub read_faults : files.before.read_faults ≤ files.after.read_faults
  pub put_faults : out.before.faults ≤ out.after.faults

-- the output of what words ask for
abbrev pub output_for : Option Asked → Option (List ℕ)
output_for a = option_and_then output_of a

-- Which ending must come.

-- no call of the outside failed for a reason of its own
pub record NoFault (files : Change FilesState) (out : Change SinkState) : Type 0 where
  pub reads : ¬ Rose files.before.read_faults files.after.read_faults
  pub writes : ¬ Rose files.before.write_faults files.after.write_faults
  pub puts : ¬ Rose out.before.faults out.after.faults

-- how the text of a file ends a run: it is over the limit, or has a break; none where it is good
abbrev pub stop_in : Input → List ℕ → Option Ending
stop_in file text =
    if nat_lt limit (length text) then Some (over_limit file.name) else option_map (λ first. refused file.name first) (break_in file.grammar text)

-- how a told file ends a run, or else a later one does
abbrev pub stop_or : Input → Option (List ℕ) → (List ℕ → Option Ending) → Option Ending
stop_or file None later = Some (read_fault file.name)
stop_or file (Some text) later = option_or (stop_in file text) (later text)

-- the first of these files at which a run ends, as told contents have it: it is missing, over the limit, or has a break
abbrev pub first_stop : Contents → Plan → Option Ending
first_stop contents no_more = None
first_stop contents (reads file rest) = stop_or file (contents file.name) (λ text. first_stop contents (rest text))

-- the told texts of these files
abbrev pub AreTold : Contents → Plan → List (List ℕ) → Type 0
AreTold contents no_more [] = Unit {0}
AreTold contents (reads file rest) (text ∷ texts) = (contents file.name ≡ Some text) × AreTold contents (rest text) texts
AreTold contents plan texts = ⊥

-- the ending where all files are good and follow: the output is over the limit, or the run is done
abbrev pub due_for : Option (List ℕ) → Option (List ℕ) → Ending
due_for (Some name) (Some bytes) = if nat_lt limit (length bytes) then over_limit name else done
due_for output written = done

-- these texts have an outcome, and the run ended as it is due
pub record EndsWith (e : Ending) (task : Task) (texts : List (List ℕ)) : Type 0 where
  pub outcome : Outcome
  pub does : task.Does texts outcome
  pub due : e ≡ due_for task.output outcome.written

-- one of the good files does not follow, or else the outcome decides
abbrev pub IsDueOver : Ending → Task → List (List ℕ) → Option Misfit → Type 0
IsDueOver e task texts (Some which) = e ≡ misfit which
IsDueOver e task texts None = EndsWith e task texts

-- the told texts decide
pub record EndsAsTold (e : Ending) (task : Task) (contents : Contents) : Type 0 where
  pub texts : List (List ℕ)
  pub told : AreTold contents task.plan texts
  pub due : IsDueOver e task texts (task.misfit texts)

-- the first told file that ends the run decides, or else all their texts
abbrev pub IsDueAt : Ending → Task → Contents → Option Ending → Type 0
IsDueAt e task contents (Some stop) = e ≡ stop
IsDueAt e task contents None = EndsAsTold e task contents

-- The ending that told files call for. Too many files decide before them.
abbrev pub IsDueWithin : Bool → Ending → Task → Contents → Type 0
IsDueWithin true e task contents = e ≡ too_many_files
IsDueWithin false e task contents = IsDueAt e task contents (first_stop contents task.plan)

abbrev pub IsDue : Ending → Task → Contents → Type 0
IsDue e task contents = IsDueWithin (names_too_many task) e task contents

-- where files are told and nothing failed, a run ends as it is due, or out of memory
abbrev pub Completes : Ending → List (List ℕ) → Run → Type 0
Completes e words run =
    (a : Asked) (contents : Contents) → asked_by words ≡ Some a → run.files.before.contents ≡ Some contents → NoFault run.files run.out
    → IsDue e (task_of a) contents ⊎ (e ≡ no_memory)

-- The steps of a question.

-- the map files of these names were read, one after another, and no more steps were taken than there are blocks in them that are due to the
-- question
pub record AsksWithin (query : Query) (names : List (List ℕ)) (files : Change FilesState) (steps : Change ℕ) : Type 0 where
  pub texts : List (List ℕ)
  pub reads : ReadInOrder files.before files.after (in_turn (map_files names)) texts
  pub within : steps.after ≤ steps.before + blocks_due query texts

-- A question takes no step before all files were read, and then no more than are due; words that ask for nothing take none. Nothing is said
-- of the other verbs.
abbrev pub StepsFor : Option Asked → Change FilesState → Change ℕ → Type 0
StepsFor None files steps = steps.after ≡ steps.before
StepsFor (Some (ask_files query names)) files steps = (steps.after ≡ steps.before) ⊎ AsksWithin query names files steps
StepsFor (Some a) files steps = Unit {0}

-- The line on the error sink.

-- the error sink received exactly this line, or its count rose and it received a part
abbrev pub IsLinePut : List ℕ → Change SinkState → Type 0
IsLinePut line err = Receives err line ⊎ ReceivesLess err line

abbrev pub PutsLine : Ending → Change SinkState → Type 0
PutsLine e err = IsLinePut (ending_line e) err

-- The top call.

-- all that is said of a run of these words that ended so
pub record EndsSo (e : Ending) (words : List (List ℕ)) (run : Run) : Type 0 where
  pub cause : Cause e words run
  pub keeps : Keeps e (output_for (asked_by words)) run.files run.out
  pub complete : Completes e words run
  pub steps : StepsFor (asked_by words) run.files run.steps
  pub told : PutsLine e run.err

-- nothing was done, and the line was put
pub record OnlyTells (e : Ending) (run : Run) : Type 0 where
  pub untouched : IsUntouched run.files run.out
  pub told : PutsLine e run.err

-- how a program ends with these arguments: as its run does; with bad words, where one of them is no text; out of memory, where there was
-- none for a copy of them
abbrev pub EndsOn : Ending → Arguments → Run → Type 0
EndsOn e (arguments.Words words) run = EndsSo e words.items run
EndsOn e arguments.NotText run = (e ≡ bad_words) × OnlyTells e run
EndsOn e arguments.NoMemory run = (e ≡ no_memory) × OnlyTells e run

-- the code is that of such an ending
pub record EndsWithCode (code : ℕ) (given : Arguments) (run : Run) : Type 0 where
  pub ending : Ending
  pub coded : code ≡ code_of ending
  pub ends : EndsOn ending given run

-- the code is that of some run with these arguments
abbrev pub IsCodeOnSomeRun : ℕ → Arguments → Type 0
IsCodeOnSomeRun code given = (run : Run) × EndsWithCode code given run

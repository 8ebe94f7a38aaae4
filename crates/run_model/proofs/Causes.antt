-- A run whose line found no memory: what caused its ending is a cause of ending out of memory.
use Rattle.std.proofs.Common.{◌≡◌, ℕ, List, Option, Some, None, subst, sym, inl, inr}
use Rattle.outside.specs.Files.{FilesState}
use Rattle.outside.specs.Sinks.{SinkState}
use Rattle.run_model.specs.Endings.{Ending, done, bad_words, too_many_files, refused, misfit, read_fault, write_fault, answer_fault, no_memory, over_limit, NamesFile}
use Rattle.run_model.specs.Jobs.{Task}
use Rattle.run_model.specs.Reads.{EndsAmong}
use Rattle.run_model.specs.Runs.{Caused, Change, IsOutput, IsTooLong, Works}
use Rattle.run_model.proofs.Readings.{all_short, among_short}

-- what is too long was not touched
pub too_long_same : (between after : FilesState) (name : List ℕ) (output written : Option (List ℕ)) → IsOutput name output written (IsTooLong between after)
    → after ≡ between
too_long_same between after name None None is = absurd is
too_long_same between after name None (Some bytes) is = absurd is
too_long_same between after name (Some out) None is = absurd is
too_long_same between after name (Some out) (Some bytes) is = is.1.1

-- nothing happened after the last read
long_short : (name : List ℕ) (files : Change FilesState) (task : Task)
    → Works files.before task (λ between outcome. IsOutput name task.output outcome.written (IsTooLong between files.after))
    → EndsAmong task.plan files.before files.after no_memory
long_short name files task works =
    let same = too_long_same works.between files.after name task.output works.outcome.written works.holds in
    subst (λ (state : FilesState). EndsAmong task.plan files.before state no_memory) (sym same)
    (all_short task.plan works.texts files.before works.between works.reads)

-- an ending whose line names a file may be out of memory in its place
pub short_caused : (e : Ending) (files : Change FilesState) (out : Change SinkState) (task : Task) → NamesFile e → Caused e files out task
    → Caused no_memory files out task
short_caused (refused name first) files out task names cause = (inl (among_short task.plan files.before files.after (refused name first) cause.0), cause.1)
short_caused (read_fault name) files out task names cause = (inl (among_short task.plan files.before files.after (read_fault name) cause.0), cause.1)
short_caused (misfit which) files out task names cause = (inl (all_short task.plan cause.0.texts files.before files.after cause.0.reads), cause.1)
short_caused (write_fault name) files out task names cause = (inr (name, cause.0), cause.1)
short_caused (over_limit name) files out task names cause = elim cause.0 [
  | inl ends ↦ (inl (among_short task.plan files.before files.after (over_limit name) ends), cause.1)
  | inr works ↦ (inl (long_short name files task works), cause.1)
]
short_caused done files out task names cause = absurd names
short_caused bad_words files out task names cause = absurd names
short_caused too_many_files files out task names cause = absurd names
short_caused answer_fault files out task names cause = absurd names
short_caused no_memory files out task names cause = absurd names

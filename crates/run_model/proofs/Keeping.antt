-- What stays after a run, by the cause of its ending.
use Rattle.std.proofs.Common.{◌≡◌, ◌≤◌, ◌++◌, ◌∷◌, [], ℕ, List, Bool, true, false, Option, Some, None, subst, sym, ◌∙◌, ap, inl, inr, arith}
use Rattle.outside.specs.Files.{Contents, FilesState, OnlyReads}
use Rattle.outside.specs.Readings.{Writing, writing}
use Rattle.outside.specs.Sinks.{SinkState}
use Rattle.run_model.specs.Endings.{Ending, done, bad_words, too_many_files, refused, misfit, read_fault, write_fault, answer_fault, no_memory, over_limit}
use Rattle.run_model.specs.Jobs.{Task, task_of}
use Rattle.run_model.specs.Requests.{Asked}
use Rattle.run_model.specs.Runs.{Caused, CausedByWords, CausedWithin, Change, ChangesOnly, Holds, IsNotWritten, IsOutput, IsUntouched, IsWrittenAs, Keeps, LosesOutput, WritesAtMost, WritesNothing, WritesOnly, changed_by, names_too_many, output_for}
use Rattle.run_model.proofs.Causes.{too_long_same}
use Rattle.run_model.proofs.Readings.{all_only, among_only, same_only}

-- Files.

-- what was only read was not written
only_nothing : (files : Change FilesState) → OnlyReads files.before files.after → WritesNothing files
only_nothing files only = record { contents = only.contents; writes = only.writes; faults = only.write_faults }

-- no contents changed, so none but one
same_contents : (old new : Option Contents) (name : List ℕ) → new ≡ old → ChangesOnly old new name
same_contents None new name same = same
same_contents (Some old) None name same = absurd cc
same_contents (Some old) (Some new) name same = λ other differs. cc

-- nothing was written, so at most the output
nothing_within : (output : Option (List ℕ)) (files : Change FilesState) → WritesNothing files → WritesAtMost output files
nothing_within None files nothing = nothing
nothing_within (Some name) files nothing = record {
  contents = same_contents files.before.contents files.after.contents name nothing.contents;
  writes = inl nothing.writes;
  faults = let same = nothing.faults in omega (arith, same);
}

-- what a write may change, under its name
holds_changes : (old new : Option Contents) (name bytes : List ℕ) → Holds old new name bytes → ChangesOnly old new name
holds_changes None new name bytes holds = holds
holds_changes (Some old) None name bytes holds = absurd holds
holds_changes (Some old) (Some new) name bytes holds = holds.others

-- one write after files were read
one_write : (files : Change FilesState) (between : FilesState) (name bytes : List ℕ) (is_done : Bool) → OnlyReads files.before between
    → ChangesOnly between.contents files.after.contents name → files.after.writes ≡ between.writes ++ writing name bytes is_done ∷ []
    → between.write_faults ≤ files.after.write_faults → WritesOnly files name
one_write files between name bytes is_done only changes once count = record {
  contents = subst (λ (contents : Option Contents). ChangesOnly contents files.after.contents name) only.contents changes;
  writes = inr (bytes, is_done, once ∙ ap (λ (writes : List Writing). writes ++ writing name bytes is_done ∷ []) only.writes);
  faults = let same = only.write_faults in omega (arith, same, count);
}

-- What is kept of the files: at most the output was written, and the count of read faults did not fall.
record KeepsFiles (output : Option (List ℕ)) (files : Change FilesState) : Type 0 where
  pub writes : WritesAtMost output files
  pub faults : files.before.read_faults ≤ files.after.read_faults

only_keeps : (output : Option (List ℕ)) (files : Change FilesState) → OnlyReads files.before files.after → KeepsFiles output files
only_keeps output files only = record { writes = nothing_within output files (only_nothing files only); faults = only.read_faults }

-- the output was written after files were read
written_keeps : (files : Change FilesState) (between : FilesState) (output written : Option (List ℕ)) → OnlyReads files.before between
    → IsWrittenAs between files.after output written → KeepsFiles output files
written_keeps files between None None only same =
    only_keeps None files (subst (λ (state : FilesState). OnlyReads files.before state) (sym same) only)
written_keeps files between None (Some bytes) only is = absurd is
written_keeps files between (Some name) None only is = absurd is
written_keeps files between (Some name) (Some bytes) only is = record {
  writes = one_write files between name bytes true only (holds_changes between.contents files.after.contents name bytes is.holds) is.once is.count;
  faults = let same = is.only.read_faults in let count = only.read_faults in omega (arith, same, count);
}

-- or that was tried
lost_keeps : (files : Change FilesState) (between : FilesState) (name : List ℕ) (output written : Option (List ℕ)) → OnlyReads files.before between
    → IsOutput name output written (IsNotWritten between files.after name) → KeepsFiles output files
lost_keeps files between name None None only is = absurd is
lost_keeps files between name None (Some bytes) only is = absurd is
lost_keeps files between name (Some out) None only is = absurd is
lost_keeps files between name (Some out) (Some bytes) only is =
    let lost : IsNotWritten between files.after out bytes = subst (λ (n : List ℕ). IsNotWritten between files.after n bytes) is.0 is.1 in
    record {
      writes = one_write files between out bytes false only lost.others lost.once lost.count;
      faults = let same = lost.only.read_faults in let count = only.read_faults in omega (arith, same, count);
    }

loses_keeps : (name : List ℕ) (files : Change FilesState) (task : Task) → LosesOutput name files task → KeepsFiles task.output files
loses_keeps name files task loses =
    lost_keeps files loses.between name task.output loses.outcome.written (all_only task.plan loses.texts files.before loses.between loses.reads) loses.holds

-- The whole run.

-- a sink that nothing was put to has its count
same_count : (out : Change SinkState) → out.after ≡ out.before → out.before.faults ≤ out.after.faults
same_count out same = let count = ap (λ (sink : SinkState). sink.faults) same in omega (arith, count)

both : (e : Ending) (output : Option (List ℕ)) (files : Change FilesState) (out : Change SinkState) → KeepsFiles (changed_by e output) files
    → out.before.faults ≤ out.after.faults → Keeps e output files out
both e output files out keeps count = record { writes = keeps.writes; read_faults = keeps.faults; put_faults = count }

pub untouched_keeps : (e : Ending) (output : Option (List ℕ)) (files : Change FilesState) (out : Change SinkState) → IsUntouched files out → Keeps e output files out
untouched_keeps e output files out untouched =
    both e output files out (only_keeps (changed_by e output) files (same_only files.before files.after untouched.same_files)) (same_count out untouched.same_out)

caused_keeps : (e : Ending) (files : Change FilesState) (out : Change SinkState) (task : Task) → Caused e files out task → Keeps e task.output files out
caused_keeps done files out task works =
    let only = all_only task.plan works.texts files.before works.between works.reads in
    both done task.output files out (written_keeps files works.between task.output works.outcome.written only works.holds.0) works.holds.1.count
caused_keeps answer_fault files out task works =
    let only = all_only task.plan works.texts files.before works.between works.reads in
    both answer_fault task.output files out (written_keeps files works.between task.output works.outcome.written only works.holds.0) works.holds.1.count
caused_keeps (refused name first) files out task cause =
    both (refused name first) task.output files out (only_keeps None files (among_only task.plan files.before files.after (refused name first) cause.0)) (same_count out cause.1)
caused_keeps (read_fault name) files out task cause =
    both (read_fault name) task.output files out (only_keeps None files (among_only task.plan files.before files.after (read_fault name) cause.0)) (same_count out cause.1)
caused_keeps (misfit which) files out task cause =
    both (misfit which) task.output files out (only_keeps None files (all_only task.plan cause.0.texts files.before files.after cause.0.reads)) (same_count out cause.1)
caused_keeps (over_limit name) files out task cause =
    both (over_limit name) task.output files out (elim cause.0 [
      | inl ends ↦ only_keeps None files (among_only task.plan files.before files.after (over_limit name) ends)
      | inr works ↦
          let same = too_long_same works.between files.after name task.output works.outcome.written works.holds in
          only_keeps None files (subst (λ (state : FilesState). OnlyReads files.before state) (sym same)
          (all_only task.plan works.texts files.before works.between works.reads))
    ]) (same_count out cause.1)
caused_keeps (write_fault name) files out task cause =
    both (write_fault name) task.output files out (loses_keeps name files task cause.0) (same_count out cause.1)
caused_keeps no_memory files out task cause =
    both no_memory task.output files out (elim cause.0 [
      | inl ends ↦ only_keeps task.output files (among_only task.plan files.before files.after no_memory ends)
      | inr loses ↦ loses_keeps loses.0 files task loses.1
    ]) (same_count out cause.1)
caused_keeps bad_words files out task cause = absurd cause
caused_keeps too_many_files files out task cause = absurd cause

within_keeps : (many : Bool) (e : Ending) (files : Change FilesState) (out : Change SinkState) (task : Task) → CausedWithin many e files out task
    → Keeps e task.output files out
within_keeps true e files out task cause = untouched_keeps e task.output files out cause.1
within_keeps false e files out task cause = caused_keeps e files out task cause

-- whatever the words ask for
pub words_keep : (e : Ending) (files : Change FilesState) (out : Change SinkState) (a : Option Asked) → CausedByWords e files out a
    → Keeps e (output_for a) files out
words_keep e files out None cause = untouched_keeps e None files out cause.1
words_keep e files out (Some a) cause = within_keeps (names_too_many (task_of a)) e files out (task_of a) cause

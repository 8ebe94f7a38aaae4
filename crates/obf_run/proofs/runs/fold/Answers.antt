use Rattle.std.proofs.Common.{length, refl}
use Rattle.std.proofs.lemmas.Bool.{le-ltb}
use Rattle.run_model.specs.Endings.{ending}
use Rattle.run_model.specs.Jobs.{task_of}
use Rattle.run_model.specs.Requests.{fold_files}
use Rattle.run_model.specs.Runs.{change, names_too_many}
use Rattle.obf_run.specs.Finishing.{outcome_of_fold}
use Rattle.obf_run.proofs.Finished.{early_caused, finished_caused, within_caused}
use Rattle.obf_run.proofs.runs.fold.Goals as goal

pub returns-in-Ok : goal.returns-in-Ok
returns-in-Ok g c =
    let task = task_of (fold_files c.args.period c.args.output.now c.args.names.now) in
    within_caused (names_too_many task) (ending c.finish_file.result) (change (g.F.Files.state c.args.files.now) (g.F.Files.state c.finish_file.new.files))
    (change (g.K.Sink.state c.args.out.now) (g.K.Sink.state c.finish_file.new.out)) task (le-ltb 1024 (length c.args.names.now) c.if-names-gt-MOST_FILES.false)
    (finished_caused (ending c.finish_file.result) (change (g.F.Files.state c.args.files.now) (g.F.Files.state c.finish_file.new.files)) (g.F.Files.state c.folded_file.new.files)
    (change (g.K.Sink.state c.args.out.now) (g.K.Sink.state c.finish_file.new.out)) task c.args.output.now
    (outcome_of_fold c.in-Ok.folded) refl (c.in-Ok.ensures.works c.args.output.now) (rw (← c.bytes.ensures.bytes, ← c.deref.ensures.value) c.finish_file.ensures))

pub returns-in-Err : goal.returns-in-Err
returns-in-Err g c =
    let task = task_of (fold_files c.args.period c.args.output.now c.args.names.now) in
    within_caused (names_too_many task) (ending c.in-Err.status) (change (g.F.Files.state c.args.files.now) (g.F.Files.state c.folded_file.new.files))
    (change (g.K.Sink.state c.args.out.now) (g.K.Sink.state c.args.out.now)) task (le-ltb 1024 (length c.args.names.now) c.if-names-gt-MOST_FILES.false)
    (early_caused (ending c.in-Err.status) (change (g.F.Files.state c.args.files.now) (g.F.Files.state c.folded_file.new.files))
    (change (g.K.Sink.state c.args.out.now) (g.K.Sink.state c.args.out.now)) task (c.in-Err.ensures.ends c.args.output.now) refl)

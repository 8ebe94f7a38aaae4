use Rattle.std.proofs.Common.{◌∷◌, ◌++◌, [], refl}
use Rattle.run_model.specs.Endings.{ending}
use Rattle.run_model.specs.Jobs.{task_of}
use Rattle.run_model.specs.Requests.{change_map}
use Rattle.run_model.specs.Runs.{change}
use Rattle.obf_run.specs.Finishing.{outcome_of}
use Rattle.obf_run.proofs.Finished.{ended_caused, finished_caused}
use Rattle.obf_run.proofs.runs.change.Goals as goal

pub returns-in-Ok : goal.returns-in-Ok
returns-in-Ok g c =
    finished_caused (ending c.finish.result) (change (g.F.Files.state c.args.files.now) (g.F.Files.state c.finish.new.files)) (g.F.Files.state c.changed_file.new.files)
    (change (g.K.Sink.state c.args.out.now) (g.K.Sink.state c.finish.new.out)) (task_of (change_map c.args.rules.now c.args.base.now c.args.hour c.args.output.now (c.args.earlier.now ++ c.args.last.now ∷ []))) c.args.output.now
    (outcome_of c.in-Ok.built) refl (c.in-Ok.ensures.works c.args.output.now) c.finish.ensures

pub returns-in-Err : goal.returns-in-Err
returns-in-Err g c =
    ended_caused (ending c.in-Err.status) (change (g.F.Files.state c.args.files.now) (g.F.Files.state c.changed_file.new.files))
    (change (g.K.Sink.state c.args.out.now) (g.K.Sink.state c.args.out.now)) (task_of (change_map c.args.rules.now c.args.base.now c.args.hour c.args.output.now (c.args.earlier.now ++ c.args.last.now ∷ []))) (c.in-Err.ensures.ends c.args.output.now) refl

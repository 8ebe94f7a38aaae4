use Rattle.std.proofs.Common.{false, refl}
use Rattle.run_model.specs.Endings.{ending}
use Rattle.run_model.specs.Jobs.{task_of}
use Rattle.run_model.specs.Requests.{replay_script}
use Rattle.run_model.specs.Runs.{change}
use Rattle.obf_run.proofs.Finished.{among_early, answer_caused}
use Rattle.obf_run.proofs.runs.replay.Goals as goal

pub returns : goal.returns
returns g c =
    let files = change (g.F.Files.state c.args.files.now) (g.F.Files.state c.played_answer.new.files) in
    let task = task_of (replay_script c.args.rules.now c.args.base.now c.args.script.now) in
    answer_caused c.played_answer.result (λ a. a.items) (λ status. ending status) false (ending c.print.result) files (change (g.K.Sink.state c.args.out.now) (g.K.Sink.state c.print.new.out)) task
    refl refl c.played_answer.ensures.works (among_early c.played_answer.result (λ status. ending status) files task c.played_answer.ensures.ends) c.print.ensures.put c.print.ensures.not_put

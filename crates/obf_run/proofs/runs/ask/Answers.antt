use Rattle.std.proofs.Common.{length, refl}
use Rattle.std.proofs.lemmas.Bool.{le-ltb}
use Rattle.run_model.specs.Endings.{ending}
use Rattle.run_model.specs.Jobs.{task_of}
use Rattle.run_model.specs.Requests.{ask_files}
use Rattle.run_model.specs.Runs.{change, names_too_many}
use Rattle.obf_run.proofs.Finished.{answer_caused}
use Rattle.obf_run.proofs.runs.ask.Goals as goal

pub returns-clause-caused : goal.returns-clause-caused
returns-clause-caused g c =
    answer_caused c.question_answer.result (λ a. a.items) (λ status. ending status) (names_too_many (task_of (ask_files c.args.query.now c.args.names.now))) (ending c.print.result)
    (change (g.F.Files.state c.args.files.now) (g.F.Files.state c.question_answer.new.files)) (change (g.K.Sink.state c.args.out.now) (g.K.Sink.state c.print.new.out))
    (task_of (ask_files c.args.query.now c.args.names.now)) (le-ltb 1024 (length c.args.names.now) c.if-names-gt-MOST_FILES.false) refl c.question_answer.ensures.works c.question_answer.ensures.ends c.print.ensures.put c.print.ensures.not_put

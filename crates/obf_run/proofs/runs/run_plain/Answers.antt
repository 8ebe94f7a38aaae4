use Rattle.std.proofs.Common.{◌≡◌, Option, Some, None, subst}
use Rattle.std.specs.Prelude.{MatchOption}
use Rattle.run_model.specs.declared.request.Request.{Request}
use Rattle.run_model.specs.Endings.{ending}
use Rattle.run_model.specs.Requests.{asked, asked_by}
use Rattle.run_model.proofs.Runs.{asked_ends}
use Rattle.obf_run.proofs.runs.run_plain.Goals as goal

pub returns-in-Ok-Some : goal.returns-in-Ok-Some
returns-in-Ok-Some g c =
    asked_ends (ending c.report.result) (ending c.answer_request-status.result) c.args.words.now _ (asked c.in-Ok-Some.request)
    (subst (λ (found : Option Request). MatchOption found (asked_by c.args.words.now ≡ None) (λ r. asked_by c.args.words.now ≡ Some (asked r))) c.in-Ok-Some.field-0-is c.in-Ok-Some.ensures.read)
    c.answer_request-status.ensures.caused c.answer_request-status.ensures.steps c.report.ensures.status c.report.ensures.told

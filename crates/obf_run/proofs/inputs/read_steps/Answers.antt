use Rattle.obf_run.proofs.GoodTexts.{steps_read}
use Rattle.obf_run.proofs.inputs.read_steps.Goals as goal

pub returns-in-Ok-read_script-clause-steps : goal.returns-in-Ok-read_script-clause-steps
returns-in-Ok-read_script-clause-steps g c =
    rw (← c.as_str.ensures) (steps_read _ _ c.as_str.result.now c.in-Ok.text.items c.deref.result.now c.in-Ok-read_script.steps.items c.in-Ok.ensures.whole c.in-Ok.ensures.only_reads
    c.deref.ensures.value c.in-Ok-read_script.ensures.steps)

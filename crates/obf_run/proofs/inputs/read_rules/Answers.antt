use Rattle.obf_run.proofs.GoodTexts.{rules_read}
use Rattle.obf_run.proofs.inputs.read_rules.Goals as goal

pub returns-in-Ok-read-clause-rules : goal.returns-in-Ok-read-clause-rules
returns-in-Ok-read-clause-rules g c =
    rw (← c.as_str.ensures) (rules_read _ _ c.as_str.result.now c.in-Ok.text.items c.deref.result.now c.in-Ok-read.rules c.in-Ok.ensures.whole c.in-Ok.ensures.only_reads
    c.deref.ensures.value c.in-Ok-read.ensures.rules)

use Rattle.obf_run.proofs.GoodTexts.{lines_read}
use Rattle.obf_run.proofs.inputs.read_lines.Goals as goal

pub returns-in-Ok-read_all-clause-lines : goal.returns-in-Ok-read_all-clause-lines
returns-in-Ok-read_all-clause-lines g c =
    rw (← c.as_str.ensures) (lines_read _ _ c.as_str.result.now c.in-Ok.text.items c.deref.result.now c.in-Ok-read_all.lines.items c.in-Ok.ensures.whole c.in-Ok.ensures.only_reads
    c.deref.ensures.value c.in-Ok-read_all.ensures.lines)

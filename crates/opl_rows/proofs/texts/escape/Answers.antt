use Rattle.opl_rows.proofs.Runs.{escape_is}
use Rattle.opl_rows.proofs.texts.escape.Goals as goal

pub returns : goal.returns
returns c =
    escape_is c.args.bytes.now c.skip_code-after.result.now c.in-Some.rest.now c.saturating_sub-n.result c.in-Some-character.code c.in-Some-from_u32.c c.args.tags.now c.push_char.new.self c.skip_code-after.ensures c.in-Some.ensures c.saturating_sub-n.ensures
    c.in-Some-character.ensures c.in-Some-from_u32.ensures.value.1 c.in_ok-push_char.ensures

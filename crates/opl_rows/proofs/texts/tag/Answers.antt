use Rattle.opl_rows.proofs.Runs.{tag_is}
use Rattle.opl_rows.proofs.texts.tag.Goals as goal

pub returns : goal.returns
returns c =
    tag_is c.args.bytes.now c.in-Some.after.now c.in-Some-behind_byte.front.now c.in-Some-2.rest.now c.open_len-key.result c.args.tags.now c.text.new.tags c.text-2.new.tags c.close.new.self
    c.requires (rw c.in-Some.is at c.in_ok-after.ensures) c.in-Some-behind_byte.ensures c.open_len-key.ensures (rw c.in-Some-2.is at c.in_ok-rest.ensures) c.in_ok-close.ensures.tags c.in_ok-close.ensures.last

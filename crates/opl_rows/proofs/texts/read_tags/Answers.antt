use Rattle.std.proofs.Common.{sym, ◌∙◌, arith}
use Rattle.opl_rows.proofs.Items.{tags_start, tags_go, tags_read, tags_shorter, tags_none_read}
use Rattle.opl_rows.proofs.texts.read_tags.Goals as goal

pub returns-then-is_end : goal.returns-then-is_end
returns-then-is_end c = tags_none_read c.args.bytes.now c.args.tags.now (sym c.is_end.ensures ∙ c.if-is_end.true) c.requires.tags

pub loop-more-init : goal.loop-more-init
loop-more-init c = tags_start c.args.bytes.now c.in-Some.first.now c.args.tags.now c.tag.new.tags c.requires.tags (rw c.in-Some.is at c.in_ok-first.ensures)

pub loop-more-smaller : goal.loop-more-smaller
loop-more-smaller c =
    tags_shorter c.loop-more.rest.now c.in-Some-behind_byte.more.now c.in-Some-2.behind.now c.loop-more.tags c.tag-in-Some-behind_byte.new.tags c.in-Some-behind_byte.ensures (rw c.in-Some-2.is at c.in_ok-behind.ensures)

pub loop-more-preserved : goal.loop-more-preserved
loop-more-preserved c =
    tags_go c.args.bytes.now c.loop-more.rest.now c.in-Some-behind_byte.more.now c.in-Some-2.behind.now c.loop-more.tags c.tag-in-Some-behind_byte.new.tags c.in-Some-behind_byte.ensures
    (rw c.in-Some-2.is at c.in_ok-behind.ensures) c.loop-more.invariant

pub returns : goal.returns
returns c =
    let few = c.if-len-gt65535.false in
    tags_read c.args.bytes.now c.loop-more.rest.now c.loop-more.tags (sym c.is_end-2.ensures ∙ c.if-not-is_end.false) (omega arith) c.if-not-rises.ensures c.loop-more.invariant

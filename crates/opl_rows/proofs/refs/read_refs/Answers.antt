use Rattle.std.proofs.Common.{sym, ◌∙◌, arith}
use Rattle.opl_rows.proofs.Referring.{refs_start, refs_go, refs_read, refs_shorter, refs_none_read}
use Rattle.opl_rows.proofs.refs.read_refs.Goals as goal

pub returns-then-is_end : goal.returns-then-is_end
returns-then-is_end c = refs_none_read c.args.bytes.now c.args.refs.now.items (sym c.is_end.ensures ∙ c.if-is_end.true) c.requires

pub loop-more-init : goal.loop-more-init
loop-more-init c = refs_start c.args.bytes.now c.in-Some.first.now c.args.refs.now.items c.add_ref.new.refs.items c.requires (rw c.in-Some.is at c.in_ok-first.ensures)

pub loop-more-smaller : goal.loop-more-smaller
loop-more-smaller c =
    refs_shorter c.loop-more.rest.now c.in-Some-behind_byte.more.now c.in-Some-2.behind.now c.loop-more.refs.items c.add_ref-in-Some-behind_byte.new.refs.items c.in-Some-behind_byte.ensures
    (rw c.in-Some-2.is at c.in_ok-behind.ensures)

pub loop-more-preserved : goal.loop-more-preserved
loop-more-preserved c =
    refs_go c.args.bytes.now c.loop-more.rest.now c.in-Some-behind_byte.more.now c.in-Some-2.behind.now c.loop-more.refs.items c.add_ref-in-Some-behind_byte.new.refs.items
    c.in-Some-behind_byte.ensures (rw c.in-Some-2.is at c.in_ok-behind.ensures) c.loop-more.invariant

pub returns : goal.returns
returns c =
    let few = c.if-len-gt-MOST.false in
    refs_read c.args.bytes.now c.loop-more.rest.now c.loop-more.refs.items (sym c.is_end-2.ensures ∙ c.if-not-is_end.false) (omega arith) c.loop-more.invariant

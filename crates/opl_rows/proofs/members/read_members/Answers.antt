use Rattle.std.proofs.Common.{sym, ◌∙◌, arith}
use Rattle.opl_rows.proofs.Membership.{members_start, members_go, members_read, members_shorter, members_none_read}
use Rattle.opl_rows.proofs.members.read_members.Goals as goal

pub returns-then-is_end : goal.returns-then-is_end
returns-then-is_end c = members_none_read c.args.bytes.now c.args.members.now.items (sym c.is_end.ensures ∙ c.if-is_end.true) c.requires

pub loop-more-init : goal.loop-more-init
loop-more-init c = members_start c.args.bytes.now c.in-Some.first.now c.args.members.now.items c.add_member.new.members.items c.requires (rw c.in-Some.is at c.in_ok-first.ensures)

pub loop-more-smaller : goal.loop-more-smaller
loop-more-smaller c =
    members_shorter c.loop-more.rest.now c.in-Some-behind_byte.more.now c.in-Some-2.behind.now c.loop-more.members.items c.add_member-in-Some-behind_byte.new.members.items c.in-Some-behind_byte.ensures
    (rw c.in-Some-2.is at c.in_ok-behind.ensures)

pub loop-more-preserved : goal.loop-more-preserved
loop-more-preserved c =
    members_go c.args.bytes.now c.loop-more.rest.now c.in-Some-behind_byte.more.now c.in-Some-2.behind.now c.loop-more.members.items c.add_member-in-Some-behind_byte.new.members.items
    c.in-Some-behind_byte.ensures (rw c.in-Some-2.is at c.in_ok-behind.ensures) c.loop-more.invariant

pub returns : goal.returns
returns c =
    let few = c.if-len-gt-MOST.false in
    members_read c.args.bytes.now c.loop-more.rest.now c.loop-more.members.items (sym c.is_end-2.ensures ∙ c.if-not-is_end.false) (omega arith) c.loop-more.invariant

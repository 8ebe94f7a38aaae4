use Rattle.std.proofs.Common.{◌∙◌}
use Rattle.opl_rows.proofs.Membership.{member_is}
use Rattle.opl_rows.proofs.members.add_member.Goals as goal

pub returns : goal.returns
returns c =
    member_is c.args.bytes.now c.in-Some.target.rest.now c.in-Some-behind_byte.front.now c.in-Some-2.rest.now c.in-Some-3.role c.in-Some.target.object c.clear.new.self c.text.new.tags
    c.args.members.now.items c.push.new.self.items c.in-Some.ensures c.in-Some-behind_byte.ensures c.clear.ensures.last (rw c.in-Some-2.is at c.in_ok-rest.ensures)
    (rw c.in-Some-3.is at c.in_ok-role.ensures ∙ c.open_text.ensures) c.in_ok-push.ensures.items

use Rattle.std.proofs.Common.{sym}
use Rattle.opl_rows.proofs.Membership.{target_is}
use Rattle.opl_rows.proofs.members.target.Goals as goal

pub returns : goal.returns
returns c =
    target_is c.args.bytes.now c.in-Some.more.now c.in-Some-object_of_kind.named.rest.now c.in-Some.first.now c.in-Some-kind.kind c.in-Some-object_of_kind.named.object c.in-Some.ensures.cases.0
    (sym c.in-Some-kind.ensures) c.in-Some-object_of_kind.ensures.kind c.in-Some-object_of_kind.ensures.number c.in-Some-object_of_kind.ensures.rest

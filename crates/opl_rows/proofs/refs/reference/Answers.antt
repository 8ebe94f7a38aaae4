use Rattle.opl_rows.proofs.Referring.{ref_is}
use Rattle.opl_rows.proofs.refs.reference.Goals as goal

pub returns : goal.returns
returns c =
    ref_is c.args.bytes.now c.in-Some.more.now c.in-Some-id_part.number.rest.now c.in-Some-id_part.number.value c.in-Some.ensures c.in-Some-id_part.ensures.value c.in-Some-id_part.ensures.rest

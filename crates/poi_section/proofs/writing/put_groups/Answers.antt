use Rattle.std.proofs.Common.{◌++◌, length, rules}
use Rattle.std.proofs.lemmas.Bool.{eqb-true}
use Rattle.boxed_write.specs.Classes.{held}
use Rattle.poi_section.specs.Packed.{packed_pois}
use Rattle.poi_section.proofs.Ordered.{none_left}
use Rattle.poi_section.proofs.writing.put_groups.Goals as goal

pub returns : goal.returns
returns c =
    none_left c.loop-rest.rest.now c.loop-rest.out (c.args.out.now ++ packed_pois (held c.args.records.now))
    (eqb-true (length c.loop-rest.rest.now) 0 (search rules)) c.loop-rest.invariant.done

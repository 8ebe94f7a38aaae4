use Rattle.obf_reader.proofs.Images.{mark_found, none_at, some_at}
use Rattle.obf_reader.proofs.image.object_at.Goals as goal

pub returns-in-Some : goal.returns-in-Some
returns-in-Some c =
    let found = c.in-Some.ensures.lookup in
    mark_found c.args.marks.now c.args.index c.in-Some.mark.now c.from_ordinal.result c.requires (some_at c.args.marks.now c.args.index c.in-Some.mark.now found.3.0 found.1) c.from_ordinal.ensures

pub returns-in-None : goal.returns-in-None
returns-in-None c = none_at c.args.marks.now c.args.index c.in-None.ensures.lookup.3

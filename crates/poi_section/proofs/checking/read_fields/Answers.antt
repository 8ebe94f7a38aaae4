use Rattle.std.proofs.Common.{ℕ, subst, arith}
use Rattle.obf_wire.specs.Fields.{Window, part_of}
use Rattle.obf_wire.specs.KnownKeys.{StandsFirst}
use Rattle.obf_wire.specs.Windows.{range_of}
use Rattle.poi_section.proofs.PoiRead.{read_is}
use Rattle.poi_section.proofs.checking.read_fields.Goals as goal

pub returns-clause-read : goal.returns-clause-read
returns-clause-read c =
    let w : Window = range_of c.args.window in
    read_is w c.in-Some.step c.in-Some-expected.name c.in-Some-expected-2.points (record { ordered = c.args.window.ordered; within = c.args.window.within })
    (subst (λ (at : ℕ). StandsFirst (part_of c.args.window.bytes.now at c.args.window.to) 8 c.in-Some.step) c.from.ensures c.in-Some.ensures)
    c.in-Some-expected.ensures
    c.in-Some-expected-2.ensures
    (omega arith)

use Rattle.std.proofs.Common.{ℕ, subst, arith}
use Rattle.obf_wire.specs.Fields.{part_of}
use Rattle.obf_wire.specs.KnownKeys.{StandsFirst}
use Rattle.obf_wire.specs.Windows.{range_of}
use Rattle.road_section.proofs.StraightLines.{road_read_is}
use Rattle.road_section.proofs.road_checking.road_line.Goals as goal

pub returns-clause-read : goal.returns-clause-read
returns-clause-read c =
    road_read_is (range_of c.args.window) c.in-Some.step c.in-Some-expected.rule c.in-Some-expected-2.value c.in-Some-expected-3.direction c.in-Some-expected-4.nodes
    (record { ordered = c.args.window.ordered; within = c.args.window.within })
    (subst (λ (at : ℕ). StandsFirst (part_of c.args.window.bytes.now at c.args.window.to) 8 c.in-Some.step) c.from.ensures c.in-Some.ensures)
    c.in-Some-expected.ensures
    c.in-Some-expected-2.ensures
    c.in-Some-expected-3.ensures
    c.in-Some-expected-4.ensures
    (omega arith)

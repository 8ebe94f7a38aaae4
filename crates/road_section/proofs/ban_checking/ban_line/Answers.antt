use Rattle.std.proofs.Common.{ℕ, subst, arith}
use Rattle.obf_wire.specs.Fields.{part_of}
use Rattle.obf_wire.specs.KnownKeys.{StandsFirst}
use Rattle.obf_wire.specs.Windows.{range_of}
use Rattle.road_section.proofs.StraightLines.{ban_read_is}
use Rattle.road_section.proofs.ban_checking.ban_line.Goals as goal

pub returns-clause-read : goal.returns-clause-read
returns-clause-read c =
    ban_read_is (range_of c.args.window) c.in-Some.step c.in-Some-expected.value c.in-Some-expected-2.from c.in-Some-expected-3.via c.in-Some-expected-4.to c.in-Some-expected-5.points
    (record { ordered = c.args.window.ordered; within = c.args.window.within })
    (subst (λ (at : ℕ). StandsFirst (part_of c.args.window.bytes.now at c.args.window.to) 8 c.in-Some.step) c.from.ensures c.in-Some.ensures)
    c.in-Some-expected.ensures
    c.in-Some-expected-2.ensures
    c.in-Some-expected-3.ensures
    c.in-Some-expected-4.ensures
    c.in-Some-expected-5.ensures
    (omega arith)

use Rattle.std.proofs.Common.{ℕ, subst, rules}
use Rattle.obf_wire.specs.Fields.{part_of}
use Rattle.obf_wire.specs.KnownKeys.{StandsFirst}
use Rattle.obf_wire.specs.Windows.{range_of}
use Rattle.boxed_check.proofs.NodeWalk.{front_is}
use Rattle.boxed_check.proofs.nodes.front_of.Goals as goal

pub returns-clause-front : goal.returns-clause-front
returns-clause-front c =
    front_is (range_of c.args.window) c.in-Some.left c.in-Some-expected.top c.in-Some-expected-2.right c.in-Some-expected-3.bottom (record { ordered = c.args.window.ordered; within = c.args.window.within })
    (subst (λ (at : ℕ). StandsFirst (part_of c.args.window.bytes.now at c.args.window.to) 8 c.in-Some.left) c.from.ensures c.in-Some.ensures)
    (c.in-Some-expected.ensures)
    (c.in-Some-expected-2.ensures)
    (c.in-Some-expected-3.ensures)
    (search rules)

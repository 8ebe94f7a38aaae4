use Rattle.std.proofs.Common.{◌∙◌, List, ap, sym}
use Rattle.file_grammar.specs.Facts.{earlier, first_failing}
use Rattle.boxed_exact.specs.declared.nodes.LeafSeen.{LeafSeen}
use Rattle.boxed_exact.proofs.BlockWalk.{unnamed, unnamed_all, unnamed_on}
use Rattle.boxed_exact.proofs.section.check_unnamed.Goals as goal

pub loop-first-preserved : goal.loop-first-preserved
loop-first-preserved c =
    unnamed_on c.args.first.now c.loop-first.first c.ask.new.self c.args.leaves.now c.loop-first.rest.now c.in-Some.leaf.now c.loop-first.invariant (sym c.in-Some.ensures.value) c.ask.ensures
    ∙ ap (λ (ls : List LeafSeen). earlier c.ask.new.self (first_failing (unnamed ls))) (sym c.behind_first-rest.ensures)

pub returns : goal.returns
returns c = unnamed_all c.args.first.now c.loop-first.first c.args.leaves.now c.loop-first.rest.now c.loop-first.invariant (sym c.in_default.ensures.value)

use Rattle.std.proofs.Common.{◌∙◌, sym, arith}
use Rattle.std.proofs.lemmas.Bool.{eqb-true}
use Rattle.obf_wire.specs.Windows.{range_of}
use Rattle.boxed_check.proofs.SectionWalk.{tree_none}
use Rattle.boxed_check.proofs.section.see_tree.Goals as goal

pub returns-then-is_empty : goal.returns-then-is_empty
returns-then-is_empty c e = tree_none (range_of c.args.window) c.args.leaves.now.items (record { ordered = c.args.window.ordered; within = c.args.window.within }) (let same = eqb-true c.args.window.from c.args.window.to (sym c.is_empty.ensures ∙ c.if-is_empty.true) in omega (arith, same))

use Rattle.std.proofs.Common.{◌≡◌, false, length, map}
use Rattle.obf_wire.specs.declared.file.FileKind.TheVariants.{BadPlace}
use Rattle.file_grammar.specs.Facts.{earlier, fact, first_failing}
use Rattle.boxed_exact.proofs.section.check_unnamed.Given as goal

abbrev pub invariant-loop-first : goal.invariant-loop-first
invariant-loop-first l =
    earlier l.fn.first (first_failing (map (λ leaf. fact leaf.place.at BadPlace false) l.leaves)) ≡ earlier l.first (first_failing (map (λ leaf. fact leaf.place.at BadPlace false) l.rest))

abbrev pub decreases-loop-first : goal.decreases-loop-first
decreases-loop-first l = length l.rest

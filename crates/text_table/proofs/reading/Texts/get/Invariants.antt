use Rattle.text_table.proofs.Walk.{Passed}
use Rattle.text_table.proofs.reading.Texts.get.Given as goal

abbrev pub invariant-loop : goal.invariant-loop
invariant-loop l = Passed l.self l.rest l.counter

use Rattle.std.proofs.Common.{◌≡◌, length}
use Rattle.file_grammar.specs.Tables.{rows_behind}
use Rattle.file_grammar.proofs.tables.rows_behind.Given as goal

abbrev pub invariant-loop-rest : goal.invariant-loop-rest
invariant-loop-rest l = rows_behind l.key l.rest ≡ rows_behind l.key l.rows

abbrev pub decreases-loop-rest : goal.decreases-loop-rest
decreases-loop-rest l = length l.rest

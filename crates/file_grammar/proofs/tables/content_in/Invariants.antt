use Rattle.std.proofs.Common.{◌≡◌, find, length}
use Rattle.std.specs.Prelude.{◌==◌}
use Rattle.file_grammar.proofs.tables.content_in.Given as goal

abbrev pub invariant-loop-rest : goal.invariant-loop-rest
invariant-loop-rest l = find (λ row. row.key == l.key) l.rest ≡ find (λ row. row.key == l.key) l.rows

abbrev pub decreases-loop-rest : goal.decreases-loop-rest
decreases-loop-rest l = length l.rest

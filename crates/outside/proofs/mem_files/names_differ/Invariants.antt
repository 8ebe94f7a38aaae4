use Rattle.std.proofs.Common.{◌≡◌, length}
use Rattle.outside.specs.Memory.{names_differ}
use Rattle.outside.proofs.mem_files.names_differ.Given as goal

abbrev pub invariant-loop-rest : goal.invariant-loop-rest
invariant-loop-rest l = names_differ l.rest ≡ names_differ l.files

abbrev pub decreases-loop-rest : goal.decreases-loop-rest
decreases-loop-rest l = length l.rest

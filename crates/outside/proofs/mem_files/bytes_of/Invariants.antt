use Rattle.std.proofs.Common.{◌≡◌, length}
use Rattle.outside.specs.Memory.{contents_of}
use Rattle.outside.proofs.mem_files.bytes_of.Given as goal

abbrev pub invariant-loop-rest : goal.invariant-loop-rest
invariant-loop-rest l = contents_of l.rest l.name ≡ contents_of l.files l.name

abbrev pub decreases-loop-rest : goal.decreases-loop-rest
decreases-loop-rest l = length l.rest

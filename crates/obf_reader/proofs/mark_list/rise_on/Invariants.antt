use Rattle.std.proofs.Common.{◌≡◌, length}
use Rattle.obf_reader.specs.MarkLists.{rise_from}
use Rattle.obf_reader.proofs.mark_list.rise_on.Given as goal

abbrev pub invariant-loop-rest : goal.invariant-loop-rest
invariant-loop-rest l = rise_from l.before l.rest ≡ rise_from l.first l.steps

abbrev pub decreases-loop-rest : goal.decreases-loop-rest
decreases-loop-rest l = length l.rest

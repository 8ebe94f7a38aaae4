use Rattle.std.proofs.Common.{◌≡◌, length}
use Rattle.std.specs.Cmp.Lexicographic.{slice_cmp}
use Rattle.live_model.specs.Records.{record_cmp}
use Rattle.change_diff.proofs.comparing.are_others.Given as goal

-- the lists compare as what is left of them does
abbrev pub invariant-loop-a : goal.invariant-loop-a
invariant-loop-a l = slice_cmp record_cmp l.olds l.news ≡ slice_cmp record_cmp l.old l.new

abbrev pub decreases-loop-a : goal.decreases-loop-a
decreases-loop-a l = length l.olds

use Rattle.std.proofs.Common.{◌≡◌, ◌++◌, ℕ, List, length, map}
use Rattle.std.specs.Arc.{arc_value}
use Rattle.obf_run.specs.Images.{AreRead}
use Rattle.obf_run.proofs.images.read_images.Given as goal

-- some of the names so far, with those that are left, are all; and the files of those so far were read
abbrev pub invariant-loop-name : goal.invariant-loop-name
invariant-loop-name g l = (so_far : List (List ℕ)) × (l.names ≡ so_far ++ l.rest) × AreRead (g.F.Files.state l.initial.files) (g.F.Files.state l.files) so_far (map arc_value l.images.items)

abbrev pub decreases-loop-name : goal.decreases-loop-name
decreases-loop-name g l = length l.rest

use Rattle.std.proofs.Common.{◌≡◌, ◌++◌, ℕ, List, length}
use Rattle.obf_run.specs.Changing.{AreMade}
use Rattle.obf_run.proofs.changing.make_changes.Given as goal

-- some of the names so far, with those that are left, are all; and the changes of those so far were made
abbrev pub invariant-loop-name : goal.invariant-loop-name
invariant-loop-name g l = (so_far : List (List ℕ)) × (l.names ≡ so_far ++ l.rest) × AreMade (g.F.Files.state l.initial.files) (g.F.Files.state l.files) so_far l.initial.store.entities l.store.entities

abbrev pub decreases-loop-name : goal.decreases-loop-name
decreases-loop-name g l = length l.rest

use Rattle.std.proofs.Common.{◌≡◌, ◌++◌, length}
use Rattle.object_geometry.specs.Matching.{rules_for}
use Rattle.derive_poi.specs.Categories.{categories_of}
use Rattle.derive_poi.proofs.records.matching_categories.Given as goal

-- what is still to come, behind what was found
abbrev pub invariant-loop-rule : goal.invariant-loop-rule
invariant-loop-rule l = l.found.items ++ categories_of l.matches ≡ categories_of (rules_for l.rules l.entity)

abbrev pub decreases-loop-rule : goal.decreases-loop-rule
decreases-loop-rule l = length l.matches

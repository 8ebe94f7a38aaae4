use Rattle.std.proofs.Common.{◌≡◌, ◌++◌, List, length, map}
use Rattle.std.specs.Arc.{arc_value}
use Rattle.script_text.specs.declared.steps.Step.{Step}
use Rattle.run_model.specs.PlayedScripts.{changes_named}
use Rattle.obf_run.specs.Replaying.{AreChanges}
use Rattle.obf_run.proofs.replaying.read_changes.Given as goal

-- some of the steps so far, with those that are left, are all; and the changes of those so far were read
abbrev pub invariant-loop-step : goal.invariant-loop-step
invariant-loop-step g l = (so_far : List Step) × (l.steps ≡ so_far ++ l.rest) × AreChanges (g.F.Files.state l.initial.files) (g.F.Files.state l.files) (changes_named so_far) (map arc_value l.changes.items)

abbrev pub decreases-loop-step : goal.decreases-loop-step
decreases-loop-step g l = length l.rest

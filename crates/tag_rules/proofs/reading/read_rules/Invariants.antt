use Rattle.std.proofs.Common.{◌≤◌, ◌+◌, length}
use Rattle.text_pieces.specs.Lines.{lines_from}
use Rattle.live_model.specs.Rules.{rule_lines}
use Rattle.tag_rules.proofs.TextSteps.{Kept}
use Rattle.tag_rules.proofs.reading.read_rules.Given as goal

abbrev pub invariant-loop-row : goal.invariant-loop-row
invariant-loop-row l = record {
  kept : Kept (rule_lines l.bytes) l.rules.items (lines_from l.at l.rest);
  few : length l.rules.items ≤ 100000;
  within : l.at + length l.rest ≤ length l.bytes;
}

abbrev pub decreases-loop-row : goal.decreases-loop-row
decreases-loop-row l = length l.rest

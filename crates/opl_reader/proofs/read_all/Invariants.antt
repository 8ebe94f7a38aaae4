use Rattle.std.proofs.Common.{◌≤◌, ◌+◌, length}
use Rattle.text_pieces.specs.Lines.{lines_from}
use Rattle.live_model.specs.OplTexts.{object_lines}
use Rattle.opl_reader.proofs.TextSteps.{Kept}
use Rattle.opl_reader.proofs.read_all.Given as goal

abbrev pub invariant-loop-row : goal.invariant-loop-row
invariant-loop-row l = record {
  kept : Kept (object_lines l.bytes) l.lines.items (lines_from l.at l.rest);
  few : length l.lines.items ≤ 4000000;
  within : l.at + length l.rest ≤ length l.bytes;
}

abbrev pub decreases-loop-row : goal.decreases-loop-row
decreases-loop-row l = length l.rest

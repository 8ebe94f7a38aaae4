use Rattle.std.proofs.Common.{◌≤◌, ◌+◌, length}
use Rattle.text_pieces.specs.Lines.{lines_from}
use Rattle.live_model.specs.OplTexts.{object_lines}
use Rattle.line_texts.proofs.TextSteps.{Kept}
use Rattle.line_texts.proofs.reading.read_lines.Given as goal

abbrev pub invariant-loop-row : goal.invariant-loop-row
invariant-loop-row g l = record {
  kept : Kept g.F.LineForm.form g.F.LineForm.is_good (object_lines l.bytes) l.items.items (lines_from l.at l.rest);
  few : length l.items.items ≤ g.F.LineForm.form.most;
  within : l.at + length l.rest ≤ length l.bytes;
}

abbrev pub decreases-loop-row : goal.decreases-loop-row
decreases-loop-row g l = length l.rest

use Rattle.std.proofs.Common.{◌≤◌, ◌+◌, length}
use Rattle.text_pieces.specs.Lines.{fields_from}
use Rattle.opl_reader.proofs.FieldsFound.{Goes}
use Rattle.opl_reader.proofs.rows.fields.Given as goal

abbrev pub invariant-loop-field : goal.invariant-loop-field
invariant-loop-field l = record {
  goes : Goes l.kind l.found (fields_from l.at l.rest) (fields_from l.fn.at l.bytes);
  within : l.at + length l.rest ≤ l.fn.at + length l.bytes;
}

abbrev pub decreases-loop-field : goal.decreases-loop-field
decreases-loop-field l = length l.rest

use Rattle.std.proofs.Common.{◌≡◌, ◌≤◌, ◌+◌, ◌-◌, Ok}
use Rattle.obf_wire.specs.Fields.{IsWindow}
use Rattle.file_grammar.specs.Messages.{Fields}
use Rattle.file_grammar.specs.Walks.{left_in}
use Rattle.boxed_exact.specs.Records.{AreRecords}
use Rattle.boxed_check.proofs.SurveyWalk.{RecordsCounted}
use Rattle.boxed_check.proofs.surveying.count_records.Given as goal

abbrev pub invariant-loop-field : goal.invariant-loop-field
invariant-loop-field l = record {
  records : (fields : Fields) → left_in l.fn.walk ≡ Ok fields → AreRecords fields → RecordsCounted fields l.count l.walk;
  window : IsWindow l.walk.window;
  few : l.fn.walk.window.place + l.count ≤ l.walk.window.place;
  end : l.walk.window.end ≡ l.fn.walk.window.end;
}

abbrev pub decreases-loop-field : goal.decreases-loop-field
decreases-loop-field l = l.walk.window.end - l.walk.window.place

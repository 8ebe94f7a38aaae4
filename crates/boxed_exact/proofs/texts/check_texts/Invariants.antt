use Rattle.std.proofs.Common.{◌≡◌, ◌≤◌, ◌-◌, Ok}
use Rattle.file_grammar.specs.declared.parts.Part.TheVariants.{Texts}
use Rattle.file_grammar.specs.Messages.{Fields}
use Rattle.file_grammar.specs.Readings.{message_at}
use Rattle.obf_wire.specs.Fields.{IsWindow}
use Rattle.obf_wire.specs.Windows.{range_of}
use Rattle.boxed_exact.proofs.TextWalk.{TextsLeft}
use Rattle.boxed_exact.proofs.texts.check_texts.Given as goal

abbrev pub invariant-loop-field : goal.invariant-loop-field
invariant-loop-field l = record {
  texts : (fields : Fields) → message_at Texts (range_of l.window) ≡ Ok fields → TextsLeft fields l.fn.first l.first l.count l.before l.walk;
  window : IsWindow l.walk.window;
  same : l.walk.window.bytes ≡ l.window.bytes.now;
  few : l.count ≤ l.walk.window.place;
}

abbrev pub decreases-loop-field : goal.decreases-loop-field
decreases-loop-field l = l.walk.window.end - l.walk.window.place

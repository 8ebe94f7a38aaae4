use Rattle.std.proofs.Common.{◌≡◌, ◌-◌, Ok}
use Rattle.file_grammar.specs.declared.parts.Part.TheVariants.{Texts}
use Rattle.file_grammar.specs.Messages.{Fields}
use Rattle.file_grammar.specs.Readings.{message_at}
use Rattle.obf_wire.specs.Fields.{IsWindow}
use Rattle.obf_wire.specs.Windows.{range_of}
use Rattle.boxed_exact.proofs.BlockTextWalk.{TextsAfter}
use Rattle.boxed_exact.proofs.block_texts.text_at.Given as goal

-- the text is so many further on
abbrev pub invariant-loop-field : goal.invariant-loop-field
invariant-loop-field l = record {
  texts : (fields : Fields) → message_at Texts (range_of l.window) ≡ Ok fields → TextsAfter fields l.index l.left l.walk;
  window : IsWindow l.walk.window;
  same : l.walk.window.bytes ≡ l.window.bytes.now;
}

abbrev pub decreases-loop-field : goal.decreases-loop-field
decreases-loop-field l = l.walk.window.end - l.walk.window.place

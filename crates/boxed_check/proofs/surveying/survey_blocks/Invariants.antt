use Rattle.std.proofs.Common.{◌≡◌, ◌≤◌, ◌-◌, Ok}
use Rattle.obf_wire.specs.Fields.{IsWindow}
use Rattle.file_grammar.specs.declared.parts.Part.TheVariants.{Boxes}
use Rattle.file_grammar.specs.Messages.{Fields}
use Rattle.file_grammar.specs.Walks.{left_in}
use Rattle.boxed_exact.specs.Pairs.{AreBlocks}
use Rattle.boxed_check.proofs.SurveyWalk.{SurveyLeft}
use Rattle.boxed_check.proofs.surveying.survey_blocks.Given as goal

abbrev pub invariant-loop-field : goal.invariant-loop-field
invariant-loop-field g l = let m = g.C.CheckClass in record {
  blocks : (fields : Fields) → left_in l.fn.walk ≡ Ok fields → AreBlocks fields → SurveyLeft m.class m.boxing l.bytes fields l.fn.blocks.items l.blocks.items l.count l.walk;
  part : l.walk.part ≡ Boxes m.class;
  window : IsWindow l.walk.window;
  same : l.walk.window.bytes ≡ l.bytes;
  few : l.count ≤ l.walk.window.place;
}

abbrev pub decreases-loop-field : goal.decreases-loop-field
decreases-loop-field g l = l.walk.window.end - l.walk.window.place

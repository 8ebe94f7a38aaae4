use Rattle.std.proofs.Common.{◌≡◌, ◌-◌, Ok}
use Rattle.obf_wire.specs.Fields.{IsWindow}
use Rattle.obf_wire.specs.Windows.{range_of}
use Rattle.file_grammar.specs.declared.parts.Part.TheVariants.{Keyed as ListPart}
use Rattle.file_grammar.specs.Messages.{Fields}
use Rattle.file_grammar.specs.Readings.{message_at}
use Rattle.addr_section.proofs.ListShape.{ListLeft}
use Rattle.addr_section.proofs.layout.list_in.Given as goal

-- the fields that are left
abbrev pub invariant-loop-field : goal.invariant-loop-field
invariant-loop-field l = record {
  left : (fields : Fields) → message_at (ListPart l.fn.version) (range_of l.window) ≡ Ok fields → ListLeft l.fn.version l.window.bytes.now fields l.list l.walk;
  part : l.walk.part ≡ ListPart l.fn.version;
  window : IsWindow l.walk.window;
  same : l.walk.window.bytes ≡ l.window.bytes.now;
}

abbrev pub decreases-loop-field : goal.decreases-loop-field
decreases-loop-field l = l.walk.window.end - l.walk.window.place

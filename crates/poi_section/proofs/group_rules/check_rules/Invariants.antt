use Rattle.std.proofs.Common.{◌≡◌, ◌-◌, None, Ok}
use Rattle.obf_wire.specs.Fields.{IsWindow}
use Rattle.obf_wire.specs.Windows.{range_of}
use Rattle.file_grammar.specs.declared.parts.Part.TheVariants.{Pois}
use Rattle.file_grammar.specs.Messages.{Fields}
use Rattle.file_grammar.specs.Readings.{message_at}
use Rattle.boxed_exact.specs.Sides.{beside}
use Rattle.poi_section.proofs.GroupAsking.{GroupsAsked}
use Rattle.poi_section.proofs.group_rules.check_rules.Given as goal

abbrev pub invariant-loop-field : goal.invariant-loop-field
invariant-loop-field l = record {
  asked : (fields : Fields) → message_at Pois (range_of l.window) ≡ Ok fields → GroupsAsked (beside l.around) l.window.bytes.now fields None l.first l.groups.items l.records l.before l.walk;
  part : l.walk.part ≡ Pois;
  window : IsWindow l.walk.window;
  same : l.walk.window.bytes ≡ l.window.bytes.now;
}

abbrev pub decreases-loop-field : goal.decreases-loop-field
decreases-loop-field l = l.walk.window.end - l.walk.window.place

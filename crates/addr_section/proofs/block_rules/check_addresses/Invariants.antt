use Rattle.std.proofs.Common.{◌≡◌, ◌≤◌, ◌-◌, Ok, Option}
use Rattle.obf_wire.specs.Fields.{IsWindow}
use Rattle.obf_wire.specs.Windows.{range_of}
use Rattle.file_grammar.specs.declared.parts.Part.TheVariants.{KeyedBlock as BlockPart}
use Rattle.file_grammar.specs.AddressRules.{Address}
use Rattle.file_grammar.specs.Messages.{Fields}
use Rattle.file_grammar.specs.Readings.{message_at}
use Rattle.boxed_exact.specs.Sides.{beside}
use Rattle.addr_section.specs.Seen.{IsSortKeyOf}
use Rattle.addr_section.proofs.AddressAsking.{AddressesLeft}
use Rattle.addr_section.proofs.block_rules.check_addresses.Given as goal

-- the addresses that are left
abbrev pub invariant-loop-field : goal.invariant-loop-field
invariant-loop-field l = record {
  left : (fields : Fields) (prev : Option Address) → message_at (BlockPart l.version) (range_of l.window) ≡ Ok fields → IsSortKeyOf l.before prev
      → AddressesLeft l.houses (beside l.around) l.version prev fields l.initial.first l.first l.seen l.walk;
  part : l.walk.part ≡ BlockPart l.version;
  window : IsWindow l.walk.window;
  same : l.walk.window.bytes ≡ l.window.bytes.now;
  few : l.seen.count ≤ l.walk.window.place;
}

abbrev pub decreases-loop-field : goal.decreases-loop-field
decreases-loop-field l = l.walk.window.end - l.walk.window.place

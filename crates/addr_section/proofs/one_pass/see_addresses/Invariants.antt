use Rattle.std.proofs.Common.{◌≤◌, ◌-◌, Option}
use Rattle.obf_wire.specs.Windows.{range_of}
use Rattle.file_grammar.specs.AddressRules.{Address}
use Rattle.boxed_exact.specs.Sides.{beside}
use Rattle.addr_section.specs.Seen.{IsSortKeyOf}
use Rattle.addr_section.proofs.OnePass.{AddressesRead}
use Rattle.addr_section.proofs.one_pass.see_addresses.Given as goal

-- the addresses so far
abbrev pub invariant-loop-at : goal.invariant-loop-at
invariant-loop-at l = record {
  so_far : (prev : Option Address) → IsSortKeyOf l.fn.before prev → AddressesRead l.fn.houses (beside l.around) l.fn.version (range_of l.window) prev l.initial.first l.first l.seen l.at;
  inside : l.at ≤ l.window.to;
  few : l.seen.count ≤ l.at;
}

abbrev pub decreases-loop-at : goal.decreases-loop-at
decreases-loop-at l = l.window.to - l.at

use Rattle.std.proofs.Common.{◌≤◌, ◌-◌}
use Rattle.obf_wire.specs.Windows.{range_of}
use Rattle.addr_section.specs.Straight.{AreEntriesRead}
use Rattle.addr_section.proofs.one_pass.see_entries.Given as goal

-- the entries so far
abbrev pub invariant-loop-at : goal.invariant-loop-at
invariant-loop-at l = record {
  so_far : AreEntriesRead l.fn.version (range_of l.window) l.initial.entries.items l.entries.items l.at;
  inside : l.at ≤ l.window.to;
}

abbrev pub decreases-loop-at : goal.decreases-loop-at
decreases-loop-at l = l.window.to - l.at

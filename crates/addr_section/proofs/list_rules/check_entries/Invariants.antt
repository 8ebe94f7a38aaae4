use Rattle.std.proofs.Common.{List, length}
use Rattle.file_grammar.specs.AddressRules.{KeyEntry}
use Rattle.addr_section.specs.Kept.{AreEntriesKept}
use Rattle.addr_section.proofs.ListAsking.{EntriesLeft}
use Rattle.addr_section.proofs.list_rules.check_entries.Given as goal

-- the entries that are left
abbrev pub invariant-loop-entry : goal.invariant-loop-entry
invariant-loop-entry l = record {
  left : (its : List KeyEntry) → AreEntriesKept l.bytes l.entries its → EntriesLeft l.bytes its l.rest l.initial.first l.first;
}

abbrev pub decreases-loop-entry : goal.decreases-loop-entry
decreases-loop-entry l = length l.rest

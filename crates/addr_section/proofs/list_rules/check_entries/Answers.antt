use Rattle.std.proofs.Common.{List, subst}
use Rattle.addr_section.specs.declared.kept.EntryKept.{EntryKept}
use Rattle.addr_section.proofs.ListAsking.{EntriesLeft, entries_all, entries_begin, entries_on}
use Rattle.addr_section.proofs.list_rules.check_entries.Goals as goal

pub loop-entry-init : goal.loop-entry-init
loop-entry-init c = record { left = λ its are. entries_begin c.args.bytes.now its c.args.entries.now c.args.first.now are }

pub loop-entry-preserved : goal.loop-entry-preserved
loop-entry-preserved c = record {
  left = λ its are.
      entries_on c.args.bytes.now its c.in-Some.entry.now c.in-Some.after.now c.args.first.now c.loop-entry.first c.check_entry.new.first
      (subst (λ (xs : List EntryKept). EntriesLeft c.args.bytes.now its xs c.args.first.now c.loop-entry.first) c.in-Some.ensures.cases.0 (c.loop-entry.invariant.left its are)) c.check_entry.ensures;
}

pub returns : goal.returns
returns c its are = entries_all c.args.bytes.now its c.loop-entry.rest.now c.args.first.now c.loop-entry.first c.in_default.ensures.cases (c.loop-entry.invariant.left its are)

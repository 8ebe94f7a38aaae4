use Rattle.std.proofs.Common.{List, subst}
use Rattle.addr_section.specs.declared.kept.EntryKept.{EntryKept}
use Rattle.addr_section.proofs.ListAsking.{UnnamedLeft, unnamed_all, unnamed_begin, unnamed_on}
use Rattle.addr_section.proofs.list_rules.ask_unnamed.Goals as goal

pub loop-entry-init : goal.loop-entry-init
loop-entry-init c = record { left = λ its bytes are. unnamed_begin bytes its c.args.entries.now c.args.first.now are }

pub loop-entry-preserved : goal.loop-entry-preserved
loop-entry-preserved c = record {
  left = λ its bytes are.
      unnamed_on bytes its c.in-Some.entry.now c.in-Some.after.now c.args.first.now c.loop-entry.first c.ask.new.self
      (subst (λ (xs : List EntryKept). UnnamedLeft bytes its xs c.args.first.now c.loop-entry.first) c.in-Some.ensures.cases.0 (c.loop-entry.invariant.left its bytes are)) c.ask.ensures;
}

pub returns : goal.returns
returns c its bytes are = unnamed_all bytes its c.loop-entry.rest.now c.args.first.now c.loop-entry.first c.in_default.ensures.cases (c.loop-entry.invariant.left its bytes are)

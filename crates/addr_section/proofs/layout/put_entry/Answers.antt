use Rattle.std.proofs.Common.{◌≡◌, ℕ, List, Ok, ap, sym, subst}
use Rattle.obf_wire.specs.Fields.{Window}
use Rattle.file_grammar.specs.declared.parts.Part.TheVariants.{KeyEntry as EntryPart}
use Rattle.file_grammar.specs.Readings.{message_at}
use Rattle.addr_section.specs.Kept.{IsEntryKept}
use Rattle.addr_section.proofs.layout.put_entry.Goals as goal

pub returns : goal.returns
returns c = record {
  kept = c.read_entry-entry.result;
  put = c.in_ok-push.ensures.items;
  is = λ fields entry e it.
      subst (λ (bytes : List ℕ). IsEntryKept bytes c.read_entry-entry.result entry) (ap (λ (w : Window). w.bytes) c.part.ensures.range)
      (c.read_entry-entry.ensures fields entry (subst (λ (w : Window). message_at EntryPart w ≡ Ok fields) (sym c.part.ensures.range) e) it);
}

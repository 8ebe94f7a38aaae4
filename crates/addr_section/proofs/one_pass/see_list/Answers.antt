use Rattle.std.proofs.Common.{ℕ, List, Option, refl, sym, subst, ◌∙◌}
use Rattle.std.specs.Prelude.{IfSome}
use Rattle.obf_wire.specs.Fields.{Window, part_of}
use Rattle.obf_wire.specs.Windows.{range_of}
use Rattle.file_grammar.specs.AddressRules.{KeyEntry}
use Rattle.boxed_exact.specs.declared.fields.Payload.{Payload}
use Rattle.boxed_exact.specs.Sides.{beside}
use Rattle.addr_section.specs.declared.kept.EntryKept.{EntryKept}
use Rattle.addr_section.specs.Kept.{AreEntriesKept}
use Rattle.addr_section.specs.Straight.{AreBlocksRead, AreEntriesRead}
use Rattle.addr_section.proofs.OnePass.{list_read}
use Rattle.addr_section.proofs.one_pass.see_list.Goals as goal

pub returns : goal.returns
returns c =
    let bytes : List ℕ = c.args.window.bytes.now in
    let w : Window = range_of c.args.window in
    let side = beside c.args.around.now in
    let from = c.in_ok-from.from in
    let mid = c.check_entries.new.first in
    let new = c.see_blocks.new.first in
    let entries = c.see_entries.new.entries.items in
    let spans = c.see_blocks.new.blocks.items in
    let e = subst (λ (old : List EntryKept). AreEntriesRead c.args.version w old entries from) c.new-entries.ensures.items c.in_ok-from.ensures.read in
    let one = subst (λ (xs : List EntryKept). AreEntriesKept bytes xs e.entries) (sym (c.as_slice.ensures.value ∙ e.put)) e.kept in
    let two = subst (λ (xs : List EntryKept). AreEntriesKept bytes xs e.entries) (sym (c.as_slice-2.ensures.value ∙ e.put)) e.kept in
    let told = subst (λ (o : Option ℕ). IfSome o (λ count. (keys : List KeyEntry) → AreEntriesKept bytes c.as_slice-2.result.now keys → AreBlocksRead c.args.houses side c.args.version (part_of bytes from c.args.window.to) keys mid new c.new-blocks.result.items spans count))
    c.in-Some.is c.in_ok-found.ensures in
    let blocks = subst (λ (old : List Payload). AreBlocksRead c.args.houses side c.args.version (part_of bytes from c.args.window.to) e.entries mid new old spans c.in-Some.count) c.new-blocks.ensures.items (told e.entries two) in
    let asked = c.check_entries.ensures e.entries (subst (λ (bs : List ℕ). AreEntriesKept bs c.as_slice.result.now e.entries) (sym c.all.ensures) one) in
    list_read c.args.houses side c.args.version w entries spans _ from c.in-Some.count c.args.first.now mid new e blocks refl refl asked

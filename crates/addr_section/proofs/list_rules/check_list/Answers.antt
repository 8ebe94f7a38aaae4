use Rattle.std.proofs.Common.{ℕ, List, sym, subst}
use Rattle.std.proofs.lemmas.Result.{IfOk-weaker}
use Rattle.boxed_exact.specs.declared.fields.Payload.{Payload}
use Rattle.boxed_exact.specs.Sides.{beside}
use Rattle.addr_section.specs.declared.kept.EntryKept.{EntryKept}
use Rattle.addr_section.specs.Kept.{AreBlocksKept, AreEntriesKept}
use Rattle.addr_section.proofs.ListAsking.{list_asked}
use Rattle.addr_section.proofs.list_rules.check_list.Goals as goal

pub returns : goal.returns
returns c =
    let bytes : List ℕ = c.args.bytes.now in
    let side = beside c.args.around.now in
    IfOk-weaker c.check_blocks.result _ _
    (λ count told it is.
    let entries = subst (λ (es : List EntryKept). AreEntriesKept bytes es it.entries) (sym c.as_slice-entries.ensures.value) is.entries in
    let blocks = subst (λ (bs : List Payload). AreBlocksKept c.args.version bytes bs it.blocks) (sym c.as_slice.ensures.value) is.blocks in
    let asked = told it.entries it.blocks entries blocks in
    (list_asked c.args.houses side it c.args.first.now c.check_entries.new.first c.check_blocks.new.first count (c.check_entries.ensures it.entries entries) asked, asked.count_is))
    c.check_blocks.ensures

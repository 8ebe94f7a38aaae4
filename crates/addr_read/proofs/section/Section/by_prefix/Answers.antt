use Rattle.std.proofs.Common.{◌≡◌, ◌∙◌, List, [], false, length, map, sym, ap, subst}
use Rattle.std.specs.Prelude.{filter}
use Rattle.std.proofs.lemmas.List.{length-map}
use Rattle.live_model.specs.declared.addresses.AddrRec.{AddrRec}
use Rattle.obf_wire.specs.Windows.{range_of}
use Rattle.obf_wire.specs.Fields.{part_of}
use Rattle.boxed_exact.specs.declared.fields.Payload.{Payload}
use Rattle.boxed_read.specs.Steps.{Coming, still_left}
use Rattle.addr_section.specs.declared.kept.ListKept.{ListKept}
use Rattle.addr_read.specs.Finding.{is_wanted}
use Rattle.addr_read.specs.Records.{records_of}
use Rattle.addr_read.specs.Searching.{AreRising, between}
use Rattle.addr_read.specs.Sound.{HoldBlocks, HoldsBlock}
use Rattle.addr_read.proofs.SectionFound.{all_found, all_part, names_searched, prefix_due}
use Rattle.addr_read.proofs.SectionRead.{names_hold}
use Rattle.addr_read.proofs.section.Section.by_prefix.Goals as goal

pub due_spans-spans-requires-clause-rising : goal.due_spans-spans-requires-clause-rising
due_spans-spans-requires-clause-rising c =
    let s = c.self.inside in
    subst (λ (list : ListKept). AreRising s.window.bytes.now list.entries.items) (sym c.names.ensures) (names_searched s.version (range_of s.window) s.kept.now c.self.invariant).rising

pub due_spans-spans-requires-clause-same : goal.due_spans-spans-requires-clause-same
due_spans-spans-requires-clause-same c =
    let s = c.self.inside in
    subst (λ (list : ListKept). length list.entries.items ≡ length list.blocks.items) (sym c.names.ensures) ((names_searched s.version (range_of s.window) s.kept.now c.self.invariant).same ∙ length-map s.kept.now.names.blocks.items _)

pub new-requires : goal.new-requires
new-requires c =
    let s = c.self.inside in
    subst (HoldBlocks s.version s.window.bytes.now) (sym (c.due_spans-spans.ensures ∙ ap (λ (list : ListKept). between s.window.bytes.now false c.args.key.now list.entries.items list.blocks.items) c.names.ensures))
    (all_part (λ (span : Payload). HoldsBlock s.version (part_of s.window.bytes.now span.from span.to)) _ _ s.kept.now.names.blocks.items (names_hold s.version (range_of s.window) s.kept.now c.self.invariant))

pub returns-clause-due : goal.returns-clause-due
returns-clause-due c =
    let s = c.self.inside in
    rw (← c.self.view_is)
    (c.new.ensures
    ∙ ap (λ (spans : List Payload). record { here = []; blocks = map (filter (is_wanted false c.args.key.now)) (records_of s.version s.window.bytes.now spans) })
    (c.due_spans-spans.ensures ∙ ap (λ (list : ListKept). between s.window.bytes.now false c.args.key.now list.entries.items list.blocks.items) c.names.ensures)
    ∙ ap (λ (blocks : List (List AddrRec)). record { here = []; blocks = map (filter (is_wanted false c.args.key.now)) blocks }) (prefix_due s.version (range_of s.window) s.kept.now c.self.invariant c.args.key.now))

pub returns-clause-found : goal.returns-clause-found
returns-clause-found c =
    let s = c.self.inside in
    rw (← c.self.view_is)
    (ap (λ (x : Coming AddrRec). still_left x) (c.new.ensures
    ∙ ap (λ (spans : List Payload). record { here = []; blocks = map (filter (is_wanted false c.args.key.now)) (records_of s.version s.window.bytes.now spans) })
    (c.due_spans-spans.ensures ∙ ap (λ (list : ListKept). between s.window.bytes.now false c.args.key.now list.entries.items list.blocks.items) c.names.ensures)
    ∙ ap (λ (blocks : List (List AddrRec)). record { here = []; blocks = map (filter (is_wanted false c.args.key.now)) blocks }) (prefix_due s.version (range_of s.window) s.kept.now c.self.invariant c.args.key.now))
    ∙ all_found s.version (range_of s.window) s.kept.now c.self.invariant c.args.key.now false)

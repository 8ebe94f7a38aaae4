use Rattle.std.proofs.Common.{ℕ, ap, subst, ◌∙◌, arith}
use Rattle.obf_wire.specs.Fields.{Window, part_of}
use Rattle.obf_wire.specs.KnownKeys.{StandsFirst}
use Rattle.obf_wire.specs.Windows.{range_of}
use Rattle.boxed_exact.specs.declared.fields.Number.{Number}
use Rattle.boxed_exact.specs.declared.fields.Payload.{Payload}
use Rattle.addr_section.specs.declared.kept.EntryKept.{EntryKept}
use Rattle.addr_section.proofs.StraightLines.{entry_is}
use Rattle.addr_section.proofs.straight.see_entry.Goals as goal

abbrev made : ℕ → Payload → Payload → Number → EntryKept
made at first last place = record { at = at; first = first; last = last; place = place }

pub returns : goal.returns
returns c =
    let w : Window = range_of c.args.window in
    let at = c.args.at in
    let a = c.in-Some.first in
    let b = c.in-Some-expected.last in
    let d = c.in-Some-expected-2.place in
    let first = subst (λ (from : ℕ). StandsFirst (part_of c.args.window.bytes.now from c.args.window.to) 10 a) c.from.ensures c.in-Some.ensures in
    let pa : Payload = record { at = a.at; from = a.from; to = a.to } in
    let pb : Payload = record { at = b.at; from = b.from; to = b.to } in
    entry_is w a b d at (made at c.span_of.result c.span_of-2.result c.number_of.result) (record { ordered = c.args.window.ordered; within = c.args.window.within }) first c.in-Some-expected.ensures c.in-Some-expected-2.ensures (omega arith)
    (ap (λ (p : Payload). made at p c.span_of-2.result c.number_of.result) c.span_of.ensures ∙ ap (λ (p : Payload). made at pa p c.number_of.result) c.span_of-2.ensures ∙ ap (made at pa pb) c.number_of.ensures)

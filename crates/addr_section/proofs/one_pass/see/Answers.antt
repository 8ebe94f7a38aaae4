use Rattle.std.proofs.Common.{ℕ, Option, false, true, ap, subst, ◌∙◌, arith}
use Rattle.std.specs.Prelude.{IfSome}
use Rattle.obf_wire.specs.declared.file.FileBreak.{FileBreak}
use Rattle.obf_wire.specs.Fields.{Window, part_of}
use Rattle.obf_wire.specs.KnownKeys.{StandsFirst}
use Rattle.obf_wire.specs.Windows.{range_of}
use Rattle.file_grammar.specs.AddressRules.{keyed_facts, keyed_list}
use Rattle.file_grammar.specs.Facts.{earlier, first_failing}
use Rattle.file_grammar.specs.Messages.{Fields, ends, has_message}
use Rattle.boxed_exact.specs.Sides.{beside}
use Rattle.addr_section.specs.declared.one_pass.ListSeen.{ListSeen}
use Rattle.addr_section.specs.Straight.{IsListRead}
use Rattle.addr_section.proofs.OnePass.{lists_read}
use Rattle.addr_section.proofs.Whole.{all_kept, rules_asked}
use Rattle.addr_section.proofs.one_pass.see.Goals as goal

pub returns-in-None : goal.returns-in-None
returns-in-None c =
    let version = c.args.version in
    let side = beside c.args.around.now in
    let w : Window = range_of c.args.window in
    let n = c.in-Some.names in
    let h = c.in-Some-expected_wide.houses in
    let start = c.none-first.result in
    let mid = c.see_list.new.first in
    let new = c.see_list-2.new.first in
    let first = subst (λ (at : ℕ). StandsFirst (part_of c.args.window.bytes.now at c.args.window.to) 14 n) c.from.ensures c.in-Some.ensures in
    let named = subst (λ (v : Window). IsListRead false side version v start mid c.in-Some-found.named.list c.in-Some-found.named.count) c.part-part.ensures.range
    (subst (λ (o : Option ListSeen). IfSome o (λ s. IsListRead false side version (range_of c.part-part.result) start mid s.list s.count)) c.in-Some-found.is c.in_ok-found.ensures) in
    let housed = subst (λ (v : Window). IsListRead true side version v mid new c.in-Some-found-2.housed.list c.in-Some-found-2.housed.count) c.part-part-2.ensures.range
    (subst (λ (o : Option ListSeen). IfSome o (λ s. IsListRead true side version (range_of c.part-part-2.result) mid new s.list s.count)) c.in-Some-found-2.is c.in_ok-found-2.ensures) in
    let fields : Fields = has_message n.at 14 named.fields (has_message h.at 22 housed.fields ends) in
    let read = lists_read version w n h named.fields housed.fields (record { ordered = c.args.window.ordered; within = c.args.window.within }) first c.in-Some-expected_wide.ensures (omega arith) named.read housed.read in
    let broken = rules_asked version side w fields read mid new (named.asked ∙ ap (λ (s : Option FileBreak). earlier s (first_failing (keyed_facts false side (keyed_list named.fields)))) c.none-first.ensures) housed.asked in
    all_kept version side w fields read _ c.in-Some-found.named.count c.in-Some-found-2.housed.count (c.in-None.ensures ∙ broken) (record { names_are = named.kept_is; houses_are = housed.kept_is }) named.counted housed.counted c.in-Some-checked_add.ensures.1

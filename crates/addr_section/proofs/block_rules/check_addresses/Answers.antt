use Rattle.std.proofs.Common.{◌≡◌, ◌+◌, ℕ, List, Option, Ok, ap, sym, subst, ◌∙◌, arith}
use Rattle.obf_wire.specs.Fields.{Window, IsWindow, part_of}
use Rattle.obf_wire.specs.Windows.{range_of}
use Rattle.file_grammar.specs.declared.parts.Part.TheVariants.{Address as AddressPart}
use Rattle.file_grammar.specs.AddressRules.{Address}
use Rattle.file_grammar.specs.Messages.{Fields}
use Rattle.file_grammar.specs.Readings.{message_at}
use Rattle.file_grammar.specs.Walks.{Standing}
use Rattle.boxed_exact.specs.Sides.{beside}
use Rattle.addr_section.specs.declared.addresses.SortKey.{SortKey}
use Rattle.addr_section.specs.declared.block_rules.BlockSeen.{BlockSeen}
use Rattle.addr_section.specs.Asked.{IsAddressAsked}
use Rattle.addr_section.specs.Seen.{IsSortKeyOf}
use Rattle.addr_section.proofs.AddressAsking.{AddressesLeft, addresses_all, addresses_begin, addresses_on}
use Rattle.addr_section.proofs.block_rules.check_addresses.Goals as goal

pub loop-field-init : goal.loop-field-init
loop-field-init c = record {
  left = λ fields prev e is. addresses_begin c.args.houses (beside c.args.around.now) c.args.version prev fields c.args.first.now (range_of c.args.window) c.new-walk.result c.new-walk.ensures e;
  part = ap (λ (s : Standing). s.part) c.new-walk.ensures;
  window = subst (λ (s : Standing). IsWindow s.window) (sym c.new-walk.ensures) (record { ordered = c.args.window.ordered; within = c.args.window.within });
  same = ap (λ (s : Standing). s.window.bytes) c.new-walk.ensures;
  few = omega arith;
}

pub loop-field-preserved : goal.loop-field-preserved
loop-field-preserved c =
    let side = beside c.args.around.now in
    let f = c.in-Some.field in
    let now = c.loop-field.first in
    let new = c.ask_address.new.first in
    let key = c.in_ok-key.key in
    let last = c.loop-field.seen.last in
    let inv = c.loop-field.invariant in
    let count : c.with_address-seen.result.count ≡ c.loop-field.seen.count + 1 = ap (λ (s : BlockSeen). s.count) c.with_address-seen.ensures in
    let here : range_of c.part-part.result ≡ part_of c.loop-field.walk.window.bytes f.from f.to = c.part-part.ensures.range ∙ ap (λ (bytes : List ℕ). part_of bytes f.from f.to) (sym inv.same) in
    let told = subst (λ (w : Window). (fields : Fields) (p : Option Address) → message_at (AddressPart c.args.version) w ≡ Ok fields → IsSortKeyOf c.or-last.result p → IsAddressAsked c.args.houses side p f.at fields now new key) here c.in_ok-key.ensures in
    let one = subst (λ (before : Option SortKey). (fields : Fields) (p : Option Address) → message_at (AddressPart c.args.version) (part_of c.loop-field.walk.window.bytes f.from f.to) ≡ Ok fields → IsSortKeyOf before p → IsAddressAsked c.args.houses side p f.at fields now new key)
    c.or-last.ensures told in
    record {
      left = λ fields prev e is.
          subst (λ (seen : BlockSeen). AddressesLeft c.args.houses side c.args.version prev fields c.args.first.now new seen c.next.new.self) (sym c.with_address-seen.ensures)
          (addresses_on c.args.houses side c.args.version prev fields c.args.first.now now new c.loop-field.seen c.args.before key c.loop-field.walk c.next.new.self f (inv.left fields prev e is) is inv.part c.in-Some.ensures.fields one);
      part = c.in-Some.ensures.part ∙ inv.part;
      window = c.in-Some.ensures.window;
      same = c.in-Some.ensures.same.0 ∙ inv.same;
      few = omega (arith, count, inv.few, c.in-Some.ensures.inside.0.place, c.in-Some.ensures.inside.0.starts, c.in-Some.ensures.inside.0.ordered, c.in-Some.ensures.inside.1);
    }

pub returns : goal.returns
returns c fields prev e is =
    addresses_all c.args.houses (beside c.args.around.now) c.args.version prev fields c.args.first.now c.loop-field.first c.loop-field.seen c.loop-field.walk (c.loop-field.invariant.left fields prev e is) c.in_default.ensures.fields

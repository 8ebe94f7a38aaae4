use Rattle.std.proofs.Common.{◌≡◌, ℕ, List, Ok, Result, refl, sym, ap, subst, ◌∙◌}
use Rattle.obf_wire.specs.declared.file.FileBreak.{FileBreak}
use Rattle.obf_wire.specs.Fields.{Window, part_of}
use Rattle.obf_wire.specs.Windows.{range_of}
use Rattle.file_grammar.specs.declared.parts.Part.TheVariants.{Addresses as AddressesPart, Keyed as ListPart}
use Rattle.file_grammar.specs.AddressRules.{Addresses, addresses_of, keyed_list}
use Rattle.file_grammar.specs.Messages.{Fields, has_message}
use Rattle.file_grammar.specs.Readings.{message_at}
use Rattle.file_grammar.specs.Walks.{Standing, left_in}
use Rattle.file_grammar.proofs.Shaped.{shaped}
use Rattle.addr_section.specs.Kept.{AreListsKept, IsListKept}
use Rattle.addr_section.proofs.Whole.{IsWhole, held_list, whole}
use Rattle.addr_section.proofs.exact.lists_in.Goals as goal

abbrev stands : Fields → Result Fields FileBreak
stands fields = Ok fields

pub returns : goal.returns
returns c fields read =
    let version = c.args.version in
    let bytes : List ℕ = c.args.window.bytes.now in
    let m : IsWhole fields = whole version fields (shaped (AddressesPart version) (range_of c.args.window) fields read) in
    let begins : left_in c.new-walk.result ≡ stands fields = subst (λ (w : Standing). left_in w ≡ stands fields) (sym c.new-walk.ensures) read in
    let part = ap (λ (s : Standing). s.part) c.new-walk.ensures in
    let same : c.new-walk.result.window.bytes ≡ bytes = ap (λ (s : Standing). s.window.bytes) c.new-walk.ensures in
    let one = c.next_payload-names.ensures.message m.a 14 m.names (has_message m.b 22 m.houses m.rest) (begins ∙ ap stands m.is) in
    let two = c.next_payload-houses.ensures.message m.b 22 m.houses m.rest one.2 in
    let n = c.next_payload-names.result in
    let h = c.next_payload-houses.result in
    let named = subst (λ (bs : List ℕ). message_at (ListPart version) (part_of bs n.from n.to) ≡ Ok m.names) same (held_list version 14 c.new-walk.result n.from n.to m.names refl part one.1) in
    let housed = subst (λ (bs : List ℕ). message_at (ListPart version) (part_of bs h.from h.to) ≡ Ok m.houses) (c.next_payload-names.ensures.same ∙ same)
    (held_list version 22 c.next_payload-names.new.walk h.from h.to m.houses refl (c.next_payload-names.ensures.part ∙ part) two.1) in
    let names = c.in_ok-list_in.ensures m.names (subst (λ (w : Window). message_at (ListPart version) w ≡ Ok m.names) (sym c.part.ensures.range) named) in
    let houses = c.in_ok-list_in-2.ensures m.houses (subst (λ (w : Window). message_at (ListPart version) w ≡ Ok m.houses) (sym c.part-2.ensures.range) housed) in
    subst (λ (a : Addresses). AreListsKept version bytes c.in_ok-list_in.field-0 c.in_ok-list_in-2.field-0 a) (sym (ap addresses_of m.is))
    (record {
      names_are = subst (λ (bs : List ℕ). IsListKept version bs c.in_ok-list_in.field-0 (keyed_list m.names)) (ap (λ (w : Window). w.bytes) c.part.ensures.range) names;
      houses_are = subst (λ (bs : List ℕ). IsListKept version bs c.in_ok-list_in-2.field-0 (keyed_list m.houses)) (ap (λ (w : Window). w.bytes) c.part-2.ensures.range) houses;
    })

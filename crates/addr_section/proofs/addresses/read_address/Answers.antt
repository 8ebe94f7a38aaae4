use Rattle.std.proofs.Common.{◌≡◌, ℕ, List, Ok, Result, refl, sym, ap, subst, ◌∙◌}
use Rattle.obf_wire.specs.declared.file.FileBreak.{FileBreak}
use Rattle.obf_wire.specs.Fields.{Window, part_of}
use Rattle.obf_wire.specs.Windows.{range_of}
use Rattle.file_grammar.specs.declared.parts.Part.TheVariants.{Address as AddressPart}
use Rattle.file_grammar.specs.Messages.{Fields, has_bytes, has_number, has_numbers}
use Rattle.file_grammar.specs.Readings.{numbers_at}
use Rattle.file_grammar.specs.Walks.{Standing, left_in}
use Rattle.file_grammar.proofs.Shaped.{shaped}
use Rattle.addr_section.proofs.AddressShape.{IsAddressMessage, address_message, address_read, lang_left}
use Rattle.addr_section.proofs.addresses.read_address.Goals as goal

abbrev stands : Fields → Result Fields FileBreak
stands fields = Ok fields

pub returns : goal.returns
returns c fields read =
    let bytes : List ℕ = c.args.window.bytes.now in
    let m : IsAddressMessage fields = address_message c.args.version fields (shaped (AddressPart c.args.version) (range_of c.args.window) fields read) in
    let begins : left_in c.new-walk.result ≡ stands fields = subst (λ (w : Standing). left_in w ≡ stands fields) (sym c.new-walk.ensures) read in
    let r6 = has_numbers m.f 50 m.points m.rest in
    let r5 = has_bytes m.e 42 m.number r6 in
    let r4 = has_bytes m.d 34 m.name r5 in
    let r3 = has_bytes m.c 26 m.key r4 in
    let r2 = has_number m.b 16 m.kind r3 in
    let one = c.next_number-ordinal.ensures.number m.a 8 m.ordinal r2 (begins ∙ ap stands m.is) in
    let two = c.next_number-kind.ensures.number m.b 16 m.kind r3 one.2 in
    let three = c.next_text-key.ensures.text m.c 26 m.key r4 two.2 in
    let four = c.next_text-name.ensures.text m.d 34 m.name r5 three.2 in
    let five = c.next_text-number.ensures.text m.e 42 m.number r6 four.2 in
    let six = c.next_payload-points.ensures.numbers m.f 50 m.points m.rest five.2 in
    let same : c.next_text-number.new.walk.window.bytes ≡ bytes =
    c.next_text-number.ensures.same ∙ c.next_text-name.ensures.same ∙ c.next_text-key.ensures.same ∙ c.next_number-kind.ensures.same ∙ c.next_number-ordinal.ensures.same ∙ ap (λ (w : Standing). w.window.bytes) c.new-walk.ensures in
    let from = c.next_payload-points.result.from in
    let to = c.next_payload-points.result.to in
    let numbers = subst (λ (w : Window). numbers_at w ≡ Ok m.points) (sym c.part.ensures.range) (subst (λ (bs : List ℕ). numbers_at (part_of bs from to) ≡ Ok m.points) same six.1) in
    let lang = lang_left m.rest _ m.lang (λ e. c.last_text-lang.ensures.none (six.2 ∙ ap stands e)) (λ at key text more e. c.last_text-lang.ensures.text at key text more (six.2 ∙ ap stands e)) in
    address_read c.args.at fields m _ refl (one.0, one.1) (two.0, two.1) (three.0, three.1) (four.0, four.1) (five.0, five.1) six.0 lang (c.see_points.ensures.count m.points numbers) (c.see_points.ensures.on_grid m.points numbers)

use Rattle.std.proofs.Common.{◌≡◌, ℕ, List, Ok, Result, sym, ap, subst, ◌∙◌}
use Rattle.std.specs.Prelude.{slice_range}
use Rattle.obf_wire.specs.declared.file.FileBreak.{FileBreak}
use Rattle.obf_wire.specs.Fields.{part_of}
use Rattle.obf_wire.specs.Windows.{range_of}
use Rattle.file_grammar.specs.declared.parts.Part.TheVariants.{Address as AddressPart}
use Rattle.file_grammar.specs.Messages.{Fields, ends, has_bytes, has_number, has_numbers}
use Rattle.file_grammar.specs.Readings.{numbers_at}
use Rattle.file_grammar.specs.Walks.{Standing, left_in}
use Rattle.file_grammar.proofs.Shaped.{shaped}
use Rattle.addr_section.proofs.AddressShape.{IsAddressMessage, address_message}
use Rattle.addr_read.specs.Sound.{IsTextLeft}
use Rattle.addr_read.proofs.AddressRead.{fields_hold, text_left}
use Rattle.addr_read.proofs.fields.read_fields.Goals as goal

abbrev stands : Fields → Result Fields FileBreak
stands fields = Ok fields

pub returns-clause-read : goal.returns-clause-read
returns-clause-read c fields at a read is =
    let bytes : List ℕ = c.args.window.bytes.now in
    let m : IsAddressMessage fields = address_message c.args.version fields (shaped (AddressPart c.args.version) (range_of c.args.window) fields read) in
    let begins : left_in c.new-walk.result ≡ stands fields = subst (λ (w : Standing). left_in w ≡ stands fields) (sym c.new-walk.ensures) read in
    let r6 = has_numbers m.f 50 m.points m.rest in
    let r5 = has_bytes m.e 42 m.number r6 in
    let r4 = has_bytes m.d 34 m.name r5 in
    let r3 = has_bytes m.c 26 m.key r4 in
    let r2 = has_number m.b 16 m.kind r3 in
    let one = c.next_number-ordinal.ensures.number m.a 8 m.ordinal r2 (begins ∙ ap stands m.is) in
    let two = c.next_number-kind.ensures.number m.b 16 m.kind r3 one.2 in
    let three = c.next_payload-key.ensures.text m.c 26 m.key r4 two.2 in
    let four = c.next_payload-name.ensures.text m.d 34 m.name r5 three.2 in
    let five = c.next_payload-number.ensures.text m.e 42 m.number r6 four.2 in
    let six = c.next_payload-points.ensures.numbers m.f 50 m.points m.rest five.2 in
    let s1 : c.next_number-kind.new.walk.window.bytes ≡ bytes = c.next_number-kind.ensures.same ∙ c.next_number-ordinal.ensures.same ∙ ap (λ (w : Standing). w.window.bytes) c.new-walk.ensures in
    let s2 : c.next_payload-key.new.walk.window.bytes ≡ bytes =
    c.next_payload-key.ensures.same ∙ s1 in
    let s3 : c.next_payload-name.new.walk.window.bytes ≡ bytes = c.next_payload-name.ensures.same ∙ s2 in
    let s4 : c.next_payload-number.new.walk.window.bytes ≡ bytes = c.next_payload-number.ensures.same ∙ s3 in
    let s5 : c.next_payload-points.new.walk.window.bytes ≡ bytes = c.next_payload-points.ensures.same ∙ s4 in
    let key = c.next_payload-key.result in
    let name = c.next_payload-name.result in
    let number = c.next_payload-number.result in
    let points = c.next_payload-points.result in
    let lang = c.last_text-lang.result in
    fields_hold at fields m a bytes _ is one.1 two.1 (subst (λ (bs : List ℕ). slice_range bs key.from key.to ≡ m.key) s1 three.1)
    (subst (λ (bs : List ℕ). slice_range bs name.from name.to ≡ m.name) s2 four.1)
    (subst (λ (bs : List ℕ). slice_range bs number.from number.to ≡ m.number) s3 five.1) (subst (λ (bs : List ℕ). numbers_at (part_of bs points.from points.to) ≡ Ok m.points) s4 six.1)
    (text_left bytes lang m.rest m.lang (λ e. subst (λ (bs : List ℕ). IsTextLeft bs lang ends) s5 (c.last_text-lang.ensures.none (six.2 ∙ ap stands e)))
    (λ at key text more e. subst (λ (bs : List ℕ). IsTextLeft bs lang (has_bytes at key text more)) s5 (c.last_text-lang.ensures.text at key text more (six.2 ∙ ap stands e))))

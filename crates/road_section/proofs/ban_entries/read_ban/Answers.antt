use Rattle.std.proofs.Common.{◌≡◌, ℕ, List, Ok, Result, sym, ap, subst, ◌∙◌}
use Rattle.obf_wire.specs.Fields.{part_of}
use Rattle.obf_wire.specs.Windows.{range_of}
use Rattle.file_grammar.specs.declared.parts.Boxed.TheVariants.{Restriction}
use Rattle.file_grammar.specs.declared.parts.Part.TheVariants.{Record}
use Rattle.file_grammar.specs.RoadRules.{BanFields, ban_fields}
use Rattle.file_grammar.specs.Messages.{Fields, has_number, has_numbers}
use Rattle.file_grammar.specs.Readings.{numbers_at}
use Rattle.file_grammar.specs.Sections.{Placed, placed, step_of}
use Rattle.file_grammar.specs.Walks.{Standing, left_in}
use Rattle.obf_wire.specs.declared.file.FileBreak.{FileBreak}
use Rattle.file_grammar.proofs.Shaped.{shaped}
use Rattle.road_section.specs.Held.{of_number}
use Rattle.road_section.proofs.PlacedNumbers.{held_is}
use Rattle.road_section.proofs.RecordShape.{IsBanRecord, ban_record}
use Rattle.road_section.proofs.ban_entries.read_ban.Goals as goal

abbrev stands : Fields → Result Fields FileBreak
stands fields = Ok fields

pub returns-clause-read : goal.returns-clause-read
returns-clause-read c fields e =
    let s : IsBanRecord fields = ban_record fields (shaped (Record Restriction) (range_of c.args.window) fields e) in
    let begins : left_in c.new-walk.result ≡ stands fields = subst (λ (w : Standing). left_in w ≡ stands fields) (sym c.new-walk.ensures) e in
    let one = c.next_number-step.ensures.number s.a 8 s.step (has_number s.b 16 s.value (has_number s.c 24 s.from (has_number s.d 32 s.via (has_number s.e 40 s.to (has_numbers s.f 50 s.points s.rest))))) (begins ∙ ap stands s.is) in
    let two = c.next_number-value.ensures.number s.b 16 s.value (has_number s.c 24 s.from (has_number s.d 32 s.via (has_number s.e 40 s.to (has_numbers s.f 50 s.points s.rest)))) one.2 in
    let three = c.next_number-from.ensures.number s.c 24 s.from (has_number s.d 32 s.via (has_number s.e 40 s.to (has_numbers s.f 50 s.points s.rest))) two.2 in
    let four = c.next_number-via.ensures.number s.d 32 s.via (has_number s.e 40 s.to (has_numbers s.f 50 s.points s.rest)) three.2 in
    let five = c.next_number-to.ensures.number s.e 40 s.to (has_numbers s.f 50 s.points s.rest) four.2 in
    let six = c.next_payload-points.ensures.numbers s.f 50 s.points s.rest five.2 in
    let same : c.next_number-to.new.walk.window.bytes ≡ c.args.window.bytes.now =
    c.next_number-to.ensures.same ∙ c.next_number-via.ensures.same ∙ c.next_number-from.ensures.same ∙ c.next_number-value.ensures.same ∙ c.next_number-step.ensures.same
    ∙ ap (λ (w : Standing). w.window.bytes) c.new-walk.ensures in
    let made : Placed ℕ → Placed ℕ → Placed ℕ → Placed ℕ → Placed ℕ → ℕ → BanFields = λ step value from via to at. record { step = step; value = value; from = from; via = via; to = to; points = placed at s.points } in
    let n1 = c.next_number-step.result in
    let n2 = c.next_number-value.result in
    let n3 = c.next_number-from.result in
    let n4 = c.next_number-via.result in
    let n5 = c.next_number-to.result in
    let at = c.next_payload-points.result.at in
    record {
      numbers = s.points;
      points = subst (λ (bytes : List ℕ). numbers_at (part_of bytes c.next_payload-points.result.from c.next_payload-points.result.to) ≡ Ok s.points) same six.1;
      is =
          ap (λ (p : Placed ℕ). made p (of_number n2) (of_number n3) (of_number n4) (of_number n5) at) (held_is n1 s.a s.step one.0 one.1)
          ∙ ap (λ (p : Placed ℕ). made (placed s.a s.step) p (of_number n3) (of_number n4) (of_number n5) at) (held_is n2 s.b s.value two.0 two.1)
          ∙ ap (λ (p : Placed ℕ). made (placed s.a s.step) (placed s.b s.value) p (of_number n4) (of_number n5) at) (held_is n3 s.c s.from three.0 three.1)
          ∙ ap (λ (p : Placed ℕ). made (placed s.a s.step) (placed s.b s.value) (placed s.c s.from) p (of_number n5) at) (held_is n4 s.d s.via four.0 four.1)
          ∙ ap (λ (p : Placed ℕ). made (placed s.a s.step) (placed s.b s.value) (placed s.c s.from) (placed s.d s.via) p at) (held_is n5 s.e s.to five.0 five.1)
          ∙ ap (made (placed s.a s.step) (placed s.b s.value) (placed s.c s.from) (placed s.d s.via) (placed s.e s.to)) six.0
          ∙ ap ban_fields (sym s.is);
    }

pub returns-clause-step : goal.returns-clause-step
returns-clause-step c fields e =
    let s : IsBanRecord fields = ban_record fields (shaped (Record Restriction) (range_of c.args.window) fields e) in
    let begins : left_in c.new-walk.result ≡ stands fields = subst (λ (w : Standing). left_in w ≡ stands fields) (sym c.new-walk.ensures) e in
    let one = c.next_number-step.ensures.number s.a 8 s.step (has_number s.b 16 s.value (has_number s.c 24 s.from (has_number s.d 32 s.via (has_number s.e 40 s.to (has_numbers s.f 50 s.points s.rest))))) (begins ∙ ap stands s.is) in
    one.1 ∙ ap step_of (sym s.is)

use Rattle.std.proofs.Common.{◌≡◌, ℕ, List, Ok, Result, sym, ap, subst, ◌∙◌}
use Rattle.obf_wire.specs.Fields.{part_of}
use Rattle.obf_wire.specs.Windows.{range_of}
use Rattle.file_grammar.specs.declared.parts.Boxed.TheVariants.{Road}
use Rattle.file_grammar.specs.declared.parts.Part.TheVariants.{Record}
use Rattle.file_grammar.specs.RoadRules.{RoadFields, road_fields}
use Rattle.file_grammar.specs.Messages.{Fields, has_number, has_numbers}
use Rattle.file_grammar.specs.Readings.{numbers_at}
use Rattle.file_grammar.specs.Sections.{Placed, placed, step_of}
use Rattle.file_grammar.specs.Walks.{Standing, left_in}
use Rattle.obf_wire.specs.declared.file.FileBreak.{FileBreak}
use Rattle.file_grammar.proofs.Shaped.{shaped}
use Rattle.road_section.specs.Held.{of_number}
use Rattle.road_section.proofs.PlacedNumbers.{held_is}
use Rattle.road_section.proofs.RecordShape.{IsRoadRecord, road_record}
use Rattle.road_section.proofs.road_entries.read_road.Goals as goal

abbrev stands : Fields → Result Fields FileBreak
stands fields = Ok fields

pub returns-clause-read : goal.returns-clause-read
returns-clause-read c fields e =
    let s : IsRoadRecord fields = road_record fields (shaped (Record Road) (range_of c.args.window) fields e) in
    let begins : left_in c.new-walk.result ≡ stands fields = subst (λ (w : Standing). left_in w ≡ stands fields) (sym c.new-walk.ensures) e in
    let one = c.next_number-step.ensures.number s.a 8 s.step (has_number s.b 16 s.rule (has_number s.c 24 s.value (has_number s.d 32 s.direction (has_numbers s.e 42 s.nodes s.rest)))) (begins ∙ ap stands s.is) in
    let two = c.next_number-rule.ensures.number s.b 16 s.rule (has_number s.c 24 s.value (has_number s.d 32 s.direction (has_numbers s.e 42 s.nodes s.rest))) one.2 in
    let three = c.next_number-value.ensures.number s.c 24 s.value (has_number s.d 32 s.direction (has_numbers s.e 42 s.nodes s.rest)) two.2 in
    let four = c.next_number-direction.ensures.number s.d 32 s.direction (has_numbers s.e 42 s.nodes s.rest) three.2 in
    let five = c.next_payload-nodes.ensures.numbers s.e 42 s.nodes s.rest four.2 in
    let same : c.next_number-direction.new.walk.window.bytes ≡ c.args.window.bytes.now =
    c.next_number-direction.ensures.same ∙ c.next_number-value.ensures.same ∙ c.next_number-rule.ensures.same ∙ c.next_number-step.ensures.same
    ∙ ap (λ (w : Standing). w.window.bytes) c.new-walk.ensures in
    let made : Placed ℕ → Placed ℕ → Placed ℕ → Placed ℕ → ℕ → RoadFields = λ step rule value direction at. record { step = step; rule = rule; value = value; direction = direction; triples = placed at s.nodes } in
    let n1 = c.next_number-step.result in
    let n2 = c.next_number-rule.result in
    let n3 = c.next_number-value.result in
    let n4 = c.next_number-direction.result in
    record {
      numbers = s.nodes;
      nodes = subst (λ (bytes : List ℕ). numbers_at (part_of bytes c.next_payload-nodes.result.from c.next_payload-nodes.result.to) ≡ Ok s.nodes) same five.1;
      is =
          ap (λ (p : Placed ℕ). made p (of_number n2) (of_number n3) (of_number n4) c.next_payload-nodes.result.at) (held_is n1 s.a s.step one.0 one.1)
          ∙ ap (λ (p : Placed ℕ). made (placed s.a s.step) p (of_number n3) (of_number n4) c.next_payload-nodes.result.at) (held_is n2 s.b s.rule two.0 two.1)
          ∙ ap (λ (p : Placed ℕ). made (placed s.a s.step) (placed s.b s.rule) p (of_number n4) c.next_payload-nodes.result.at) (held_is n3 s.c s.value three.0 three.1)
          ∙ ap (λ (p : Placed ℕ). made (placed s.a s.step) (placed s.b s.rule) (placed s.c s.value) p c.next_payload-nodes.result.at) (held_is n4 s.d s.direction four.0 four.1)
          ∙ ap (made (placed s.a s.step) (placed s.b s.rule) (placed s.c s.value) (placed s.d s.direction)) five.0
          ∙ ap road_fields (sym s.is);
    }

pub returns-clause-step : goal.returns-clause-step
returns-clause-step c fields e =
    let s : IsRoadRecord fields = road_record fields (shaped (Record Road) (range_of c.args.window) fields e) in
    let begins : left_in c.new-walk.result ≡ stands fields = subst (λ (w : Standing). left_in w ≡ stands fields) (sym c.new-walk.ensures) e in
    let one = c.next_number-step.ensures.number s.a 8 s.step (has_number s.b 16 s.rule (has_number s.c 24 s.value (has_number s.d 32 s.direction (has_numbers s.e 42 s.nodes s.rest)))) (begins ∙ ap stands s.is) in
    one.1 ∙ ap step_of (sym s.is)

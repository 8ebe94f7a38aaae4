use Rattle.std.proofs.Common.{◌≡◌, ℕ, List, Ok, Result, sym, ap, subst, ◌∙◌}
use Rattle.obf_wire.specs.Windows.{range_of}
use Rattle.file_grammar.specs.declared.parts.Boxed.TheVariants.{Poi}
use Rattle.file_grammar.specs.declared.parts.Part.TheVariants.{Record}
use Rattle.file_grammar.specs.PoiRules.{poi_fields}
use Rattle.file_grammar.specs.Messages.{Fields, has_number, has_numbers}
use Rattle.file_grammar.specs.Readings.{numbers_at}
use Rattle.file_grammar.specs.Sections.{step_of}
use Rattle.file_grammar.specs.Walks.{Standing, left_in}
use Rattle.obf_wire.specs.declared.file.FileBreak.{FileBreak}
use Rattle.file_grammar.proofs.Shaped.{shaped}
use Rattle.poi_section.specs.declared.entries.EntryFields.{EntryFields}
use Rattle.poi_section.specs.Fields.{IsRead}
use Rattle.poi_section.proofs.RecordShape.{IsPoiRecord, poi_record}
use Rattle.poi_section.proofs.entries.read_entry.Goals as goal

abbrev stands : Fields → Result Fields FileBreak
stands fields = Ok fields

pub returns-clause-read : goal.returns-clause-read
returns-clause-read c fields e =
    let s : IsPoiRecord fields = poi_record fields (shaped (Record Poi) (range_of c.args.window) fields e) in
    let begins : left_in c.new-walk.result ≡ stands fields = subst (λ (w : Standing). left_in w ≡ stands fields) (sym c.new-walk.ensures) e in
    let one = c.next_number-step.ensures.number s.a 8 s.step (has_number s.b 16 s.name (has_numbers s.c 26 s.points s.rest)) (begins ∙ ap stands s.is) in
    let two = c.next_number-name.ensures.number s.b 16 s.name (has_numbers s.c 26 s.points s.rest) one.2 in
    let three = c.next_payload-points.ensures.numbers s.c 26 s.points s.rest two.2 in
    let same : c.next_number-name.new.walk.window.bytes ≡ c.args.window.bytes.now = c.next_number-name.ensures.same ∙ c.next_number-step.ensures.same ∙ ap (λ (w : Standing). w.window.bytes) c.new-walk.ensures in
    let read : EntryFields = record { step = c.next_number-step.result; name = c.next_number-name.result; points = c.next_payload-points.result } in
    subst (λ (fields : Fields). IsRead c.args.window.bytes.now read (poi_fields fields)) (sym s.is)
    (record {
      step = (one.0, one.1);
      name = (two.0, two.1);
      points_at = three.0;
      points = subst (λ (bytes : List ℕ). numbers_at (record { bytes = bytes; place = c.next_payload-points.result.from; end = c.next_payload-points.result.to }) ≡ Ok s.points) same three.1;
    })

pub returns-clause-step : goal.returns-clause-step
returns-clause-step c fields e =
    let s : IsPoiRecord fields = poi_record fields (shaped (Record Poi) (range_of c.args.window) fields e) in
    let begins : left_in c.new-walk.result ≡ stands fields = subst (λ (w : Standing). left_in w ≡ stands fields) (sym c.new-walk.ensures) e in
    let one = c.next_number-step.ensures.number s.a 8 s.step (has_number s.b 16 s.name (has_numbers s.c 26 s.points s.rest)) (begins ∙ ap stands s.is) in
    one.1 ∙ ap step_of (sym s.is)

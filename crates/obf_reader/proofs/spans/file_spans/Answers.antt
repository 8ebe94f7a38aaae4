use Rattle.std.proofs.Common.{◌≡◌, ℕ, List, None, Ok, Result, refl, sym, ap, subst, ◌∙◌}
use Rattle.std.specs.Prelude.{slice_range}
use Rattle.obf_wire.specs.Fields.{Window}
use Rattle.obf_wire.specs.Windows.{range_of}
use Rattle.file_grammar.specs.declared.parts.Boxed.TheVariants.{Map}
use Rattle.file_grammar.specs.declared.parts.Version.{Version}
use Rattle.file_grammar.specs.declared.parts.Part.TheVariants.{Addresses, Boxes, File, Head, Marks, Pois, Routing}
use Rattle.file_grammar.specs.Files.{file_in, head_in, marks_in, version_of, whole}
use Rattle.file_grammar.specs.Messages.{Fields, has_bytes, has_message, has_number}
use Rattle.file_grammar.specs.Sections.{placed}
use Rattle.file_grammar.specs.Walks.{Standing, left_in}
use Rattle.obf_wire.specs.declared.file.FileBreak.{FileBreak}
use Rattle.file_grammar.proofs.Shaped.{shaped}
use Rattle.obf_reader.proofs.FileShape.{IsFileShape, file_shape}
use Rattle.obf_reader.proofs.Spread.{held_in}
use Rattle.obf_reader.proofs.spans.file_spans.Goals as goal

abbrev at_start : Version → Window → Standing
at_start version w = record { part = File version; last = None; window = w }

abbrev stands : Fields → Result Fields FileBreak
stands fields = Ok fields

pub returns-clause-spread : goal.returns-clause-spread
returns-clause-spread c fields e =
    let all = c.args.bytes.now in
    let v : Version = version_of all in
    let is-start = c.new-walk.ensures ∙ ap (λ (version : Version). at_start version (range_of c.whole.result)) c.of.ensures ∙ ap (at_start v) c.whole.ensures.range in
    let s : IsFileShape fields = file_shape v fields (shaped (File v) (whole all) fields e) in
    let nine : Fields = has_number s.i 256 s.again s.rest in
    let eight : Fields = has_message s.h 134 s.marks nine in
    let seven : Fields = has_message s.g 78 s.roads eight in
    let six : Fields = has_message s.f 70 s.pois seven in
    let five : Fields = has_message s.e 62 s.addresses six in
    let four : Fields = has_message s.d 54 s.map five in
    let three : Fields = has_bytes s.c 26 s.rules four in
    let begins : left_in c.new-walk.result ≡ stands fields = subst (λ (w : Standing). left_in w ≡ stands fields) (sym is-start) e in
    let version = c.next_number-version.ensures.number s.a 8 s.version (has_message s.b 18 s.head three) (begins ∙ ap stands s.is) in
    let head = c.next_payload-head.ensures.message s.b 18 s.head three version.2 in
    let rules = c.next_payload-rules.ensures.text s.c 26 s.rules four head.2 in
    let map = c.next_payload-map.ensures.message s.d 54 s.map five rules.2 in
    let addresses = c.next_payload-addresses.ensures.message s.e 62 s.addresses six map.2 in
    let pois = c.next_payload-pois.ensures.message s.f 70 s.pois seven addresses.2 in
    let roads = c.next_payload-roads.ensures.message s.g 78 s.roads eight pois.2 in
    let marks = c.next_payload-marks.ensures.message s.h 134 s.marks nine roads.2 in
    let again = c.next_number-again.ensures.number s.i 256 s.again s.rest marks.2 in
    let is-version = c.next_number-version.ensures.part ∙ ap (λ (w : Standing). w.part) is-start in
    let is-head = c.next_payload-head.ensures.part ∙ is-version in
    let is-rules = c.next_payload-rules.ensures.part ∙ is-head in
    let is-map = c.next_payload-map.ensures.part ∙ is-rules in
    let is-addresses = c.next_payload-addresses.ensures.part ∙ is-map in
    let is-pois = c.next_payload-pois.ensures.part ∙ is-addresses in
    let is-roads = c.next_payload-roads.ensures.part ∙ is-pois in
    let in-version = c.next_number-version.ensures.same ∙ ap (λ (w : Standing). w.window.bytes) is-start in
    let in-head = c.next_payload-head.ensures.same ∙ in-version in
    let in-rules = c.next_payload-rules.ensures.same ∙ in-head in
    let in-map = c.next_payload-map.ensures.same ∙ in-rules in
    let in-addresses = c.next_payload-addresses.ensures.same ∙ in-map in
    let in-pois = c.next_payload-pois.ensures.same ∙ in-addresses in
    let in-roads = c.next_payload-roads.ensures.same ∙ in-pois in
    record {
      parts = record { version = s.version; head = placed s.b (head_in s.head); rules = placed s.c s.rules; map = s.map; addresses = s.addresses; pois = s.pois; roads = s.roads; marks = marks_in s.marks; again = placed s.i s.again };
      are = ap file_in s.is;
      version = version.1;
      head = s.head;
      head_at = head.0;
      head_read = held_in v c.next_number-version.new.walk all c.next_payload-head.result 18 Head s.head is-version in-version refl head.1;
      head_is = refl;
      rules_at = rules.0;
      rules = subst (λ (bytes : List ℕ). slice_range bytes c.next_payload-rules.result.from c.next_payload-rules.result.to ≡ s.rules) in-head rules.1;
      sections = record {
        map = held_in v c.next_payload-rules.new.walk all c.next_payload-map.result 54 (Boxes Map) s.map is-rules in-rules refl map.1;
        addresses = held_in v c.next_payload-map.new.walk all c.next_payload-addresses.result 62 (Addresses v) s.addresses is-map in-map refl addresses.1;
        pois = held_in v c.next_payload-addresses.new.walk all c.next_payload-pois.result 70 Pois s.pois is-addresses in-addresses refl pois.1;
        roads = held_in v c.next_payload-pois.new.walk all c.next_payload-roads.result 78 Routing s.roads is-pois in-pois refl roads.1;
      };
      marks = s.marks;
      marks_read = held_in v c.next_payload-roads.new.walk all c.next_payload-marks.result 134 Marks s.marks is-roads in-roads refl marks.1;
      marks_are = refl;
      again_at = again.0;
      again = again.1;
    }

use Rattle.std.proofs.Common.{◌≡◌, ℕ, List, Ok, Result, sym, ap, subst, ◌∙◌}
use Rattle.obf_wire.specs.declared.file.FileBreak.{FileBreak}
use Rattle.obf_wire.specs.Fields.{part_of}
use Rattle.obf_wire.specs.Windows.{range_of}
use Rattle.file_grammar.specs.declared.parts.Boxed.TheVariants.{Restriction, Road}
use Rattle.file_grammar.specs.declared.parts.Part.TheVariants.{Boxes}
use Rattle.file_grammar.specs.Messages.{Fields, has_message}
use Rattle.file_grammar.specs.Readings.{message_at}
use Rattle.file_grammar.specs.Walks.{Standing, left_in}
use Rattle.road_section.proofs.Parts.{IsRoutingRecord, held_bans, held_roads, routing_record}
use Rattle.road_section.proofs.section.read_spans.Goals as goal

abbrev stands : Fields → Result Fields FileBreak
stands fields = Ok fields

pub returns-clause-read : goal.returns-clause-read
returns-clause-read c fields e =
    let s : IsRoutingRecord fields = routing_record (range_of c.args.window) fields e in
    let begins : left_in c.new-walk.result ≡ stands fields = subst (λ (w : Standing). left_in w ≡ stands fields) (sym c.new-walk.ensures) e in
    let r1 = c.next_payload-roads.result in
    let r2 = c.next_payload-bans.result in
    let one = c.next_payload-roads.ensures.message s.a 14 s.roads (has_message s.b 22 s.bans s.rest) (begins ∙ ap stands s.is) in
    let two = c.next_payload-bans.ensures.message s.b 22 s.bans s.rest one.2 in
    let bytes : c.new-walk.result.window.bytes ≡ c.args.window.bytes.now = ap (λ (w : Standing). w.window.bytes) c.new-walk.ensures in
    let roads = held_roads c.new-walk.result r1.from r1.to s.roads (ap (λ (w : Standing). w.part) c.new-walk.ensures) one.1 in
    let bans = held_bans c.next_payload-roads.new.walk r2.from r2.to s.bans (c.next_payload-roads.ensures.part ∙ ap (λ (w : Standing). w.part) c.new-walk.ensures) two.1 in
    record {
      roads = s.roads;
      bans = s.bans;
      rest = s.rest;
      is = s.is ∙ ap (λ (at : ℕ). has_message at 14 s.roads (has_message s.b 22 s.bans s.rest)) (sym one.0) ∙ ap (λ (at : ℕ). has_message r1.at 14 s.roads (has_message at 22 s.bans s.rest)) (sym two.0);
      roads_read = subst (λ (bytes : List ℕ). message_at (Boxes Road) (part_of bytes r1.from r1.to) ≡ Ok s.roads) bytes roads;
      bans_read = subst (λ (bytes : List ℕ). message_at (Boxes Restriction) (part_of bytes r2.from r2.to) ≡ Ok s.bans) (c.next_payload-roads.ensures.same ∙ bytes) bans;
    }

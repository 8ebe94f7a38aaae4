use Rattle.std.proofs.Common.{◌≡◌, ◌≤◌, ℕ, List, length, Ok, Result, ap, sym, subst, ◌∙◌}
use Rattle.std.specs.Prelude.{slice_range}
use Rattle.obf_wire.specs.declared.file.FileBreak.{FileBreak}
use Rattle.obf_wire.specs.Fields.{Window, part_of}
use Rattle.obf_wire.specs.Windows.{range_of}
use Rattle.file_grammar.specs.declared.parts.Boxed.TheVariants.{Poi}
use Rattle.file_grammar.specs.declared.parts.Part.TheVariants.{Boxes, Group as GroupPart}
use Rattle.file_grammar.specs.Messages.{Fields, has_message}
use Rattle.file_grammar.specs.Readings.{message_at}
use Rattle.file_grammar.specs.Walks.{Standing, left_in}
use Rattle.file_grammar.proofs.Shaped.{shaped}
use Rattle.boxed_exact.specs.Sides.{beside}
use Rattle.poi_section.proofs.GroupAsking.{IsGroupMessage, group_asked, group_message, held_boxes}
use Rattle.poi_section.proofs.group_rules.ask_group.Goals as goal

abbrev stands : Fields → Result Fields FileBreak
stands fields = Ok fields

pub returns-clause-asked : goal.returns-clause-asked
returns-clause-asked c fields group prev e is seen =
    let bytes : List ℕ = c.args.window.bytes.now in
    let category = c.next_payload-category.result in
    let records = c.next_payload-records.result in
    let m : IsGroupMessage fields = group_message fields (shaped GroupPart (range_of c.args.window) fields e) in
    let begins : left_in c.new-walk.result ≡ stands fields = subst (λ (w : Standing). left_in w ≡ stands fields) (sym c.new-walk.ensures) e in
    let one = c.next_payload-category.ensures.text m.a 10 m.category (has_message m.b 22 m.boxed m.rest) (begins ∙ ap stands m.is) in
    let two = c.next_payload-records.ensures.message m.b 22 m.boxed m.rest one.2 in
    let same : c.new-walk.result.window.bytes ≡ bytes = ap (λ (w : Standing). w.window.bytes) c.new-walk.ensures in
    let slice = subst (λ (bs : List ℕ). slice_range bs category.from category.to ≡ m.category) same one.1 in
    let held = held_boxes c.next_payload-category.new.walk records.from records.to m.boxed (c.next_payload-category.ensures.part ∙ ap (λ (w : Standing). w.part) c.new-walk.ensures) two.1 in
    let read = subst (λ (bs : List ℕ). message_at (Boxes Poi) (part_of bs records.from records.to) ≡ Ok m.boxed) (c.next_payload-category.ensures.same ∙ same) held in
    let there = subst (λ (w : Window). message_at (Boxes Poi) w ≡ Ok m.boxed) (sym c.part-section.ensures.range) read in
    let text = ap (λ (bs : List ℕ). slice_range bs category.from category.to) c.all.ensures in
    let asked = c.in_ok-kept.ensures in
    group_asked (beside c.args.around.now) bytes prev c.args.at c.args.before.now fields group m _ category records (range_of c.part-section.result) c.may_rise.result c.is_category.result c.has_block.result
    c.args.first.now c.ask.new.self c.ask-2.new.self c.ask-3.new.self c.ask_section.new.first c.in_ok-kept.kept
    is seen slice text one.0 c.part-section.ensures.range read c.may_rise.ensures c.is_category.ensures (c.has_block.ensures m.boxed there) c.ask.ensures c.ask-2.ensures c.ask-3.ensures asked.asked asked.kept
    (record { ordered = c.next_payload-category.ensures.ordered; within = subst (λ (bs : List ℕ). category.to ≤ length bs) same c.next_payload-category.ensures.within })
    (record { ordered = c.next_payload-records.ensures.ordered; within = subst (λ (bs : List ℕ). records.to ≤ length bs) (c.next_payload-category.ensures.same ∙ same) c.next_payload-records.ensures.within })

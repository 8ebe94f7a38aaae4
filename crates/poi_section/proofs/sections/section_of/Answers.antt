use Rattle.std.proofs.Common.{◌≡◌, ◌∙◌, ℕ, List, Ok, sym, ap, subst}
use Rattle.obf_wire.specs.Fields.{Window, part_of}
use Rattle.file_grammar.specs.declared.parts.Boxed.TheVariants.{Poi}
use Rattle.file_grammar.specs.declared.parts.Part.TheVariants.{Boxes}
use Rattle.file_grammar.specs.PoiRules.{poi_boxing, poi_read}
use Rattle.file_grammar.specs.Readings.{message_at}
use Rattle.file_grammar.specs.Sections.{section_in}
use Rattle.boxed_read.specs.Meeting.{in_boxes}
use Rattle.boxed_read.proofs.SectionRead.{section_boxed}
use Rattle.poi_section.specs.PoiReading.{id_of, poi_is_read}
use Rattle.poi_section.specs.PoiSections.{category_in}
use Rattle.poi_section.proofs.sections.section_of.Goals as goal

pub returns : goal.returns
returns c =
    let kept = c.args.group.now in
    let bytes : List ℕ = c.args.window.bytes.now in
    let k = c.requires.checked.is in
    let read = subst (λ (w : Window). message_at (Boxes Poi) w ≡ Ok k.fields) (sym c.part-records.ensures.range) k.read in
    c.of_group.ensures k.fields read ∙ ap (λ (text : List ℕ). in_boxes (poi_read text) (section_in k.fields)) c.category_of.ensures
    ∙ sym (section_boxed Poi poi_boxing poi_read id_of poi_is_read (category_in bytes kept) (part_of bytes kept.records.from kept.records.to) kept.kept k.fields c.requires.checked k.read)

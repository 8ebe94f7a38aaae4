use Rattle.std.proofs.Common.{◌∙◌, Option, ap, sym}
use Rattle.obf_wire.specs.declared.file.FileBreak.{FileBreak}
use Rattle.file_grammar.specs.BoxRules.{Beside}
use Rattle.file_grammar.specs.Facts.{earlier, first_failing}
use Rattle.file_grammar.specs.Files.{FileParts, facts_in}
use Rattle.boxed_exact.specs.Sides.{beside}
use Rattle.obf_reader.specs.Kept.{sections_break}
use Rattle.obf_reader.specs.Parts.{own_facts}
use Rattle.obf_reader.proofs.Asked.{first_of_both}
use Rattle.obf_reader.proofs.GoodFiles.{sections_of_parts}
use Rattle.obf_reader.proofs.reading.first_break.Goals as goal

pub returns : goal.returns
returns c fields r =
    let bytes = c.args.bytes.now in
    let read = c.args.parts.now in
    let own = c.check_parts-first.ensures r.parts r.read_are in
    let sections = ap (λ (b : Beside). sections_break b bytes read.sections) c.around_of-around.ensures.beside ∙ sections_of_parts bytes read fields r in
    c.found.ensures ∙ c.in_ok-ask_sections.ensures
    ∙ ap (λ (o : Option FileBreak). earlier o (sections_break (beside c.around_of-around.result) bytes read.sections)) own
    ∙ ap (λ (o : Option FileBreak). earlier (first_failing (own_facts r.parts)) o) sections
    ∙ sym (first_of_both r.parts) ∙ sym (ap (λ (o : Option FileParts). first_failing (facts_in o)) r.are)

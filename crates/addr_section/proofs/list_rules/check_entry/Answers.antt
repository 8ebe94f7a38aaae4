use Rattle.std.proofs.Common.{Bool, [], ◌∷◌, ℕ, ap, ◌∙◌}
use Rattle.std.specs.Str.{is_utf8}
use Rattle.obf_wire.specs.declared.file.FileKind.TheVariants.{BadText}
use Rattle.file_grammar.specs.Facts.{earlier, fact, failing}
use Rattle.file_grammar.proofs.Earlier.{and_last, and_one}
use Rattle.addr_section.proofs.list_rules.check_entry.Goals as goal

pub returns : goal.returns
returns c it is =
    let start = c.args.first.now in
    let mid = c.ask.new.self in
    let one = c.ask.ensures ∙ ap (λ (b : Bool). earlier start (failing (fact c.args.entry.now.first.at BadText b))) (c.is_utf8.ensures ∙ ap is_utf8 (c.text_at.ensures is.first.inside ∙ is.first.is))
    ∙ ap (λ (at : ℕ). earlier start (failing (fact at BadText (is_utf8 it.first.value)))) is.first.at_is in
    let two = c.ask-2.ensures ∙ ap (λ (b : Bool). earlier mid (failing (fact c.args.entry.now.last.at BadText b))) (c.is_utf8-2.ensures ∙ ap is_utf8 (c.text_at-2.ensures is.last.inside ∙ is.last.is))
    ∙ ap (λ (at : ℕ). earlier mid (failing (fact at BadText (is_utf8 it.last.value)))) is.last.at_is in
    and_one start mid c.ask-2.new.self (fact it.first.at BadText (is_utf8 it.first.value)) (fact it.last.at BadText (is_utf8 it.last.value) ∷ []) one (and_last mid c.ask-2.new.self (fact it.last.at BadText (is_utf8 it.last.value)) two)

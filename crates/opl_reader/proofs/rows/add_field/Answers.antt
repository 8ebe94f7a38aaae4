use Rattle.std.proofs.Common.{◌≡◌, sym, ap, ◌∙◌, true}
use Rattle.std.specs.Str.{is_utf8}
use Rattle.opl_reader.proofs.FieldsFound.{no_letter, letter_ascii}
use Rattle.opl_reader.proofs.Texts.{value_is_text}
use Rattle.opl_reader.proofs.rows.add_field.Goals as goal

pub returns-in_default-clause-bad : goal.returns-in_default-clause-bad
returns-in_default-clause-bad c = no_letter c.args.kind c.args.field.now c.args.found.now c.in_default.ensures.cases

pub add-requires : goal.add-requires
add-requires c =
    let utf8 : is_utf8 c.args.field.now ≡ true = c.requires in
    value_is_text c.in-Some.first.now c.in-Some.value.now (sym (ap is_utf8 c.in-Some.ensures.cases.0) ∙ utf8)
    (letter_ascii c.args.kind c.in-Some.first.now c.in-Some-letter.letter (sym c.in-Some-letter.ensures))

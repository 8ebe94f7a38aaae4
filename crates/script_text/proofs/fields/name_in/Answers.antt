use Rattle.std.proofs.Common.{◌≡◌, None, Err, refl, sym, ap, ◌∙◌, subst, rules}
use Rattle.text_pieces.specs.Escapes.{text_of, unescaped}
use Rattle.tag_rules.proofs.Texts.{text_some, no_text}
use Rattle.script_text.specs.Names.{IsUnnamed}
use Rattle.script_text.proofs.LineFields.{named_by}
use Rattle.script_text.proofs.fields.name_in.Goals as goal

pub returns-in-Ok-clause-some : goal.returns-in-Ok-clause-some
returns-in-Ok-clause-some c =
    text_some c.args.field.now.bytes.now c.in-Ok.name c.requires.some (ap text_of (sym c.characters.ensures) ∙ c.in-Ok.ensures.ok)

pub returns-in-Err-Bad-clause-bad : goal.returns-in-Err-Bad-clause-bad
returns-in-Err-Bad-clause-bad c =
    let bad : unescaped c.characters.result.now ≡ None = c.in-Err-Bad.ensures.bad.0 (ap Err c.in-Err-Bad.field-0-is) in
    subst (IsUnnamed c.args.field.now.at c.args.field.now.bytes.now) (sym c.broken.ensures)
    (refl, named_by c.args.field.now.bytes.now c.requires.some ∙ ap text_of (sym c.characters.ensures) ∙ no_text c.characters.result.now bad)

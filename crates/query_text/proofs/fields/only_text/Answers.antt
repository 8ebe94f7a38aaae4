use Rattle.std.proofs.Common.{◌≡◌, None, Err, sym, ap, ◌∙◌}
use Rattle.text_pieces.specs.Escapes.{text_of, unescaped}
use Rattle.tag_rules.proofs.Texts.{text_some, no_text}
use Rattle.query_text.specs.Reading.{spelled_by}
use Rattle.query_text.proofs.fields.only_text.Goals as goal

pub returns-in-Ok-clause-some : goal.returns-in-Ok-clause-some
returns-in-Ok-clause-some c =
    text_some c.in-Some.field.bytes.now c.in-Ok.text c.in-Some.ensures.some (ap text_of (sym c.characters.ensures) ∙ c.in-Ok.ensures.ok)

pub returns-in-Err-Bad-clause-bad : goal.returns-in-Err-Bad-clause-bad
returns-in-Err-Bad-clause-bad c = λ e.
    let bad : unescaped c.characters.result.now ≡ None = c.in-Err-Bad.ensures.bad.0 (ap Err c.in-Err-Bad.field-0-is) in
    ap spelled_by c.in-Some.ensures.fields ∙ ap text_of (sym c.characters.ensures) ∙ no_text c.characters.result.now bad

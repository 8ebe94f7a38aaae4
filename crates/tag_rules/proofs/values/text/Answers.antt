use Rattle.std.proofs.Common.{◌≡◌, None, Err, sym, ap, ◌∙◌, rules}
use Rattle.text_pieces.specs.Escapes.{text_of, unescaped}
use Rattle.tag_rules.proofs.Texts.{text_some, no_text}
use Rattle.tag_rules.proofs.RowReadings.{on_broken}
use Rattle.tag_rules.proofs.values.text.Goals as goal

pub returns-in-Ok-clause-good : goal.returns-in-Ok-clause-good
returns-in-Ok-clause-good c =
    (search rules, text_some c.args.field.now.bytes.now c.in-Ok.text c.requires.some (ap text_of (sym c.characters.ensures) ∙ c.in-Ok.ensures.ok))

pub returns-in-Err-Bad-clause-broken : goal.returns-in-Err-Bad-clause-broken
returns-in-Err-Bad-clause-broken c =
    let bad : unescaped c.characters.result.now ≡ None = c.in-Err-Bad.ensures.bad.0 (ap Err c.in-Err-Bad.field-0-is) in
    on_broken _ _ _ c.broken.result c.broken.ensures (ap text_of (sym c.characters.ensures) ∙ no_text c.characters.result.now bad)

use Rattle.boxed_write.proofs.UsedTexts.{number_is, some_bytes}
use Rattle.boxed_write.proofs.parts.text_number.Goals as goal

pub returns-in-Some : goal.returns-in-Some
returns-in-Some c =
    number_is c.args.texts.now c.args.text.now c.in-Some.index c.in-Some.ensures.table.rising c.in-Some.ensures.place
    (some_bytes c.args.text.now c.is_empty.result c.is_empty.ensures c.if-is_empty.false)

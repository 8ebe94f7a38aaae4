use Rattle.std.proofs.Common.{◌∙◌, Option, ap, rules}
use Rattle.std.specs.Option.{option_map}
use Rattle.file_grammar.specs.declared.parts.Content.{Content}
use Rattle.file_grammar.specs.Tables.{own}
use Rattle.file_grammar.proofs.OneTable.{content_is, one_joined}
use Rattle.file_grammar.proofs.tables.content.Goals as goal

pub returns-in_default : goal.returns-in_default
returns-in_default c =
    c.own_content-in_default.ensures ∙ ap (λ (content : Option Content). option_map (own c.args.part) content) c.content_in-in_default.ensures
    ∙ content_is c.args.part c.table_of.result.now c.args.key (one_joined c.args.part c.table_of.result.now (c.table_of.ensures (search rules)))

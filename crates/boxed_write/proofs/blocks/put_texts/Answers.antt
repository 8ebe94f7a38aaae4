use Rattle.std.proofs.Common.{◌++◌, ℕ, List, ap, length, ◌∙◌}
use Rattle.text_table.specs.Tables.{table_bytes}
use Rattle.boxed_write.proofs.blocks.put_texts.Goals as goal

pub returns : goal.returns
returns c =
    let begun = c.in_ok-start.ensures in
    c.end_section.ensures 1 c.args.out.now (table_bytes c.args.texts.now) (c.in_ok-put.ensures ∙ ap (λ (t : List ℕ). t ++ table_bytes c.args.texts.now) begun.ok) (begun.start ∙ ap length begun.ok)

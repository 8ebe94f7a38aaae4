use Rattle.std.proofs.Common.{◌≡◌, ◌++◌, drop}
use Rattle.text_table.specs.Tables.{table_bytes}
use Rattle.text_table.proofs.table.put_texts.Given as goal

-- what is still to be appended
abbrev pub invariant-loop-text : goal.invariant-loop-text
invariant-loop-text l = l.out ++ table_bytes (drop l.text-index l.texts) ≡ l.initial.out ++ table_bytes l.texts

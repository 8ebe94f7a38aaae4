use Rattle.std.proofs.Common.{◌∙◌, Option, ◌∷◌, [], ℕ, sym, ap}
use Rattle.file_grammar.specs.Tables.{keys_of, left_at}
use Rattle.file_grammar.proofs.OneTable.{behind_tested, keys_are, keys_behind}
use Rattle.file_grammar.proofs.tables.next_behind.Goals as goal

pub next_in-requires-in-Some-rows_behind : goal.next_in-requires-in-Some-rows_behind
next_in-requires-in-Some-rows_behind c = record { rows = behind_tested c.in-Some.key c.args.rows.now c.in-Some-rows_behind.left.now c.requires.rows c.in-Some-rows_behind.ensures }

pub returns-in-None-clause-keys : goal.returns-in-None-clause-keys
returns-in-None-clause-keys c =
    c.next_in.ensures.keys ∙ sym (keys_are c.args.rows.now c.requires.rows) ∙ ap (λ (last : Option ℕ). keys_of (left_at last (c.args.rows.now ∷ []))) (sym c.in-None.is)

pub returns-in-Some-rows_behind-clause-keys : goal.returns-in-Some-rows_behind-clause-keys
returns-in-Some-rows_behind-clause-keys c =
    c.next_in-in-Some-rows_behind.ensures.keys ∙ sym (keys_behind c.in-Some.key c.args.rows.now c.in-Some-rows_behind.left.now c.requires.rows c.in-Some-rows_behind.ensures)
    ∙ ap (λ (last : Option ℕ). keys_of (left_at last (c.args.rows.now ∷ []))) (sym c.in-Some.is)

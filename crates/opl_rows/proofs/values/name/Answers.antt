use Rattle.std.proofs.Common.{sym, ◌∙◌}
use Rattle.opl_rows.proofs.Items.{name_text, name_back}
use Rattle.opl_rows.proofs.values.name.Goals as goal

pub returns-clause-value : goal.returns-clause-value
returns-clause-value c = name_text c.args.bytes.now c.in-Some.rest.now c.args.scratch.now c.text.new.tags (sym c.is_end.ensures ∙ c.if-not-is_end.false) (rw c.in-Some.is at c.in_ok-rest.ensures)

pub returns-clause-rest : goal.returns-clause-rest
returns-clause-rest c = name_back c.args.bytes.now c.in-Some.rest.now c.args.scratch.now c.text.new.tags (sym c.is_end.ensures ∙ c.if-not-is_end.false) (rw c.in-Some.is at c.in_ok-rest.ensures)

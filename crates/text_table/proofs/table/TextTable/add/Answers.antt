use Rattle.std.proofs.Common.{arith, sym}
use Rattle.text_table.proofs.Rising.{put_there, put_in_gap, table_insert}
use Rattle.text_table.proofs.table.TextTable.add.Goals as goal

pub returns-in_default-clause-ok : goal.returns-in_default-clause-ok
returns-in_default-clause-ok c = sym (put_there c.args.text.now c.args.self.now c.in_default.field-0 c.search.ensures.table c.in_default.ensures.place)

pub invariant_of-self-2 : goal.invariant_of-self-2
invariant_of-self-2 c =
    rw (c.in_ok-put_before.ensures.ok, c.self.view_is, c.in_ok-owned.ensures)
    (table_insert c.args.text.now c.args.self.now c.in-Err.gap c.search.ensures.table (record { utf8 = c.utf8.text; some = c.requires; fits = omega arith }) c.in-Err.ensures.place)

pub returns-clause-ok : goal.returns-clause-ok
returns-clause-ok c =
    rw (c.in_ok-put_before.ensures.ok, c.self.view_is, c.in_ok-owned.ensures) (sym (put_in_gap c.args.text.now c.args.self.now c.in-Err.gap c.in-Err.ensures.place))

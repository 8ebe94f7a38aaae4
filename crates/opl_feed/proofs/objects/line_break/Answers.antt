use Rattle.std.proofs.Common.{arith, subst, sym}
use Rattle.opl_feed.specs.Rows.{IsRowsCause, row_of}
use Rattle.opl_feed.proofs.Reading.{broken_over, broken_line, broken_within}
use Rattle.opl_feed.proofs.objects.line_break.Goals as goal

pub returns-then-rows-eq-MOST_LINES : goal.returns-then-rows-eq-MOST_LINES
returns-then-rows-eq-MOST_LINES c =
    subst (IsRowsCause c.args.rows (row_of c.args.at c.args.line.now)) (sym c.over_limit.ensures)
    (broken_over c.args.at c.args.rows c.args.line.now c.args.b c.if-rows-eq-MOST_LINES.true c.requires.line c.requires.broken)

pub overflow_add-result : goal.overflow_add-result
overflow_add-result c =
    let within = broken_within c.args.line.now c.args.b c.requires.line c.requires.broken in
    let room = c.requires.room in
    omega arith

pub returns : goal.returns
returns c = broken_line c.args.at c.args.rows c.args.line.now c.args.b (let few = c.requires.rows in let other = c.if-rows-eq-MOST_LINES.false in omega arith) c.requires.line c.requires.broken

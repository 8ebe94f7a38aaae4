use Rattle.std.proofs.Common.{arith, subst, sym, ◌+◌}
use Rattle.opl_feed.specs.Rows.{AreRead, IsRowsCause, row_of}
use Rattle.opl_feed.proofs.Reading.{skipped_read, line_read, read_over}
use Rattle.opl_feed.proofs.objects.add_read.Goals as goal

pub returns-in_default-clause-read : goal.returns-in_default-clause-read
returns-in_default-clause-read c =
    let none = (rw c.in_default.is at c.pop.ensures.cases).0 in
    skipped_read c.args.at c.args.rows c.args.line.now c.args.read.items c.args.lines.now.items c.requires.line c.requires.read (let ok = c.args.read.ok in omega arith)

pub returns-then-rows-eq-MOST_LINES-clause-broken : goal.returns-then-rows-eq-MOST_LINES-clause-broken
returns-then-rows-eq-MOST_LINES-clause-broken c =
    let some = rw c.in-Some.is at c.pop.ensures.len in
    subst (IsRowsCause c.args.rows (row_of c.args.at c.args.line.now)) (sym c.over_limit.ensures)
    (read_over c.args.at c.args.rows c.args.line.now c.args.read.items c.if-rows-eq-MOST_LINES.true c.requires.line c.requires.read (let ok = c.args.read.ok in omega arith))

pub returns-clause-read : goal.returns-clause-read
returns-clause-read c =
    let few = c.requires.rows in
    let other = c.if-rows-eq-MOST_LINES.false in
    subst (AreRead c.args.rows (row_of c.args.at c.args.line.now) (c.args.rows + 1) c.args.lines.now.items) (sym c.in_ok-push.ensures.items)
    (line_read c.args.at c.args.rows c.args.line.now c.in-Some.line c.args.read.items c.pop.new.self.items c.args.lines.now.items (omega arith) c.requires.line c.requires.read
    (rw c.in-Some.is at c.pop.ensures.items))

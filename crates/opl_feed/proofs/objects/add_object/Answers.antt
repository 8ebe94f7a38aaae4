use Rattle.std.proofs.Common.{arith, subst, sym, ◌+◌}
use Rattle.opl_feed.specs.Rows.{AreRead, IsRowsCause, row_of}
use Rattle.opl_feed.proofs.Reading.{object_read, object_over}
use Rattle.opl_feed.proofs.objects.add_object.Goals as goal

pub returns-then-rows-eq-MOST_LINES-clause-broken : goal.returns-then-rows-eq-MOST_LINES-clause-broken
returns-then-rows-eq-MOST_LINES-clause-broken c =
    subst (IsRowsCause c.args.rows (row_of c.args.at c.args.line.now)) (sym c.over_limit.ensures) (object_over c.args.at c.args.rows c.args.line.now c.if-rows-eq-MOST_LINES.true c.requires.kept)

pub returns-clause-read : goal.returns-clause-read
returns-clause-read c =
    let few = c.requires.rows in
    let other = c.if-rows-eq-MOST_LINES.false in
    subst (AreRead c.args.rows (row_of c.args.at c.args.line.now) (c.args.rows + 1) c.args.lines.now.items) (sym c.in_ok-push.ensures.items)
    (object_read c.args.at c.args.rows c.args.line.now c.args.object c.args.lines.now.items (omega arith) c.requires.kept c.requires.object)

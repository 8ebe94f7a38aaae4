use Rattle.std.proofs.Common.{◌++◌, rules, ◌∙◌, arith}
use Rattle.opl_feed.specs.Streams.{completed_rows}
use Rattle.opl_feed.specs.Rows.{IsRowsCause}
use Rattle.opl_feed.proofs.Cuts.{no_feed_joined}
use Rattle.opl_feed.proofs.Reading.{front_on}
use Rattle.opl_feed.proofs.Steps.{goes_on, goes_broken, goes_read, goes_at, goes_begun}
use Rattle.opl_feed.proofs.lines.Held.piece.Goals as goal

pub loop-first-preserved : goal.loop-first-preserved
loop-first-preserved c =
    let inv = c.loop-first.invariant in
    let old = c.args.self.now in
    let room = c.complete.ensures.room in
    let before = c.loop-first.invariant.room in
    let shorter = c.in-Some.ensures.shorter in
    record {
      goes = goes_on c.args.self.now.at c.args.self.now.rows (c.args.self.now.begun.items ++ c.args.bytes.now) c.args.lines.now.items
          c.loop-first.self.at c.loop-first.self.rows c.loop-first.self.begun.items c.loop-first.rest.now c.loop-first.lines.items
          c.in-Some.first.line.now c.in-Some.first.rest.now c.complete.new.self.at c.complete.new.self.rows c.complete.new.self.begun.items c.complete.new.lines.items
          c.in-Some.ensures.cut inv.line c.in-Some.ensures.line c.in_ok-complete.ensures.read c.in_ok-complete.ensures.at c.in_ok-complete.ensures.begun inv.goes;
      few = c.complete.ensures.few;
      line = c.complete.ensures.line;
      room = omega arith;
      front = front_on c.args.lines.now.items c.loop-first.lines.items c.complete.new.lines.items inv.front c.complete.ensures.front;
    }

pub returns-in_err-complete-clause-broken : goal.returns-in_err-complete-clause-broken
returns-in_err-complete-clause-broken c =
    let inv = c.loop-first.invariant in
    let cause : IsRowsCause c.args.self.now.rows (completed_rows c.args.self.now.at (c.args.self.now.begun.items ++ c.args.bytes.now)) c.in_err-complete.field-0.0 =
    goes_broken c.args.self.now.at c.args.self.now.rows (c.args.self.now.begun.items ++ c.args.bytes.now) c.args.lines.now.items
    c.loop-first.self.at c.loop-first.self.rows c.loop-first.self.begun.items c.loop-first.rest.now c.loop-first.lines.items
    c.in-Some.first.line.now c.in-Some.first.rest.now c.in_err-complete.field-0.0 c.in-Some.ensures.cut inv.line c.in-Some.ensures.line c.in_err-complete.ensures.broken inv.goes
    in
    search rules

pub returns-clause-read : goal.returns-clause-read
returns-clause-read c =
    let inv = c.loop-first.invariant in
    goes_read c.args.self.now.at c.args.self.now.rows (c.args.self.now.begun.items ++ c.args.bytes.now) c.args.lines.now.items
    c.loop-first.self.at c.loop-first.self.rows (c.loop-first.self.begun.items ++ c.loop-first.rest.now) c.loop-first.lines.items
    (no_feed_joined c.loop-first.self.begun.items c.loop-first.rest.now inv.line c.in_default.ensures.cut) inv.goes

pub returns-clause-at : goal.returns-clause-at
returns-clause-at c =
    let inv = c.loop-first.invariant in
    goes_at c.args.self.now.at c.args.self.now.rows (c.args.self.now.begun.items ++ c.args.bytes.now) c.args.lines.now.items
    c.loop-first.self.at c.loop-first.self.rows (c.loop-first.self.begun.items ++ c.loop-first.rest.now) c.loop-first.lines.items
    (no_feed_joined c.loop-first.self.begun.items c.loop-first.rest.now inv.line c.in_default.ensures.cut) inv.goes

pub returns-clause-begun : goal.returns-clause-begun
returns-clause-begun c =
    let inv = c.loop-first.invariant in
    c.in_ok-extend_from_slice.ensures.items
    ∙ goes_begun c.args.self.now.at c.args.self.now.rows (c.args.self.now.begun.items ++ c.args.bytes.now) c.args.lines.now.items
    c.loop-first.self.at c.loop-first.self.rows (c.loop-first.self.begun.items ++ c.loop-first.rest.now) c.loop-first.lines.items
    (no_feed_joined c.loop-first.self.begun.items c.loop-first.rest.now inv.line c.in_default.ensures.cut) inv.goes

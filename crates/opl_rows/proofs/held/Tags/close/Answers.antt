use Rattle.std.proofs.Common.{◌≡◌, length, arith}
use Rattle.opl_rows.specs.Held.{total}
use Rattle.opl_rows.proofs.Holding.{close_is, close_total, close_last, close_long}
use Rattle.opl_rows.proofs.held.Tags.close.Goals as goal

pub returns-clause-tags : goal.returns-clause-tags
returns-clause-tags c =
    close_is c.self.inside.spans.items c.push.new.self.items _ c.self.inside.texts.items c.args.self.now c.in_ok-push.ensures.items c.self.view_is
    (close_long c.self.inside.spans.items c.self.inside.texts.items c.args.self.now c.len.result c.self.inside.closed c.args.key c.self.view_is (omega arith) c.self.invariant.0 c.self.invariant.1 c.requires)

pub returns-clause-last : goal.returns-clause-last
returns-clause-last c =
    close_last c.self.inside.spans.items c.push.new.self.items _ c.self.inside.texts.items c.in_ok-push.ensures.items
    (close_long c.self.inside.spans.items c.self.inside.texts.items c.args.self.now c.len.result c.self.inside.closed c.args.key c.self.view_is (omega arith) c.self.invariant.0 c.self.invariant.1 c.requires)

pub invariant_of-self-2 : goal.invariant_of-self-2
invariant_of-self-2 c =
    let whole : total c.push.new.self.items ≡ length c.self.inside.texts.items = close_total c.self.inside.spans.items c.push.new.self.items _ c.self.inside.texts.items c.in_ok-push.ensures.items
    (close_long c.self.inside.spans.items c.self.inside.texts.items c.args.self.now c.len.result c.self.inside.closed c.args.key c.self.view_is (omega arith) c.self.invariant.0 c.self.invariant.1 c.requires) in
    ((omega arith), (omega arith))

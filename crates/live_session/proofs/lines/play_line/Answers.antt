use Rattle.std.proofs.Common.{◌+◌, ◌∷◌, drop, length, map, sym, ap, subst, ◌∙◌}
use Rattle.std.specs.Arc.{arc_value}
use Rattle.std.specs.List.{AllByRecursion}
use Rattle.live_model.specs.Objects.{IsGoodLine}
use Rattle.script_text.specs.declared.steps.What.{What}
use Rattle.live_core.proofs.Playing.{all_at}
use Rattle.live_session.specs.Lines.{IsLinePlayed}
use Rattle.live_session.proofs.Played.{asked, drop_at, has_change, published}
use Rattle.live_session.proofs.lines.play_line.Goals as goal

pub publish-requires-clause-good : goal.publish-requires-clause-good
publish-requires-clause-good c =
    let lt = has_change c.args.step.now.what c.in-Publish.stamp c.in-Publish.file c.args.used (length c.args.changes.now) c.in-Publish.is c.requires.there in
    subst (λ x. AllByRecursion IsGoodLine (arc_value x)) (sym c.index-changes-used.is)
    (all_at (λ lines. AllByRecursion IsGoodLine lines) arc_value c.args.changes.now c.args.used c.index-changes-used.result c.requires.good lt)

pub returns-in_ok-publish-in-Publish-clause-played : goal.returns-in_ok-publish-in-Publish-clause-played
returns-in_ok-publish-in-Publish-clause-played c =
    let changes = map arc_value c.args.changes.now in
    let lt = has_change c.args.step.now.what c.in-Publish.stamp c.in-Publish.file c.args.used (length c.args.changes.now) c.in-Publish.is c.requires.there in
    let next = drop_at arc_value c.args.changes.now c.args.used c.index-changes-used.result lt ∙ ap (λ x. arc_value x ∷ drop (c.args.used + 1) changes) (sym c.index-changes-used.is) in
    subst (λ (w : What). IsLinePlayed c.args.machine.now c.args.line w changes c.args.used c.args.out.now.items c.publish.new.machine c.publish.new.out.items (c.args.used + 1)) (sym c.in-Publish.is)
    (published c.args.machine.now c.publish.new.machine c.args.line c.in-Publish.stamp c.in-Publish.file changes c.args.used (arc_value c.index-changes-used.result) c.args.out.now.items c.publish.new.out.items
    next c.in_ok-publish-in-Publish.ensures.machine c.in_ok-publish-in-Publish.ensures.text)

pub returns-in_ok-ask-in-Ask-clause-played : goal.returns-in_ok-ask-in-Ask-clause-played
returns-in_ok-ask-in-Ask-clause-played c =
    let changes = map arc_value c.args.changes.now in
    subst (λ (w : What). IsLinePlayed c.args.machine.now c.args.line w changes c.args.used c.args.out.now.items c.ask.new.machine c.ask.new.out.items c.args.used) (sym c.in-Ask.is)
    (asked c.args.machine.now c.ask.new.machine c.args.line c.in-Ask.query changes c.args.used c.args.out.now.items c.ask.new.out.items
    c.requires.alone.pass c.in_ok-ask-in-Ask.ensures.machine c.in_ok-ask-in-Ask.ensures.text)

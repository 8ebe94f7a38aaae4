use Rattle.std.proofs.Common.{◌≡◌, ap, ◌∙◌}
use Rattle.std.specs.Prelude.{drop, take}
use Rattle.live_model.specs.Objects.{AreTags}
use Rattle.opl_reader.specs.TagOrder.{ComesFirst}
use Rattle.opl_rows.specs.Held.{tags_in}
use Rattle.opl_rows.proofs.Items.{rises_step, rises_within}
use Rattle.opl_rows.proofs.held.rises.Goals as goal

pub loop-first-preserved : goal.loop-first-preserved
loop-first-preserved c =
    let cut : c.behind-more.result.now ≡ drop c.in-Some.first.now.value (drop c.in-Some.first.now.key c.loop-first.bytes.now) = c.behind-more.ensures ∙ ap (drop c.in-Some.first.now.value) c.behind-left.ensures in
    let comes : ComesFirst (take c.in-Some.first.now.key c.loop-first.bytes.now) (tags_in c.in-Some.after.now c.behind-more.result.now) = rw c.at_front-key.ensures at c.if-not-comes_first.ensures in
    record {
      rising = rises_step c.loop-first.rest.now c.in-Some.after.now c.in-Some.first.now c.loop-first.bytes.now c.behind-more.result.now (AreTags (tags_in c.args.spans.now c.args.texts.now)) c.in-Some.ensures.cases.0 cut
          c.loop-first.invariant.within comes c.loop-first.invariant.rising;
      within = rises_within c.loop-first.rest.now c.in-Some.after.now c.in-Some.first.now c.loop-first.bytes.now c.behind-more.result.now c.in-Some.ensures.cases.0 cut c.loop-first.invariant.within;
    }

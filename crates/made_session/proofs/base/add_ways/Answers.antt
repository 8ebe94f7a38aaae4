use Rattle.std.proofs.Common.{rules, arith, ◌≡◌, ◌+◌, ◌*◌, ap, ◌∙◌, [], ◌++◌}
use Rattle.live_model.specs.Objects.{IsGoodLine}
use Rattle.made_session.specs.Draws.{state_after}
use Rattle.made_session.specs.Loads.{base_ways, drawn_way}
use Rattle.made_session.proofs.Growing.{all_more, grown, one_more_way}
use Rattle.made_session.proofs.States.{after_one}
use Rattle.made_session.proofs.base.add_ways.Goals as goal

pub loop-index-init : goal.loop-index-init
unfolding state_after base_ways
loop-index-init c = search rules

pub loop-index-preserved : goal.loop-index-preserved
loop-index-preserved c =
    let n = c.loop-index.index in
    let s = c.args.draws.now in
    record {
      lines = grown _ _ _ _ _ _ _ c.loop-index.invariant.lines c.in_ok-push.ensures.ok (c.in_ok-way.ensures.way ∙ ap (λ d. drawn_way d (n + 1)) c.loop-index.invariant.after) (one_more_way s n);
      good = λ h. all_more IsGoodLine _ _ _ c.in_ok-push.ensures.ok (c.loop-index.invariant.good h) c.in_ok-way.ensures.good;
      after = c.in_ok-way.ensures.after ∙ ap (λ d. state_after d 5) c.loop-index.invariant.after ∙ after_one s (5 * n) 5 (5 * (n + 1)) (omega arith);
    }

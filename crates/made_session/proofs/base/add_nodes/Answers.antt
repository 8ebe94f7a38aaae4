use Rattle.std.proofs.Common.{rules, arith, ◌≡◌, ◌+◌, ◌*◌, ap, ◌∙◌, [], ◌++◌}
use Rattle.live_model.specs.Objects.{IsGoodLine}
use Rattle.made_session.specs.Draws.{state_after}
use Rattle.made_session.specs.Loads.{base_nodes, drawn_node}
use Rattle.made_session.proofs.Growing.{all_more, grown, one_more_node}
use Rattle.made_session.proofs.States.{after_one}
use Rattle.made_session.proofs.base.add_nodes.Goals as goal

pub loop-index-init : goal.loop-index-init
unfolding state_after base_nodes
loop-index-init c = search rules

pub loop-index-preserved : goal.loop-index-preserved
loop-index-preserved c =
    let n = c.loop-index.index in
    let s = c.args.draws.now in
    record {
      lines = grown _ _ _ _ _ _ _ c.loop-index.invariant.lines c.in_ok-push.ensures.ok (c.in_ok-node.ensures.node ∙ ap (λ d. drawn_node d (n + 1) 1) c.loop-index.invariant.after) (one_more_node s n);
      good = λ h. all_more IsGoodLine _ _ _ c.in_ok-push.ensures.ok (c.loop-index.invariant.good h) c.in_ok-node.ensures.good;
      after = c.in_ok-node.ensures.after ∙ ap (λ d. state_after d 2) c.loop-index.invariant.after ∙ after_one s (2 * n) 2 (2 * (n + 1)) (omega arith);
    }

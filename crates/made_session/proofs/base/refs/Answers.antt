use Rattle.std.proofs.Common.{rules, arith, ◌≡◌, ◌+◌, ◌*◌, ◌^◌, ◌≤◌}
use Rattle.std.specs.Prelude.{unsigned_abs}
use Rattle.made_session.specs.Draws.{state_after}
use Rattle.made_session.specs.Loads.{drawn_refs}
use Rattle.made_session.proofs.Growing.{all_more, count_more, one_more_ref}
use Rattle.made_session.proofs.States.{after_after}
use Rattle.made_session.proofs.base.refs.Goals as goal

pub loop-index-init : goal.loop-index-init
unfolding state_after drawn_refs
loop-index-init c = search rules

pub loop-index-preserved : goal.loop-index-preserved
loop-index-preserved c = record {
  refs = search (rules, after_after, one_more_ref);
  count = count_more _ _ _ _ c.in_ok-push.ensures.ok c.loop-index.invariant.count;
  good = all_more (λ n. unsigned_abs n ≤ 2 ^ 48) _ _ _ c.in_ok-push.ensures.ok c.loop-index.invariant.good (search rules);
  after = search (rules, after_after);
}

use Rattle.std.proofs.Common.{rules, arith, ◌≡◌, ◌+◌, ◌*◌, ◌∷◌, [], ◌++◌, ap, sym, subst, ◌∙◌, refl}
use Rattle.stamp_core.specs.Hours.{IsCivilHour, civil_hour}
use Rattle.made_session.specs.Draws.{state_after}
use Rattle.made_session.specs.Loads.{hour_steps, made_change, made_changes}
use Rattle.made_session.proofs.Clock.{clock}
use Rattle.made_session.proofs.Doing.{one_more_hour}
use Rattle.made_session.proofs.Growing.{grown, one_more_change}
use Rattle.made_session.proofs.States.{after_one}
use Rattle.made_session.proofs.load.script.Goals as goal

pub loop-index-init : goal.loop-index-init
unfolding state_after made_changes
loop-index-init c = search rules

pub loop-index-preserved : goal.loop-index-preserved
loop-index-preserved c =
    let now = c.loop-index.invariant in
    let i = c.loop-index.index in
    let next = clock c.loop-index.stamp c.after-stamp.result i now.civil (omega arith) now.hour now.year c.after-stamp.ensures in
    record {
      done = one_more_hour c.args.draws i c.loop-index.stamp c.after-stamp.result c.loop-index.script.steps.items _ now.done (c.in_ok-add.ensures.steps ∙ ap (λ s. c.loop-index.script.steps.items ++ hour_steps s i c.loop-index.stamp) now.after) c.after-stamp.ensures;
      changes = grown [] _ _ _ _ _ _ now.changes c.in_ok-add.ensures.changes (ap (λ s. made_change s (i + 1)) now.after) (one_more_change c.args.draws i);
      good_steps = c.in_ok-add.ensures.good_steps now.good_steps;
      good_changes = c.in_ok-add.ensures.good_changes now.good_changes;
      after = c.in_ok-add.ensures.after ∙ ap (λ s. state_after s 32) now.after ∙ after_one c.args.draws (32 * i) 32 (32 * (i + 1)) (omega arith);
      civil = c.after-stamp.ensures.civil;
      hour = next.0;
      year = next.1;
    }

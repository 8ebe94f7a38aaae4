use Rattle.std.proofs.Common.{sym, ap, subst, ◌∙◌}
use Rattle.overlay_set.specs.Machines.{Commit}
use Rattle.live_core.specs.Running.{Running, after_event}
use Rattle.live_session.specs.Folding.{IsFoldedOn}
use Rattle.live_session.proofs.Ages.{folds}
use Rattle.live_session.proofs.settling.fold_once.Goals as goal

pub returns-clause-folded : goal.returns-clause-folded
returns-clause-folded c =
    subst (λ (r : Running). IsFoldedOn c.args.machine.now r) (sym (c.in_ok-step-2.ensures.next ∙ ap (λ (r : Running). after_event r (Commit 0)) c.in_ok-step.ensures.next))
    (folds c.args.machine.now c.requires.stands c.requires.worker c.requires.due)

-- One more hour of a script.
use Rattle.std.proofs.Common.{arith, ◌≡◌, ℕ, suc, ◌+◌, ◌*◌, List, ◌++◌, subst}
use Rattle.stamp_core.specs.Hours.{CivilHour, IsNextHour}
use Rattle.script_text.specs.declared.steps.Step.{Step}
use Rattle.made_session.specs.Draws.{state_after}
use Rattle.made_session.specs.Loads.{IsDoneBefore, hour_steps}

pub one_more_hour : (s i : ℕ) (stamp next : CivilHour) (earlier steps : List Step) → IsDoneBefore s stamp i earlier → steps ≡ earlier ++ hour_steps (state_after s (32 * i)) i stamp
    → IsNextHour stamp next → IsDoneBefore s next (i + 1) steps
one_more_hour s i stamp next earlier steps done are comes =
    let e : suc i ≡ i + 1 = omega arith in
    let all : IsDoneBefore s next (suc i) steps = (stamp, earlier, done, are, comes) in
    subst (λ n. IsDoneBefore s next n steps) e all

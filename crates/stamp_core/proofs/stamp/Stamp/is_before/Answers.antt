use Rattle.std.proofs.Common.{subst}
use Rattle.stamp_core.specs.Hours.{IsCivilHour}
use Rattle.stamp_core.proofs.TimeOrder.{lt-number, IsEarlier-number}
use Rattle.stamp_core.proofs.stamp.Stamp.is_before.Goals as goal

-- the answer of `<` is that of the numbers
pub returns-clause-number : goal.returns-clause-number
returns-clause-number c =
    let first : IsCivilHour c.args.self.now = subst IsCivilHour c.self.view_is c.self.invariant in
    let second : IsCivilHour c.args.other.now = subst IsCivilHour c.other.view_is c.other.invariant in
    lt-number _ _ _ first second c.lt.ensures

pub returns-clause-earlier : goal.returns-clause-earlier
returns-clause-earlier c =
    let first : IsCivilHour c.args.self.now = subst IsCivilHour c.self.view_is c.self.invariant in
    let second : IsCivilHour c.args.other.now = subst IsCivilHour c.other.view_is c.other.invariant in
    let number = lt-number _ _ _ first second c.lt.ensures in
    let time = IsEarlier-number c.args.self.now c.args.other.now first second in
    (λ yes. time.1 (number.0 yes), λ earlier. number.1 (time.0 earlier))

use Rattle.std.proofs.Common.{◌≡◌, pos, ◌<ℤ◌, arith, refl, ap, rules, true, false}
use Rattle.jiff_core.specs.Date.{epoch_day}
use Rattle.jiff_core.proofs.SignedLemmas.{signed_arith}
use Rattle.stamp_core.specs.Hours.{CivilHour, IsNextHour}
use Rattle.stamp_core.proofs.Dates.{IsDayOf, midnight_of, next_nonnegative, next_midnight, last_day_is, last_day-max}
use Rattle.stamp_core.proofs.stamp.Stamp.next_hour.Goals as goal

pub midnight-requires : goal.midnight-requires
midnight-requires c =
    let day : IsDayOf c.args.self.now c.date.result = (c.date.ensures.ymd.0, search rules, search rules) in
    next_nonnegative c.args.self.now c.date.result c.in-Ok.next day c.in-Ok.ensures.value

pub returns-in-Ok-clause-none : goal.returns-in-Ok-clause-none
returns-in-Ok-clause-none c =
    let day : IsDayOf c.args.self.now c.date.result = (c.date.ensures.ymd.0, search rules, search rules) in
    let before : epoch_day c.date.result <ℤ pos 2_932_896 = c.in-Ok.ensures.succeeds.0 refl in
    (λ e. cc, λ e. absurd (omega (arith, signed_arith, last_day-max c.args.self.now c.date.result day e, before)))

pub returns-in-Ok-clause-next : goal.returns-in-Ok-clause-next
returns-in-Ok-clause-next c =
    let day : IsDayOf c.args.self.now c.date.result = (c.date.ensures.ymd.0, search rules, search rules) in
    let last : c.args.self.now.hour ≡ 23 = omega (arith, c.date.ensures.civil.3, ap (λ (s : CivilHour). s.hour) c.self.view_is) in
    let next : IsNextHour c.args.self.now (midnight_of c.in-Ok.next) = next_midnight c.args.self.now c.date.result c.in-Ok.next c.date.ensures.civil last day c.in-Ok.ensures.value in
    rw c.midnight.ensures next

pub returns-in-Err-clause-none : goal.returns-in-Err-clause-none
returns-in-Err-clause-none c =
    let day : IsDayOf c.args.self.now c.date.result = (c.date.ensures.ymd.0, search rules, search rules) in
    let last : c.args.self.now.hour ≡ 23 = omega (arith, c.date.ensures.civil.3, ap (λ (s : CivilHour). s.hour) c.self.view_is) in
    (λ _. last_day_is c.args.self.now c.date.result last day (λ before. let both : false ≡ true = c.in-Err.ensures.succeeds.1 before in cc), λ _. refl)

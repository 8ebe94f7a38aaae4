-- A head is what its numbers say.
use Rattle.std.proofs.Common.{◌≡◌, Option, Some, None, refl, ap, arith}
use Rattle.std.specs.Prelude.{IfSome}
use Rattle.live_model.specs.declared.levels.Level.{Level}
use Rattle.live_model.specs.declared.levels.Level.TheVariants.{Base, Hour, Day, Month}
use Rattle.live_model.specs.Levels.{level_number}
use Rattle.stamp_core.specs.Hours.{CivilHour, IsCivilHour, number_of}
use Rattle.stamp_core.specs.declared.head.Head.{Head}
use Rattle.file_grammar.specs.Files.{HeadNumbers, head_numbers, hour_number}
use Rattle.file_grammar.proofs.HourNumbers.{day_few}

same_level : (a b : Level) → level_number a ≡ level_number b → a ≡ b
same_level Base Base e = refl
same_level Hour Hour e = refl
same_level Day Day e = refl
same_level Month Month e = refl
same_level Base Hour e = absurd cc
same_level Base Day e = absurd cc
same_level Base Month e = absurd cc
same_level Hour Base e = absurd cc
same_level Hour Day e = absurd cc
same_level Hour Month e = absurd cc
same_level Day Base e = absurd cc
same_level Day Hour e = absurd cc
same_level Day Month e = absurd cc
same_level Month Base e = absurd cc
same_level Month Hour e = absurd cc
same_level Month Day e = absurd cc

-- two hours of the calendar with one number are one
same_civil : (a b : CivilHour) → IsCivilHour a → IsCivilHour b → number_of a ≡ number_of b → a ≡ b
same_civil a b c d e =
    let days = day_few a c in
    let more = day_few b d in
    let month_a = c.1.1 in
    let month_b = d.1.1 in
    let hour_a = c.3 in
    let hour_b = d.3 in
    let year : a.year ≡ b.year = omega (arith, e, days, more, month_a, month_b, hour_a, hour_b) in
    let month : a.month ≡ b.month = omega (arith, e, days, more, month_a, month_b, hour_a, hour_b, year) in
    let day : a.day ≡ b.day = omega (arith, e, days, more, hour_a, hour_b, year, month) in
    let hour : a.hour ≡ b.hour = omega (arith, e, year, month, day) in
    λ i. record { year = year i; month = month i; day = day i; hour = hour i }

same_hour : (a b : Option CivilHour) → IfSome a IsCivilHour → IfSome b IsCivilHour → hour_number a ≡ hour_number b → a ≡ b
same_hour None None c d e = refl
same_hour (Some a) (Some b) c d e = ap (λ (h : CivilHour). Some h) (same_civil a b c d e)
same_hour None (Some b) c d e = let month = d.1.0 in absurd (omega (arith, e, month))
same_hour (Some a) None c d e = let month = c.1.0 in absurd (omega (arith, e, month))

-- two heads with the same numbers are one
pub same_head : (a b : Head) → IfSome a.first IsCivilHour × IfSome a.last IsCivilHour → IfSome b.first IsCivilHour × IfSome b.last IsCivilHour → head_numbers a ≡ head_numbers b → a ≡ b
same_head a b c d e =
    let level = same_level a.level b.level (ap (λ (n : HeadNumbers). n.level) e) in
    let first = same_hour a.first b.first c.0 d.0 (ap (λ (n : HeadNumbers). n.first) e) in
    let last = same_hour a.last b.last c.1 d.1 (ap (λ (n : HeadNumbers). n.last) e) in
    λ i. record { level = level i; first = first i; last = last i }

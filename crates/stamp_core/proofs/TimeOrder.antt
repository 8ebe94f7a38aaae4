-- The derived order is the order of the numbers.
use Rattle.std.proofs.Common.{◌≡◌, ◌↔◌, ℕ, ◌<◌, ◌≤◌, IsTrue, Some, Bool, sym, ap, subst, ◌∙◌, arith}
use Rattle.std.specs.Ordering.{nat_cmp, is_lt, is_some_and}
use Rattle.std.proofs.lemmas.Bool.Decides.{nat_tests}
use Rattle.stamp_core.specs.contracts.stamp.StampOrd as order
use Rattle.stamp_core.specs.contracts.stamp.StampPartialOrd as partial
use Rattle.stamp_core.specs.Hours.{CivilHour, IsCivilHour, number_of, IsEarlier}
use Rattle.stamp_core.proofs.Dates.{days_in_month_bound}

pub cmp-number : (a b : CivilHour) → IsCivilHour a → IsCivilHour b → order.TheImpl.ghosts.cmp a b ≡ nat_cmp (number_of a) (number_of b)
cmp-number a b ha hb =
    let da : a.day ≤ 31 = omega (arith, days_in_month_bound a.year a.month) in
    let db : b.day ≤ 31 = omega (arith, days_in_month_bound b.year b.month) in
    grind (arith, nat_tests)

-- and so are `<`, `<=`, `>` and `>=`
pub partial_cmp-number : (a b : CivilHour) → IsCivilHour a → IsCivilHour b → partial.TheImpl.ghosts.partial_cmp a b ≡ Some (nat_cmp (number_of a) (number_of b))
partial_cmp-number a b ha hb =
    let da : a.day ≤ 31 = omega (arith, days_in_month_bound a.year a.month) in
    let db : b.day ≤ 31 = omega (arith, days_in_month_bound b.year b.month) in
    grind (arith, nat_tests)

-- `<` on numbers, as an order answers it
pub is_lt-nat_cmp : (m n : ℕ) → IsTrue (is_lt (nat_cmp m n)) ↔ (m < n)
is_lt-nat_cmp m n = grind (arith, nat_tests)

pub lt-number : (a b : CivilHour) (r : Bool) → IsCivilHour a → IsCivilHour b → r ≡ is_some_and is_lt (partial.TheImpl.ghosts.partial_cmp a b) → IsTrue r ↔ (number_of a < number_of b)
lt-number a b r ha hb answer =
    let P : Bool → Type 0 = λ x. IsTrue x ↔ (number_of a < number_of b) in
    subst P (sym (answer ∙ ap (is_some_and is_lt) (partial_cmp-number a b ha hb))) (is_lt-nat_cmp _ _)

-- numbers rise exactly as time does
pub IsEarlier-number : (a b : CivilHour) → IsCivilHour a → IsCivilHour b → IsEarlier a b ↔ (number_of a < number_of b)
IsEarlier-number a b ha hb =
    let da : a.day ≤ 31 = omega (arith, days_in_month_bound a.year a.month) in
    let db : b.day ≤ 31 = omega (arith, days_in_month_bound b.year b.month) in
    grind arith

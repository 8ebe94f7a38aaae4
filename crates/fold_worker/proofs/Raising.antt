-- Counts that are raised again and again.
use Rattle.std.proofs.Common.{◌≡◌, ℕ, zero, suc, ◌+◌, ◌-◌, ◌^◌, ◌<◌, ◌≤◌, sym, ap, ◌∙◌, ◌⊎◌, inl, inr, arith}
use Rattle.std.proofs.Math.Nat.{min-eq_left, min-eq_right, min-le_left, min-le_right}
use Rattle.std.proofs.lemmas.Bool.{cases_lt}
use Rattle.std.specs.Fn.{iterate}
use Rattle.published_set.specs.Sites.{raised}

-- raised so often, and then so often
pub raised_both : (first more n : ℕ) → iterate raised more (iterate raised first n) ≡ iterate raised (first + more) n
raised_both zero more n = let same : more ≡ 0 + more = omega arith in ap (λ (k : ℕ). iterate raised k n) same
raised_both (suc first) more n =
    let same : suc (first + more) ≡ suc first + more = omega arith in
    raised_both first more (raised n) ∙ ap (λ (k : ℕ). iterate raised k n) same

-- a count below the last value is one more
pub raised_low : (n : ℕ) → n < 2 ^ 64 - 1 → raised n ≡ n + 1
raised_low n low = min-eq_left (omega (arith, low))

-- any other is the last value
pub raised_high : (n : ℕ) → 2 ^ 64 - 1 ≤ n → raised n ≡ 2 ^ 64 - 1
raised_high n high = min-eq_right (omega (arith, high))

-- a count is raised by one at most
pub raised_at_most : (n : ℕ) → raised n ≤ n + 1
raised_at_most n = min-le_left (n + 1) (2 ^ 64 - 1)

-- what is below the last value was raised by just so many
pub low_rise : (k n : ℕ) → iterate raised k n < 2 ^ 64 - 1 → n + k ≡ iterate raised k n
low_rise zero n low = omega arith
low_rise (suc k) n low = go (low_rise k (raised n) low) (cases_lt n (2 ^ 64 - 1))
  where
    go : raised n + k ≡ iterate raised k (raised n) → (n < 2 ^ 64 - 1) ⊎ (2 ^ 64 - 1 ≤ n) → n + suc k ≡ iterate raised k (raised n)
    go earlier (inl below) = omega (arith, raised_low n below, earlier)
    go earlier (inr above) = absurd (omega (arith, raised_high n above, earlier, low))

-- a count rises by no more than it was raised
pub rise_at_most : (k n : ℕ) → iterate raised k n ≤ n + k
rise_at_most zero n = omega arith
rise_at_most (suc k) n = omega (arith, rise_at_most k (raised n), raised_at_most n)

-- raised as often as was left up to the last value, a count is there
pub full_rise : (k n : ℕ) → n ≤ 2 ^ 64 - 1 → 2 ^ 64 - 1 ≤ n + k → iterate raised k n ≡ 2 ^ 64 - 1
full_rise zero n within enough = omega (arith, within, enough)
full_rise (suc k) n within enough = full_rise k (raised n) (min-le_right (n + 1) (2 ^ 64 - 1)) (go (cases_lt n (2 ^ 64 - 1)))
  where
    go : (n < 2 ^ 64 - 1) ⊎ (2 ^ 64 - 1 ≤ n) → 2 ^ 64 - 1 ≤ raised n + k
    go (inl below) = omega (arith, raised_low n below, enough)
    go (inr above) = omega (arith, raised_high n above)

-- raised as often as there are values, any count is at the last one
pub over_rise : (k n : ℕ) → 2 ^ 64 - 1 ≤ k → iterate raised k n ≡ 2 ^ 64 - 1
over_rise zero n many = absurd (omega (arith, many))
over_rise (suc k) n many = full_rise k (raised n) (min-le_right (n + 1) (2 ^ 64 - 1)) (go (cases_lt n (2 ^ 64 - 1)))
  where
    go : (n < 2 ^ 64 - 1) ⊎ (2 ^ 64 - 1 ≤ n) → 2 ^ 64 - 1 ≤ raised n + k
    go (inl below) = omega (arith, raised_low n below, many)
    go (inr above) = omega (arith, raised_high n above)

-- raised as often as a count tells that was raised from 0, a count is what it is when raised as often as that one was
pub told_rise : (told k n : ℕ) → told ≡ iterate raised k 0 → iterate raised told n ≡ iterate raised k n
told_rise told k n is = go (cases_lt told (2 ^ 64 - 1))
  where
    go : (told < 2 ^ 64 - 1) ⊎ (2 ^ 64 - 1 ≤ told) → iterate raised told n ≡ iterate raised k n
    go (inl below) =
        let low : iterate raised k 0 < 2 ^ 64 - 1 = omega (arith, is, below) in
        let same : told ≡ k = omega (arith, low_rise k 0 low, is) in
        ap (λ (m : ℕ). iterate raised m n) same
    go (inr above) = over_rise told n above ∙ sym (over_rise k n (omega (arith, is, above, rise_at_most k 0)))

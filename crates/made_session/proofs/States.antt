-- States after draws.
use Rattle.std.proofs.Common.{arith, ◌≡◌, ℕ, zero, suc, ◌+◌, ◌*◌, ◌∙◌, ap, refl}
use Rattle.made_session.specs.Draws.{next_state, state_after}

-- draws after draws are as many draws together
pub after_after : (s a b : ℕ) → state_after (state_after s a) b ≡ state_after s (a + b)
unfolding state_after
after_after s a zero = ap (state_after s) (omega arith)
after_after s a (suc b) =
    let e : suc (a + b) ≡ a + suc b = omega arith in
    ap next_state (after_after s a b) ∙ ap (state_after s) e

-- and one after these is one more
pub after_one : (s a b n : ℕ) → a + b ≡ n → state_after (state_after s a) b ≡ state_after s n
after_one s a b n e = after_after s a b ∙ ap (state_after s) e

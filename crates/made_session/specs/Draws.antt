-- Numbers drawn one after another: a linear congruential generator modulo 2 ^ 64, of whose states the upper 31 bits count.
use Rattle.std.specs.Prelude.{ℕ, zero, suc, ◌+◌, ◌*◌, ◌/◌, ◌%◌, ◌^◌}

-- the state after a draw
abbrev pub next_state : ℕ → ℕ
next_state s = (s * 6364136223846793005 + 1442695040888963407) % 2 ^ 64

-- the state after this many draws
unfoldable pub state_after : ℕ → ℕ → ℕ
state_after s zero = s
state_after s (suc n) = next_state (state_after s n)

-- the draw with this index, counted from 0, of a number below another
abbrev pub drawn : ℕ → ℕ → ℕ → ℕ
drawn s n below = (state_after s (n + 1) / 2 ^ 33) % below

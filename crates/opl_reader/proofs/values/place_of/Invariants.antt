use Rattle.std.proofs.Common.{◌≡◌, ℕ, ◌<◌, eqb, get_or, false}
use Rattle.opl_reader.proofs.values.place_of.Given as goal

abbrev pub invariant-loop-i : goal.invariant-loop-i
invariant-loop-i l = (k : ℕ) → k < l.i → eqb (get_or l.bytes k 0) l.c ≡ false

use Rattle.std.proofs.Common.{◌≡◌, ◌≤◌, ◌+◌, length, take, eqb}
use Rattle.std.specs.List.{suffix_len}
use Rattle.text_pieces.proofs.writing.without_zeros.Given as goal

abbrev pub invariant-loop-kept : goal.invariant-loop-kept
invariant-loop-kept l = record {
  within : l.kept ≤ length l.digits;
  zeros : l.kept + suffix_len (λ d. eqb d 48) l.digits ≡ length l.digits + suffix_len (λ d. eqb d 48) (take l.kept l.digits);
}

abbrev pub decreases-loop-kept : goal.decreases-loop-kept
decreases-loop-kept l = l.kept

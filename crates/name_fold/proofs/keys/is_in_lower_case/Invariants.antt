use Rattle.std.proofs.Common.{◌≡◌, map, length}
use Rattle.std.specs.Char.{to_ascii_lowercase}
use Rattle.std.specs.Str.{bytes_eq}
use Rattle.name_fold.proofs.keys.is_in_lower_case.Given as goal

-- what is left of both decides
abbrev pub invariant-loop-rest : goal.invariant-loop-rest
invariant-loop-rest l = record {
  same : bytes_eq l.left (map to_ascii_lowercase l.rest) ≡ bytes_eq l.text (map to_ascii_lowercase l.whole);
}

abbrev pub decreases-loop-rest : goal.decreases-loop-rest
decreases-loop-rest l = length l.rest

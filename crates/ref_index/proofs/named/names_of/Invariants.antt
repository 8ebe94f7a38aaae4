use Rattle.std.proofs.Common.{◌≡◌, map, take}
use Rattle.ref_index.specs.Pairs.{name_of}
use Rattle.ref_index.proofs.named.names_of.Given as goal

abbrev pub invariant-loop-line : goal.invariant-loop-line
invariant-loop-line l = l.names.items ≡ map name_of (take l.line-index l.lines)

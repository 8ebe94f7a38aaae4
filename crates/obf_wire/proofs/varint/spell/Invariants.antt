use Rattle.std.proofs.Common.{◌≡◌, ◌-◌, ◌<◌, ◌≤◌, ◌++◌, take}
use Rattle.obf_wire.specs.Varint.{varint, groups}
use Rattle.obf_wire.proofs.Spellings.{limit}
use Rattle.obf_wire.proofs.varint.spell.Given as goal

abbrev pub invariant-loop-left : goal.invariant-loop-left
invariant-loop-left l = record {
  few : l.len ≤ 9;
  low : l.left < limit (9 - l.len);
  same : take l.len l.buffer ++ groups (9 - l.len) l.left ≡ varint l.v;
}

abbrev pub decreases-loop-left : goal.decreases-loop-left
decreases-loop-left l = l.left

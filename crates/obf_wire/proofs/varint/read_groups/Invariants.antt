use Rattle.std.proofs.Common.{◌≡◌, ◌-◌, ◌^◌, ◌<◌, ◌≤◌, drop}
use Rattle.obf_wire.specs.Varint.{varint_in, groups_in}
use Rattle.obf_wire.proofs.Groups.{above}
use Rattle.obf_wire.proofs.varint.read_groups.Given as goal

abbrev pub invariant-loop-before : goal.invariant-loop-before
invariant-loop-before l = record {
  few : l.before ≤ 9;
  scale : l.weight ≡ 128 ^ l.before;
  low : l.value < l.weight;
  same : varint_in l.bytes ≡ above l.value l.weight l.before (groups_in (9 - l.before) (drop l.before l.bytes));
}

use Rattle.std.proofs.Common.{◌≤◌, ◌-◌, ℕ, List, []}
use Rattle.obf_wire.specs.Fields.{part_of}
use Rattle.obf_wire.specs.Windows.{range_of}
use Rattle.boxed_exact.specs.Sides.{beside}
use Rattle.poi_section.specs.declared.kept.GroupKept.{GroupKept}
use Rattle.poi_section.specs.Groups.{GroupsLeft}
use Rattle.poi_section.proofs.one_pass.see_groups.Given as goal

-- good groups from here on make good groups from the beginning on
abbrev pub invariant-loop-at : goal.invariant-loop-at
invariant-loop-at l = record {
  suffices : (all : List GroupKept) (total : ℕ) → GroupsLeft (beside l.around) (part_of l.window.bytes.now l.at l.window.to) l.before l.groups.items all l.records total → GroupsLeft (beside l.around) (range_of l.window) [] [] all 0 total;
  inside : l.at ≤ l.window.to;
}

abbrev pub decreases-loop-at : goal.decreases-loop-at
decreases-loop-at l = l.window.to - l.at

use Rattle.std.proofs.Common.{◌≡◌, ◌≤◌, ◌+◌, ◌*◌, ◌/◌, ◌%◌, map}
use Rattle.std.specs.Arc.{arc_value}
use Rattle.std.specs.List.{AllByRecursion}
use Rattle.stamp_core.specs.Hours.{IsCivilHour}
use Rattle.script_text.specs.Scripts.{IsStep}
use Rattle.made_session.specs.Draws.{state_after}
use Rattle.made_session.specs.Loads.{AreGood, IsDoneBefore, made_changes}
use Rattle.made_session.proofs.load.script.Given as goal

-- what is done before the stamp, whose hour and year the number of hours tells
abbrev pub invariant-loop-index : goal.invariant-loop-index
invariant-loop-index l = record {
  done : IsDoneBefore l.initial.draws l.stamp l.index l.script.steps.items;
  changes : map arc_value l.script.changes.items ≡ made_changes l.initial.draws l.index;
  good_steps : AllByRecursion IsStep l.script.steps.items;
  good_changes : AreGood (map arc_value l.script.changes.items);
  after : l.draws ≡ state_after l.initial.draws (32 * l.index);
  civil : IsCivilHour l.stamp;
  hour : l.stamp.hour ≡ l.index % 24;
  year : l.stamp.year ≤ 2024 + l.index / 24;
}

use Rattle.std.proofs.Common.{◌≡◌, ◌+◌, ◌*◌, ◌++◌, length, filter, flat_map}
use Rattle.std.specs.List.{AllByRecursion}
use Rattle.live_model.specs.Fits.{FitsRules}
use Rattle.live_model.specs.Maps.{differs}
use Rattle.live_model.specs.Objects.{IsGood}
use Rattle.live_model.specs.Records.{records}
use Rattle.change_diff.proofs.comparing.changed_among.Given as goal

-- what was found so far with what is found of the objects that are left, that its records fit where the objects are good, and eight
-- steps for each so far
abbrev pub invariant-loop-id : goal.invariant-loop-id
invariant-loop-id g l = record {
  marks : l.found.marks.items ++ filter (differs l.rules l.before l.after) l.rest ≡ filter (differs l.rules l.before l.after) l.ids;
  records : l.found.records.items ++ flat_map (records l.rules l.after) (filter (differs l.rules l.before l.after) l.rest) ≡ flat_map (records l.rules l.after) (filter (differs l.rules l.before l.after) l.ids);
  fit : AllByRecursion IsGood l.after → FitsRules l.rules l.found.records.items;
  counted : l.steps + 8 * length l.rest ≡ l.initial.steps + 8 * length l.ids;
}

abbrev pub decreases-loop-id : goal.decreases-loop-id
decreases-loop-id g l = length l.rest

use Rattle.std.proofs.Common.{◌≡◌, take}
use Rattle.tag_rules.specs.Matching.{matching_from}
use Rattle.tag_rules.proofs.table.Rules.matching.Given as goal

abbrev pub invariant-loop-tag : goal.invariant-loop-tag
invariant-loop-tag l = l.first ≡ matching_from l.self l.shape (take l.tag-index l.tags) l.from

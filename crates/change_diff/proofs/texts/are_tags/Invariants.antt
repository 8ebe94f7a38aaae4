use Rattle.std.proofs.Common.{length}
use Rattle.std.specs.Prelude.{IsUtf8}
use Rattle.std.specs.List.{AllByRecursion}
use Rattle.change_diff.proofs.texts.are_tags.Given as goal

-- where the tags that are left are UTF-8, all are
abbrev pub invariant-loop-tag : goal.invariant-loop-tag
invariant-loop-tag l = AllByRecursion (λ t. IsUtf8 t.key × IsUtf8 t.value) l.rest → AllByRecursion (λ t. IsUtf8 t.key × IsUtf8 t.value) l.tags

abbrev pub decreases-loop-tag : goal.decreases-loop-tag
decreases-loop-tag l = length l.rest

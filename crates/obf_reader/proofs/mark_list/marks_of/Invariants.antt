use Rattle.std.proofs.Common.{◌≡◌, ◌<◌, ◌^◌, ◌++◌, length, true}
use Rattle.std.specs.List.{list_all}
use Rattle.file_grammar.specs.BoxRules.{is_ordinal}
use Rattle.file_grammar.specs.Files.{sums_from}
use Rattle.obf_reader.proofs.mark_list.marks_of.Given as goal

abbrev pub invariant-loop-rest : goal.invariant-loop-rest
invariant-loop-rest l = record {
  done : l.marks.items ++ sums_from l.before l.rest ≡ sums_from 0 l.steps;
  all : list_all is_ordinal (sums_from l.before l.rest) ≡ true;
  small : l.before < 2 ^ 52;
}

abbrev pub decreases-loop-rest : goal.decreases-loop-rest
decreases-loop-rest l = length l.rest

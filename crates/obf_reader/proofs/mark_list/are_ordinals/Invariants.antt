use Rattle.std.proofs.Common.{◌≡◌, ◌<◌, ◌^◌, length}
use Rattle.std.specs.List.{list_all}
use Rattle.file_grammar.specs.BoxRules.{is_ordinal}
use Rattle.file_grammar.specs.Files.{sums_from}
use Rattle.obf_reader.proofs.mark_list.are_ordinals.Given as goal

abbrev pub invariant-loop-rest : goal.invariant-loop-rest
invariant-loop-rest l = record {
  rest : list_all is_ordinal (sums_from l.before l.rest) ≡ list_all is_ordinal (sums_from 0 l.steps);
  small : l.before < 2 ^ 52;
}

abbrev pub decreases-loop-rest : goal.decreases-loop-rest
decreases-loop-rest l = length l.rest

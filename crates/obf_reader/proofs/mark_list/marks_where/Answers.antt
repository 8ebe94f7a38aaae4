use Rattle.std.proofs.Common.{ℕ, List, sym, subst}
use Rattle.std.specs.Ordering.{nat_cmp}
use Rattle.ordered_lists.specs.Ordered.{IsRisingBy}
use Rattle.file_grammar.specs.Files.{sums_from}
use Rattle.obf_reader.proofs.MarkLists.{if_ok, rising_where}
use Rattle.obf_reader.proofs.mark_list.marks_where.Goals as goal

pub returns-then-good-clause-rising : goal.returns-then-good-clause-rising
returns-then-good-clause-rising c =
    if_ok c.marks_of.result
    (λ marks e. subst (λ (ns : List ℕ). IsRisingBy nat_cmp (λ n. n) ns) (sym e) (rising_where c.args.good (sums_from 0 c.args.steps.now) c.requires c.if-good.true)) c.marks_of.ensures

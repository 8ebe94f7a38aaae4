use Rattle.std.proofs.Common.{arith}
use Rattle.std.proofs.lemmas.Result.{err_from_is_err_and}
use Rattle.outside.proofs.WholeLemmas.{none_yet, one_more, the_last, explains}
use Rattle.outside.proofs.whole.read_whole.Goals as goal

pub loop-bytes-init : goal.loop-bytes-init
loop-bytes-init g c = record {
  so_far = rw c.new-bytes.ensures.items (none_yet _ _ _);
  room = omega (arith, c.in_ok-buf.ensures);
}

pub loop-bytes-preserved : goal.loop-bytes-preserved
loop-bytes-preserved g c = record {
  so_far = one_more _ _ _ _ _ _ _ _ c.if-branch-gt0.true c.loop-bytes.invariant.so_far c.in_ok-read_turn.ensures.taken c.in_ok-read_turn.ensures.only_reads c.in_ok-read_turn.ensures.missing;
  room = c.loop-bytes.invariant.room;
}

pub returns-clause-whole : goal.returns-clause-whole
returns-clause-whole g c = the_last _ _ _ _ _ _ _ _ (omega arith) c.loop-bytes.invariant.so_far c.in_ok-read_turn.ensures.taken

pub returns-in_err-read_turn-clause-explained : goal.returns-in_err-read_turn-clause-explained
returns-in_err-read_turn-clause-explained g c =
    let p = err_from_is_err_and c.from_residual-in_err-read_turn.result c.from_residual-in_err-read_turn.ensures.1 in
    rw (p.1, p.2) (explains _ _ _ _ _ _ _ c.loop-bytes.invariant.so_far c.in_err-read_turn.ensures.stopped)

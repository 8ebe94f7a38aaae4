use Rattle.std.proofs.lemmas.Result.{err_from_is_err_and}
use Rattle.outside.proofs.MemoryLemmas.{replaced, others_stay}
use Rattle.outside.proofs.mem_files.replace.Goals as goal

pub returns-clause-ok : goal.returns-clause-ok
returns-clause-ok c = rw (c.in_ok-push.ensures.items, c.take_away.ensures, c.in_ok-copied.ensures, c.from_vec.ensures, c.in_ok-from_slice.ensures.items) (replaced _ _ _)

pub returns-in_err-push-clause-err : goal.returns-in_err-push-clause-err
returns-in_err-push-clause-err c =
    let p = err_from_is_err_and c.from_residual-in_err-push.result c.from_residual-in_err-push.ensures.1 in
    rw (p.1, c.in_err-push.ensures.items, c.take_away.ensures) (others_stay _ _)

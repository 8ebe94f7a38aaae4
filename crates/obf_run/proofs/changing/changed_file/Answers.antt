use Rattle.std.proofs.lemmas.Result.{err_from_is_err_and}
use Rattle.run_model.specs.Endings.{ending, name_bytes}
use Rattle.obf_run.specs.Finishing.{outcome_of}
use Rattle.obf_run.proofs.Changes.{change_works, last_ends, short_ends}
use Rattle.obf_run.proofs.changing.changed_file.Goals as goal

pub returns-in_err-lines-clause-ends : goal.returns-in_err-lines-clause-ends
returns-in_err-lines-clause-ends g c = λ output.
    let p = err_from_is_err_and c.from_residual-in_err-lines.result c.from_residual-in_err-lines.ensures.1 in
    rw (p.1, p.2) (last_ends _ _ _ _ _ (name_bytes c.args.rules) (name_bytes c.args.base) c.args.hour output c.args.earlier.now (name_bytes c.args.last) c.in_ok-rules.rules
    c.in_ok-store.store.entities c.make_changes.new.store.entities c.in_ok-rules.ensures.rules c.in_ok-store.ensures.store c.in_ok-make_changes.ensures.made (ending c.in_err-lines.field-0.0)
    c.in_err-lines.ensures.ends c.in_err-lines.ensures.only_reads)

pub returns-in_err-built-clause-ends : goal.returns-in_err-built-clause-ends
returns-in_err-built-clause-ends g c = λ output.
    let p = err_from_is_err_and c.from_residual-in_err-built.result c.from_residual-in_err-built.ensures.1 in
    rw (p.1, p.2) (short_ends _ _ _ _ _ (name_bytes c.args.rules) (name_bytes c.args.base) c.args.hour output c.args.earlier.now (name_bytes c.args.last) c.in_ok-rules.rules
    c.in_ok-store.store.entities c.make_changes.new.store.entities c.in_ok-rules.ensures.rules c.in_ok-store.ensures.store c.in_ok-make_changes.ensures.made c.in_ok-lines.lines.items
    c.in_ok-lines.ensures.lines)

pub returns-clause-works : goal.returns-clause-works
returns-clause-works g c output =
    change_works _ _ _ _ _ (name_bytes c.args.rules) (name_bytes c.args.base) c.args.hour output c.args.earlier.now (name_bytes c.args.last) c.in_ok-rules.rules c.in_ok-store.store.entities
    c.make_changes.new.store.entities c.in_ok-rules.ensures.rules c.in_ok-store.ensures.store c.in_ok-make_changes.ensures.made c.in_ok-lines.lines.items c.deref.result.now
    (outcome_of c.in_ok-built.built) c.in_ok-lines.ensures.lines c.deref.ensures.value c.in_ok-built.ensures

use Rattle.std.proofs.Common.{sym, ap, ◌∙◌}
use Rattle.file_order.specs.Folding.{not_fold}
use Rattle.fold_merge.proofs.Walking.{placed_held}
use Rattle.fold_merge.proofs.folding.fold_borrowed.Goals as goal

pub returns-in-Err-clause-refused : goal.returns-in-Err-clause-refused
returns-in-Err-clause-refused c = sym (ap (not_fold c.args.level) (placed_held c.args.images.now)) ∙ c.in-Err.ensures

pub packed_fold-requires-clause-follow : goal.packed_fold-requires-clause-follow
packed_fold-requires-clause-follow c = sym (ap (not_fold c.args.level) (placed_held c.args.images.now)) ∙ c.in_default.ensures

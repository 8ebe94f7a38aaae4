use Rattle.std.proofs.Common.{◌∙◌, ◌++◌, ap, refl, sym}
use Rattle.std.proofs.lemmas.List.{append-nil}
use Rattle.change_diff.proofs.Untagged.{no_records}
use Rattle.change_diff.proofs.base.put_object.Goals as goal

pub returns-then-is_empty-clause-records : goal.returns-then-is_empty-clause-records
returns-then-is_empty-clause-records g c =
    let before = c.args.records.now.items in
    sym (ap (λ rs. before ++ rs) (no_records c.args.rules.now c.args.look.now c.args.entity.now c.requires (c.if-is_empty.ensures.0 refl)) ∙ append-nil before)

use Rattle.std.proofs.Common.{◌≡◌, List, ◌∙◌, ap, subst, IfOk}
use Rattle.live_model.specs.declared.records.Rec.{Rec}
use Rattle.live_model.specs.Maps.{in_order}
use Rattle.boxed_write.specs.Classes.{held}
use Rattle.fold_merge.proofs.Collected.{collected_fold}
use Rattle.fold_merge.proofs.records.later_records.Goals as goal

pub returns : goal.returns
returns c =
    subst (λ (rs : List Rec). IfOk c.sorted.result (λ sorted. sorted.items ≡ rs)) (ap in_order c.in_ok-records.ensures ∙ collected_fold (held c.args.images.now) c.requires) c.sorted.ensures

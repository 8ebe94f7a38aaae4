use Rattle.std.proofs.Common.{◌≡◌, List, sym, subst, ◌∙◌}
use Rattle.std.specs.Prelude.{Contains}
use Rattle.std.specs.List.{AllByRecursion}
use Rattle.boxed_write.specs.Classes.{held}
use Rattle.live_model.specs.declared.records.Rec.{Rec}
use Rattle.live_model.specs.Ids.{Id}
use Rattle.live_model.specs.Maps.{folded}
use Rattle.live_model.specs.Records.{record_id}
use Rattle.fold_merge.specs.Folds.{overlays_of}
use Rattle.fold_merge.proofs.folding.packed_fold.Goals as goal

pub pack-requires-clause-marked : goal.pack-requires-clause-marked
pack-requires-clause-marked c =
    let marks : List Id = (folded (overlays_of (held c.args.images.now))).marks in
    let marks_are = c.deref.ensures.value ∙ c.in_ok-marks.ensures in
    let records_are = c.deref-2.ensures.value ∙ c.in_ok-records.ensures in λ above.
    subst (λ (ms : List Id). AllByRecursion (λ r. Contains ms (record_id r)) c.deref-2.result.now) (sym marks_are)
    (subst (λ (rs : List Rec). AllByRecursion (λ r. Contains marks (record_id r)) rs) (sym records_are) c.can_pack.ensures.marked)

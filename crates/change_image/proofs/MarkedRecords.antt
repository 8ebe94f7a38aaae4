-- Records of marked objects, under other names of the same lists.
use Rattle.std.proofs.Common.{◌≡◌, List, sym, subst}
use Rattle.std.specs.List.{AllByRecursion, Contains}
use Rattle.live_model.specs.Ids.{Id}
use Rattle.live_model.specs.declared.records.Rec.{Rec}
use Rattle.live_model.specs.Records.{record_id}

-- what holds of some marks and records holds of those that are equal to them
pub marked_again : (marks others : List Id) (records rest : List Rec) → others ≡ marks → rest ≡ records
    → AllByRecursion (λ r. Contains marks (record_id r)) records → AllByRecursion (λ r. Contains others (record_id r)) rest
marked_again marks others records rest same equal marked =
    subst (λ (ms : List Id). AllByRecursion (λ r. Contains ms (record_id r)) rest) (sym same)
    (subst (λ (rs : List Rec). AllByRecursion (λ r. Contains marks (record_id r)) rs) (sym equal) marked)

-- What a writer is given are the parts of a file.
use Rattle.std.proofs.Common.{◌≡◌, ◌≢◌, ◌≤◌, List, [], length, map, refl, ap}
use Rattle.std.specs.Prelude.{Contains, IsTrue}
use Rattle.std.specs.List.{AllByRecursion}
use Rattle.std.specs.List.Sorted.{IsSorted}
use Rattle.std.specs.Ordering.{nat_cmp}
use Rattle.live_model.specs.declared.levels.Level.{Level}
use Rattle.live_model.specs.declared.levels.Level.TheVariants.{Base, Hour, Day, Month}
use Rattle.live_model.specs.declared.records.Rec.{Rec}
use Rattle.live_model.specs.declared.rules.Rule.{Rule}
use Rattle.live_model.specs.Fits.{FitsRules}
use Rattle.live_model.specs.Ids.{Id, IsId, ordinal}
use Rattle.live_model.specs.Levels.{level_number}
use Rattle.ordered_lists.specs.Ordered.{IsRisingBy}
use Rattle.live_model.specs.Records.{record_cmp, record_id}
use Rattle.live_model.specs.Rules.{IsRule}
use Rattle.stamp_core.specs.declared.head.Head.{Head}
use Rattle.file_grammar.specs.Files.{head_numbers, is_head}
use Rattle.boxed_write.proofs.Sorting.{all_more}
use Rattle.obf_writer.specs.PackedFile.{AreParts}
use Rattle.obf_writer.proofs.MarkSums.{contains_image, ordinals_of_ids, rising_image}

base_is : (level : Level) → level_number level ≡ 0 → level ≡ Base
base_is Base e = refl
base_is Hour e = absurd cc
base_is Day e = absurd cc
base_is Month e = absurd cc

pub given_parts : (head : Head) (rules : List Rule) (marks : List Id) (records : List Rec) → IsTrue (is_head (head_numbers head)) → AllByRecursion IsRule rules × (length rules ≤ 100000)
    → IsRisingBy nat_cmp ordinal marks → AllByRecursion IsId marks → (head.level ≡ Base → marks ≡ []) → IsSorted record_cmp records → FitsRules rules records
    → (head.level ≢ Base → AllByRecursion (λ r. Contains marks (record_id r)) records) → AreParts (head_numbers head) rules (map ordinal marks) records
given_parts head rules marks records good spelled rise ids base sorted fit marked = record {
  good = good;
  spelled = spelled;
  rise = rising_image ordinal marks rise;
  ordinals = ordinals_of_ids marks ids;
  base = λ e. ap (map ordinal) (base (base_is head.level e));
  sorted = sorted;
  fit = fit;
  marked = λ above.
      all_more (λ (r : Rec). Contains marks (record_id r)) (λ (r : Rec). Contains (map ordinal marks) (ordinal (record_id r))) records
      (λ r c. contains_image ordinal marks (record_id r) c) (marked (λ e. above (ap level_number e)));
}

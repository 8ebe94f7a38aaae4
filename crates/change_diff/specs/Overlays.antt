-- What lines change in the map of a store.
use Rattle.std.specs.Prelude.{◌≡◌, ℕ, List, Contains}
use Rattle.std.specs.List.{AllByRecursion}
use Rattle.std.specs.List.Sorted.{IsSorted}
use Rattle.std.specs.Ordering.{nat_cmp}
use Rattle.ordered_lists.specs.Ordered.{IsRisingBy}
use Rattle.live_model.specs.declared.objects.Entity.{Entity}
use Rattle.live_model.specs.declared.objects.Line.{Line}
use Rattle.live_model.specs.declared.records.Rec.{Rec}
use Rattle.live_model.specs.declared.rules.Rule.{Rule}
use Rattle.live_model.specs.Fits.{FitsRules}
use Rattle.live_model.specs.Ids.{Id, ordinal}
use Rattle.live_model.specs.Maps.{overlay}
use Rattle.live_model.specs.Objects.{IsGoodLine}
use Rattle.live_model.specs.Records.{record_cmp, record_id}
use Rattle.live_model.specs.Stores.{IsStore}
use Rattle.ref_index.specs.Indexes.{Indexes}

-- lines that may change a store: both are good, and the index is that of the store
pub record IsChange (store : List Entity) (index : List (ℕ × List Id)) (lines : List Line) : Type 0 where
  pub good : IsStore store
  pub indexed : Indexes index store
  pub good_lines : AllByRecursion IsGoodLine lines

-- the overlay of the lines has these marks and these records
pub record IsOverlayOf (rules : List Rule) (store : List Entity) (lines : List Line) (ids : List Id) (recs : List Rec) : Type 0 where
  pub marks : ids ≡ (overlay rules store lines).marks
  pub records : recs ≡ (overlay rules store lines).records

-- marks and records can be written as they are: marks rise strictly, and records stand in order, fit the rules, and are of marked
-- objects alone
pub record CanBeWritten (rules : List Rule) (ids : List Id) (recs : List Rec) : Type 0 where
  pub rising : IsRisingBy nat_cmp ordinal ids
  pub sorted : IsSorted record_cmp recs
  pub fit : FitsRules rules recs
  pub marked : AllByRecursion (λ r. Contains ids (record_id r)) recs

-- What is to hold of maps, overlays, folds and the order of records, whatever the rules are.
use Rattle.std.specs.Prelude.{◌≡◌, List, [], ◌∷◌, false, map, flat_map, IsTrue}
use Rattle.std.specs.List.{AllByRecursion}
use Rattle.std.specs.Ordering.{nat_cmp}
use Rattle.std.specs.declared.cmp.Ordering.TheVariants.{Equal}
use Rattle.live_model.specs.declared.objects.Entity.{Entity}
use Rattle.live_model.specs.declared.objects.Line.{Line}
use Rattle.live_model.specs.declared.rules.Rule.{Rule}
use Rattle.live_model.specs.declared.records.Rec.{Rec}
use Rattle.live_model.specs.Ids.{Id, IsId, ordinal}
use Rattle.live_model.specs.Objects.{IsGoodLine}
use Rattle.ordered_lists.specs.Ordered.{IsRisingBy}
use Rattle.live_model.specs.Stores.{IsStore, apply}
use Rattle.live_model.specs.Closures.{is_touched}
use Rattle.live_model.specs.Records.{records, record_id, record_cmp}
use Rattle.live_model.specs.Maps.{map_of, published, in_order, Overlay, is_mark, overlay, over, laid, folded}

-- no record comes before the one in front of it
abbrev pub AreInOrder : List Rec → Type 0
AreInOrder records = in_order records ≡ records

-- the records are of marked objects alone
abbrev pub MarksItsRecords : Overlay → Type 0
MarksItsRecords o = AllByRecursion (λ r. IsTrue (is_mark o (record_id r))) o.records

-- marks rise strictly, and the records are in order and of marked objects alone
pub record IsOverlay (o : Overlay) : Type 0 where
  pub ids : AllByRecursion IsId o.marks
  pub rising : IsRisingBy nat_cmp ordinal o.marks
  pub ordered : AreInOrder o.records
  pub marked : MarksItsRecords o

-- the records of an object that the lines do not touch stay
abbrev pub UntouchedLaw : Type 0
UntouchedLaw = (rules : List Rule) (store : List Entity) (lines : List Line) (id : Id) → IsStore store → AllByRecursion IsGoodLine lines → IsId id
    → is_touched store lines id ≡ false → records rules (apply store lines) id ≡ records rules store id

-- the map of a store is in order
abbrev pub OrderLaw : Type 0
OrderLaw = (rules : List Rule) (store : List Entity) → IsStore store → AreInOrder (map_of rules store)

-- the map under the overlay of a change is the map after the change
abbrev pub OverlayLaw : Type 0
OverlayLaw = (rules : List Rule) (store : List Entity) (lines : List Line) → IsStore store → AllByRecursion IsGoodLine lines
    → IsOverlay (overlay rules store lines) × (over (map_of rules store) (overlay rules store lines) ≡ map_of rules (apply store lines))

-- the overlay of each publication over the store before it
abbrev pub overlays : List Rule → List Entity → List (List Line) → List Overlay
overlays rules store [] = []
overlays rules store (lines ∷ history) = overlay rules store lines ∷ overlays rules (apply store lines) history

-- the map under the overlays of a history is the map after the history
abbrev pub HistoryLaw : Type 0
HistoryLaw = (rules : List Rule) (store : List Entity) (history : List (List Line)) → IsStore store → AllByRecursion (AllByRecursion IsGoodLine) history
    → laid (map_of rules store) (overlays rules store history) ≡ map_of rules (published store history)

-- one fold in place of one or more overlays changes no map
abbrev pub FoldedLaw : Type 0
FoldedLaw = (records : List Rec) (o : Overlay) (os : List Overlay) → AllByRecursion MarksItsRecords (o ∷ os)
    → over records (folded (o ∷ os)) ≡ laid records (o ∷ os)

-- the fold of overlays is an overlay
abbrev pub FoldIsOverlayLaw : Type 0
FoldIsOverlayLaw = (os : List Overlay) → AllByRecursion IsOverlay os → IsOverlay (folded os)

-- a fold of the folds of consecutive parts is the fold of the whole
abbrev pub FoldsLaw : Type 0
FoldsLaw = (parts : List (List Overlay)) → AllByRecursion (AllByRecursion IsOverlay) parts
    → folded (map folded parts) ≡ folded (flat_map (λ part. part) parts)

-- records that come neither before nor behind each other are the same record
abbrev pub SameRecordLaw : Type 0
SameRecordLaw = (a b : Rec) → IsId (record_id a) → IsId (record_id b) → record_cmp a b ≡ Equal → a ≡ b

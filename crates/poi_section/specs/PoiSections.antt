-- Groups of points of interest as they are read.
use Rattle.std.specs.Prelude.{◌≤◌, ℕ, List, length, slice_range, IsUtf8}
use Rattle.std.specs.List.{AllByRecursion}
use Rattle.live_model.specs.declared.records.PoiRec.{PoiRec}
use Rattle.obf_wire.specs.Fields.{Window, IsWindow, part_of}
use Rattle.file_grammar.specs.declared.parts.Boxed.TheVariants.{Poi}
use Rattle.file_grammar.specs.BoxRules.{Beside}
use Rattle.file_grammar.specs.PoiRules.{Group, poi_boxing, poi_read}
use Rattle.boxed_read.specs.Meeting.{InBoxes, in_boxes}
use Rattle.boxed_read.specs.Records.{records_of}
use Rattle.boxed_read.specs.Sound.{IsChecked}
use Rattle.poi_section.specs.declared.kept.GroupKept.{GroupKept}
use Rattle.poi_section.specs.declared.kept.PoisKept.{PoisKept}
use Rattle.poi_section.specs.Groups.{ArePoisKept}

-- a group as it is read: its category, and its records in boxes
pub record GroupRead : Type 0 where
  pub category : List ℕ
  pub section : InBoxes PoiRec

abbrev pub group_read : Group → GroupRead
group_read group = record { category = group.category.value; section = in_boxes (poi_read group.category.value) group.section }

-- the category of a group where it stands
abbrev pub category_in : List ℕ → GroupKept → List ℕ
category_in bytes kept = slice_range bytes kept.category.from kept.category.to

-- its records in boxes
abbrev pub section_kept : List ℕ → GroupKept → InBoxes PoiRec
section_kept bytes kept = record { blocks = records_of Poi (poi_read (category_in bytes kept)) bytes kept.kept.blocks.items; boxes = kept.kept.tree }

-- and the group
abbrev pub group_kept : List ℕ → GroupKept → GroupRead
group_kept bytes kept = record { category = category_in bytes kept; section = section_kept bytes kept }

-- a check found that every rule holds of the group that stands so
pub record HoldsGroup (bytes : List ℕ) (kept : GroupKept) : Type 0 where
  pub inside : IsWindow (part_of bytes kept.category.from kept.category.to)
  pub utf8 : IsUtf8 (slice_range bytes kept.category.from kept.category.to)
  pub within : IsWindow (part_of bytes kept.records.from kept.records.to)
  pub checked : IsChecked Poi poi_boxing (part_of bytes kept.records.from kept.records.to) kept.kept

-- of each of these groups
abbrev pub HoldGroups : List ℕ → List GroupKept → Type 0
HoldGroups bytes kept = AllByRecursion (HoldsGroup bytes) kept

-- a check found that every rule holds of the groups in a window, and left this of them
pub record ArePoisChecked (w : Window) (kept : PoisKept) : Type 0 where
  pub beside : Beside
  pub few : length beside.rules ≤ 100000
  pub are : ArePoisKept beside w kept

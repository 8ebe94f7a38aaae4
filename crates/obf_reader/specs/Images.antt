-- Images of map files.
use Rattle.std.specs.Prelude.{◌≡◌, ℕ, List, length, true, Some, None, Ok}
use Rattle.std.specs.List.{list_all}
use Rattle.std.specs.Ordering.{nat_cmp}
use Rattle.ordered_lists.specs.Ordered.{IsRisingBy}
use Rattle.live_model.specs.declared.records.Rec.{Rec}
use Rattle.live_model.specs.declared.rules.Rule.{Rule}
use Rattle.stamp_core.specs.declared.head.Head.{Head}
use Rattle.obf_wire.specs.Fields.{Window}
use Rattle.file_grammar.specs.declared.parts.Boxed.TheVariants.{Map}
use Rattle.file_grammar.specs.declared.parts.Part.TheVariants.{Boxes, Pois, Routing}
use Rattle.file_grammar.specs.declared.parts.Version.{Version}
use Rattle.file_grammar.specs.BoxRules.{is_ordinal}
use Rattle.file_grammar.specs.Files.{FileParts, IsFile, beside, file_break, file_in, head_numbers, rules_in, section_records, version_of}
use Rattle.file_grammar.specs.Messages.{Fields}
use Rattle.file_grammar.specs.PoiRules.{Group, groups_in}
use Rattle.file_grammar.specs.RoadRules.{routing_in}
use Rattle.file_grammar.specs.Sections.{Section, section_in}
use Rattle.boxed_read.specs.Records.{fields_at}
use Rattle.obf_reader.specs.declared.sections.KeptSections.{KeptSections}
use Rattle.obf_reader.specs.declared.spans.Sections.{Sections}
use Rattle.obf_reader.specs.Heads.{IsHeadOf}
use Rattle.obf_reader.specs.Kept.{AreKept}
use Rattle.obf_reader.specs.Spread.{AreInBytes, AreSectionsOf, read_file, window_of}

-- a file as its reader keeps it: marks are ordinals, the sections of records are where they stand and what their check left, and
-- so many records it has
pub record Seen : Type 0 where
  pub bytes : List ℕ
  pub version : Version
  pub head : Head
  pub rules : List Rule
  pub marks : List ℕ
  pub sections : Sections
  pub kept : KeptSections
  pub records : ℕ

-- the part of the bytes where the section of map records stands
abbrev pub map_window : Seen → Window
map_window image = window_of image.bytes image.sections.map

-- those of addresses, of points of interest, and of roads and restrictions
abbrev pub addresses_window : Seen → Window
addresses_window image = window_of image.bytes image.sections.addresses

abbrev pub pois_window : Seen → Window
pois_window image = window_of image.bytes image.sections.pois

abbrev pub routing_window : Seen → Window
routing_window image = window_of image.bytes image.sections.roads

-- the sections of map records, of roads and of restrictions, and the groups of points of interest, as they are read
abbrev pub maps_of : Seen → Section
maps_of image = section_in (fields_at (Boxes Map) (map_window image))

abbrev pub groups_of : Seen → List Group
groups_of image = groups_in (fields_at Pois (pois_window image))

abbrev pub roads_of : Seen → Section
roads_of image = (routing_in (fields_at Routing (routing_window image))).roads

abbrev pub bans_of : Seen → Section
bans_of image = (routing_in (fields_at Routing (routing_window image))).bans

-- ordinals of ids, rising strictly
abbrev pub AreMarks : List ℕ → Type 0
AreMarks marks = (list_all is_ordinal marks ≡ true) × IsRisingBy nat_cmp (λ n. n) marks

-- the image holds what the bytes of a file hold
pub record IsImageOf (bytes : List ℕ) (image : Seen) : Type 0 where
  pub fields : Fields
  pub parts : FileParts
  pub form : read_file bytes ≡ Ok fields
  pub are : file_in fields ≡ Some parts
  pub bytes_are : image.bytes ≡ bytes
  pub version : image.version ≡ version_of bytes
  pub head : IsHeadOf parts.head.value image.head
  pub rules : rules_in parts.rules.value ≡ Some image.rules
  pub marks : image.marks ≡ parts.marks.value
  pub sections : AreSectionsOf bytes image.sections parts
  pub inside : AreInBytes bytes image.sections
  pub kept : AreKept (beside parts) bytes image.sections image.kept
  pub records : image.records ≡ length (section_records parts)

-- what every image is: the image of bytes that break no rule
pub record IsImage (image : Seen) : Type 0 where
  pub marks : AreMarks image.marks
  pub unbroken : file_break image.bytes ≡ None
  pub holds : IsImageOf image.bytes image

-- the file of an image, with the records of its sections, which are as many as it counts
pub record IsImageFile (image : Seen) : Type 0 where
  pub records : List Rec
  pub file : IsFile image.bytes image.version (head_numbers image.head) image.rules image.marks records
  pub count : image.records ≡ length records

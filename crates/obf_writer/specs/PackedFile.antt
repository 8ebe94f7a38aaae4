-- A whole map file as a writer packs it.
use Rattle.std.specs.Prelude.{◌≡◌, ◌≢◌, ℕ, ◌-◌, ◌^◌, ◌<◌, ◌≤◌, List, [], ◌∷◌, ◌++◌, length, flat_map, Contains, IsTrue}
use Rattle.std.specs.List.{AllByRecursion}
use Rattle.std.specs.List.Sorted.{IsSorted}
use Rattle.std.specs.Ordering.{nat_cmp}
use Rattle.live_model.specs.declared.rules.Rule.{Rule}
use Rattle.live_model.specs.declared.records.Rec.{Rec}
use Rattle.live_model.specs.Fits.{FitsRules}
use Rattle.live_model.specs.Ids.{ordinal}
use Rattle.ordered_lists.specs.Ordered.{IsRisingBy}
use Rattle.live_model.specs.Records.{record_cmp, record_id}
use Rattle.live_model.specs.Rules.{IsRule, rules_text}
use Rattle.obf_wire.specs.Varint.{varint}
use Rattle.obf_wire.specs.Fields.{section}
use Rattle.file_grammar.specs.BoxRules.{is_ordinal}
use Rattle.file_grammar.specs.Files.{HeadNumbers, IsFile, is_head}
use Rattle.obf_wire.specs.Fields.{number_field, short_field}
use Rattle.file_grammar.specs.declared.parts.Version.TheVariants.{Two}
use Rattle.addr_section.specs.Packed.{packed_addresses}
use Rattle.map_section.specs.Packed.{packed_map}
use Rattle.poi_section.specs.Packed.{packed_pois}
use Rattle.road_section.specs.Routing.{packed_routing}
use Rattle.obf_writer.specs.declared.sections.Sections.{Sections}
use Rattle.obf_writer.specs.Classes.{addresses_in, bans_in, maps_in, pois_in, roads_in}

-- The bytes.

-- a level and two numbers of hours
abbrev pub head_bytes : HeadNumbers → List ℕ
head_bytes head = number_field 1 head.level ++ number_field 2 head.first ++ number_field 3 head.last

-- from a number on, the step to each
abbrev pub steps_from : ℕ → List ℕ → List ℕ
steps_from before [] = []
steps_from before (n ∷ ns) = (n - before) ∷ steps_from n ns

-- the first ordinal, then differences
abbrev pub marks_bytes : List ℕ → List ℕ
marks_bytes marks = short_field 1 (flat_map varint (steps_from 0 marks))

-- the sections of records, each after its length
abbrev pub packed_sections : List Rec → List ℕ
packed_sections records =
    section 6 (packed_map (maps_in records)) ++ section 7 (packed_addresses (addresses_in records)) ++ section 8 (packed_pois (pois_in records))
    ++ section 9 (packed_routing (roads_in records) (bans_in records))

-- the bytes of a file of these parts
unfoldable pub packed_file : HeadNumbers → List Rule → List ℕ → List Rec → List ℕ
packed_file head rules marks records =
    number_field 1 2 ++ short_field 2 (head_bytes head) ++ short_field 3 (rules_text rules) ++ packed_sections records ++ section 16 (marks_bytes marks)
    ++ number_field 32 2

-- these are the sections of the records
pub record AreSections (sections : Sections) (records : List Rec) : Type 0 where
  pub map : sections.map.items ≡ packed_map (maps_in records)
  pub addresses : sections.addresses.items ≡ packed_addresses (addresses_in records)
  pub pois : sections.pois.items ≡ packed_pois (pois_in records)
  pub roads : sections.roads.items ≡ packed_routing (roads_in records) (bans_in records)

-- The relation.

-- the bytes are a file of the second version with these parts, cut as the writer cuts
pub record IsPackedFile (bytes : List ℕ) (head : HeadNumbers) (rules : List Rule) (marks : List ℕ) (records : List Rec) : Type 0 where
  pub packed : bytes ≡ packed_file head rules marks records
  pub file : IsFile bytes Two head rules marks records

-- What a writer takes.

-- above a base each record is of an object with a mark
abbrev pub AreMarked : ℕ → List ℕ → List Rec → Type 0
AreMarked level marks records = level ≢ 0 → AllByRecursion (λ r. Contains marks (ordinal (record_id r))) records

-- the parts of a file: a good head, rules that a text can spell, marks that rise strictly and are none in a base, and records in order that fit the rules
pub record AreParts (head : HeadNumbers) (rules : List Rule) (marks : List ℕ) (records : List Rec) : Type 0 where
  pub good : IsTrue (is_head head)
  pub spelled : AllByRecursion IsRule rules × (length rules ≤ 100000)
  pub rise : IsRisingBy nat_cmp (λ n. n) marks
  pub ordinals : AllByRecursion (λ n. IsTrue (is_ordinal n)) marks
  pub base : head.level ≡ 0 → marks ≡ []
  pub sorted : IsSorted record_cmp records
  pub fit : FitsRules rules records
  pub marked : AreMarked head.level marks records

-- Law: what is packed of such parts is a file with just these parts, where it is shorter than 2^64 bytes.
abbrev pub PackedFileLaw : Type 0
PackedFileLaw =
    (head : HeadNumbers) (rules : List Rule) (marks : List ℕ) (records : List Rec) → AreParts head rules marks records
    → length (packed_file head rules marks records) < 2 ^ 64 → IsPackedFile (packed_file head rules marks records) head rules marks records

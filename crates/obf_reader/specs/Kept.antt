-- The sections of records, as a check leaves them.
use Rattle.std.specs.Prelude.{◌≡◌, ◌+◌, ℕ, List, Option, Some, None, Result, Ok, Err}
use Rattle.obf_wire.specs.declared.file.FileBreak.{FileBreak}
use Rattle.obf_wire.specs.declared.file.FileError.{FileError}
use Rattle.obf_wire.specs.declared.file.FileError.TheVariants.{NoMemory, Broken}
use Rattle.file_grammar.specs.declared.parts.Boxed.TheVariants.{Map}
use Rattle.file_grammar.specs.BoxRules.{Beside}
use Rattle.file_grammar.specs.Facts.{earlier}
use Rattle.file_grammar.specs.Files.{version_of}
use Rattle.file_grammar.specs.MapRules.{map_boxing}
use Rattle.boxed_exact.specs.Breaks.{Breaks, section_break}
use Rattle.boxed_check.specs.Keeping.{IsKept}
use Rattle.addr_section.specs.Breaks.{addresses_break}
use Rattle.addr_section.specs.Kept.{AreAddressesKept}
use Rattle.poi_section.specs.Groups.{ArePoisKept, pois_break}
use Rattle.road_section.specs.Routing.{IsRoutingKept, routing_break}
use Rattle.obf_reader.specs.declared.sections.KeptSections.{KeptSections}
use Rattle.obf_reader.specs.declared.spans.Sections.{Sections}
use Rattle.obf_reader.specs.Spread.{window_of}

-- so many records are there in all
abbrev pub HasSum : KeptSections → Type 0
HasSum kept = kept.records ≡ kept.map.records + (kept.addresses.records + kept.pois.records) + (kept.roads.roads.records + kept.roads.bans.records)

-- every rule holds of the sections that stand there, and this is what there is of them
pub record AreKept (beside : Beside) (bytes : List ℕ) (s : Sections) (kept : KeptSections) : Type 0 where
  pub map : IsKept Map map_boxing beside (window_of bytes s.map) kept.map
  pub addresses : AreAddressesKept (version_of bytes) beside (window_of bytes s.addresses) kept.addresses
  pub pois : ArePoisKept beside (window_of bytes s.pois) kept.pois
  pub roads : IsRoutingKept beside (window_of bytes s.roads) kept.roads
  pub records : HasSum kept

-- the first break of the sections that stand there
abbrev pub sections_break : Beside → List ℕ → Sections → Option FileBreak
sections_break beside bytes s =
    earlier
    (earlier (earlier (section_break Map map_boxing beside (window_of bytes s.map)) (addresses_break (version_of bytes) beside (window_of bytes s.addresses)))
    (pois_break beside (window_of bytes s.pois)))
    (routing_break beside (window_of bytes s.roads))

-- out of memory: no break is told
abbrev pub TellsNone : FileError → Type 0
TellsNone error = (broken : Option FileBreak) → Breaks error broken

-- the break that a check found, or none
abbrev pub IsFound : {A : Type 0} → Result A FileError → Option FileBreak → Type 0
IsFound (Ok x) found = found ≡ None
IsFound (Err (Broken b)) found = found ≡ Some b
IsFound (Err NoMemory) found = ⊥

-- A file that was read and found good.
use Rattle.std.specs.Prelude.{◌≡◌, ℕ, List, None, Ok}
use Rattle.std.specs.Ordering.{nat_cmp}
use Rattle.ordered_lists.specs.Ordered.{IsRisingBy}
use Rattle.file_grammar.specs.Files.{file_break}
use Rattle.file_grammar.specs.Messages.{Fields}
use Rattle.obf_reader.specs.declared.parts.PartsRead.{PartsRead}
use Rattle.obf_reader.specs.declared.sections.KeptSections.{KeptSections}
use Rattle.obf_reader.specs.declared.spans.Sections.{Sections}
use Rattle.obf_reader.specs.declared.top.TopFields.{TopFields}
use Rattle.obf_reader.specs.Kept.{AreKept}
use Rattle.obf_reader.specs.Parts.{IsReadOf, beside_of}
use Rattle.obf_reader.specs.Spread.{AreInBytes, read_file}

-- the bytes break no rule, and these parts were read of them
pub record IsGoodRead (bytes : List ℕ) (parts : PartsRead) (kept : KeptSections) : Type 0 where
  pub unbroken : file_break bytes ≡ None
  pub rising : IsRisingBy nat_cmp (λ n. n) parts.marks.marks.items
  pub inside : AreInBytes bytes parts.sections
  pub parts_are : (fields : Fields) → read_file bytes ≡ Ok fields → IsReadOf bytes parts fields
  pub kept_is : AreKept (beside_of parts) bytes parts.sections kept

-- the payloads of these fields are the sections
pub record StandAlike (s : Sections) (top : TopFields) : Type 0 where
  pub map : (s.map.from ≡ top.map.from) × (s.map.to ≡ top.map.to)
  pub addresses : (s.addresses.from ≡ top.addresses.from) × (s.addresses.to ≡ top.addresses.to)
  pub pois : (s.pois.from ≡ top.pois.from) × (s.pois.to ≡ top.pois.to)
  pub roads : (s.roads.from ≡ top.roads.from) × (s.roads.to ≡ top.roads.to)

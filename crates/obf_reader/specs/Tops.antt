-- The form of a file, but for its sections of records.
use Rattle.std.specs.Prelude.{◌≡◌, List, ℕ, Some, Ok}
use Rattle.file_grammar.specs.declared.parts.Boxed.TheVariants.{Map}
use Rattle.file_grammar.specs.declared.parts.Part.TheVariants.{Addresses, Boxes, Pois, Routing}
use Rattle.file_grammar.specs.Files.{FileParts, file_in, version_of}
use Rattle.file_grammar.specs.Messages.{Fields}
use Rattle.file_grammar.specs.Readings.{message_at, payload_of}
use Rattle.obf_reader.specs.declared.top.TopFields.{TopFields}
use Rattle.obf_reader.specs.Spread.{read_file}

-- the bytes are a file of good form with these sections
pub record HasForm (bytes : List ℕ) (map addresses pois roads : Fields) : Type 0 where
  pub fields : Fields
  pub read : read_file bytes ≡ Ok fields
  pub parts : FileParts
  pub is : file_in fields ≡ Some parts
  pub map_is : parts.map ≡ map
  pub addresses_are : parts.addresses ≡ addresses
  pub pois_are : parts.pois ≡ pois
  pub roads_are : parts.roads ≡ roads

-- where the sections have good form, so has the file
abbrev pub IsTop : List ℕ → TopFields → Type 0
IsTop bytes top =
    (map addresses pois roads : Fields) → message_at (Boxes Map) (payload_of bytes top.map) ≡ Ok map → message_at (Addresses (version_of bytes)) (payload_of bytes top.addresses) ≡ Ok addresses
    → message_at Pois (payload_of bytes top.pois) ≡ Ok pois → message_at Routing (payload_of bytes top.roads) ≡ Ok roads → HasForm bytes map addresses pois roads

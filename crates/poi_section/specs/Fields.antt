-- What stands in fields that were read.
use Rattle.std.specs.Prelude.{◌≡◌, ℕ, List, Ok}
use Rattle.file_grammar.specs.Sections.{Placed}
use Rattle.file_grammar.specs.PoiRules.{PoiFields}
use Rattle.file_grammar.specs.Readings.{numbers_at}
use Rattle.boxed_exact.specs.declared.fields.Number.{Number}
use Rattle.poi_section.specs.declared.entries.EntryFields.{EntryFields}

-- the number is this one
abbrev pub IsNumber : Number → Placed ℕ → Type 0
IsNumber n p = (n.at ≡ p.at) × (n.value ≡ p.value)

-- these were read for the fields of a record
pub record IsRead (bytes : List ℕ) (read : EntryFields) (f : PoiFields) : Type 0 where
  pub step : IsNumber read.step f.step
  pub name : IsNumber read.name f.name
  pub points_at : read.points.at ≡ f.points.at
  pub points : numbers_at (record { bytes = bytes; place = read.points.from; end = read.points.to }) ≡ Ok f.points.value

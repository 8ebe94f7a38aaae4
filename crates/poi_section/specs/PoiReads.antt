-- A point of interest as it is read in a straight line.
use Rattle.std.specs.Prelude.{◌≡◌, ◌==◌, ◌%◌, ℕ, List, length, true, Ok}
use Rattle.obf_wire.specs.Fields.{Window}
use Rattle.file_grammar.specs.declared.parts.Boxed.TheVariants.{Poi}
use Rattle.file_grammar.specs.declared.parts.Part.TheVariants.{Record}
use Rattle.file_grammar.specs.Messages.{Fields, ends, has_number, has_numbers}
use Rattle.file_grammar.specs.Readings.{message_at, numbers_at}
use Rattle.poi_section.specs.declared.checking.PoiRead.{PoiRead}

-- the three fields, at these offsets
abbrev pub poi_message : (a b c : ℕ) (step name : ℕ) → List ℕ → Fields
poi_message a b c step name numbers = has_number a 8 step (has_number b 16 name (has_numbers c 26 numbers ends))

-- the window holds a record of these numbers, where pairs of numbers stand in the last field
pub record IsPoiRead (w : Window) (r : PoiRead) : Type 0 where
  pub a : ℕ
  pub b : ℕ
  pub c : ℕ
  pub read : (numbers : List ℕ) → numbers_at (record { bytes = w.bytes; place = r.from; end = r.to }) ≡ Ok numbers → (length numbers % 2 == 0) ≡ true
      → message_at (Record Poi) w ≡ Ok (poi_message a b c r.step r.name numbers)

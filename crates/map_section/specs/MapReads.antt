-- A map record as it is read in a straight line.
use Rattle.std.specs.Prelude.{◌≡◌, ◌==◌, ◌%◌, ℕ, List, length, true, Ok}
use Rattle.obf_wire.specs.Fields.{Window}
use Rattle.file_grammar.specs.declared.parts.Boxed.TheVariants.{Map}
use Rattle.file_grammar.specs.declared.parts.Part.TheVariants.{Record}
use Rattle.file_grammar.specs.Messages.{Fields, ends, has_number, has_numbers}
use Rattle.file_grammar.specs.Readings.{message_at, numbers_at}
use Rattle.map_section.specs.declared.checking.MapRead.{MapRead}

-- the five fields, at these places
abbrev pub map_message : (a b c d e : ℕ) (step rule shape name : ℕ) → List ℕ → Fields
map_message a b c d e step rule shape name numbers = has_number a 8 step (has_number b 16 rule (has_number c 24 shape (has_number d 32 name (has_numbers e 42 numbers ends))))

-- the window holds a record of these numbers, where pairs of numbers stand in the last field
pub record IsMapRead (w : Window) (r : MapRead) : Type 0 where
  pub a : ℕ
  pub b : ℕ
  pub c : ℕ
  pub d : ℕ
  pub e : ℕ
  pub read : (numbers : List ℕ) → numbers_at (record { bytes = w.bytes; place = r.from; end = r.to }) ≡ Ok numbers → (length numbers % 2 == 0) ≡ true
      → message_at (Record Map) w ≡ Ok (map_message a b c d e r.step r.rule r.shape r.name numbers)

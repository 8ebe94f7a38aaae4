-- Records as they are read in a straight line.
use Rattle.std.specs.Prelude.{◌≡◌, ◌==◌, ◌%◌, ℕ, List, length, true, Ok}
use Rattle.obf_wire.specs.Fields.{Window, part_of}
use Rattle.file_grammar.specs.declared.parts.Boxed.TheVariants.{Restriction, Road}
use Rattle.file_grammar.specs.declared.parts.Part.TheVariants.{Record}
use Rattle.file_grammar.specs.Messages.{Fields, ends, has_number, has_numbers}
use Rattle.file_grammar.specs.Readings.{message_at, numbers_at}
use Rattle.road_section.specs.declared.ban_checking.BanLine.{BanLine}
use Rattle.road_section.specs.declared.road_checking.RoadLine.{RoadLine}

-- the five fields of a road, at these places
abbrev pub road_message : (a b c d e : ℕ) (step rule value direction : ℕ) → List ℕ → Fields
road_message a b c d e step rule value direction numbers =
    has_number a 8 step (has_number b 16 rule (has_number c 24 value (has_number d 32 direction (has_numbers e 42 numbers ends))))

-- the six fields of a restriction, at these places
abbrev pub ban_message : (a b c d e f : ℕ) (step value from via to : ℕ) → List ℕ → Fields
ban_message a b c d e f step value from via to numbers =
    has_number a 8 step (has_number b 16 value (has_number c 24 from (has_number d 32 via (has_number e 40 to (has_numbers f 50 numbers ends)))))

-- the window holds a road of these numbers, where numbers in threes stand in the last field
pub record IsRoadLine (w : Window) (r : RoadLine) : Type 0 where
  pub a : ℕ
  pub b : ℕ
  pub c : ℕ
  pub d : ℕ
  pub e : ℕ
  pub read : (numbers : List ℕ) → numbers_at (part_of w.bytes r.start r.end) ≡ Ok numbers → (length numbers % 3 == 0) ≡ true
      → message_at (Record Road) w ≡ Ok (road_message a b c d e r.step r.rule r.value r.direction numbers)

-- the window holds a restriction of these numbers, where pairs of numbers stand in the last field
pub record IsBanLine (w : Window) (r : BanLine) : Type 0 where
  pub a : ℕ
  pub b : ℕ
  pub c : ℕ
  pub d : ℕ
  pub e : ℕ
  pub f : ℕ
  pub read : (numbers : List ℕ) → numbers_at (part_of w.bytes r.start r.end) ≡ Ok numbers → (length numbers % 2 == 0) ≡ true
      → message_at (Record Restriction) w ≡ Ok (ban_message a b c d e f r.step r.value r.from r.via r.to numbers)

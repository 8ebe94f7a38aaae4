-- The fields of records as the code holds them.
use Rattle.std.specs.Prelude.{◌≡◌, ℕ, List, Ok}
use Rattle.obf_wire.specs.Fields.{part_of}
use Rattle.file_grammar.specs.Readings.{numbers_at}
use Rattle.file_grammar.specs.RoadRules.{BanFields, RoadFields}
use Rattle.file_grammar.specs.Sections.{Placed, placed}
use Rattle.boxed_exact.specs.declared.fields.Number.{Number}
use Rattle.road_section.specs.declared.ban_entries.BanRead.{BanRead}
use Rattle.road_section.specs.declared.road_entries.RoadRead.{RoadRead}

-- a number, with the place of its field
abbrev pub of_number : Number → Placed ℕ
of_number n = placed n.at n.value

-- the fields of a road, whose nodes are these numbers
abbrev pub road_held : RoadRead → List ℕ → RoadFields
road_held read numbers =
    record { step = of_number read.step; rule = of_number read.rule; value = of_number read.value; direction = of_number read.direction; triples = placed read.nodes.at numbers }

-- the fields of a restriction, whose points are these numbers
abbrev pub ban_held : BanRead → List ℕ → BanFields
ban_held read numbers = record {
  step = of_number read.step;
  value = of_number read.value;
  from = of_number read.from;
  via = of_number read.via;
  to = of_number read.to;
  points = placed read.points.at numbers;
}

-- these were read for the fields of a road
pub record IsRoadRead (bytes : List ℕ) (read : RoadRead) (f : RoadFields) : Type 0 where
  pub numbers : List ℕ
  pub nodes : numbers_at (part_of bytes read.nodes.from read.nodes.to) ≡ Ok numbers
  pub is : road_held read numbers ≡ f

-- these were read for the fields of a restriction
pub record IsBanRead (bytes : List ℕ) (read : BanRead) (f : BanFields) : Type 0 where
  pub numbers : List ℕ
  pub points : numbers_at (part_of bytes read.points.from read.points.to) ≡ Ok numbers
  pub is : ban_held read numbers ≡ f

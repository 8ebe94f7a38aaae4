-- The rules that match an object.
use Rattle.std.specs.Prelude.{ℕ, min, List, drop, Bool, Option, Some, None, filter, find}
use Rattle.std.specs.Option.{option_map}
use Rattle.std.specs.List.{list_any, enumerate_from}
use Rattle.live_model.specs.declared.objects.Tag.{Tag}
use Rattle.live_model.specs.declared.objects.Entity.{Entity}
use Rattle.live_model.specs.declared.shapes.Shape.{Shape}
use Rattle.live_model.specs.declared.rules.Rule.{Rule}
use Rattle.live_model.specs.declared.classes.Class.{Class}
use Rattle.live_model.specs.Rules.{matches}
use Rattle.live_model.specs.Geometry.{kind_shapes}
use Rattle.live_model.specs.Records.{is_map, is_road, is_place}
use Rattle.object_geometry.specs.declared.matches.Wanted.{Wanted}
use Rattle.object_geometry.specs.declared.matches.Wanted.TheVariants.{Map, Road, Place}

-- a rule with its place matches one of the shapes
abbrev pub matches_any : List Shape → List Tag → ℕ × Rule → Bool
matches_any shapes tags r = list_any (λ shape. matches r.1 shape tags) shapes

-- the lesser of the numbers that are there
abbrev pub lesser : Option ℕ → Option ℕ → Option ℕ
lesser None b = b
lesser (Some a) None = Some a
lesser (Some a) (Some b) = Some (min a b)

-- the place of the first rule at or after `from` that matches one of the shapes
abbrev pub first_from : List Rule → List Shape → List Tag → ℕ → Option ℕ
first_from rules shapes tags from = option_map (λ r. r.0) (find (matches_any shapes tags) (drop from (enumerate_from 0 rules)))

-- the rules of a table that match the object, if it has points: each with its place, in the order of the table
abbrev pub rules_for : List Rule → Entity → List (ℕ × Rule)
rules_for rules e = filter (matches_any (kind_shapes e.id.kind e.refs) e.tags) (enumerate_from 0 rules)

-- the class is the one that is wanted
abbrev pub wants : Wanted → Class → Bool
wants Map = is_map
wants Road = is_road
wants Place = is_place

-- the rules of a class among these
abbrev pub of_class : Wanted → List (ℕ × Rule) → List (ℕ × Rule)
of_class wanted rules = filter (λ r. wants wanted r.1.class) rules

-- What has to hold of records of more than one class.
use Rattle.std.specs.Prelude.{ℕ, ◌/◌, ◌^◌, List, [], ◌∷◌, length, Bool, ◌&&◌, ◌||◌, not, nat_le, ◌==◌, ℤ, unsigned_abs}
use Rattle.std.specs.List.{list_all}
use Rattle.live_model.specs.declared.points.Point.{Point}
use Rattle.coord_delta.specs.Steps.{Place}
use Rattle.file_grammar.specs.Sections.{Entry}
use Rattle.file_grammar.specs.BoxRules.{is_node, is_on_grid, is_ordinal, is_way}
use Rattle.file_grammar.specs.MapRules.{point_from}

-- rising by ordinal, where equal ones may stand side by side; it holds of a number that is no ordinal
abbrev pub ordinals_rise : Entry → Entry → Bool
ordinals_rise a b = nat_le a.ordinal b.ordinal || not (is_ordinal a.ordinal && is_ordinal b.ordinal)

-- of a relation
abbrev pub is_relation : ℕ → Bool
is_relation n = n / 2 ^ 50 == 2

-- of a node or a way
abbrev pub is_node_or_way : ℕ → Bool
is_node_or_way n = is_node n || is_way n

-- an object may have this number: a magnitude of at most 2^48
abbrev pub is_object_number : ℤ → Bool
is_object_number n = nat_le (unsigned_abs n) (2 ^ 48)

-- one location, on the grid
abbrev pub is_one_location : List Place → Bool
is_one_location locations = list_all is_on_grid locations && (length locations == 1)

-- the point of a record that has one location; the corner of the grid where it has none
abbrev pub only_point : List Place → Point
only_point [] = record { x = 0; y = 0 }
only_point (location ∷ locations) = point_from location

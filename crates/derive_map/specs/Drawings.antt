-- How the rules of the map draw an object.
use Rattle.std.specs.Prelude.{ℕ, List, map, filter}
use Rattle.live_model.specs.declared.objects.Entity.{Entity}
use Rattle.live_model.specs.declared.points.Point.{Point}
use Rattle.live_model.specs.declared.records.MapRec.{MapRec}
use Rattle.live_model.specs.declared.rules.Rule.{Rule}
use Rattle.live_model.specs.Records.{is_map, name_of}
use Rattle.object_geometry.specs.Matching.{rules_for}

-- the rules of the map among these
abbrev pub map_rules : List (ℕ × Rule) → List (ℕ × Rule)
map_rules rules = filter (λ r. is_map r.1.class) rules

-- an object with these points as a rule draws it
abbrev pub drawing : Entity → List Point → ℕ × Rule → MapRec
drawing e points r = record { id = e.id; rule = r.0; shape = r.1.shape; name = name_of e; points = points }

-- an object with these points as all rules of the map that match it draw it, in the order of the table
abbrev pub drawings : List Rule → Entity → List Point → List MapRec
drawings rules e points = map (drawing e points) (map_rules (rules_for rules e))

-- What an object is called, and its addresses at a point.
use Rattle.std.specs.Prelude.{List, [], ◌∷◌, ◌++◌, codes, Bool, ◌&&◌, not, if◌then◌else◌, map}
use Rattle.std.specs.List.{list_any}
use Rattle.live_model.specs.declared.objects.Entity.{Entity}
use Rattle.live_model.specs.declared.points.Point.{Point}
use Rattle.live_model.specs.declared.rules.Rule.{Rule}
use Rattle.live_model.specs.declared.addresses.AddrKind.TheVariants.{Place, Street}
use Rattle.live_model.specs.declared.addresses.AddrRec.{AddrRec}
use Rattle.live_model.specs.Records.{house, is_empty, named_address, names_of, tag_or_empty}
use Rattle.object_geometry.specs.declared.matches.Wanted.{Wanted}
use Rattle.object_geometry.specs.Matching.{rules_for, wants}

-- a rule of this class matches the object, if it has points
abbrev pub is_called : Wanted → List Rule → Entity → Bool
is_called wanted rules e = list_any (λ r. wants wanted r.1.class) (rules_for rules e)

-- the object has a street and a number
abbrev pub is_house : Entity → Bool
is_house e = not (is_empty (tag_or_empty (codes "addr:street") e.tags)) && not (is_empty (tag_or_empty (codes "addr:housenumber") e.tags))

-- the object as a house at a point
abbrev pub house_of : Entity → Point → AddrRec
house_of e point = house e.id (tag_or_empty (codes "addr:street") e.tags) (tag_or_empty (codes "addr:housenumber") e.tags) point

-- the addresses of an object at a point: as a place, as a street and as a house, where it is one
abbrev pub addresses : Bool → Bool → Bool → Entity → Point → List AddrRec
addresses is_place is_street is_house e point =
    (if is_place then map (named_address e.id Place point) (names_of e) else [])
    ++ (if is_street then map (named_address e.id Street point) (names_of e) else [])
    ++ (if is_house then house_of e point ∷ [] else [])

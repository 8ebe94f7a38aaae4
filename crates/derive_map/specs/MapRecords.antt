-- The map records of a whole store.
use Rattle.std.specs.Prelude.{List, Option, Some, None, filter_map, IsUtf8}
use Rattle.std.specs.List.{AllByRecursion}
use Rattle.live_model.specs.declared.objects.Entity.{Entity}
use Rattle.live_model.specs.declared.rules.Rule.{Rule}
use Rattle.live_model.specs.declared.records.MapRec.{MapRec}
use Rattle.live_model.specs.declared.records.Rec.{Rec}
use Rattle.live_model.specs.declared.records.Rec.TheVariants.{Map, Poi, Addr, Road, Ban}
use Rattle.live_model.specs.Stores.{IsStore}
use Rattle.live_model.specs.CanonicalLines.{HasTexts}
use Rattle.live_model.specs.Fits.{FitsMap}
use Rattle.live_model.specs.Maps.{map_of}

-- the record, where it is of the map
abbrev pub as_map : Rec → Option MapRec
as_map (Map m) = Some m
as_map (Poi p) = None
as_map (Addr a) = None
as_map (Road road) = None
as_map (Ban b) = None

-- the map records of the map of a store, in order
abbrev pub drawn_of : List Rule → List Entity → List MapRec
drawn_of rules store = filter_map as_map (map_of rules store)

-- the names are UTF-8
abbrev pub AreNamed : List MapRec → Type 0
AreNamed records = AllByRecursion (λ m. IsUtf8 m.name) records

-- the map records that rules make of a store fit these rules
abbrev pub DrawnFitLaw : Type 0
DrawnFitLaw = (rules : List Rule) (store : List Entity) → IsStore store → AllByRecursion HasTexts store → AllByRecursion (FitsMap rules) (drawn_of rules store)

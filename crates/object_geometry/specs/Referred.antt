-- What an object of a store refers to.
use Rattle.std.specs.Prelude.{List, Option, map}
use Rattle.live_model.specs.declared.objects.Entity.{Entity}
use Rattle.live_model.specs.Ids.{Id}
use Rattle.live_model.specs.Closures.{looked_up, refers_to}

-- the ids that an object refers to, in order, each with its object, if there is one
abbrev pub referred_in : List Entity → Entity → List (Id × Option Entity)
referred_in store e = map (looked_up store) (refers_to e)

-- Who refers to what, and which objects a change can touch.
use Rattle.std.specs.Prelude.{List, ◌∷◌, Bool, map, filter, flat_map}
use Rattle.std.specs.List.{list_any}
use Rattle.live_model.specs.declared.objects.Entity.{Entity}
use Rattle.live_model.specs.declared.objects.Line.{Line}
use Rattle.live_model.specs.Ids.{Id}
use Rattle.live_model.specs.Closures.{same_id, rising_ids, refers_to, line_id}

-- the id is one of these
abbrev pub is_among : List Id → Id → Bool
is_among ids id = list_any (λ i. same_id i id) ids

-- the object refers to this id
abbrev pub refers : Id → Entity → Bool
refers id e = is_among (refers_to e) id

-- the live objects that refer to an id, whether it is live or not, in the order of the store
abbrev pub users_of : List Entity → Id → List Id
users_of store id = map (λ e. e.id) (filter (refers id) store)

-- the objects of the lines, and those that refer to one of them before the lines: rising, each once
abbrev pub touched : List Entity → List Line → List Id
touched store lines = rising_ids (flat_map (λ line. line_id line ∷ users_of store (line_id line)) lines)

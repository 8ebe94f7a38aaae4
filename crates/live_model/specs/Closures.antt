-- What an object refers to, and the objects that lines touch.
use Rattle.std.specs.Prelude.{List, [], ◌∷◌, ◌++◌, Bool, ◌||◌, ◌==◌, Option, Some, None, ℤ, map, find}
use Rattle.std.specs.List.{list_any}
use Rattle.std.specs.Ordering.{nat_cmp}
use Rattle.live_model.specs.declared.ids.Kind.TheVariants.{Node, Way}
use Rattle.live_model.specs.declared.objects.Entity.{Entity}
use Rattle.live_model.specs.declared.objects.Line.{Line}
use Rattle.live_model.specs.declared.objects.Line.TheVariants.{Live, Gone}
use Rattle.live_model.specs.Ids.{Id, ordinal}
use Rattle.ordered_lists.specs.Ordered.{put_all}
use Rattle.live_model.specs.Stores.{key}

-- two ids of one object
abbrev pub same_id : Id → Id → Bool
same_id a b = ordinal a == ordinal b

-- ids rising, each once
abbrev pub rising_ids : List Id → List Id
rising_ids ids = put_all nat_cmp ordinal [] ids

-- the object of this id, where it is in the store
abbrev pub entity_at : List Entity → Id → Option Entity
entity_at store id = find (λ e. key e == ordinal id) store

-- the node with this number
abbrev pub node_id : ℤ → Id
node_id number = record { kind = Node; number = number }

-- the way with this number
abbrev pub way_id : ℤ → Id
way_id number = record { kind = Way; number = number }

-- the nodes of a way and the members of a relation, in order and as often as they are named
abbrev pub refers_to : Entity → List Id
refers_to e = map node_id e.refs ++ map (λ m. m.target) e.members

-- the ids that an object refers to, if there is an object
abbrev pub referred : Option Entity → List Id
referred None = []
referred (Some e) = refers_to e

-- an id with its object, if there is one
abbrev pub looked_up : List Entity → Id → Id × Option Entity
looked_up store id = (id, entity_at store id)

-- an id and then the ids that its object refers to, each with its object, if there is one
abbrev pub closure : List Entity → Id → List (Id × Option Entity)
closure store id = looked_up store id ∷ map (looked_up store) (referred (entity_at store id))

-- the object that a line is about
abbrev pub line_id : Line → Id
line_id (Live e) = e.id
line_id (Gone o version) = o

-- an object of the lines has this id
abbrev pub is_named : List Line → Id → Bool
is_named lines id = list_any (λ line. same_id (line_id line) id) lines

-- the lines name the object, or one that it refers to in the store
abbrev pub is_touched : List Entity → List Line → Id → Bool
is_touched store lines id = is_named lines id || list_any (is_named lines) (referred (entity_at store id))

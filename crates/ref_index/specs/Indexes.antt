-- An index of users: a finite map from the ordinal of an id to the objects that refer to it.
use Rattle.std.specs.Prelude.{◌≡◌, ◌++◌, ℕ, List, [], ◌∷◌, not, Option, Some, None, map, filter, unwrap_or}
use Rattle.std.specs.Ordering.{nat_cmp}
use Rattle.live_model.specs.declared.objects.Entity.{Entity}
use Rattle.live_model.specs.Ids.{Id, ordinal}
use Rattle.live_model.specs.Closures.{rising_ids}
use Rattle.live_model.specs.Users.{users_of}
use Rattle.layer_table.specs.Layers.{value_at}
use Rattle.ref_index.specs.Pairs.{users_at, has_any}

-- what an index is seen as: its map, for how many layers it has room, and how many it has
pub record Indexed : Type 0 where
  pub map : List (ℕ × List Id)
  pub spare : ℕ
  pub depth : ℕ

-- the list at an ordinal, empty where there is none
abbrev pub list_at : List (ℕ × List Id) → ℕ → List Id
list_at map k = unwrap_or (value_at nat_cmp k map) []

-- the users of an id
abbrev pub users_in : List (ℕ × List Id) → Id → List Id
users_in map id = list_at map (ordinal id)

-- the map is the index of a store: it has the users of each id
abbrev pub Indexes : List (ℕ × List Id) → List Entity → Type 0
Indexes map store = (id : Id) → users_in map id ≡ users_of store id

-- a list that is empty need not stand in a map
abbrev pub listed : List Id → Option (List Id)
listed [] = None
listed (u ∷ us) = Some (u ∷ us)

-- users that are not among the named ones, and those that come with them: rising, each once
abbrev pub renewed : List (ℕ × Id) → List (ℕ × Id) → List (ℕ × List Id) → ℕ → List Id
renewed named pairs map k = rising_ids (filter (λ u. not (has_any (users_at (ordinal u) named))) (list_at map k) ++ users_at k pairs)

-- a list for each ordinal, as changes of a map
abbrev pub lists_for : (ℕ → List Id) → List ℕ → List (ℕ × Option (List Id))
lists_for users ks = map (λ k. (k, listed (users k))) ks

-- Ids with keys: what refers to what, as pairs of the ordinal of what is referred to and of the object that refers to it.
use Rattle.std.specs.Prelude.{◌==◌, ◌++◌, ℕ, List, [], ◌∷◌, Bool, true, false, map, filter}
use Rattle.std.specs.Ordering.{nat_cmp}
use Rattle.ordered_lists.specs.Ordered.{put_all}
use Rattle.layer_table.specs.Layers.{key_of, value_of}
use Rattle.live_model.specs.declared.objects.Entity.{Entity}
use Rattle.live_model.specs.declared.objects.Line.{Line}
use Rattle.live_model.specs.Ids.{Id, ordinal}
use Rattle.live_model.specs.Closures.{refers_to, referred, entity_at, line_id}

-- there is an item
abbrev pub has_any : {A : Type 0} → List A → Bool
has_any [] = false
has_any (x ∷ xs) = true

-- numbers rising, each once
abbrev pub rising_numbers : List ℕ → List ℕ
rising_numbers ns = put_all nat_cmp (λ n. n) [] ns

-- the ordinals of ids, rising, each once, each with one user
abbrev pub pairs_for : Id → List Id → List (ℕ × Id)
pairs_for user ids = map (λ t. (t, user)) (rising_numbers (map ordinal ids))

-- what an object refers to, with the object's id
abbrev pub pairs_in : Entity → List (ℕ × Id)
pairs_in e = pairs_for e.id (refers_to e)

-- what the object of a line refers to in a store, with the id of the line
abbrev pub pairs_named : List Entity → Line → List (ℕ × Id)
pairs_named store line = pairs_for (line_id line) (referred (entity_at store (line_id line)))

-- the ordinals of what the object of a line refers to in two stores
abbrev pub places_named : List Entity → List Entity → Line → List ℕ
places_named before after line = map ordinal (referred (entity_at before (line_id line)) ++ referred (entity_at after (line_id line)))

-- the id of a line under its ordinal
abbrev pub name_of : Line → ℕ × Id
name_of line = (ordinal (line_id line), line_id line)

-- the second parts of the pairs with this first part
abbrev pub users_at : ℕ → List (ℕ × Id) → List Id
users_at k ps = map value_of (filter (λ (p : ℕ × Id). key_of p == k) ps)

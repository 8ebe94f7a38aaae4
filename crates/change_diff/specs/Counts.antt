-- How many steps the records of objects take.
use Rattle.std.specs.Prelude.{ℕ, ◌*◌, List, [], ◌∷◌, Bool, true, false, length, filter}
use Rattle.live_model.specs.declared.objects.Entity.{Entity}
use Rattle.live_model.specs.declared.objects.Tag.{Tag}

-- there is a tag
abbrev pub has_any : List Tag → Bool
has_any [] = false
has_any (t ∷ ts) = true

-- the objects with tags; others have no records
abbrev pub tagged : List Entity → List Entity
tagged store = filter (λ e. has_any e.tags) store

-- one for each of four derivations of an object with tags
abbrev pub steps_for : List Entity → ℕ
steps_for store = 4 * length (tagged store)

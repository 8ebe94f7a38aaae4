-- What a look-up in a rising list answers.
use Rattle.std.specs.Prelude.{ℕ, List, Option, Some, None, find, nat_lt, slice_get}
use Rattle.std.specs.Option.{option_map}
use Rattle.live_model.specs.declared.objects.Entity.{Entity}
use Rattle.live_model.specs.Ids.{Id, ordinal}
use Rattle.live_model.specs.Stores.{key}

-- the first entity above an ordinal, or the first of all
abbrev pub first_above : Option ℕ → List Entity → Option Entity
first_above None es = slice_get es 0
first_above (Some n) es = find (λ e. nat_lt n (key e)) es

-- the first entity above an id, or the first of all
abbrev pub next_of : Option Id → List Entity → Option Entity
next_of last es = first_above (option_map ordinal last) es

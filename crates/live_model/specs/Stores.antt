-- A store is the list of the objects that are there, and lines change it in turn.
use Rattle.std.specs.Prelude.{ℕ, List, [], ◌∷◌}
use Rattle.std.specs.Ordering.{nat_cmp}
use Rattle.std.specs.List.{AllByRecursion}
use Rattle.live_model.specs.declared.objects.Entity.{Entity}
use Rattle.live_model.specs.declared.objects.Line.{Line}
use Rattle.live_model.specs.declared.objects.Line.TheVariants.{Live, Gone}
use Rattle.live_model.specs.Ids.{ordinal}
use Rattle.ordered_lists.specs.Ordered.{IsRisingBy, put_by, without_by}
use Rattle.live_model.specs.Objects.{IsGood}

-- the place of an entity in a store
abbrev pub key : Entity → ℕ
key e = ordinal e.id

-- entities whose ids rise strictly
abbrev pub IsRising : List Entity → Type 0
IsRising es = IsRisingBy nat_cmp key es

-- good entities whose ids rise strictly
pub record IsStore (es : List Entity) : Type 0 where
  pub good : AllByRecursion IsGood es
  pub rising : IsRising es

-- an entity comes in place of the one with its id, or between its neighbours; an id that is gone is removed
abbrev pub apply_line : List Entity → Line → List Entity
apply_line store (Live e) = put_by nat_cmp key e store
apply_line store (Gone o version) = without_by nat_cmp key (ordinal o) store

-- the lines in turn; versions are not compared
abbrev pub apply : List Entity → List Line → List Entity
apply store [] = store
apply store (line ∷ lines) = apply (apply_line store line) lines

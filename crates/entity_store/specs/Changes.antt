-- A store as a table of its entities by the ordinals of their ids, and lines as changes of it.
use Rattle.std.specs.Prelude.{◌≡◌, ℕ, List, Option, Some, None, map}
use Rattle.std.specs.Option.{IfSome}
use Rattle.std.specs.List.{AllByRecursion}
use Rattle.std.specs.Ordering.{nat_cmp}
use Rattle.live_model.specs.declared.objects.Entity.{Entity}
use Rattle.live_model.specs.declared.objects.Line.{Line}
use Rattle.live_model.specs.declared.objects.Line.TheVariants.{Live, Gone}
use Rattle.live_model.specs.Ids.{ordinal}
use Rattle.live_model.specs.Stores.{key}
use Rattle.layer_table.specs.Layers.{laid, value_of}

-- what a store is seen as: its entities, for how many layers it has room, and how many it has
pub record Stored : Type 0 where
  pub entities : List Entity
  pub spare : ℕ
  pub depth : ℕ

-- each entity with the ordinal of its id
abbrev pub keyed : Entity → ℕ × Entity
keyed e = (key e, e)

abbrev pub tagged : List Entity → List (ℕ × Entity)
tagged es = map keyed es

-- each entity stands at the ordinal of its id
abbrev pub AreTagged : List (ℕ × Entity) → Type 0
AreTagged ps = AllByRecursion (λ (p : ℕ × Entity). p.0 ≡ key p.1) ps

-- each entity that is set is set at the ordinal of its id
abbrev pub AreKeyed : List (ℕ × Option Entity) → Type 0
AreKeyed cs = AllByRecursion (λ (c : ℕ × Option Entity). IfSome c.1 (λ e. c.0 ≡ key e)) cs

-- the ordinal of the id that a line is about
abbrev pub line_key : Line → ℕ
line_key (Live e) = key e
line_key (Gone o version) = ordinal o

-- what a line leaves there
abbrev pub line_value : Line → Option Entity
line_value (Live e) = Some e
line_value (Gone o version) = None

abbrev pub change : Line → ℕ × Option Entity
change line = (line_key line, line_value line)

-- the entities of a table
abbrev pub entities_of : List (ℕ × Entity) → List Entity
entities_of ps = map value_of ps

-- the entities of a store after changes
abbrev pub after_changes : List Entity → List (ℕ × Option Entity) → List Entity
after_changes es cs = entities_of (laid nat_cmp (tagged es) cs)

-- the entities that are looked at: those of a store, after changes if there are any
abbrev pub looked_at : List Entity → Option (List (ℕ × Option Entity)) → List Entity
looked_at es None = es
looked_at es (Some cs) = after_changes es cs

-- what changes have at an ordinal, or else what stood there
abbrev pub changed_or : Option (ℕ × Option Entity) → Option Entity → Option Entity
changed_or None old = old
changed_or (Some c) old = c.1

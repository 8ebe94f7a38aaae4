-- What is kept beside a set, and what comes in with a publication.
use Rattle.std.specs.Prelude.{◌≡◌, ℕ, List, [], Option, None, if◌then◌else◌}
use Rattle.std.specs.Option.{option_map}
use Rattle.live_model.specs.declared.levels.Level.TheVariants.{Base}
use Rattle.live_model.specs.declared.objects.Entity.{Entity}
use Rattle.live_model.specs.declared.objects.Line.{Line}
use Rattle.live_model.specs.Ids.{Id}
use Rattle.live_model.specs.Maps.{published}
use Rattle.live_model.specs.Stores.{apply}
use Rattle.ref_index.specs.Indexes.{Indexes}
use Rattle.stamp_core.specs.Hours.{CivilHour}
use Rattle.stamp_core.specs.declared.head.Head.{Head}
use Rattle.overlay_set.specs.Machines.{is_full, limits_of_a_board}
use Rattle.overlay_set.specs.Periods.{shrinkable}
use Rattle.overlay_set.specs.Sets.{Entry, lines_of}
use Rattle.overlay_set.specs.Swaps.{FoldPlan, plan_of}
use Rattle.published_set.specs.Sets.{IsStanding, PublishedSet, rules_of}

-- what a base covers
abbrev pub base_head : Head
base_head = record { level = Base; first = None; last = None }

-- a publication, as it stands in a history
abbrev pub entry_for : CivilHour → ℕ → List Line → Entry
entry_for stamp tag lines = record { stamp = stamp; tag = tag; lines = lines }

-- the set stands, and beside it are kept the store after its history and the index of that store
pub record IsKeptBeside (set : PublishedSet) (store : List Entity) (index : List (ℕ × List Id)) : Type 0 where
  pub standing : IsStanding set
  pub after_history : store ≡ published (apply [] set.base) (lines_of set.state.history)
  pub indexed : Indexes index store

-- the plan whose fold comes in before a publication: where there is no room for a file, that of what can be shrunk
abbrev pub plan_for_room : PublishedSet → Option FoldPlan
plan_for_room set =
    if is_full limits_of_a_board (rules_of set) set.base set.state then option_map (λ p. plan_of p set.state.files) (shrinkable set.state) else None

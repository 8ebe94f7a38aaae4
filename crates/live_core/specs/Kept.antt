-- What a machine keeps beside its set.
use Rattle.std.specs.Prelude.{◌≡◌, ℕ, List, [], Option, map}
use Rattle.std.specs.List.{AllByRecursion}
use Rattle.std.specs.Option.{option_map}
use Rattle.live_model.specs.declared.objects.Entity.{Entity}
use Rattle.live_model.specs.declared.objects.Line.{Line}
use Rattle.live_model.specs.Ids.{Id}
use Rattle.live_model.specs.Maps.{published}
use Rattle.live_model.specs.Objects.{IsGoodLine}
use Rattle.live_model.specs.Stores.{apply}
use Rattle.ref_index.specs.Indexes.{Indexes}
use Rattle.overlay_set.specs.Sets.{State, lines_of}
use Rattle.overlay_set.specs.Swaps.{FoldPlan}
use Rattle.overlay_set.specs.MachineLaws.{MachineStands}
use Rattle.published_set.specs.Sets.{PublishedSet, rules_of}
use Rattle.live_core.specs.Running.{Running, machine_of}

-- the state of a set, if there is one
abbrev pub state_in : Option PublishedSet → Option State
state_in held = option_map (λ s. s.state) held

-- what runs where this is the set, and passes and workers hold these
abbrev pub running_over : PublishedSet → List (Option PublishedSet) → List (Option FoldPlan) → Running
running_over set held plans = record { rules = rules_of set; base = set.base; now = set.state; held = map state_in held; plans = plans }

-- the machine stands over good base lines, and beside it are kept the store after its history and the index of that store
pub record IsKept (r : Running) (store : List Entity) (index : List (ℕ × List Id)) : Type 0 where
  pub stands : MachineStands r.rules r.base (machine_of r)
  pub good_base : AllByRecursion IsGoodLine r.base
  pub after_history : store ≡ published (apply [] r.base) (lines_of r.now.history)
  pub indexed : Indexes index store

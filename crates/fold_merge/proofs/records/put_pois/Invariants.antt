use Rattle.std.proofs.Common.{◌≡◌, ◌++◌, drop, length, map}
use Rattle.std.specs.Prelude.{filter, flat_map}
use Rattle.boxed_write.specs.Classes.{held}
use Rattle.live_model.specs.declared.records.Rec.TheVariants.{Poi}
use Rattle.map_laws.specs.Laws.{untouched_by}
use Rattle.fold_merge.specs.Collecting.{records_of_group}
use Rattle.fold_merge.specs.Folds.{overlays_of}
use Rattle.fold_merge.proofs.records.put_pois.Given as goal

-- with what is kept of the groups from the index on they are all that is kept
abbrev pub invariant-loop-index : goal.invariant-loop-index
invariant-loop-index g l =
    l.records.items ++ filter (untouched_by (overlays_of (held l.later))) (map Poi (flat_map records_of_group (drop l.index l.pois)))
    ≡ l.initial.records.items ++ filter (untouched_by (overlays_of (held l.later))) (map Poi (flat_map records_of_group l.pois))

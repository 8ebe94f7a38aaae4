use Rattle.std.proofs.lemmas.List.Filters.{dedup_is}
use Rattle.derive_poi.proofs.EachOnce.{kept_once}
use Rattle.derive_poi.proofs.records.keep_each_once.Goals as goal

pub returns : goal.returns
returns c = kept_once _ _ _ c.sort_unstable.ensures.permutation c.sort_unstable.ensures.sorted (dedup_is _ _ _ c.dedup.ensures.filtered)

use Rattle.std.proofs.Common.{◌≡◌, length, map}
use Rattle.std.specs.Arc.{arc_value}
use Rattle.std.specs.List.{list_any}
use Rattle.live_model.specs.Maps.{is_mark}
use Rattle.obf_reader.specs.Overlays.{overlay_of}
use Rattle.query_merge.proofs.finding.is_marked.Given as goal

-- none that was passed by decides on it
abbrev pub invariant-loop-image : goal.invariant-loop-image
invariant-loop-image l = list_any (λ o. is_mark o l.id) (map overlay_of (map arc_value l.rest)) ≡ list_any (λ o. is_mark o l.id) (map overlay_of (map arc_value l.images))

abbrev pub decreases-loop-image : goal.decreases-loop-image
decreases-loop-image l = length l.rest

use Rattle.std.proofs.Common.{◌≡◌, ◌++◌, ◌∷◌, take}
use Rattle.std.specs.List.{flat_map}
use Rattle.live_model.specs.RowTexts.{point_text}
use Rattle.query_text.proofs.rows.begin_other_points.Given as goal

-- those before the index are put
abbrev pub invariant-loop-point : goal.invariant-loop-point
invariant-loop-point l = l.out.items ≡ l.initial.out.items ++ flat_map (λ p. 44 ∷ point_text p) (take l.point-index l.others)

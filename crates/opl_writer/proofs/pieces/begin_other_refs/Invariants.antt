use Rattle.std.proofs.Common.{◌≡◌, ◌++◌, ◌∷◌, take}
use Rattle.std.specs.List.{flat_map}
use Rattle.live_model.specs.CanonicalLines.{ref_text}
use Rattle.opl_writer.proofs.pieces.begin_other_refs.Given as goal

-- those before the place are written
abbrev pub invariant-loop-number : goal.invariant-loop-number
invariant-loop-number l = l.out.items ≡ l.initial.out.items ++ flat_map (λ n. 44 ∷ ref_text n) (take l.number-index l.others)

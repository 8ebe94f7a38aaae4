use Rattle.std.proofs.Common.{◌≡◌, ◌++◌, ◌∷◌, take}
use Rattle.std.specs.List.{flat_map}
use Rattle.live_model.specs.CanonicalLines.{tag_text}
use Rattle.opl_writer.proofs.pieces.begin_other_tags.Given as goal

-- those before the place are written
abbrev pub invariant-loop-tag : goal.invariant-loop-tag
invariant-loop-tag l = l.out.items ≡ l.initial.out.items ++ flat_map (λ t. 44 ∷ tag_text t) (take l.tag-index l.others)

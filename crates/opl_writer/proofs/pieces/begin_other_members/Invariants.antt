use Rattle.std.proofs.Common.{◌≡◌, ◌++◌, ◌∷◌, take}
use Rattle.std.specs.List.{flat_map}
use Rattle.live_model.specs.CanonicalLines.{member_text}
use Rattle.opl_writer.proofs.pieces.begin_other_members.Given as goal

-- those before the place are written
abbrev pub invariant-loop-member : goal.invariant-loop-member
invariant-loop-member l = l.out.items ≡ l.initial.out.items ++ flat_map (λ m. 44 ∷ member_text m) (take l.member-index l.others)

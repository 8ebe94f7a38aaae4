use Rattle.std.proofs.Common.{◌≡◌, take}
use Rattle.live_model.proofs.objects.copy_members.Given as goal

-- those before the place are copied
abbrev pub invariant-loop-member : goal.invariant-loop-member
invariant-loop-member l = l.copied ≡ take l.member-index l.members

use Rattle.std.proofs.Common.{◌≡◌, take}
use Rattle.live_model.proofs.objects.copy_tags.Given as goal

-- those before the place are copied
abbrev pub invariant-loop-tag : goal.invariant-loop-tag
invariant-loop-tag l = l.copied ≡ take l.tag-index l.tags

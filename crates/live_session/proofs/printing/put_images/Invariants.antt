use Rattle.std.proofs.Common.{◌≡◌, ◌++◌, drop, map}
use Rattle.std.specs.Arc.{arc_value}
use Rattle.published_set.specs.Sets.{images_in}
use Rattle.session_text.specs.Sessions.{file_lines}
use Rattle.live_session.proofs.printing.put_images.Given as goal

-- the lines put so far, with those of the other files, are those of all
abbrev pub invariant-loop-image : goal.invariant-loop-image
invariant-loop-image l =
    l.initial.out.items ++ file_lines (images_in (map arc_value l.images)) ≡ l.out.items ++ file_lines (images_in (drop l.image-index (map arc_value l.images)))

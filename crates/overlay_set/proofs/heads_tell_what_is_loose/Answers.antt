use Rattle.overlay_set.proofs.Walking.{heads_law}
use Rattle.overlay_set.proofs.heads_tell_what_is_loose.Goals as goal

pub returns : goal.returns
returns c = heads_law

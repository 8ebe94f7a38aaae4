use Rattle.std.proofs.Common.{length}
use Rattle.layer_table.proofs.merging.+count_changes.Given as goal

abbrev pub decreases-count_changes : goal.decreases-count_changes
decreases-count_changes g l = length l.layers.now

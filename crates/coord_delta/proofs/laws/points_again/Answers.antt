use Rattle.coord_delta.proofs.PlaceLists.{again}
use Rattle.coord_delta.proofs.laws.points_again.Goals as goal

pub returns : goal.returns
returns c = again

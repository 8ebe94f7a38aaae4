use Rattle.coord_delta.proofs.Readings.{points_one}
use Rattle.coord_delta.proofs.PlaceLists.{spelling_one}
use Rattle.coord_delta.proofs.laws.one_reading.Goals as goal

pub returns-clause-points : goal.returns-clause-points
returns-clause-points c = points_one

pub returns-clause-spelling : goal.returns-clause-spelling
returns-clause-spelling c = spelling_one

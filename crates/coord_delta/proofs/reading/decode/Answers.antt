use Rattle.coord_delta.proofs.Readings.{only_points, only_wire, only_off_grid}
use Rattle.coord_delta.proofs.reading.decode.Goals as goal

pub returns-clause-only_points : goal.returns-clause-only_points
returns-clause-only_points c = only_points c.args.bytes.now c.args.from c.args.to c.requires.within c.read_points.result c.read_points.ensures.found c.read_points.ensures.explained

pub returns-clause-only_wire : goal.returns-clause-only_wire
returns-clause-only_wire c = only_wire c.args.bytes.now c.args.from c.args.to c.requires.within c.read_points.result c.read_points.ensures.found c.read_points.ensures.explained

pub returns-clause-only_off_grid : goal.returns-clause-only_off_grid
returns-clause-only_off_grid c = only_off_grid c.args.bytes.now c.args.from c.args.to c.requires.within c.read_points.result c.read_points.ensures.found c.read_points.ensures.explained

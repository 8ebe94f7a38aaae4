use Rattle.std.proofs.Common.{◌+◌}
use Rattle.file_grammar.specs.Sections.{step_of}
use Rattle.boxed_exact.specs.Boxes.{box_of}
use Rattle.boxed_exact.specs.Sides.{beside}
use Rattle.road_section.proofs.Checked.{road_checked}
use Rattle.road_section.proofs.road_checking.RoadClassCheckClass.check.Goals as goal

pub returns-clause-checked : goal.returns-clause-checked
returns-clause-checked c fields block prev e held is_before =
    road_checked (beside c.args.around.now) (box_of c.args.holder.now) block c.args.texts prev c.args.before (record { at = c.args.at; ordinal = c.args.ordinal + step_of fields; fields = fields }) c.see_road-road.result c.args.first.now c.check_road.new.first
    held is_before (c.see_road-road.ensures.seen fields e) c.check_road.ensures

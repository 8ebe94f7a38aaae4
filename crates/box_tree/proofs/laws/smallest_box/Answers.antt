use Rattle.box_tree.proofs.Boxes.{around_holds, least_around}
use Rattle.box_tree.proofs.laws.smallest_box.Goals as goal

pub returns-clause-holds : goal.returns-clause-holds
returns-clause-holds c = around_holds

pub returns-clause-least : goal.returns-clause-least
returns-clause-least c = least_around

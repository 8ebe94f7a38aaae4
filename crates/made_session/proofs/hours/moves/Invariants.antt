use Rattle.std.proofs.Common.{◌≡◌, ◌*◌}
use Rattle.std.specs.List.{AllByRecursion}
use Rattle.live_model.specs.Objects.{IsGoodLine}
use Rattle.made_session.specs.Draws.{state_after}
use Rattle.made_session.specs.Loads.{moved_nodes}
use Rattle.made_session.proofs.hours.moves.Given as goal

-- the nodes so far
abbrev pub invariant-loop-index : goal.invariant-loop-index
invariant-loop-index l = record {
  lines : l.lines ≡ moved_nodes l.initial.draws l.hour l.index;
  good : AllByRecursion IsGoodLine l.lines;
  after : l.draws ≡ state_after l.initial.draws (3 * l.index);
}

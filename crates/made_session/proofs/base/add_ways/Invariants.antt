use Rattle.std.proofs.Common.{◌≡◌, ◌++◌, ◌*◌}
use Rattle.std.specs.List.{AllByRecursion}
use Rattle.live_model.specs.Objects.{IsGoodLine}
use Rattle.made_session.specs.Draws.{state_after}
use Rattle.made_session.specs.Loads.{base_ways}
use Rattle.made_session.proofs.base.add_ways.Given as goal

-- the ways so far
abbrev pub invariant-loop-index : goal.invariant-loop-index
invariant-loop-index l = record {
  lines : l.lines ≡ l.initial.lines ++ base_ways l.initial.draws l.index;
  good : AllByRecursion IsGoodLine l.initial.lines → AllByRecursion IsGoodLine l.lines;
  after : l.draws ≡ state_after l.initial.draws (5 * l.index);
}

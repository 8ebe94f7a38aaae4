use Rattle.std.proofs.Common.{◌≡◌, ◌^◌, ◌≤◌, length}
use Rattle.std.specs.Prelude.{unsigned_abs}
use Rattle.std.specs.List.{AllByRecursion}
use Rattle.made_session.specs.Draws.{state_after}
use Rattle.made_session.specs.Loads.{drawn_refs}
use Rattle.made_session.proofs.base.refs.Given as goal

-- the nodes so far
abbrev pub invariant-loop-index : goal.invariant-loop-index
invariant-loop-index l = record {
  refs : l.refs ≡ drawn_refs l.initial.draws l.index;
  count : length l.refs ≡ l.index;
  good : AllByRecursion (λ n. unsigned_abs n ≤ 2 ^ 48) l.refs;
  after : l.draws ≡ state_after l.initial.draws l.index;
}

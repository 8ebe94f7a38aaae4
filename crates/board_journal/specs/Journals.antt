-- Journals of a board over rules and base lines.
use Rattle.std.specs.Prelude.{List}
use Rattle.std.specs.List.{AllByRecursion}
use Rattle.live_model.specs.declared.objects.Line.{Line}
use Rattle.live_model.specs.declared.rules.Rule.{Rule}
use Rattle.live_model.specs.Objects.{IsGoodLine}
use Rattle.overlay_set.specs.Sets.{State, opening}
use Rattle.overlay_set.specs.SetLaws.{IsGoodSwap}
use Rattle.overlay_set.specs.Swaps.{Swap, IsJournal, Takes, after}

-- the state to which a journal leads from the base alone
abbrev pub state_after : List Rule → List Line → List Swap → State
state_after rules base log = after (opening rules base) log

-- the lines of base and publications are good, and each swap changes the state before it as it may
pub record IsBoardJournal (rules : List Rule) (base : List Line) (log : List Swap) : Type 0 where
  pub good_base : AllByRecursion IsGoodLine base
  pub good : AllByRecursion IsGoodSwap log
  pub legal : IsJournal rules base (opening rules base) log

-- the swap has good lines, and may come after the journal
pub record MayCome (rules : List Rule) (base : List Line) (log : List Swap) (swap : Swap) : Type 0 where
  pub good : IsGoodSwap swap
  pub takes : Takes rules base (state_after rules base log) swap

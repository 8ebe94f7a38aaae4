-- Tables of rules.
use Rattle.std.specs.Prelude.{◌≡◌, ◌≤◌, ℕ, List, length}
use Rattle.std.specs.List.{AllByRecursion}
use Rattle.live_model.specs.declared.rules.Rule.{Rule}
use Rattle.live_model.specs.Rules.{IsRule, rules_text}
use Rattle.tag_rules.specs.Order.{IsOrder}

-- the rules of a table, its canonical text, and the places of the rules in their order
pub record IsTable (rules : List Rule) (text order : List ℕ) : Type 0 where
  pub each : AllByRecursion IsRule rules
  pub few : length rules ≤ 100000
  pub canonical : text ≡ rules_text rules
  pub placed : IsOrder rules order

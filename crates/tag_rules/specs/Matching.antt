-- Which rule of a table comes first.
use Rattle.std.specs.Prelude.{ℕ, List, Bool, drop, find, Option, Some, None, min}
use Rattle.std.specs.Option.{option_map}
use Rattle.std.specs.List.{enumerate_from}
use Rattle.live_model.specs.declared.objects.Tag.{Tag}
use Rattle.live_model.specs.declared.shapes.Shape.{Shape}
use Rattle.live_model.specs.declared.rules.Rule.{Rule}
use Rattle.live_model.specs.Rules.{matches}

-- the place of the first rule at or after `from` that passes a test
abbrev pub first_from : (Rule → Bool) → List Rule → ℕ → Option ℕ
first_from passes rules from = option_map (λ r. r.0) (find (λ r. passes r.1) (drop from (enumerate_from 0 rules)))

-- the place of the first rule at or after `from` that matches
abbrev pub matching_from : List Rule → Shape → List Tag → ℕ → Option ℕ
matching_from rules shape tags from = first_from (λ r. matches r shape tags) rules from

-- the earlier of two places, where there are any
abbrev pub earlier : Option ℕ → Option ℕ → Option ℕ
earlier None b = b
earlier (Some a) None = Some a
earlier (Some a) (Some b) = Some (min a b)

-- The canonical text of rules is read again.
use Rattle.std.proofs.Common.{◌≡◌, ◌≤◌, ℕ, Bool, List, length, refl, ap, ◌∙◌}
use Rattle.std.specs.Prelude.{◌&&◌, nat_le, bytes_eq, if◌then◌else◌, Some, None, Option}
use Rattle.std.specs.List.{AllByRecursion}
use Rattle.std.specs.Option.{option_and_then}
use Rattle.std.proofs.lemmas.Bool.{and_from, le-leb}
use Rattle.std.proofs.lemmas.Slice.Eq.{bytes_eq-Decides}
use Rattle.live_model.specs.declared.rules.Rule.{Rule}
use Rattle.live_model.specs.Rules.{IsRule, rules_text}
use Rattle.file_grammar.specs.Files.{rules_in}
use Rattle.tag_rules.proofs.CanonicalRules.{text_back}

abbrev canonical_from : List ℕ → List Rule → Option (List Rule)
canonical_from text rules = if nat_le (length rules) 100000 && bytes_eq text (rules_text rules) then Some rules else None

pub rules_again : (rules : List Rule) → AllByRecursion IsRule rules → length rules ≤ 100000 → rules_in (rules_text rules) ≡ Some rules
rules_again rules each few =
    ap (option_and_then (canonical_from (rules_text rules))) (text_back rules each few).spelled
    ∙ ap (λ (b : Bool). if b then Some rules else None) (and_from (nat_le (length rules) 100000) (bytes_eq (rules_text rules) (rules_text rules)) (le-leb (length rules) 100000 few) ((bytes_eq-Decides (rules_text rules) (rules_text rules)).1 refl))

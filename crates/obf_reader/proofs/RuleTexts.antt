-- A text of rules that breaks has no rules in it.
use Rattle.std.proofs.Common.{◌≡◌, ℕ, Bool, List, length, Option, Some, None, refl, sym, ap, ◌∙◌, inl, inr}
use Rattle.std.specs.Prelude.{◌&&◌, nat_le, bytes_eq, if◌then◌else◌}
use Rattle.std.specs.Option.{option_and_then}
use Rattle.std.proofs.lemmas.Bool.{cases_Bool, leb-true}
use Rattle.live_model.specs.declared.rules.Rule.{Rule}
use Rattle.live_model.specs.declared.rules.RuleBreak.{RuleBreak}
use Rattle.live_model.specs.Rules.{RuleText, rule_lines, rules_break, rules_text, spelled_rules}
use Rattle.tag_rules.proofs.RuleLaw.{read_has_none}
use Rattle.file_grammar.specs.Files.{rules_in}

abbrev canonical : List ℕ → Bool → List Rule → Option (List Rule)
canonical text few rules = if few && bytes_eq text (rules_text rules) then Some rules else None

abbrev some_break : RuleBreak → Option RuleBreak
some_break b = Some b

none_few : (text : List ℕ) (b : RuleBreak) (rules : List Rule) → rules_break text ≡ Some b → spelled_rules (rule_lines text) ≡ Some rules → canonical text (nat_le (length rules) 100000) rules ≡ None
none_few text b rules breaks spelled =
    elim (cases_Bool (nat_le (length rules) 100000)) [
      | inl few ↦
          let read : RuleText text rules = record { spelled = spelled; within = leb-true (length rules) 100000 few } in
          let both : some_break b ≡ None = sym breaks ∙ read_has_none text rules read in absurd cc
      | inr many ↦ ap (λ (few : Bool). canonical text few rules) many
    ]

none_of : (text : List ℕ) (b : RuleBreak) (spelled : Option (List Rule)) → rules_break text ≡ Some b → spelled_rules (rule_lines text) ≡ spelled
    → option_and_then (λ rules. canonical text (nat_le (length rules) 100000) rules) spelled ≡ None
none_of text b None breaks e = refl
none_of text b (Some rules) breaks e = none_few text b rules breaks e

pub no_rules : (text : List ℕ) (b : RuleBreak) → rules_break text ≡ Some b → rules_in text ≡ None
no_rules text b breaks = none_of text b (spelled_rules (rule_lines text)) breaks refl

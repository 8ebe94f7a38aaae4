use Rattle.std.proofs.Common.{◌≡◌, take}
use Rattle.live_model.specs.Rules.{rules_text}
use Rattle.tag_rules.proofs.writing.canonical.Given as goal

abbrev pub invariant-loop-rule : goal.invariant-loop-rule
invariant-loop-rule l = l.text.items ≡ rules_text (take l.rule-index l.rules)

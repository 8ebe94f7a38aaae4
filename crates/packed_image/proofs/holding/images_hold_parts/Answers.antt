use Rattle.std.proofs.Common.{◌≤◌, ℕ, List, length, subst}
use Rattle.std.specs.List.{AllByRecursion}
use Rattle.live_model.specs.declared.rules.Rule.{Rule}
use Rattle.live_model.specs.Rules.{IsRule}
use Rattle.file_grammar.specs.Files.{whole}
use Rattle.file_grammar.specs.Readings.{IsInMemory}
use Rattle.packed_image.proofs.HeldParts.{holds_parts}
use Rattle.packed_image.proofs.holding.images_hold_parts.Goals as goal

pub returns : goal.returns
returns c =
    holds_parts c.args.image.now c.bytes.ensures.file (subst (λ (b : List ℕ). IsInMemory (whole b)) c.bytes.ensures.bytes c.in_memory.ensures)
    (subst (AllByRecursion IsRule) c.rules.ensures c.text.ensures.rules, subst (λ (rules : List Rule). length rules ≤ 100000) c.rules.ensures c.text.ensures.few)

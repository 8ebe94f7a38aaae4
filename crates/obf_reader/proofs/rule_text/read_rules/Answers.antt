use Rattle.std.proofs.Common.{◌∙◌, [], List, Option, ap, sym, subst}
use Rattle.std.specs.Prelude.{is_some, unwrap_or}
use Rattle.live_model.specs.declared.rules.Rule.{Rule}
use Rattle.tag_rules.specs.Readings.{IsCause}
use Rattle.obf_reader.proofs.RuleTexts.{no_rules}
use Rattle.obf_reader.proofs.rule_text.read_rules.Goals as goal

pub returns-in-Err-Broken-clause-canonical : goal.returns-in-Err-Broken-clause-canonical
returns-in-Err-Broken-clause-canonical c =
    c.none.ensures.canonical ∙ sym (ap (λ (rules : Option (List Rule)). is_some rules) (no_rules c.args.text.now c.in-Err-Broken.field-0-0 (subst (IsCause c.args.text.now) c.in-Err-Broken.field-0-is c.in-Err-Broken.ensures.broken)))

pub returns-in-Err-Broken-clause-rules : goal.returns-in-Err-Broken-clause-rules
returns-in-Err-Broken-clause-rules c =
    c.none.ensures.rules ∙ sym (ap (λ (rules : Option (List Rule)). unwrap_or rules []) (no_rules c.args.text.now c.in-Err-Broken.field-0-0 (subst (IsCause c.args.text.now) c.in-Err-Broken.field-0-is c.in-Err-Broken.ensures.broken)))

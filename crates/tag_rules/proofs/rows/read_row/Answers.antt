use Rattle.std.proofs.Common.{◌≡◌, true, sym, ◌∙◌}
use Rattle.std.specs.Str.{is_utf8}
use Rattle.live_model.specs.declared.rules.RuleKind.TheVariants.{NotUtf8, FieldCount}
use Rattle.tag_rules.specs.Readings.{seen}
use Rattle.tag_rules.proofs.RowReadings.{not_text, no_fields, row_cause, row_read, row_refused}
use Rattle.tag_rules.proofs.rows.read_row.Goals as goal

pub returns-then-not-is_text-clause-broken : goal.returns-then-not-is_text-clause-broken
returns-then-not-is_text-clause-broken c = row_cause c.args.row.now NotUtf8 c.broken.result c.broken.ensures (not_text c.args.row.now (sym c.is_text.ensures ∙ c.if-not-is_text.true))

pub returns-in_default-clause-broken : goal.returns-in_default-clause-broken
returns-in_default-clause-broken c =
    let utf8 : is_utf8 c.args.row.now ≡ true = sym c.is_text.ensures ∙ c.if-not-is_text.false in
    row_cause c.args.row.now FieldCount c.broken-in_default.result c.broken-in_default.ensures (no_fields c.args.row.now utf8 c.in_default.ensures)

pub returns-clause-rule : goal.returns-clause-rule
returns-clause-rule c =
    row_read c.args.row.now (seen c.in-Some.fields) c.rule.result (sym c.is_text.ensures ∙ c.if-not-is_text.false) c.in-Some.ensures.are c.rule.ensures.rule c.rule.ensures.good

pub returns-clause-broken : goal.returns-clause-broken
returns-clause-broken c =
    row_refused c.args.row.now (seen c.in-Some.fields) c.rule.result (sym c.is_text.ensures ∙ c.if-not-is_text.false) c.in-Some.ensures.are c.rule.ensures.broken

use Rattle.std.proofs.Common.{◌≡◌, length, sym}
use Rattle.script_text.proofs.LineFields.{without_lane, without_verb}
use Rattle.script_text.proofs.form.read_step.Goals as goal

pub returns-in_default-clause-broken : goal.returns-in_default-clause-broken
returns-in_default-clause-broken c = without_lane (length c.args.row.now) _ c.broken.result c.in_default.ensures.fields c.broken.ensures

pub returns-in_default-next_field-clause-broken : goal.returns-in_default-next_field-clause-broken
returns-in_default-next_field-clause-broken c =
    without_verb (length c.args.row.now) _ (c.in-Some.first.at, c.in-Some.first.bytes.now) _ c.in-Some-lane_named.lane c.broken-in_default-next_field.result
    c.in-Some.ensures.fields c.in_default-next_field.ensures.fields (sym c.in-Some-lane_named.ensures.lane) c.broken-in_default-next_field.ensures

use Rattle.std.proofs.Common.{◌≡◌, ◌+◌, ◌*◌, sym, ◌∙◌}
use Rattle.stamp_core.specs.Hours.{civil_hour}
use Rattle.stamp_core.specs.Texts.{text_of}
use Rattle.stamp_core.proofs.Spelled.{spells, found, none}
use Rattle.stamp_core.proofs.stamp.Stamp.parse.Goals as goal

pub returns-clause-found : goal.returns-clause-found
returns-clause-found c =
    let hour = civil_hour (c.in_ok-century.century * 100 + c.in_ok-year.year) c.in_ok-month.month c.in_ok-day.day c.in_ok-hour.hour in
    let spelled : c.args.text.now ≡ text_of hour = sym c.as_bytes-bytes.ensures.value ∙ spells _ _ _ _ _ _ c.if-bytes-ne13.false c.if-bytes-ne45.false c.if-bytes-ne45-2.false c.if-bytes-ne45-3.false
    c.in_ok-century.ensures.found c.in_ok-year.ensures.found c.in_ok-month.ensures.found c.in_ok-day.ensures.found c.in_ok-hour.ensures.found in
    rw c.ok.ensures.value (found c.args.text.now hour c.new.result spelled c.new.ensures.succeeds c.new.ensures.value)

pub returns-clause-none : goal.returns-clause-none
returns-clause-none c =
    let hour = civil_hour (c.in_ok-century.century * 100 + c.in_ok-year.year) c.in_ok-month.month c.in_ok-day.day c.in_ok-hour.hour in
    let spelled : c.args.text.now ≡ text_of hour = sym c.as_bytes-bytes.ensures.value ∙ spells _ _ _ _ _ _ c.if-bytes-ne13.false c.if-bytes-ne45.false c.if-bytes-ne45-2.false c.if-bytes-ne45-3.false
    c.in_ok-century.ensures.found c.in_ok-year.ensures.found c.in_ok-month.ensures.found c.in_ok-day.ensures.found c.in_ok-hour.ensures.found in
    rw c.ok.ensures.value (none c.args.text.now hour c.new.result spelled c.new.ensures.succeeds c.new.ensures.value)

use Rattle.std.proofs.Common.{◌≡◌, Some, sym, ap, ◌∙◌, arith, rules, subst, IfErr, Err}
use Rattle.hour_words.specs.HourWords.{hour_of}
use Rattle.script_text.specs.Readings.{IsFailure}
use Rattle.script_text.proofs.LineFields.{without_name}
use Rattle.script_text.proofs.form.read_publication.Goals as goal

pub returns-in_err-file-clause-broken : goal.returns-in_err-file-clause-broken
returns-in_err-file-clause-broken c =
    let hour = c.in-Some.ensures in
    let name = c.in-Some-next_field.ensures in
    let within = c.requires.within in
    let failure = without_name c.args.end _ (c.in-Some.hour.at, c.in-Some.hour.bytes.now) _ (c.in-Some-next_field.name.at, c.in-Some-next_field.name.bytes.now) _ c.in-Some-read_hour.stamp c.in_err-file.field-0.0
    hour.fields name.fields (ap hour_of (sym c.characters.ensures) ∙ sym c.in-Some-read_hour.ensures.hour) (omega (arith, within, hour.rest, name.within)) c.in_err-file.ensures.bad in
    search rules

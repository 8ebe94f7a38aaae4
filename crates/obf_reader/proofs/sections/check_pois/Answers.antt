use Rattle.std.proofs.Common.{◌∙◌, ap}
use Rattle.std.proofs.lemmas.Result.{IfErr-weaker}
use Rattle.file_grammar.specs.BoxRules.{Beside}
use Rattle.poi_section.specs.Groups.{pois_break}
use Rattle.boxed_exact.specs.Sides.{beside}
use Rattle.obf_reader.proofs.Checked.{none_breaks, tells_none}
use Rattle.obf_reader.proofs.sections.check_pois.Goals as goal

pub returns-clause-broken : goal.returns-clause-broken
returns-clause-broken c =
    let side : Beside = beside c.args.around.now in
    let bytes = c.args.bytes.now in
    let s = c.args.sections.now in
    IfErr-weaker c.check.result _ _ (λ error told unbroken.
    tells_none error _ told (ap (pois_break side) c.window_at.ensures ∙ (none_breaks side bytes s unbroken).pois)) c.check.ensures.broken

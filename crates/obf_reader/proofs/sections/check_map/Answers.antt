use Rattle.std.proofs.Common.{◌∙◌, ap}
use Rattle.std.proofs.lemmas.Result.{IfErr-weaker}
use Rattle.file_grammar.specs.BoxRules.{Beside}
use Rattle.file_grammar.specs.declared.parts.Boxed.TheVariants.{Map}
use Rattle.file_grammar.specs.MapRules.{map_boxing}
use Rattle.boxed_exact.specs.Breaks.{section_break}
use Rattle.boxed_exact.specs.Sides.{beside}
use Rattle.obf_reader.proofs.Checked.{none_breaks, tells_none}
use Rattle.obf_reader.proofs.sections.check_map.Goals as goal

pub returns-clause-broken : goal.returns-clause-broken
returns-clause-broken c =
    let side : Beside = beside c.args.around.now in
    let bytes = c.args.bytes.now in
    let s = c.args.sections.now in
    IfErr-weaker c.check.result _ _ (λ error told unbroken.
    tells_none error _ told (ap (section_break Map map_boxing side) c.window_at.ensures ∙ (none_breaks side bytes s unbroken).map)) c.check.ensures.broken

use Rattle.std.proofs.Common.{◌∙◌, ap}
use Rattle.std.proofs.lemmas.Result.{IfErr-weaker}
use Rattle.file_grammar.specs.BoxRules.{Beside}
use Rattle.file_grammar.specs.declared.parts.Version.{Version}
use Rattle.addr_section.specs.Breaks.{addresses_break}
use Rattle.boxed_exact.specs.Sides.{beside}
use Rattle.obf_reader.specs.Spread.{window_of}
use Rattle.obf_reader.proofs.Checked.{none_breaks, tells_none}
use Rattle.obf_reader.proofs.sections.check_addresses.Goals as goal

pub returns-clause-broken : goal.returns-clause-broken
returns-clause-broken c =
    let side : Beside = beside c.args.around.now in
    let bytes = c.args.bytes.now in
    let s = c.args.sections.now in
    IfErr-weaker c.check.result _ _ (λ error told unbroken.
    tells_none error _ told (ap (addresses_break c.of.result side) c.window_at.ensures ∙ ap (λ (v : Version). addresses_break v side (window_of bytes s.addresses)) c.of.ensures ∙ (none_breaks side bytes s unbroken).addresses)) c.check.ensures.broken

use Rattle.std.proofs.Common.{sym, ◌∙◌}
use Rattle.obf_wire.specs.Windows.{range_of}
use Rattle.boxed_exact.specs.Sides.{beside}
use Rattle.road_section.proofs.Parts.{break_is, form_is}
use Rattle.road_section.proofs.section.check_exactly.Goals as goal

pub returns-in-None-clause-good : goal.returns-in-None-clause-good
returns-in-None-clause-good c =
    let w = range_of c.args.window in
    let f = form_is w c.in_ok-form.ensures in
    sym (break_is (beside c.args.around.now) w c.read_spans-spans.result f.0 f.1 (c.read_spans-spans.ensures.read f.0 f.1)) ∙ sym c.in_ok-found.ensures ∙ c.in-None.is

pub returns-in-Some-clause-broken : goal.returns-in-Some-clause-broken
returns-in-Some-clause-broken c =
    let w = range_of c.args.window in
    let f = form_is w c.in_ok-form.ensures in
    sym (break_is (beside c.args.around.now) w c.read_spans-spans.result f.0 f.1 (c.read_spans-spans.ensures.read f.0 f.1)) ∙ sym c.in_ok-found.ensures ∙ c.in-Some.is

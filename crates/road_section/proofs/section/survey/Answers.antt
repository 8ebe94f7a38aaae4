use Rattle.std.proofs.Common.{◌≡◌, None, sym, subst}
use Rattle.obf_wire.specs.Fields.{Window}
use Rattle.obf_wire.specs.Windows.{range_of}
use Rattle.file_grammar.specs.declared.parts.Boxed.TheVariants.{Restriction, Road}
use Rattle.file_grammar.specs.RoadRules.{ban_boxing, road_boxing}
use Rattle.boxed_exact.specs.Breaks.{section_break}
use Rattle.boxed_check.specs.Keeping.{IsKept}
use Rattle.road_section.specs.declared.section.Kept.{Kept as KeptParts}
use Rattle.road_section.proofs.Parts.{kept_exactly, unbroken}
use Rattle.road_section.proofs.section.survey.Goals as goal

pub returns : goal.returns
returns c beside none =
    let w = range_of c.args.window in
    let kept : KeptParts = record { spans = c.read_spans-spans.result; roads = c.in_ok-roads.roads; bans = c.in_ok-bans.bans } in
    let u = unbroken beside w c.read_spans-spans.result c.read_spans-spans.ensures.read none in
    let roads = c.in_ok-roads.ensures beside (subst (λ (v : Window). section_break Road road_boxing beside v ≡ None) (sym c.roads_in.ensures) u.roads) in
    let bans = c.in_ok-bans.ensures beside (subst (λ (v : Window). section_break Restriction ban_boxing beside v ≡ None) (sym c.bans_in.ensures) u.bans) in
    kept_exactly beside w kept u c.read_spans-spans.ensures.inside
    (subst (λ (v : Window). IsKept Road road_boxing beside v c.in_ok-roads.roads) c.roads_in.ensures roads)
    (subst (λ (v : Window). IsKept Restriction ban_boxing beside v c.in_ok-bans.bans) c.bans_in.ensures bans)

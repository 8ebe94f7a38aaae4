use Rattle.std.proofs.Common.{Option, subst}
use Rattle.std.specs.Prelude.{IfSome}
use Rattle.obf_wire.specs.Fields.{Window}
use Rattle.obf_wire.specs.Windows.{range_of}
use Rattle.file_grammar.specs.declared.parts.Boxed.TheVariants.{Restriction, Road}
use Rattle.file_grammar.specs.RoadRules.{ban_boxing, road_boxing}
use Rattle.boxed_exact.specs.Sides.{beside}
use Rattle.boxed_check.specs.declared.kept.Kept.{Kept}
use Rattle.boxed_check.specs.Keeping.{IsKept}
use Rattle.road_section.specs.declared.section.Kept.{Kept as KeptParts}
use Rattle.road_section.proofs.Parts.{kept_straight}
use Rattle.road_section.proofs.section.see.Goals as goal

pub returns : goal.returns
returns c =
    let side = beside c.args.around.now in
    let kept : KeptParts = record { spans = c.in-Some.spans; roads = c.in-Some-found.roads; bans = c.in-Some-found-2.bans } in
    let roads_seen = subst (λ (o : Option Kept). IfSome o (IsKept Road road_boxing side (range_of c.roads_in.result))) c.in-Some-found.is c.in_ok-found.ensures in
    let bans_seen = subst (λ (o : Option Kept). IfSome o (IsKept Restriction ban_boxing side (range_of c.bans_in.result))) c.in-Some-found-2.is c.in_ok-found-2.ensures in
    kept_straight side (range_of c.args.window) kept c.in-Some.ensures.parts c.in-Some.ensures.inside
    (subst (λ (v : Window). IsKept Road road_boxing side v c.in-Some-found.roads) c.roads_in.ensures roads_seen)
    (subst (λ (v : Window). IsKept Restriction ban_boxing side v c.in-Some-found-2.bans) c.bans_in.ensures bans_seen)

use Rattle.std.proofs.Common.{◌+◌, ℕ, refl, rules, subst, sym}
use Rattle.obf_wire.specs.Fields.{Window}
use Rattle.obf_wire.specs.Windows.{range_of}
use Rattle.file_grammar.specs.declared.parts.Boxed.TheVariants.{Road}
use Rattle.file_grammar.specs.RoadRules.{road_boxing}
use Rattle.boxed_exact.specs.Boxes.{box_of}
use Rattle.boxed_exact.specs.Records.{IsGoodRecord}
use Rattle.boxed_exact.specs.Sides.{beside}
use Rattle.road_section.specs.SeenFacts.{key_of}
use Rattle.road_section.specs.Stops.{AreNodesIn}
use Rattle.road_section.proofs.StraightLines.{road_is}
use Rattle.road_section.proofs.road_checking.RoadClassCheckClass.see.Goals as goal

pub returns-clause-good : goal.returns-clause-good
returns-clause-good c =
    let side = beside c.args.around.now in
    let holder = box_of c.args.holder.now in
    let ordinal : ℕ = c.args.ordinal + c.in-Some.line.step in
    let nodes = subst (λ (w : Window). AreNodesIn w holder c.in-Some-nodes_in.count) c.part.ensures.range c.in-Some-nodes_in.ensures in
    let good = road_is side holder c.args.before c.args.texts c.args.ordinal c.args.at c.in-Some-nodes_in.count ordinal (range_of c.args.window) c.in-Some.line c.in-Some.ensures.read nodes refl
    (c.is_good_road.ensures (search rules)) in
    subst (λ (key : ℕ). IsGoodRecord Road road_boxing key_of side holder c.args.before c.args.texts c.args.ordinal c.args.at (range_of c.args.window) ordinal key) (sym c.from.ensures) good

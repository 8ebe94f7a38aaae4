use Rattle.std.proofs.Common.{sym, ◌∙◌, subst}
use Rattle.obf_wire.specs.Fields.{Window, part_of}
use Rattle.file_grammar.specs.RoadRules.{Stop}
use Rattle.road_section.specs.Readings.{HoldsStops}
use Rattle.road_section.specs.RoadLawful.{stop_of}
use Rattle.road_section.proofs.SegmentWalk.{segment_found, segment_passed, segments_all, segments_on}
use Rattle.road_section.proofs.StopRead.{led_is, next_good}
use Rattle.road_section.proofs.StopWalk.{at_place}
use Rattle.road_section.proofs.near.meets_segment.Goals as goal

pub loop-triple-preserved : goal.loop-triple-preserved
loop-triple-preserved c =
    let w : Window = part_of c.args.window.bytes.now c.loop-triple.at c.args.window.to in
    let node = c.loop-triple.node in
    let triple = c.in-Some.triple in
    let to = c.node_after-node.result in
    let is = led_is node to triple c.node_after-node.ensures.id c.node_after-node.ensures.x c.node_after-node.ensures.y in
    record {
      segments = λ numbers e.
          segment_passed c.args.rect.now numbers c.loop-triple.before to (at_place w triple.step.next) (segments_on c.args.rect.now numbers node to c.loop-triple.before w triple (c.loop-triple.invariant.segments numbers e) c.in-Some.ensures.triple is)
          (sym c.if-touches.ensures);
      inside = c.in-Some.ensures.forward.1;
      sound = subst (λ (stop : Stop). HoldsStops stop (at_place w triple.step.next)) is (next_good (stop_of node) w triple c.loop-triple.invariant.sound c.in-Some.ensures.triple).others;
    }

pub node_after-node-requires-clause-number : goal.node_after-node-requires-clause-number
node_after-node-requires-clause-number c =
    (next_good (stop_of c.loop-triple.node) (part_of c.args.window.bytes.now c.loop-triple.at c.args.window.to) c.in-Some.triple c.loop-triple.invariant.sound c.in-Some.ensures.triple).numbered

pub node_after-node-requires-clause-location : goal.node_after-node-requires-clause-location
node_after-node-requires-clause-location c =
    (next_good (stop_of c.loop-triple.node) (part_of c.args.window.bytes.now c.loop-triple.at c.args.window.to) c.in-Some.triple c.loop-triple.invariant.sound c.in-Some.ensures.triple).on_grid

pub returns-then-touches : goal.returns-then-touches
returns-then-touches c numbers e =
    let w : Window = part_of c.args.window.bytes.now c.loop-triple.at c.args.window.to in
    let node = c.loop-triple.node in
    let triple = c.in-Some.triple in
    let to = c.node_after-node.result in
    let is = led_is node to triple c.node_after-node.ensures.id c.node_after-node.ensures.x c.node_after-node.ensures.y in
    segment_found c.args.rect.now numbers c.loop-triple.before to (at_place w triple.step.next) (segments_on c.args.rect.now numbers node to c.loop-triple.before w triple (c.loop-triple.invariant.segments numbers e) c.in-Some.ensures.triple is)
    (sym c.if-touches.ensures)

pub returns : goal.returns
returns c numbers e =
    segments_all c.args.rect.now numbers c.loop-triple.node c.loop-triple.before (part_of c.args.window.bytes.now c.loop-triple.at c.args.window.to) (c.loop-triple.invariant.segments numbers e) c.in_default.ensures.triple

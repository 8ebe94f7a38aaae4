use Rattle.std.proofs.Common.{◌≡◌, ◌+◌, ℕ, Ok, sym, ap, subst, arith, rules}
use Rattle.obf_wire.specs.Fields.{Window, part_of}
use Rattle.obf_wire.specs.Windows.{range_of}
use Rattle.file_grammar.specs.Readings.{numbers_at}
use Rattle.file_grammar.specs.RoadRules.{Stop}
use Rattle.boxed_exact.specs.Boxes.{box_of}
use Rattle.road_section.specs.declared.stops.NodesSeen.{NodesSeen}
use Rattle.road_section.specs.Stops.{IsReachedBy, seen_with, stop_at}
use Rattle.road_section.proofs.StopWalk.{StopsLeft, stops_all, stops_begin, stops_on}
use Rattle.road_section.proofs.stops.see_nodes.Goals as goal

pub loop-triple-init : goal.loop-triple-init
loop-triple-init c =
    let start : Window = part_of c.args.window.bytes.now c.from-at.result c.args.window.to in
    let same : range_of c.args.window ≡ start = ap (λ (at : ℕ). part_of c.args.window.bytes.now at c.args.window.to) (sym c.from-at.ensures) in
    record {
      nodes = λ numbers e. stops_begin (box_of c.args.holder.now) numbers start (subst (λ (w : Window). numbers_at w ≡ Ok numbers) same e);
      reach = record { number = (search rules, search rules); x = (search rules, search rules); y = (search rules, search rules) };
      few = omega arith;
      inside = omega (arith, c.from-at.ensures, c.args.window.ordered);
    }

pub loop-triple-preserved : goal.loop-triple-preserved
loop-triple-preserved c =
    let holder = box_of c.args.holder.now in
    let w : Window = part_of c.args.window.bytes.now c.loop-triple.at c.args.window.to in
    let v : Window = part_of c.args.window.bytes.now c.in-Some.triple.step.next c.args.window.to in
    let from : Stop = stop_at c.loop-triple.stop in
    let count : c.with_stop-seen.result.count ≡ c.loop-triple.seen.count + 1 = ap (λ (s : NodesSeen). s.count) c.with_stop-seen.ensures in
    record {
      nodes = λ numbers e.
          let p = stops_on holder numbers from c.loop-triple.seen w c.in-Some.triple (c.loop-triple.invariant.nodes numbers e) c.in-Some.ensures.triple in
          let q = subst (λ (s : Stop). StopsLeft holder numbers s (seen_with holder c.loop-triple.seen s) v) (sym c.led-stop.ensures.stop) p in
          subst (λ (seen : NodesSeen). StopsLeft holder numbers (stop_at c.led-stop.result) seen v) (sym c.with_stop-seen.ensures) q;
      reach = subst (λ (n : ℕ). IsReachedBy n c.led-stop.result) (sym count) (c.led-stop.ensures.reach c.loop-triple.seen.count c.loop-triple.invariant.reach);
      few = omega (arith, count, c.loop-triple.invariant.few, c.in-Some.ensures.forward.0);
      inside = c.in-Some.ensures.forward.1;
    }

pub returns : goal.returns
returns c numbers e =
    stops_all (box_of c.args.holder.now) numbers (stop_at c.loop-triple.stop) c.loop-triple.seen (part_of c.args.window.bytes.now c.loop-triple.at c.args.window.to) (c.loop-triple.invariant.nodes numbers e) c.in_default.ensures.triple

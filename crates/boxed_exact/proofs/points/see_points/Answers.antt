use Rattle.std.proofs.Common.{◌≡◌, ◌+◌, ℕ, Ok, sym, ap, subst, arith, rules}
use Rattle.std.specs.Prelude.{ℤ, ◌+ℤ◌, ◌&&◌}
use Rattle.obf_wire.specs.Fields.{Window, part_of}
use Rattle.obf_wire.specs.Windows.{range_of}
use Rattle.file_grammar.specs.Readings.{numbers_at}
use Rattle.file_grammar.specs.BoxRules.{holds_place, is_on_grid}
use Rattle.boxed_exact.specs.declared.points.PointsSeen.{PointsSeen}
use Rattle.boxed_exact.specs.Boxes.{box_of}
use Rattle.boxed_exact.specs.Numbers.{IsReached}
use Rattle.boxed_exact.proofs.NumberWalk.{PointsLeft, points_begin, points_on, points_all}
use Rattle.boxed_exact.proofs.points.see_points.Goals as goal

pub loop-step-init : goal.loop-step-init
loop-step-init c =
    let start : Window = part_of c.args.window.bytes.now c.from-at.result c.args.window.to in
    let same : range_of c.args.window ≡ start = ap (λ (at : ℕ). part_of c.args.window.bytes.now at c.args.window.to) (sym c.from-at.ensures) in
    record {
      points = λ numbers e. points_begin (box_of c.args.holder.now) numbers start (subst (λ (w : Window). numbers_at w ≡ Ok numbers) same e);
      x = (search rules, search rules);
      y = (search rules, search rules);
      few = omega arith;
      inside = omega (arith, c.from-at.ensures, c.args.window.ordered);
    }

pub loop-step-preserved : goal.loop-step-preserved
loop-step-preserved c =
    let w : Window = record { bytes = c.args.window.bytes.now; place = c.loop-step.at; end = c.args.window.to } in
    let v : Window = record { bytes = c.args.window.bytes.now; place = c.in-Some.step.next; end = c.args.window.to } in
    let more : ℤ → ℤ → PointsSeen = λ x y. record {
      count = c.loop-step.seen.count + 1;
      on_grid = c.loop-step.seen.on_grid && is_on_grid (x, y);
      in_box = c.loop-step.seen.in_box && holds_place (box_of c.args.holder.now) (x, y);
    } in
    let count : c.with_spot-seen.result.count ≡ c.loop-step.seen.count + 1 = ap (λ (s : PointsSeen). s.count) c.with_spot-seen.ensures in
    record {
      points = λ numbers e.
          let p = points_on (box_of c.args.holder.now) numbers c.loop-step.spot.x c.loop-step.spot.y c.loop-step.seen w c.in-Some.step (c.loop-step.invariant.points numbers e) c.in-Some.ensures.step in
          let q = subst (λ (x : ℤ). PointsLeft (box_of c.args.holder.now) numbers x (c.loop-step.spot.y +ℤ c.in-Some.step.south) (more x (c.loop-step.spot.y +ℤ c.in-Some.step.south)) v) (sym c.moved-spot.ensures.x) p in
          let r = subst (λ (y : ℤ). PointsLeft (box_of c.args.holder.now) numbers c.moved-spot.result.x y (more c.moved-spot.result.x y) v) (sym c.moved-spot.ensures.y) q in
          subst (λ (s : PointsSeen). PointsLeft (box_of c.args.holder.now) numbers c.moved-spot.result.x c.moved-spot.result.y s v) (sym c.with_spot-seen.ensures) r;
      x = subst (λ (n : ℕ). IsReached n c.moved-spot.result.x) (sym count) (c.moved-spot.ensures.reach_x c.loop-step.seen.count c.loop-step.invariant.x);
      y = subst (λ (n : ℕ). IsReached n c.moved-spot.result.y) (sym count) (c.moved-spot.ensures.reach_y c.loop-step.seen.count c.loop-step.invariant.y);
      few = omega (arith, count, c.loop-step.invariant.few, c.in-Some.ensures.forward.0);
      inside = c.in-Some.ensures.forward.1;
    }

pub returns-clause-count : goal.returns-clause-count
returns-clause-count c numbers e =
    (points_all (box_of c.args.holder.now) numbers c.loop-step.spot.x c.loop-step.spot.y c.loop-step.seen (record { bytes = c.args.window.bytes.now; place = c.loop-step.at; end = c.args.window.to }) (c.loop-step.invariant.points numbers e) c.in_default.ensures.step).count

pub returns-clause-on_grid : goal.returns-clause-on_grid
returns-clause-on_grid c numbers e =
    (points_all (box_of c.args.holder.now) numbers c.loop-step.spot.x c.loop-step.spot.y c.loop-step.seen (record { bytes = c.args.window.bytes.now; place = c.loop-step.at; end = c.args.window.to }) (c.loop-step.invariant.points numbers e) c.in_default.ensures.step).on_grid

pub returns-clause-in_box : goal.returns-clause-in_box
returns-clause-in_box c numbers e =
    (points_all (box_of c.args.holder.now) numbers c.loop-step.spot.x c.loop-step.spot.y c.loop-step.seen (record { bytes = c.args.window.bytes.now; place = c.loop-step.at; end = c.args.window.to }) (c.loop-step.invariant.points numbers e) c.in_default.ensures.step).in_box

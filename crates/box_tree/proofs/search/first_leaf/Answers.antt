use Rattle.std.proofs.Common.{◌≡◌, ℕ, ◌+◌, ◌*◌, ◌^◌, ◌<◌, ◌/◌, sym, ap, ◌∙◌, arith, length, List, [], ◌∷◌, refl}
use Rattle.live_model.specs.declared.points.Rect.{Rect}
use Rattle.box_tree.specs.Trees.{lowest}
use Rattle.std.proofs.lemmas.Bool.Decides.{nat_tests}
use Rattle.box_tree.proofs.Parts.{none_past, is_none_of}
use Rattle.box_tree.proofs.Walk.{lowest_at, above_leaf, climb_start, climb_leaf, climb_leaf_steps, climb_more, climb_found, climb_high, climb_here, climb_steps, climb_end, until_front}
use Rattle.box_tree.proofs.Found.{climb_found_steps, first_steps}
use Rattle.box_tree.proofs.search.first_leaf.Goals as goal
use Rattle.box_tree.proofs.search.first_leaf.Goals.{then-is_empty-via-then-is_empty, then-is_empty-via-else-is_empty+then-from-nodes}

none : Rect
none = record { left = 0; top = 0; right = 0; bottom = 0 }

no_levels : (levels : List (List Rect)) → length levels ≡ 0 → lowest levels ≡ []
no_levels [] few = refl
no_levels (level ∷ levels) few = absurd (omega arith)

pub returns-then-is_empty-clause-leaf : goal.returns-then-is_empty-clause-leaf
returns-then-is_empty-clause-leaf g c =
    let at_ground = lowest_at c.args.levels.now in
    elim c.then-is_empty.branch [
      | then-is_empty-via-then-is_empty w ↦
          let few : length c.args.levels.now ≡ 0 = grind (arith, nat_tests, c.is_empty.ensures, w.if-is_empty.true) in
          none_past (lowest c.args.levels.now) c.args.rect.now c.args.from (omega (arith, ap length (no_levels c.args.levels.now few)))
      | then-is_empty-via-else-is_empty+then-from-nodes w ↦
          none_past (lowest c.args.levels.now) c.args.rect.now c.args.from (omega (arith, w.if-from-nodes.true, ap length w.nodes.ensures.nodes, ap length at_ground))
    ]

pub returns-then-node_meets-clause-leaf : goal.returns-then-node_meets-clause-leaf
returns-then-node_meets-clause-leaf g c =
    climb_leaf c.args.levels.now c.args.rect.now c.args.from none (omega (arith, ap length c.nodes.ensures.nodes)) (sym (c.if-node_meets.ensures.meets none))

pub returns-then-node_meets-clause-steps : goal.returns-then-node_meets-clause-steps
returns-then-node_meets-clause-steps g c =
    let some : 0 < length c.args.levels.now = grind (arith, nat_tests, c.is_empty.ensures, c.if-is_empty.false) in
    let one = climb_leaf_steps c.args.levels.now c.args.rect.now c.args.from none (omega (arith, ap length c.nodes.ensures.nodes)) some (sym (c.if-node_meets.ensures.meets none)) in
    omega (arith, one, c.tick.ensures)

pub loop-height-init : goal.loop-height-init
loop-height-init g c = record {
  here = omega arith;
  none = climb_start c.args.levels.now c.args.rect.now c.args.from (λ d. sym (c.if-node_meets.ensures.meets d));
  steps = omega arith;
}

pub first_beside-found-requires-clause-within : goal.first_beside-found-requires-clause-within
first_beside-found-requires-clause-within g c =
    let at_ground = lowest_at c.args.levels.now in
    let from_in : c.args.from < length (lowest c.args.levels.now) = omega (arith, ap length c.nodes.ensures.nodes, ap length at_ground) in
    let inside = (above_leaf c.args.levels.now c.loop-height.height c.args.from none c.requires (omega arith) from_in).0 in
    omega (arith, inside, c.loop-height.invariant.here)

pub returns-then-is_some-clause-leaf : goal.returns-then-is_some-clause-leaf
returns-then-is_some-clause-leaf g c =
    let place : ℕ = c.loop-height.place in
    let h : ℕ = c.loop-height.height in
    climb_found (lowest c.args.levels.now) c.args.rect.now c.args.from ((place / 8 + 1) * 8 ^ (h + 1)) c.first_beside-found.result (climb_high c.args.from h place c.loop-height.invariant.here) (sym c.if-is_some.ensures)
    (climb_more (lowest c.args.levels.now) c.args.rect.now c.args.from h place c.first_beside-found.result c.loop-height.invariant.here c.loop-height.invariant.none c.first_beside-found.ensures.leaf)

pub returns-then-is_some-clause-steps : goal.returns-then-is_some-clause-steps
returns-then-is_some-clause-steps g c =
    let place : ℕ = c.loop-height.place in
    let h : ℕ = c.loop-height.height in
    let more = climb_steps c.args.levels.now c.args.rect.now c.args.from h place c.loop-height.invariant.here in
    let front = until_front c.args.levels.now c.args.rect.now c.args.from (h + 1) (place / 8 + 1) (omega arith) in
    omega (arith, more, front, c.loop-height.invariant.steps, c.first_beside-found.ensures.steps)

pub loop-height-preserved : goal.loop-height-preserved
loop-height-preserved g c =
    let place : ℕ = c.loop-height.place in
    let h : ℕ = c.loop-height.height in
    let more = climb_steps c.args.levels.now c.args.rect.now c.args.from h place c.loop-height.invariant.here in
    let over = is_none_of c.first_beside-found.result (sym c.if-is_some.ensures) in
    record {
      here = climb_here c.args.from h place c.loop-height.invariant.here;
      none = over ∙ climb_more (lowest c.args.levels.now) c.args.rect.now c.args.from h place c.first_beside-found.result c.loop-height.invariant.here c.loop-height.invariant.none c.first_beside-found.ensures.leaf;
      steps = omega (arith, more, c.loop-height.invariant.steps, c.first_beside-found.ensures.steps);
    }

pub returns-clause-leaf : goal.returns-clause-leaf
returns-clause-leaf g c =
    let at_ground = lowest_at c.args.levels.now in
    let some : 0 < length c.args.levels.now = grind (arith, nat_tests, c.is_empty.ensures, c.if-is_empty.false) in
    let from_in : c.args.from < length (lowest c.args.levels.now) = omega (arith, ap length c.nodes.ensures.nodes, ap length at_ground) in
    climb_end c.args.levels.now c.args.rect.now c.args.from c.loop-height.height c.loop-height.place c.requires from_in (omega arith) (omega arith) c.loop-height.invariant.none

pub returns-clause-steps : goal.returns-clause-steps
returns-clause-steps g c =
    let some : 0 < length c.args.levels.now = grind (arith, nat_tests, c.is_empty.ensures, c.if-is_empty.false) in
    let front = until_front c.args.levels.now c.args.rect.now c.args.from c.loop-height.height (c.loop-height.place + 1) (omega arith) in
    omega (arith, front, c.loop-height.invariant.steps)

pub returns-then-node_meets-clause-found : goal.returns-then-node_meets-clause-found
returns-then-node_meets-clause-found g c =
    let some : 0 < length c.args.levels.now = grind (arith, nat_tests, c.is_empty.ensures, c.if-is_empty.false) in
    let one = first_steps c.args.levels.now c.args.rect.now c.args.from none (omega (arith, ap length c.nodes.ensures.nodes)) some (sym (c.if-node_meets.ensures.meets none)) in
    omega (arith, one, c.tick.ensures)

pub returns-then-is_some-clause-found : goal.returns-then-is_some-clause-found
returns-then-is_some-clause-found g c =
    let place : ℕ = c.loop-height.place in
    let h : ℕ = c.loop-height.height in
    climb_found_steps c.args.levels.now c.args.rect.now c.args.from h place ((place / 8 + 1) * 8 ^ (h + 1)) c.first_beside-found.result c.args.steps.now c.loop-height.steps c.first_beside-found.new.steps
    c.loop-height.invariant.here (omega arith) c.loop-height.invariant.steps c.first_beside-found.ensures.leaf c.first_beside-found.ensures.found

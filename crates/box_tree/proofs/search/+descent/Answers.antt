use Rattle.std.proofs.Common.{◌≡◌, ℕ, ◌+◌, ◌-◌, ◌<◌, ◌≤◌, ◌*◌, ◌^◌, sym, ap, subst, ◌∙◌, arith, true, get_or, length}
use Rattle.live_model.specs.declared.points.Rect.{Rect}
use Rattle.live_model.specs.Points.{overlaps}
use Rattle.box_tree.specs.Trees.{lowest}
use Rattle.box_tree.specs.Walk.{nodes_at, first_between, nodes_until}
use Rattle.box_tree.proofs.Walk.{below_apart, below_leaf, below_node_steps, below_children, among_start, among_found, among_more, among_end, among_steps, among_rises}
use Rattle.std.specs.Prelude.{IfSome}
use Rattle.box_tree.specs.Walk.{nodes_up_to}
use Rattle.box_tree.proofs.Found.{among_found_steps, child_found, leaf_steps}
use Rattle.box_tree.proofs.search.+descent.Goals as goal

pub first_among-loop-place-init : goal.first_among-loop-place-init
first_among-loop-place-init g t c = record {
  inside = c.requires.ordered;
  none = among_start (lowest c.args.levels.now) c.args.rect.now (c.args.from * 8 ^ c.args.height);
  steps = omega arith;
}

pub first_among-returns-then-is_some-clause-leaf : goal.first_among-returns-then-is_some-clause-leaf
first_among-returns-then-is_some-clause-leaf g t c =
    among_found (lowest c.args.levels.now) c.args.rect.now c.args.height c.args.from c.loop-place.place c.args.to c.first_below-found.result (omega arith) (omega arith) c.loop-place.invariant.none
    (sym c.if-is_some.ensures) c.first_below-found.ensures.leaf

pub first_among-returns-then-is_some-clause-steps : goal.first_among-returns-then-is_some-clause-steps
first_among-returns-then-is_some-clause-steps g t c =
    let more = among_steps c.args.levels.now c.args.rect.now c.args.height c.args.from c.loop-place.place (omega arith) in
    let rises = among_rises c.args.levels.now c.args.rect.now c.args.height c.args.from (c.loop-place.place + 1) c.args.to (omega arith) (omega arith) in
    omega (arith, more, rises, c.first_below-found.ensures.steps, c.loop-place.invariant.steps)

pub first_among-loop-place-preserved : goal.first_among-loop-place-preserved
first_among-loop-place-preserved g t c =
    let more = among_steps c.args.levels.now c.args.rect.now c.args.height c.args.from c.loop-place.place (omega arith) in
    record {
      inside = omega arith;
      none = among_more (lowest c.args.levels.now) c.args.rect.now c.args.height c.args.from c.loop-place.place c.first_below-found.result (omega arith) c.loop-place.invariant.none (sym c.if-is_some.ensures) c.first_below-found.ensures.leaf;
      steps = omega (arith, more, c.first_below-found.ensures.steps, c.loop-place.invariant.steps);
    }

pub first_among-returns-clause-leaf : goal.first_among-returns-clause-leaf
first_among-returns-clause-leaf g t c =
    among_end c.args.levels.now c.args.rect.now c.args.height c.args.from c.loop-place.place c.args.to c.requires.tree c.requires.low (omega arith) c.loop-place.invariant.inside
    (omega (arith, ap length c.nodes.ensures.nodes)) c.loop-place.invariant.none

pub first_among-returns-clause-steps : goal.first_among-returns-clause-steps
first_among-returns-clause-steps g t c =
    let rises = among_rises c.args.levels.now c.args.rect.now c.args.height c.args.from c.loop-place.place c.args.to (omega arith) c.loop-place.invariant.inside in
    omega (arith, rises, c.loop-place.invariant.steps)

pub first_below-returns-then-not-node_meets-clause-leaf : goal.first_below-returns-then-not-node_meets-clause-leaf
first_below-returns-then-not-node_meets-clause-leaf g t c =
    below_apart c.args.levels.now c.args.rect.now c.args.height c.args.place c.requires.tree c.requires.low (λ d. sym (c.if-not-node_meets.ensures.meets d))

none : Rect
none = record { left = 0; top = 0; right = 0; bottom = 0 }

pub first_below-returns-then-height-eq0-clause-leaf : goal.first_below-returns-then-height-eq0-clause-leaf
first_below-returns-then-height-eq0-clause-leaf g t c =
    let ground_level : 0 ≡ c.args.height = sym c.if-height-eq0.true in
    let inside = subst (λ (h : ℕ). c.args.place < length (nodes_at c.args.levels.now h)) c.if-height-eq0.true c.requires.within in
    let meets = subst (λ (h : ℕ). overlaps (get_or (nodes_at c.args.levels.now h) c.args.place none) c.args.rect.now ≡ true) c.if-height-eq0.true (sym (c.if-not-node_meets.ensures.meets none)) in
    (below_leaf c.args.levels.now c.args.rect.now c.args.place none inside meets).0
    ∙ ap (λ (h : ℕ). first_between (lowest c.args.levels.now) c.args.rect.now (c.args.place * 8 ^ h) ((c.args.place + 1) * 8 ^ h)) ground_level

pub first_below-returns-then-height-eq0-clause-steps : goal.first_below-returns-then-height-eq0-clause-steps
first_below-returns-then-height-eq0-clause-steps g t c =
    let ground_level : 0 ≡ c.args.height = sym c.if-height-eq0.true in
    let inside = subst (λ (h : ℕ). c.args.place < length (nodes_at c.args.levels.now h)) c.if-height-eq0.true c.requires.within in
    let meets = subst (λ (h : ℕ). overlaps (get_or (nodes_at c.args.levels.now h) c.args.place none) c.args.rect.now ≡ true) c.if-height-eq0.true (sym (c.if-not-node_meets.ensures.meets none)) in
    let one = (below_leaf c.args.levels.now c.args.rect.now c.args.place none inside meets).1 ∙ ap (λ (h : ℕ). nodes_until c.args.levels.now c.args.rect.now h (c.args.place * 8 ^ h) (c.args.place + 1)) ground_level in
    omega (arith, one, c.tick.ensures)

pub first_below-returns-clause-leaf : goal.first_below-returns-clause-leaf
first_below-returns-clause-leaf g t c =
    let h : ℕ = c.args.height - 1 in
    let next : h + 1 ≡ c.args.height = omega arith in
    below_children (lowest c.args.levels.now) c.args.rect.now h c.args.place c.first_among.result c.first_among.ensures.leaf
    ∙ ap (λ (k : ℕ). first_between (lowest c.args.levels.now) c.args.rect.now (c.args.place * 8 ^ k) ((c.args.place + 1) * 8 ^ k)) next

pub first_below-returns-clause-steps : goal.first_below-returns-clause-steps
first_below-returns-clause-steps g t c =
    let h : ℕ = c.args.height - 1 in
    let next : c.args.height ≡ h + 1 = omega arith in
    let inside = subst (λ (k : ℕ). c.args.place < length (nodes_at c.args.levels.now k)) next c.requires.within in
    let meets = subst (λ (k : ℕ). overlaps (get_or (nodes_at c.args.levels.now k) c.args.place none) c.args.rect.now ≡ true) next (sym (c.if-not-node_meets.ensures.meets none)) in
    let one = below_node_steps c.args.levels.now c.args.rect.now h c.args.place none inside meets in
    let same = ap (λ (k : ℕ). nodes_until c.args.levels.now c.args.rect.now k (c.args.place * 8 ^ k) (c.args.place + 1)) next in
    omega (arith, one, same, c.tick.ensures, c.first_among.ensures.steps)

pub first_among-returns-then-is_some-clause-found : goal.first_among-returns-then-is_some-clause-found
first_among-returns-then-is_some-clause-found g t c =
    among_found_steps c.args.levels.now c.args.rect.now c.args.height c.args.from c.loop-place.place ((c.loop-place.place + 1) * 8 ^ c.args.height) c.first_below-found.result c.args.steps.now c.loop-place.steps c.first_below-found.new.steps
    (omega arith) c.loop-place.invariant.steps c.first_below-found.ensures.leaf c.first_below-found.ensures.found

pub first_below-returns-then-height-eq0-clause-found : goal.first_below-returns-then-height-eq0-clause-found
first_below-returns-then-height-eq0-clause-found g t c =
    let ground_level : 0 ≡ c.args.height = sym c.if-height-eq0.true in
    let inside = subst (λ (h : ℕ). c.args.place < length (nodes_at c.args.levels.now h)) c.if-height-eq0.true c.requires.within in
    let meets = subst (λ (h : ℕ). overlaps (get_or (nodes_at c.args.levels.now h) c.args.place none) c.args.rect.now ≡ true) c.if-height-eq0.true (sym (c.if-not-node_meets.ensures.meets none)) in
    let one = leaf_steps c.args.levels.now c.args.rect.now c.args.place none inside meets ∙ ap (λ (h : ℕ). nodes_up_to c.args.levels.now c.args.rect.now h (c.args.place * 8 ^ h) c.args.place) ground_level in
    omega (arith, one, c.tick.ensures)

pub first_below-returns-clause-found : goal.first_below-returns-clause-found
first_below-returns-clause-found g t c =
    let h : ℕ = c.args.height - 1 in
    let next : c.args.height ≡ h + 1 = omega arith in
    let inside = subst (λ (k : ℕ). c.args.place < length (nodes_at c.args.levels.now k)) next c.requires.within in
    let meets = subst (λ (k : ℕ). overlaps (get_or (nodes_at c.args.levels.now k) c.args.place none) c.args.rect.now ≡ true) next (sym (c.if-not-node_meets.ensures.meets none)) in
    let start = c.args.steps.now in
    let ticked = subst (λ (n : ℕ). IfSome c.first_among.result (λ leaf. c.first_among.new.steps ≤ n + nodes_up_to c.args.levels.now c.args.rect.now h (8 * c.args.place * 8 ^ h) leaf)) c.tick.ensures c.first_among.ensures.found in
    let steps = child_found c.args.levels.now c.args.rect.now h c.args.place none c.first_among.result (8 * (c.args.place + 1) * 8 ^ h) start c.first_among.new.steps inside meets c.first_among.ensures.leaf ticked in
    subst (λ (k : ℕ). IfSome c.first_among.result (λ leaf. c.first_among.new.steps ≤ start + nodes_up_to c.args.levels.now c.args.rect.now k (c.args.place * 8 ^ k) leaf)) (sym next) steps

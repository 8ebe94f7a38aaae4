use Rattle.std.proofs.Common.{◌+◌, ◌*◌, ◌/◌, ◌^◌, sym, arith}
use Rattle.live_model.specs.declared.points.Rect.{Rect}
use Rattle.box_tree.specs.Trees.{lowest}
use Rattle.box_tree.specs.Walk.{nodes_at}
use Rattle.box_tree.proofs.Parts.{meeting_one}
use Rattle.box_tree.proofs.Walk.{parent_within, beside_apart, beside_children}
use Rattle.box_tree.proofs.Found.{with_parent}
use Rattle.box_tree.proofs.search.first_beside.Goals as goal

none : Rect
none = record { left = 0; top = 0; right = 0; bottom = 0 }

pub node_meets-requires-clause-within : goal.node_meets-requires-clause-within
node_meets-requires-clause-within g c = parent_within c.args.levels.now c.args.height c.args.place c.requires.tree c.requires.has_parent c.requires.within

pub returns-then-not-node_meets-clause-leaf : goal.returns-then-not-node_meets-clause-leaf
returns-then-not-node_meets-clause-leaf g c =
    beside_apart c.args.levels.now c.args.rect.now c.args.height c.args.place c.requires.tree c.requires.has_parent (λ d. sym (c.if-not-node_meets.ensures.meets d))

pub returns-clause-leaf : goal.returns-clause-leaf
returns-clause-leaf g c = beside_children (lowest c.args.levels.now) c.args.rect.now c.args.height c.args.place c.first_among.result c.first_among.ensures.leaf

pub returns-clause-steps : goal.returns-clause-steps
returns-clause-steps g c =
    let inside = parent_within c.args.levels.now c.args.height c.args.place c.requires.tree c.requires.has_parent c.requires.within in
    let one = meeting_one (nodes_at c.args.levels.now (c.args.height + 1)) c.args.rect.now (c.args.place / 8) none inside (sym (c.if-not-node_meets.ensures.meets none)) in
    omega (arith, one, c.tick.ensures, c.first_among.ensures.steps)

pub returns-clause-found : goal.returns-clause-found
returns-clause-found g c =
    let inside = parent_within c.args.levels.now c.args.height c.args.place c.requires.tree c.requires.has_parent c.requires.within in
    let one = meeting_one (nodes_at c.args.levels.now (c.args.height + 1)) c.args.rect.now (c.args.place / 8) none inside (sym (c.if-not-node_meets.ensures.meets none)) in
    with_parent c.args.levels.now c.args.rect.now c.args.height ((c.args.place + 1) * 8 ^ c.args.height) c.first_among.result c.args.steps.now c.tick.new.self c.first_among.new.steps _ one c.tick.ensures c.first_among.ensures.found

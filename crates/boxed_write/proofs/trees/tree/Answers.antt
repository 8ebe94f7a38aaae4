use Rattle.std.proofs.Common.{◌≡◌, ◌<◌, length, ap, ◌∙◌, arith, map, List}
use Rattle.boxed_write.specs.Packed.{Node, cuts, node_above, tree}
use Rattle.boxed_write.proofs.Levels.{length_level, tree_above}
use Rattle.boxed_write.proofs.trees.tree.Goals as goal

pub top-preserved : goal.top-preserved
top-preserved c =
    let many : 1 < length c.top.top.items = omega arith in
    let is : c.in_ok-top.top.items ≡ map node_above (cuts 8 c.top.top.items) = c.in_ok-top.ensures ∙ ap (λ (nodes : List Node). map node_above (cuts 8 nodes)) c.deref.ensures.value in
    ap tree is ∙ tree_above c.top.top.items many ∙ c.top.invariant

pub top-smaller : goal.top-smaller
top-smaller c =
    let many : 1 < length c.top.top.items = omega arith in
    let is : c.in_ok-top.top.items ≡ map node_above (cuts 8 c.top.top.items) = c.in_ok-top.ensures ∙ ap (λ (nodes : List Node). map node_above (cuts 8 nodes)) c.deref.ensures.value in
    let long = length_level c.top.top.items in
    omega (arith, ap length is)

use Rattle.std.proofs.Common.{◌++◌, ◌∷◌, [], sym, ap, ◌∙◌, map, List}
use Rattle.std.specs.List.{range_with_len}
use Rattle.boxed_write.specs.Packed.{Node, cut, node_above}
use Rattle.boxed_write.proofs.Cuts.{cuts_more}
use Rattle.boxed_write.proofs.trees.level_above.Goals as goal

pub loop-index-preserved : goal.loop-index-preserved
loop-index-preserved c =
    c.in_ok-push.ensures.items
    ∙ ap (λ (nodes : List Node). nodes ++ c.in_ok-node_above.field-0 ∷ []) c.loop-index.invariant
    ∙ ap (λ (node : Node). map node_above (map (cut 8 c.args.nodes.now) (range_with_len 0 c.loop-index.index)) ++ node ∷ []) (c.in_ok-node_above.ensures ∙ ap node_above c.eight.ensures)
    ∙ sym (cuts_more node_above 8 c.loop-index.index c.args.nodes.now)

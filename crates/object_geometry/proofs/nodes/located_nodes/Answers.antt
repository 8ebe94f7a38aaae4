use Rattle.object_geometry.proofs.Located.{located_in_turn}
use Rattle.object_geometry.proofs.nodes.located_nodes.Goals as goal

pub returns : goal.returns
returns c =
    located_in_turn c.args.look.now c.args.entity.now _ _ _ _ _ c.new-nodes.ensures c.as_slice.ensures c.as_slice-2.ensures c.in_ok-put_nodes.ensures c.in_ok-put_members.ensures

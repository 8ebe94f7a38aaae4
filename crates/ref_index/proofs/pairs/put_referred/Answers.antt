use Rattle.std.proofs.Common.{◌++◌, ◌∙◌, ap, map, append_assoc}
use Rattle.live_model.specs.declared.objects.Member.{Member}
use Rattle.live_model.specs.Ids.{ordinal}
use Rattle.live_model.specs.Closures.{node_id}
use Rattle.ref_index.proofs.Pairing.{places_are}
use Rattle.ref_index.proofs.pairs.put_referred.Goals as goal

pub returns : goal.returns
returns c =
    let old = c.args.places.now.items in
    let refs = c.args.entity.now.refs in
    let members = c.args.entity.now.members in
    c.in_ok-put_members.ensures
    ∙ ap (λ ns. ns ++ map (λ (m : Member). ordinal m.target) c.as_slice-2.result.now) c.in_ok-put_nodes.ensures
    ∙ (λ i. (old ++ map (λ n. ordinal (node_id n)) (c.as_slice.ensures i)) ++ map (λ (m : Member). ordinal m.target) (c.as_slice-2.ensures i))
    ∙ append_assoc old (map (λ n. ordinal (node_id n)) refs) (map (λ (m : Member). ordinal m.target) members)
    ∙ ap (λ ns. old ++ ns) (places_are refs members)

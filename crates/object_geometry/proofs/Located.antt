-- Located nodes, and the points of ways.
use Rattle.std.proofs.Common.{◌≡◌, List, [], ◌++◌, map, sym, ◌∙◌, ap, ℤ}
use Rattle.std.proofs.lemmas.List.{map-append}
use Rattle.std.proofs.lemmas.List.Elements.{filter_map-append}
use Rattle.live_model.specs.declared.objects.Entity.{Entity}
use Rattle.live_model.specs.declared.objects.Member.{Member}
use Rattle.live_model.specs.declared.records.RoadNode.{RoadNode}
use Rattle.live_model.specs.Ids.{Id}
use Rattle.live_model.specs.Closures.{looked_up, node_id, refers_to}
use Rattle.live_model.specs.Geometry.{located, located_nodes}

-- what lies among the ids of two lists lies among those of the one and then of the other
pub located-append : (store : List Entity) (a b : List Id) → located_nodes (map (looked_up store) (a ++ b)) ≡ located_nodes (map (looked_up store) a) ++ located_nodes (map (looked_up store) b)
located-append store a b = ap located_nodes (map-append (looked_up store) a b) ∙ filter_map-append located (map (looked_up store) a) (map (looked_up store) b)

-- what was put of the references and then of the members of an object is what lies among all that it refers to
pub located_in_turn : (store : List Entity) (e : Entity) (start nodes all : List RoadNode) (refs : List ℤ) (members : List Member) → start ≡ [] → refs ≡ e.refs → members ≡ e.members → nodes ≡ start ++ located_nodes (map (looked_up store) (map node_id refs)) → all ≡ nodes ++ located_nodes (map (looked_up store) (map (λ m. m.target) members)) → all ≡ located_nodes (map (looked_up store) (refers_to e))
located_in_turn store e start nodes all refs members empty same_refs same_members first then =
    let whole = located-append store (map node_id e.refs) (map (λ m. m.target) e.members) in
    then ∙ ap (λ ms. nodes ++ located_nodes (map (looked_up store) (map (λ m. m.target) ms))) same_members
    ∙ ap (λ ns. ns ++ located_nodes (map (looked_up store) (map (λ m. m.target) e.members)))
    (first ∙ ap (λ ns. ns ++ located_nodes (map (looked_up store) (map node_id refs))) empty ∙ ap (λ ns. located_nodes (map (looked_up store) (map node_id ns))) same_refs)
    ∙ sym whole

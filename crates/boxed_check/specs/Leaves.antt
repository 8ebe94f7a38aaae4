-- The boxes of leaves.
use Rattle.std.specs.Prelude.{◌≡◌, ◌%◌, ◌^◌, List, map, true}
use Rattle.std.specs.List.{AllByRecursion}
use Rattle.live_model.specs.declared.points.Rect.{Rect}
use Rattle.file_grammar.specs.BoxRules.{is_box}
use Rattle.boxed_exact.specs.declared.edges.Edges.{Edges}
use Rattle.boxed_exact.specs.declared.nodes.LeafSeen.{LeafSeen}
use Rattle.boxed_exact.specs.Boxes.{box_of}

-- the edges of each leaf are those of a box in the grid
abbrev pub AreBoxes : List LeafSeen → Type 0
AreBoxes leaves = AllByRecursion (λ leaf. is_box (box_of leaf.edges) ≡ true) leaves

abbrev pub boxes_of : List LeafSeen → List Rect
boxes_of leaves = map (λ leaf. box_of leaf.edges) leaves

-- the box of edges, of each the lowest 32 bits
abbrev pub narrowed : Edges → Rect
narrowed e = record { left = e.left % 2 ^ 32; top = e.top % 2 ^ 32; right = e.right % 2 ^ 32; bottom = e.bottom % 2 ^ 32 }

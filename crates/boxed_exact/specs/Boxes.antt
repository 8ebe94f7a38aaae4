-- Boxes as the code holds them.
use Rattle.live_model.specs.declared.points.Rect.{Rect}
use Rattle.boxed_exact.specs.declared.edges.Edges.{Edges}

abbrev pub box_of : Edges → Rect
box_of e = record { left = e.left; top = e.top; right = e.right; bottom = e.bottom }

abbrev pub edges_of : Rect → Edges
edges_of b = record { left = b.left; top = b.top; right = b.right; bottom = b.bottom }

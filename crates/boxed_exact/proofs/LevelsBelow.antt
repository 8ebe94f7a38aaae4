-- The nodes that may stand below nodes.
use Rattle.std.proofs.Common.{◌≡◌, ℕ, suc, ◌+◌, refl, subst, arith}
use Rattle.file_grammar.specs.declared.parts.Part.TheVariants.{Tree, Node}
use Rattle.boxed_exact.specs.Nodes.{IsBelowPart}

pub below_tree : IsBelowPart Tree (Node 22)
below_tree = record { first = refl; again = refl; content = refl; end = refl }

below_suc : (levels : ℕ) → IsBelowPart (Node (suc levels)) (Node levels)
below_suc levels = record { first = refl; again = refl; content = refl; end = refl }

pub below_node : (levels less : ℕ) → levels ≡ less + 1 → IsBelowPart (Node levels) (Node less)
below_node levels less e = let s : suc less ≡ levels = omega (arith, e) in subst (λ (n : ℕ). IsBelowPart (Node n) (Node less)) s (below_suc less)

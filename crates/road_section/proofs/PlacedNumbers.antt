-- A number that was read is the one that stands in its field.
use Rattle.std.proofs.Common.{◌≡◌, ℕ, ap, ◌∙◌}
use Rattle.file_grammar.specs.Sections.{Placed, placed}
use Rattle.boxed_exact.specs.declared.fields.Number.{Number}
use Rattle.road_section.specs.Held.{of_number}

pub held_is : (n : Number) (at value : ℕ) → n.at ≡ at → n.value ≡ value → of_number n ≡ placed at value
held_is n at value same_at same_value =
    let made : ℕ → ℕ → Placed ℕ = λ at value. placed at value in
    ap (λ (x : ℕ). made x n.value) same_at ∙ ap (made at) same_value

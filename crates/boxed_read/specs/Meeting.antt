-- Sections of records in boxes, and which of their blocks a rectangle meets.
use Rattle.std.specs.Prelude.{ℕ, List, [], ◌∷◌, drop, length, map, if◌then◌else◌}
use Rattle.live_model.specs.declared.points.Rect.{Rect}
use Rattle.live_model.specs.Points.{overlaps}
use Rattle.file_grammar.specs.Listed.{Reading, block_records}
use Rattle.file_grammar.specs.Sections.{Section, leaves_in}
use Rattle.boxed_exact.specs.declared.fields.Payload.{Payload}
use Rattle.boxed_check.specs.declared.kept.Kept.{Kept}

-- the records of each block of a section, and the boxes of the leaves that name these blocks, both in order
pub record InBoxes (A : Type 0) : Type 0 where
  pub blocks : List (List A)
  pub boxes : List Rect

-- those of a section
abbrev pub in_boxes : {A : Type 0} → Reading A → Section → InBoxes A
in_boxes reads section = record { blocks = map (block_records reads) section.blocks; boxes = map (λ leaf. leaf.node.box) (leaves_in section.nodes) }

-- of blocks, each with the box of its leaf, those whose box meets the rectangle, in order
abbrev pub meeting : {A : Type 0} → Rect → List Rect → List A → List A
meeting rect (box ∷ boxes) (block ∷ blocks) = if overlaps box rect then block ∷ meeting rect boxes blocks else meeting rect boxes blocks
meeting rect boxes blocks = []

-- how many blocks are due to a question at a rectangle: those whose box meets it
abbrev pub due : {A : Type 0} → Rect → InBoxes A → ℕ
due rect section = length (meeting rect section.boxes section.blocks)

-- where those stand of a section of which a check left this, from a leaf on
abbrev pub met : Rect → Kept → ℕ → List Payload
met rect kept from = meeting rect (drop from kept.tree) (drop from kept.blocks.items)

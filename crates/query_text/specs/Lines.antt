-- A row as a line, and an answer as lines.
use Rattle.std.specs.Prelude.{ℕ, List, [], ◌∷◌, ◌++◌, codes, length}
use Rattle.std.specs.Fmt.{decimal as printed}
use Rattle.live_model.specs.declared.records.BanRec.{BanRec}
use Rattle.live_model.specs.declared.rows.Row.{Row}
use Rattle.live_model.specs.declared.rows.SegRow.{SegRow}
use Rattle.live_model.specs.CanonicalLines.{id_text}
use Rattle.live_model.specs.Closures.{node_id, way_id}
use Rattle.live_model.specs.RowTexts.{printed_row, rows_text}

-- the line of a row, with its line feed
abbrev pub row_line : Row → List ℕ
row_line row = printed_row row ++ 10 ∷ []

-- how many rows there are, and their lines
abbrev pub answer_text : List Row → List ℕ
answer_text rows = codes "rows " ++ printed (length rows) ++ codes "\n" ++ rows_text rows

-- Pieces of rows, each after a space.

-- the index of a segment and its nodes
abbrev pub segment_nodes : SegRow → List ℕ
segment_nodes s = 32 ∷ printed s.index ++ (32 ∷ id_text (node_id s.a.id) ++ (32 ∷ id_text (node_id s.b.id)))

-- the way that is left, the node and the way that is entered
abbrev pub turn_text : BanRec → List ℕ
turn_text b = 32 ∷ id_text (way_id b.from) ++ (32 ∷ id_text (node_id b.via) ++ (32 ∷ id_text (way_id b.to)))

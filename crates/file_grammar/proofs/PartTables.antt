-- What is so of the tables of each message, part by part: they are those that the format states, their keys fit what the fields
-- hold, and the keys of the rows of one table rise.
use Rattle.std.proofs.Common.{◌≡◌, ℕ, zero, suc, ◌%◌, ◌^◌, Bool, true, refl}
use Rattle.std.specs.Prelude.{◌==◌, ◌&&◌, not, nat_lt, flat_map}
use Rattle.std.specs.List.{list_all}
use Rattle.file_grammar.specs.declared.parts.Boxed.TheVariants.{Map, Poi, Road, Restriction}
use Rattle.file_grammar.specs.declared.parts.Version.TheVariants.{One, Two}
use Rattle.file_grammar.specs.declared.parts.Part.{Part}
use Rattle.file_grammar.specs.declared.parts.Part.TheVariants.{File, Head, Boxes, Tree, Node, Block, Texts, Record, Marks, Pois, Group, Addresses, Keyed, KeyEntry, KeyedBlock, Address, Routing}
use Rattle.file_grammar.specs.declared.parts.Content.{Content}
use Rattle.file_grammar.specs.declared.parts.Content.TheVariants.{Number, Version, Bytes, Numbers, Message}
use Rattle.file_grammar.specs.declared.rows.Row.{Row}
use Rattle.file_grammar.specs.Tables.{IsOneTable, Table, are_rows, tables}
use Rattle.file_grammar.specs.StatedTables.{TablesLaw, owned, stated}

-- the wire type of a key is that of a content
abbrev pub has_type : Content → ℕ → Bool
has_type Number key = key % 8 == 0
has_type (Version version) key = key % 8 == 0
has_type Bytes key = not (key % 8 == 0)
has_type (Numbers group) key = not (key % 8 == 0)
has_type (Message part) key = not (key % 8 == 0)

-- the key is one of 64 bits, and of the type of its content
abbrev pub fits_row : Row → Bool
fits_row row = nat_lt row.key (2 ^ 64) && has_type row.content row.key

-- the rows of all tables of a message
abbrev pub rows_of : Part → Table
rows_of part = flat_map (λ table. table) (tables part)

-- the tables of a message are those that the format states, and what is tested of their rows is so
pub record TablesFit (part : Part) : Type 0 where
  pub are : owned part ≡ stated part
  pub fit : list_all fits_row (rows_of part) ≡ true
  pub one : IsOneTable part → list_all are_rows (tables part) ≡ true

pub tables_fit : (part : Part) → TablesFit part
tables_fit (File version) = record { are = refl; fit = refl; one = λ is. refl }
tables_fit Head = record { are = refl; fit = refl; one = λ is. refl }
tables_fit (Boxes class) = record { are = refl; fit = refl; one = λ is. refl }
tables_fit Tree = record { are = refl; fit = refl; one = λ is. absurd is }
tables_fit (Node zero) = record { are = refl; fit = refl; one = λ is. absurd is }
tables_fit (Node (suc levels)) = record { are = refl; fit = refl; one = λ is. absurd is }
tables_fit (Block class) = record { are = refl; fit = refl; one = λ is. refl }
tables_fit Texts = record { are = refl; fit = refl; one = λ is. refl }
tables_fit (Record Map) = record { are = refl; fit = refl; one = λ is. refl }
tables_fit (Record Poi) = record { are = refl; fit = refl; one = λ is. refl }
tables_fit (Record Road) = record { are = refl; fit = refl; one = λ is. refl }
tables_fit (Record Restriction) = record { are = refl; fit = refl; one = λ is. refl }
tables_fit Marks = record { are = refl; fit = refl; one = λ is. refl }
tables_fit Pois = record { are = refl; fit = refl; one = λ is. refl }
tables_fit Group = record { are = refl; fit = refl; one = λ is. refl }
tables_fit (Addresses version) = record { are = refl; fit = refl; one = λ is. refl }
tables_fit (Keyed version) = record { are = refl; fit = refl; one = λ is. refl }
tables_fit KeyEntry = record { are = refl; fit = refl; one = λ is. refl }
tables_fit (KeyedBlock version) = record { are = refl; fit = refl; one = λ is. refl }
tables_fit (Address One) = record { are = refl; fit = refl; one = λ is. refl }
tables_fit (Address Two) = record { are = refl; fit = refl; one = λ is. refl }
tables_fit Routing = record { are = refl; fit = refl; one = λ is. refl }

-- the rows of each message are those that the format states
pub tables_stated : TablesLaw
tables_stated part = (tables_fit part).are

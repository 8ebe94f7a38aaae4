-- The tables of the messages in the words of the format: a field's number, how its payload is told, and what it holds.
use Rattle.std.specs.Prelude.{◌≡◌, ℕ, zero, suc, ◌+◌, ◌*◌, List, [], ◌∷◌, ◌++◌, map, true, false}
use Rattle.file_grammar.specs.declared.parts.Boxed.{Boxed}
use Rattle.file_grammar.specs.declared.parts.Boxed.TheVariants.{Map, Poi, Road, Restriction}
use Rattle.file_grammar.specs.declared.parts.Version.{Version}
use Rattle.file_grammar.specs.declared.parts.Version.TheVariants.{One, Two}
use Rattle.file_grammar.specs.declared.parts.Part.{Part}
use Rattle.file_grammar.specs.declared.parts.Part.TheVariants.{File, Head, Boxes, Tree, Node, Block, Texts, Record, Marks, Pois, Group, Addresses, Keyed, KeyEntry, KeyedBlock, Address, Routing}
use Rattle.file_grammar.specs.declared.parts.Group.TheVariants.{Single, Pair, Triple}
use Rattle.file_grammar.specs.declared.parts.Content.{Content}
use Rattle.file_grammar.specs.declared.parts.Content.TheVariants.{Number, Version as VersionField, Bytes, Numbers, Message}
use Rattle.file_grammar.specs.declared.rows.Row.{Row}
use Rattle.file_grammar.specs.Tables.{Table, own, tables}

-- a number
abbrev pub number : ℕ → Row
number n = record { key = n * 8 + 0; content = Number; many = false }

-- a payload behind its length as a number
abbrev pub short : ℕ → Content → Row
short n content = record { key = n * 8 + 2; content = content; many = false }

-- a payload behind its length in eight bytes
abbrev pub wide : ℕ → Content → Row
wide n content = record { key = n * 8 + 6; content = content; many = false }

-- it may come any number of times
abbrev pub any : Row → Row
any row = record row { many = true }

-- Messages.

-- left, top, right and bottom
abbrev pub edges : Table
edges = number 1 ∷ number 2 ∷ number 3 ∷ number 4 ∷ []

-- the edges and a place
abbrev pub leaf_table : Table
leaf_table = edges ++ number 5 ∷ []

-- a leaf, or a node above one or more others where a level is left
abbrev pub node_tables : ℕ → List Table
node_tables zero = leaf_table ∷ []
node_tables (suc levels) = leaf_table ∷ (edges ++ wide 6 (Message (Node levels)) ∷ any (wide 6 (Message (Node levels))) ∷ []) ∷ []

-- the records of each class
abbrev pub record_table : Boxed → Table
record_table Map = number 1 ∷ number 2 ∷ number 3 ∷ number 4 ∷ short 5 (Numbers Pair) ∷ []
record_table Poi = number 1 ∷ number 2 ∷ short 3 (Numbers Pair) ∷ []
record_table Road = number 1 ∷ number 2 ∷ number 3 ∷ number 4 ∷ short 5 (Numbers Triple) ∷ []
record_table Restriction = number 1 ∷ number 2 ∷ number 3 ∷ number 4 ∷ number 5 ∷ short 6 (Numbers Pair) ∷ []

-- an address of the first version
abbrev pub first_address : Table
first_address = number 1 ∷ number 2 ∷ short 3 Bytes ∷ short 4 Bytes ∷ short 5 Bytes ∷ short 6 (Numbers Pair) ∷ []

-- an address of each version
abbrev pub address_table : Version → Table
address_table One = first_address
address_table Two = first_address ++ short 7 Bytes ∷ []

-- the whole file
abbrev pub file_table : Version → Table
file_table version =
    record (number 1) { content = VersionField version } ∷ short 2 (Message Head) ∷ short 3 Bytes ∷ wide 6 (Message (Boxes Map))
    ∷ wide 7 (Message (Addresses version)) ∷ wide 8 (Message Pois) ∷ wide 9 (Message Routing) ∷ wide 16 (Message Marks) ∷ number 32 ∷ []

-- A message is of one of its tables. The depth of the root is 1, and of a node at most 24.
abbrev pub stated : Part → List Table
stated (File version) = file_table version ∷ []
stated Head = (number 1 ∷ number 2 ∷ number 3 ∷ []) ∷ []
stated (Boxes class) = (wide 1 (Message Tree) ∷ any (wide 2 (Message (Block class))) ∷ []) ∷ []
stated Tree = [] ∷ node_tables 23
stated (Node levels) = node_tables levels
stated (Block class) = (wide 1 (Message Texts) ∷ any (short 2 (Message (Record class))) ∷ []) ∷ []
stated Texts = (any (short 1 Bytes) ∷ []) ∷ []
stated (Record class) = record_table class ∷ []
stated Marks = (short 1 (Numbers Single) ∷ []) ∷ []
stated Pois = (any (wide 1 (Message Group)) ∷ []) ∷ []
stated Group = (short 1 Bytes ∷ wide 2 (Message (Boxes Poi)) ∷ []) ∷ []
stated (Addresses version) = (wide 1 (Message (Keyed version)) ∷ wide 2 (Message (Keyed version)) ∷ []) ∷ []
stated (Keyed version) = (any (short 1 (Message KeyEntry)) ∷ any (wide 2 (Message (KeyedBlock version))) ∷ []) ∷ []
stated KeyEntry = (short 1 Bytes ∷ short 2 Bytes ∷ number 3 ∷ []) ∷ []
stated (KeyedBlock version) = (any (short 1 (Message (Address version))) ∷ []) ∷ []
stated (Address version) = address_table version ∷ []
stated Routing = (wide 1 (Message (Boxes Road)) ∷ wide 2 (Message (Boxes Restriction)) ∷ []) ∷ []

-- a row with what it holds in a message of this part
abbrev pub owned_row : Part → Row → Row
owned_row part row = record row { content = own part row.content }

-- the tables of a message, each row with what it holds there
abbrev pub owned : Part → List Table
owned part = map (λ (table : Table). map (owned_row part) table) (tables part)

-- Law: the rows are those that the format states.
abbrev pub TablesLaw : Type 0
TablesLaw = (part : Part) → owned part ≡ stated part

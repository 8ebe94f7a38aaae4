-- The messages of a map file as tables: which fields they have, in which order and how often.
use Rattle.std.specs.Prelude.{ℕ, zero, suc, List, [], ◌∷◌, flat_map, filter_map, find, Bool, true, not, nat_lt, ◌&&◌, ◌==◌, Option, Some, None, if◌then◌else◌}
use Rattle.std.specs.List.{list_all, list_any}
use Rattle.std.specs.Option.{option_map}
use Rattle.std.specs.Ordering.{nat_cmp}
use Rattle.ordered_lists.specs.Ordered.{put_all}
use Rattle.obf_wire.specs.Fields.{has_wire_type}
use Rattle.file_grammar.specs.declared.parts.Boxed.TheVariants as classes
use Rattle.file_grammar.specs.declared.parts.Version.{Version}
use Rattle.file_grammar.specs.declared.parts.Version.TheVariants.{One, Two}
use Rattle.file_grammar.specs.declared.parts.Part.{Part}
use Rattle.file_grammar.specs.declared.parts.Part.TheVariants.{File, Head, Boxes, Tree, Node, Block, Texts, Record, Marks, Pois, Group, Addresses, Keyed, KeyEntry, KeyedBlock, Address, Routing}
use Rattle.file_grammar.specs.declared.parts.Group.{Group as GroupOf}
use Rattle.file_grammar.specs.declared.parts.Group.TheVariants.{Single, Pair, Triple}
use Rattle.file_grammar.specs.declared.parts.Content.{Content}
use Rattle.file_grammar.specs.declared.parts.Content.TheVariants.{Version as VersionField, Message}
use Rattle.file_grammar.specs.declared.rows.Row.{Row}
use Rattle.file_grammar.specs.declared.rows.TheConstants.{FILE, HEAD, BOXES, LEAF, NODE, BLOCK, TEXTS, MAP_RECORD, POI_RECORD, ROAD_RECORD, RESTRICTION_RECORD, MARKS, POIS, GROUP, ADDRESSES, KEYED, KEY_ENTRY, KEYED_BLOCK, ADDRESS, ADDRESS_TWO, ROUTING}

-- how many numbers a group has
abbrev pub group_size : GroupOf → ℕ
group_size Single = 1
group_size Pair = 2
group_size Triple = 3

-- the number of a version
abbrev pub version_number : Version → ℕ
version_number One = 1
version_number Two = 2

-- Tables.

-- the fields once each in this order, but any number of times, one after another, where a row says so
abbrev pub Table : Type 0
Table = List Row

-- A message is of one of its tables: a node is a leaf, or has others below it where a level is left; a tree may be empty. The
-- depth of the root is 1, and of a node at most 24.
abbrev pub tables : Part → List Table
tables (File version) = FILE ∷ []
tables Head = HEAD ∷ []
tables (Boxes class) = BOXES ∷ []
tables Tree = [] ∷ LEAF ∷ NODE ∷ []
tables (Node zero) = LEAF ∷ []
tables (Node (suc levels)) = LEAF ∷ NODE ∷ []
tables (Block class) = BLOCK ∷ []
tables Texts = TEXTS ∷ []
tables (Record classes.Map) = MAP_RECORD ∷ []
tables (Record classes.Poi) = POI_RECORD ∷ []
tables (Record classes.Road) = ROAD_RECORD ∷ []
tables (Record classes.Restriction) = RESTRICTION_RECORD ∷ []
tables Marks = MARKS ∷ []
tables Pois = POIS ∷ []
tables Group = GROUP ∷ []
tables (Addresses version) = ADDRESSES ∷ []
tables (Keyed version) = KEYED ∷ []
tables KeyEntry = KEY_ENTRY ∷ []
tables (KeyedBlock version) = KEYED_BLOCK ∷ []
tables (Address One) = ADDRESS ∷ []
tables (Address Two) = ADDRESS_TWO ∷ []
tables Routing = ROUTING ∷ []

-- all but trees and nodes
abbrev pub IsOneTable : Part → Type 0
IsOneTable Tree = ⊥
IsOneTable (Node levels) = ⊥
IsOneTable part = Unit {0}

-- Records, blocks and addresses are of the class or the version of the message that holds them, and a node is a level below its
-- own.
abbrev pub own_part : Part → Part → Part
own_part (File version) (Addresses other) = Addresses version
own_part (Boxes class) (Block other) = Block class
own_part (Block class) (Record other) = Record class
own_part Tree (Node other) = Node 22
own_part (Node (suc levels)) (Node other) = Node levels
own_part (Addresses version) (Keyed other) = Keyed version
own_part (Keyed version) (KeyedBlock other) = KeyedBlock version
own_part (KeyedBlock version) (Address other) = Address version
own_part part inner = inner

-- the version of a file is its own
abbrev pub own_version : Part → Version → Version
own_version (File version) other = version
own_version part version = version

-- what a row holds in a message of this part
abbrev pub own : Part → Content → Content
own part (VersionField version) = VersionField (own_version part version)
own part (Message inner) = Message (own_part part inner)
own part content = content

-- Where a message stands: at its beginning, or behind a field of this key.

-- the rows that are left behind a field: those after its own, and its own where it may come again
abbrev pub rows_behind : ℕ → Table → Option Table
rows_behind key [] = None
rows_behind key (row ∷ rows) = if row.key == key then Some (if row.many then row ∷ rows else rows) else rows_behind key rows

-- of these tables the rows that are left at the beginning, or behind a field
abbrev pub left_at : Option ℕ → List Table → List Table
left_at None all = all
left_at (Some key) all = filter_map (rows_behind key) all

-- the keys up to the first row whose field has to come
abbrev pub next_in : Table → List ℕ
next_in [] = []
next_in (row ∷ rows) = if row.many then row.key ∷ next_in rows else row.key ∷ []

-- the keys of the fields that may come, rising, each once
abbrev pub keys_of : List Table → List ℕ
keys_of left = put_all nat_cmp (λ key. key) [] (flat_map next_in left)

abbrev pub next_keys : Part → Option ℕ → List ℕ
next_keys part last = keys_of (left_at last (tables part))

-- no field has to come
abbrev pub ends_of : List Table → Bool
ends_of left = list_any (list_all (λ row. row.many)) left

abbrev pub may_end : Part → Option ℕ → Bool
may_end part last = ends_of (left_at last (tables part))

-- what the field of a key holds
abbrev pub content_of : Part → ℕ → Option Content
content_of part key = option_map (λ row. own part row.content) (find (λ row. row.key == key) (flat_map (λ table. table) (tables part)))

-- Rows of one table.

-- the keys rise
abbrev pub rise : Table → Bool
rise [] = true
rise (row ∷ rows) = list_all (λ other. nat_lt row.key other.key) rows && rise rows

-- no more than two fields may come at a time
abbrev pub are_few : Table → Bool
are_few (a ∷ b ∷ c ∷ rows) = not (a.many && b.many) && are_few (b ∷ c ∷ rows)
are_few rows = true

-- the keys rise, each has a wire type, and at most two may come at a time
abbrev pub are_rows : Table → Bool
are_rows rows = rise rows && (are_few rows && list_all (λ row. has_wire_type row.key) rows)

-- What has to hold of addresses in their two lists by key, and the records that they stand for.
-- A list has entries, each with the first and the last key of a block and where that block stands, and then the blocks.
use Rattle.std.specs.Prelude.{ℕ, zero, suc, ◌+◌, ◌*◌, List, [], ◌∷◌, ◌++◌, filter_map, flat_map, map, length, Bool, true, false, ◌&&◌, ◌||◌, not, nat_le, nat_lt, ◌==◌, Option, Some, None, bytes_eq, unwrap_or, if◌then◌else◌}
use Rattle.std.specs.Option.{option_map}
use Rattle.std.specs.Ordering.{is_eq, is_lt}
use Rattle.std.specs.Str.{is_utf8}
use Rattle.name_fold.specs.Keys.{key}
use Rattle.live_model.specs.declared.addresses.AddrKind.{AddrKind}
use Rattle.live_model.specs.declared.addresses.AddrKind.TheVariants.{Place, Street, House}
use Rattle.live_model.specs.declared.addresses.AddrRec.{AddrRec}
use Rattle.live_model.specs.Records.{is_empty, is_language}
use Rattle.coord_delta.specs.Steps.{places}
use Rattle.text_table.specs.Tables.{text_cmp}
use Rattle.obf_wire.specs.declared.file.FileKind.TheVariants.{BadText, BadOrder, BadId, BadRef, BadPoint, BadMark, BadPlace, BadCount}
use Rattle.file_grammar.specs.Messages.{Fields, ends, has_number, has_bytes, has_numbers, has_message}
use Rattle.file_grammar.specs.Facts.{Fact, fact}
use Rattle.file_grammar.specs.Sections.{Placed, placed, messages_in, object_of}
use Rattle.file_grammar.specs.BoxRules.{Beside, follows, is_marked, is_ordinal, is_way, with_before}
use Rattle.file_grammar.specs.RecordRules.{is_node_or_way, is_one_location, only_point}

-- What a list holds.

-- an address in a block; one of a file of the first version has no language
pub record Address : Type 0 where
  pub at : ℕ
  pub ordinal : Placed ℕ
  pub kind : Placed ℕ
  pub key : Placed (List ℕ)
  pub name : Placed (List ℕ)
  pub number : Placed (List ℕ)
  pub points : Placed (List ℕ)
  pub lang : Option (Placed (List ℕ))

-- a language that stands behind the points
abbrev pub lang_in : Fields → Option (Placed (List ℕ))
lang_in (has_bytes at k lang rest) = Some (placed at lang)
lang_in fields = None

-- the fields in their order
abbrev pub address_with : ℕ → Fields → Option Address
address_with at (has_number a j ordinal (has_number b k kind (has_bytes c l key (has_bytes d m name (has_bytes e n number (has_numbers f o points rest)))))) =
    Some (record { at = at; ordinal = placed a ordinal; kind = placed b kind; key = placed c key; name = placed d name; number = placed e number; points = placed f points; lang = lang_in rest })
address_with at fields = None

-- a block of addresses
pub record KeyedBlock : Type 0 where
  pub at : ℕ
  pub addresses : List Address

-- an entry: the first and the last key of a block, and where it stands
pub record KeyEntry : Type 0 where
  pub at : ℕ
  pub first : Placed (List ℕ)
  pub last : Placed (List ℕ)
  pub place : Placed ℕ

-- an entry at an offset
abbrev pub entry_with : ℕ → Fields → Option KeyEntry
entry_with at (has_bytes a k first (has_bytes b l last (has_number c m place rest))) =
    Some (record { at = at; first = placed a first; last = placed b last; place = placed c place })
entry_with at fields = None

-- the messages behind a key, in order
abbrev pub messages_of : ℕ → Fields → List (Placed Fields)
messages_of number ends = []
messages_of number (has_number at k value rest) = messages_of number rest
messages_of number (has_bytes at k text rest) = messages_of number rest
messages_of number (has_numbers at k values rest) = messages_of number rest
messages_of number (has_message at k inner rest) = if k == number then placed at inner ∷ messages_of number rest else messages_of number rest

-- a list: its entries, behind key 1 with a length as a number, and its blocks, behind key 2 with a length in eight bytes
pub record KeyedList : Type 0 where
  pub entries : List KeyEntry
  pub blocks : List KeyedBlock

abbrev pub keyed_list : Fields → KeyedList
keyed_list fields = record {
  entries = filter_map (λ m. entry_with m.at m.value) (messages_of (1 * 8 + 2) fields);
  blocks = map (λ m. record { at = m.at; addresses = filter_map (λ a. address_with a.at a.value) (messages_in m.value) }) (messages_of (2 * 8 + 6) fields);
}

-- What has to hold of an address.

-- places are 0, streets 1, houses 2
abbrev pub is_house_kind : ℕ → Bool
is_house_kind kind = kind == 2

-- rising by key, kind and ordinal, where equal ones may stand side by side; it holds of a key that is not UTF-8, and, where it comes down
-- to the ordinals, of a number that is no ordinal
abbrev pub addresses_rise : Address → Address → Bool
addresses_rise a b =
    let keys = text_cmp a.key.value b.key.value in
    (is_lt keys || (is_eq keys && (nat_lt a.kind.value b.kind.value
    || ((a.kind.value == b.kind.value) && (nat_le a.ordinal.value b.ordinal.value || not (is_ordinal a.ordinal.value && is_ordinal b.ordinal.value))))))
    || not (is_utf8 a.key.value && is_utf8 b.key.value)

-- a street is a way's; a place and a house are a node's or a way's, and so may be what is of no kind
abbrev pub is_addressed : ℕ → ℕ → Bool
is_addressed (suc zero) ordinal = is_way ordinal
is_addressed kind ordinal = is_node_or_way ordinal

-- the list of names holds places and streets, that of houses holds houses
abbrev pub is_kind_in : Bool → ℕ → Bool
is_kind_in true kind = is_house_kind kind
is_kind_in false kind = nat_le kind 1

-- the key of the name; it holds of a name that is not UTF-8
abbrev pub is_key_of : List ℕ → List ℕ → Bool
is_key_of name k = is_utf8 k && (bytes_eq k (key name) || not (is_utf8 name))

-- a house has a number, and nothing else has one
abbrev pub is_number_for : ℕ → List ℕ → Bool
is_number_for kind number = is_utf8 number && (if is_house_kind kind then not (is_empty number) else is_empty number)

-- none or a language, and none for a house
abbrev pub is_lang_for : ℕ → List ℕ → Bool
is_lang_for kind lang = is_empty lang || (is_language lang && not (is_house_kind kind))

-- a language that stands there is one
abbrev pub lang_facts : ℕ → Option (Placed (List ℕ)) → List Fact
lang_facts kind None = []
lang_facts kind (Some lang) = fact lang.at BadText (is_lang_for kind lang.value) ∷ []

-- what has to hold of an address behind another, in the list of houses or in that of names
abbrev pub address_facts : Bool → Beside → Option Address × Address → List Fact
address_facts houses beside pair =
    let a = pair.1 in
    fact a.at BadOrder (follows addresses_rise pair)
    ∷ fact a.ordinal.at BadId (is_ordinal a.ordinal.value && is_addressed a.kind.value a.ordinal.value)
    ∷ fact a.ordinal.at BadMark (is_marked beside.marks a.ordinal.value)
    ∷ fact a.kind.at BadRef (is_kind_in houses a.kind.value)
    ∷ fact a.key.at BadText (is_key_of a.name.value a.key.value)
    ∷ fact a.name.at BadText (is_utf8 a.name.value && not (is_empty a.name.value))
    ∷ fact a.number.at BadText (is_number_for a.kind.value a.number.value)
    ∷ fact a.points.at BadPoint (is_one_location (places a.points.value))
    ∷ lang_facts a.kind.value a.lang

-- What has to hold of entries and blocks.

-- the addresses of blocks, in order
abbrev pub addresses_in : List KeyedBlock → List Address
addresses_in blocks = flat_map (λ block. block.addresses) blocks

-- one key; it holds of one that is not UTF-8
abbrev pub is_same_key : List ℕ → List ℕ → Bool
is_same_key a b = bytes_eq a b || not (is_utf8 a && is_utf8 b)

-- the key of an address, where there is one, is this
abbrev pub has_key : List ℕ → Option Address → Bool
has_key k None = true
has_key k (Some a) = is_same_key k a.key.value

-- the first of a list
abbrev pub first_of : {A : Type 0} → List A → Option A
first_of [] = None
first_of (x ∷ xs) = Some x

-- the last of a list
abbrev pub last_of : {A : Type 0} → List A → Option A
last_of [] = None
last_of (x ∷ []) = Some x
last_of (x ∷ y ∷ ys) = last_of (y ∷ ys)

-- the keys of an entry are UTF-8
abbrev pub entry_facts : KeyEntry → List Fact
entry_facts entry = fact entry.first.at BadText (is_utf8 entry.first.value) ∷ fact entry.last.at BadText (is_utf8 entry.last.value) ∷ []

-- the n-th entry names the n-th block by its place behind the first, and has its first and last key
abbrev pub key_facts : ℕ → KeyEntry → KeyedBlock → List Fact
key_facts start entry block =
    fact entry.place.at BadPlace (start + entry.place.value == block.at)
    ∷ fact entry.at BadOrder (has_key entry.first.value (first_of block.addresses) && has_key entry.last.value (last_of block.addresses)) ∷ []

-- an entry without a block, and a block without an entry
abbrev pub entry_pairs : ℕ → List KeyEntry → List KeyedBlock → List Fact
entry_pairs start [] blocks = map (λ block. fact block.at BadPlace false) blocks
entry_pairs start (entry ∷ entries) [] = map (λ e. fact e.place.at BadPlace false) (entry ∷ entries)
entry_pairs start (entry ∷ entries) (block ∷ blocks) = key_facts start entry block ++ entry_pairs start entries blocks

-- 1 to 64 addresses
abbrev pub keyed_block_fact : KeyedBlock → Fact
keyed_block_fact block = fact block.at BadCount (nat_le 1 (length block.addresses) && nat_le (length block.addresses) 64)

-- where the first block stands
abbrev pub first_at : List KeyedBlock → ℕ
first_at [] = 0
first_at (block ∷ blocks) = block.at

-- all that has to hold of the list of houses, or of that of names; addresses rise over all its blocks
unfoldable pub keyed_facts : Bool → Beside → KeyedList → List Fact
keyed_facts houses beside list =
    flat_map entry_facts list.entries ++ entry_pairs (first_at list.blocks) list.entries list.blocks ++ map keyed_block_fact list.blocks
    ++ flat_map (address_facts houses beside) (with_before None (addresses_in list.blocks))

-- The records.

-- the kind of a number
abbrev pub kind_from : ℕ → AddrKind
kind_from zero = Place
kind_from (suc zero) = Street
kind_from n = House

-- the record that an address stands for
abbrev pub address_record_of : Address → AddrRec
address_record_of a = record {
  id = object_of a.ordinal.value;
  kind = kind_from a.kind.value;
  lang = unwrap_or (option_map (λ lang. lang.value) a.lang) [];
  name = a.name.value;
  number = a.number.value;
  point = only_point (places a.points.value);
}

-- The whole section.

-- the names, then the houses
pub record Addresses : Type 0 where
  pub names : KeyedList
  pub houses : KeyedList

abbrev pub addresses_of : Fields → Addresses
addresses_of (has_message a j names (has_message b k houses rest)) = record { names = keyed_list names; houses = keyed_list houses }
addresses_of fields = record { names = keyed_list ends; houses = keyed_list ends }

-- all that has to hold of a section of good form
abbrev pub addresses_facts : Beside → Addresses → List Fact
addresses_facts beside addresses = keyed_facts false beside addresses.names ++ keyed_facts true beside addresses.houses

-- the records of a list, in the order of the file
abbrev pub list_records : KeyedList → List AddrRec
list_records list = map address_record_of (addresses_in list.blocks)

-- the records of a section, names before houses
abbrev pub address_records_in : Addresses → List AddrRec
address_records_in addresses = list_records addresses.names ++ list_records addresses.houses

-- How a writer packs addresses: two lists by key, that of places and streets and that of houses.
use Rattle.std.specs.Prelude.{ℕ, ◌+◌, List, [], ◌∷◌, ◌++◌, filter, flat_map, length, unwrap_or, Option, Bool, true, false, not}
use Rattle.std.specs.Option.{option_map}
use Rattle.std.specs.Ordering.{nat_cmp, ordering_then}
use Rattle.std.specs.declared.cmp.Ordering.{Ordering}
use Rattle.name_fold.specs.Keys.{key}
use Rattle.live_model.specs.declared.addresses.AddrRec.{AddrRec}
use Rattle.live_model.specs.declared.records.Rec.TheVariants.{Addr}
use Rattle.live_model.specs.Ids.{ordinal}
use Rattle.live_model.specs.Maps.{is_house}
use Rattle.live_model.specs.Records.{address_rank, record_cmp}
use Rattle.coord_delta.specs.Steps.{point_list}
use Rattle.obf_wire.specs.Fields.{number_field, section, short_field}
use Rattle.text_table.specs.Tables.{text_cmp}
use Rattle.file_grammar.specs.AddressRules.{first_of, last_of}
use Rattle.boxed_write.specs.Packed.{cuts, sorted_by}

-- by the key of the name, then by kind, then in the order of records
abbrev pub keyed_cmp : AddrRec → AddrRec → Ordering
keyed_cmp a b =
    ordering_then (text_cmp (key a.name) (key b.name)) (ordering_then (nat_cmp (address_rank a.kind) (address_rank b.kind)) (record_cmp (Addr a) (Addr b)))

-- the fields of an address
abbrev pub address_bytes : AddrRec → List ℕ
address_bytes a =
    number_field 1 (ordinal a.id) ++ number_field 2 (address_rank a.kind) ++ short_field 3 (key a.name) ++ short_field 4 a.name ++ short_field 5 a.number
    ++ short_field 6 (point_list (a.point ∷ [])) ++ short_field 7 a.lang

-- a whole block
abbrev pub block : List AddrRec → List ℕ
block records = section 2 (flat_map (λ a. short_field 1 (address_bytes a)) records)

-- the key of an address, where there is one
abbrev pub key_or_empty : Option AddrRec → List ℕ
key_or_empty a = unwrap_or (option_map (λ a. key a.name) a) []

-- the entry of a block at an offset: its first key, its last key and the offset
abbrev pub entry : ℕ → List AddrRec → List ℕ
entry offset records = short_field 1 (short_field 1 (key_or_empty (first_of records)) ++ short_field 2 (key_or_empty (last_of records)) ++ number_field 3 offset)

-- an entry for each block, which names it by the length of the blocks before it
abbrev pub entries_from : ℕ → List (List AddrRec) → List ℕ
entries_from offset [] = []
entries_from offset (b ∷ bs) = entry offset b ++ entries_from (offset + length (block b)) bs

-- the entries, and the blocks in their order
abbrev pub keyed_blocks : List (List AddrRec) → List ℕ
keyed_blocks blocks = entries_from 0 blocks ++ flat_map block blocks

-- the list of these addresses, in blocks of 64
abbrev pub packed_list : List AddrRec → List ℕ
packed_list records = keyed_blocks (cuts 64 (sorted_by keyed_cmp records))

-- houses stand in one list, places and streets in the other
abbrev pub is_listed : Bool → AddrRec → Bool
is_listed true a = is_house a.kind
is_listed false a = not (is_house a.kind)

-- the bytes of the section: places and streets, then houses
unfoldable pub packed_addresses : List AddrRec → List ℕ
packed_addresses records = section 1 (packed_list (filter (is_listed false) records)) ++ section 2 (packed_list (filter (is_listed true) records))

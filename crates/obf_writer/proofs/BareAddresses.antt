-- Addresses as they are packed, field by field: what they spell, of what form they are, and which lists they are read to.
use Rattle.std.proofs.Common.{◌≡◌, ℕ, ◌+◌, ◌*◌, ◌^◌, ◌<◌, List, [], ◌∷◌, ◌++◌, length, map, flat_map, Some, None, refl, sym, ap, ◌∙◌, arith, append_assoc, length-append}
use Rattle.std.specs.Prelude.{filter_map}
use Rattle.std.specs.List.{AllByRecursion}
use Rattle.std.proofs.lemmas.List.{append-nil}
use Rattle.name_fold.specs.Keys.{key}
use Rattle.live_model.specs.declared.addresses.AddrRec.{AddrRec}
use Rattle.live_model.specs.declared.addresses.AddrKind.{AddrKind}
use Rattle.live_model.specs.declared.addresses.AddrKind.TheVariants.{Place, Street, House}
use Rattle.live_model.specs.declared.points.Point.{Point}
use Rattle.live_model.specs.Fits.{FitsAddress}
use Rattle.live_model.specs.Ids.{ordinal}
use Rattle.live_model.specs.Records.{address_rank}
use Rattle.coord_delta.specs.Steps.{point_list}
use Rattle.coord_delta.proofs.PlaceLists.{numbers_fit, numbers_from, numbers_whole, points_are_numbers}
use Rattle.obf_wire.specs.Varint.{varint}
use Rattle.obf_wire.specs.Fields.{number_field, section, short_field}
use Rattle.file_grammar.specs.declared.parts.Version.TheVariants.{Two}
use Rattle.file_grammar.specs.declared.parts.Part.TheVariants.{Address as AddressPart, Addresses as AddressesPart, KeyEntry as EntryPart, Keyed, KeyedBlock as BlockPart}
use Rattle.file_grammar.specs.AddressRules.{Address, Addresses, KeyEntry, KeyedBlock, KeyedList, address_with, addresses_of, entry_with, first_of, keyed_list, last_of, messages_of}
use Rattle.file_grammar.specs.Messages.{Fields, beyond, inside}
use Rattle.file_grammar.specs.Sections.{Placed, messages_in, placed}
use Rattle.boxed_laws.specs.Bare.{AreFormed, Bare, a_message, a_number, a_text, bytes_of, no_more, some_numbers, stood}
use Rattle.boxed_laws.proofs.RecordParts.{small_ordinal}
use Rattle.addr_section.specs.Packed.{address_bytes, block, entries_from, entry, key_or_empty, keyed_blocks}

abbrev origin : Point
origin = record { x = 0; y = 0 }

-- the steps of a list of the one point
abbrev pub numbers_of : AddrRec → List ℕ
numbers_of a = numbers_from origin (a.point ∷ [])

-- ---- the fields

abbrev pub bare_address : AddrRec → Bare
bare_address a =
    a_number 8 (ordinal a.id) (a_number 16 (address_rank a.kind) (a_text 26 (key a.name) (a_text 34 a.name (a_text 42 a.number (some_numbers 50 (numbers_of a) (a_text 58 a.lang no_more))))))

abbrev pub bare_addresses : List AddrRec → Bare
bare_addresses [] = no_more
bare_addresses (a ∷ rs) = a_message 10 (bare_address a) (bare_addresses rs)

abbrev pub bare_blocks : List (List AddrRec) → Bare
bare_blocks [] = no_more
bare_blocks (b ∷ bs) = a_message 22 (bare_addresses b) (bare_blocks bs)

abbrev pub bare_entry : ℕ → List AddrRec → Bare
bare_entry offset b = a_text 10 (key_or_empty (first_of b)) (a_text 18 (key_or_empty (last_of b)) (a_number 24 offset no_more))

abbrev pub bare_entries : ℕ → List (List AddrRec) → Bare → Bare
bare_entries offset [] rest = rest
bare_entries offset (b ∷ bs) rest = a_message 10 (bare_entry offset b) (bare_entries (offset + length (block b)) bs rest)

abbrev pub bare_list : List (List AddrRec) → Bare
bare_list bs = bare_entries 0 bs (bare_blocks bs)

abbrev pub bare_section : List (List AddrRec) → List (List AddrRec) → Bare
bare_section names houses = a_message 14 (bare_list names) (a_message 22 (bare_list houses) no_more)

-- ---- what they spell

seven : (a b c d e f g : List ℕ) → a ++ (b ++ (c ++ (d ++ (e ++ (f ++ (g ++ [])))))) ≡ a ++ b ++ c ++ d ++ e ++ f ++ g
seven a b c d e f g = ap (λ (t : List ℕ). a ++ (b ++ (c ++ (d ++ (e ++ (f ++ t)))))) (append-nil g) ∙ simp append_assoc refl

address_spelled : (a : AddrRec) → bytes_of (bare_address a) ≡ address_bytes a
address_spelled a =
    ap (λ (t : List ℕ). number_field 1 (ordinal a.id) ++ (number_field 2 (address_rank a.kind) ++ (short_field 3 (key a.name) ++ (short_field 4 a.name ++ (short_field 5 a.number ++ (short_field 6 t ++ (short_field 7 a.lang ++ [])))))))
    (sym (points_are_numbers origin (a.point ∷ [])))
    ∙ seven (number_field 1 (ordinal a.id)) (number_field 2 (address_rank a.kind)) (short_field 3 (key a.name)) (short_field 4 a.name) (short_field 5 a.number) (short_field 6 (point_list (a.point ∷ []))) (short_field 7 a.lang)

addresses_spelled : (rs : List AddrRec) → bytes_of (bare_addresses rs) ≡ flat_map (λ a. short_field 1 (address_bytes a)) rs
addresses_spelled [] = refl
addresses_spelled (a ∷ rs) =
    ap (λ (t : List ℕ). short_field 1 t ++ bytes_of (bare_addresses rs)) (address_spelled a) ∙ ap (λ (t : List ℕ). short_field 1 (address_bytes a) ++ t) (addresses_spelled rs)

pub blocks_spelled : (bs : List (List AddrRec)) → bytes_of (bare_blocks bs) ≡ flat_map block bs
blocks_spelled [] = refl
blocks_spelled (b ∷ bs) =
    ap (λ (t : List ℕ). section 2 t ++ bytes_of (bare_blocks bs)) (addresses_spelled b) ∙ ap (λ (t : List ℕ). block b ++ t) (blocks_spelled bs)

entry_spelled : (offset : ℕ) (b : List AddrRec) → bytes_of (bare_entry offset b) ≡ short_field 1 (key_or_empty (first_of b)) ++ short_field 2 (key_or_empty (last_of b)) ++ number_field 3 offset
entry_spelled offset b =
    ap (λ (t : List ℕ). short_field 1 (key_or_empty (first_of b)) ++ (short_field 2 (key_or_empty (last_of b)) ++ t)) (append-nil (number_field 3 offset))
    ∙ sym (append_assoc (short_field 1 (key_or_empty (first_of b))) (short_field 2 (key_or_empty (last_of b))) (number_field 3 offset))

entries_spelled : (offset : ℕ) (bs : List (List AddrRec)) (rest : Bare) → bytes_of (bare_entries offset bs rest) ≡ entries_from offset bs ++ bytes_of rest
entries_spelled offset [] rest = refl
entries_spelled offset (b ∷ bs) rest =
    ap (λ (t : List ℕ). short_field 1 t ++ bytes_of (bare_entries (offset + length (block b)) bs rest)) (entry_spelled offset b)
    ∙ ap (λ (t : List ℕ). entry offset b ++ t) (entries_spelled (offset + length (block b)) bs rest)
    ∙ sym (append_assoc (entry offset b) (entries_from (offset + length (block b)) bs) (bytes_of rest))

list_spelled : (bs : List (List AddrRec)) → bytes_of (bare_list bs) ≡ keyed_blocks bs
list_spelled bs = entries_spelled 0 bs (bare_blocks bs) ∙ ap (λ (t : List ℕ). entries_from 0 bs ++ t) (blocks_spelled bs)

pub section_spelled : (names houses : List (List AddrRec)) → bytes_of (bare_section names houses) ≡ section 1 (keyed_blocks names) ++ section 2 (keyed_blocks houses)
section_spelled names houses =
    ap (λ (t : List ℕ). section 1 (bytes_of (bare_list names)) ++ t) (append-nil (section 2 (bytes_of (bare_list houses))))
    ∙ ap (λ (t : List ℕ). section 1 t ++ section 2 (bytes_of (bare_list houses))) (list_spelled names)
    ∙ ap (λ (t : List ℕ). section 1 (keyed_blocks names) ++ section 2 t) (list_spelled houses)

-- ---- their form

rank_small : (kind : AddrKind) → address_rank kind < 2 ^ 64
rank_small Place = omega arith
rank_small Street = omega arith
rank_small House = omega arith

address_formed : (a : AddrRec) → FitsAddress a → AreFormed (AddressPart Two) None (bare_address a)
address_formed a f = (
  refl,
  small_ordinal a.id f.id,
  (
    refl,
    rank_small a.kind,
    (
      refl,
      refl,
      (
        refl,
        refl,
        (
          refl,
          refl,
          (refl, (numbers_whole origin (a.point ∷ []), numbers_fit origin (a.point ∷ []) (omega arith, omega arith) (f.grid, tt)), (refl, refl, refl)),
        ),
      ),
    ),
  ),
)

addresses_behind : (rs : List AddrRec) → AllByRecursion FitsAddress rs → AreFormed (BlockPart Two) (Some 10) (bare_addresses rs)
addresses_behind [] all = refl
addresses_behind (a ∷ rs) all = (refl, address_formed a all.0, addresses_behind rs all.1)

addresses_formed : (rs : List AddrRec) → AllByRecursion FitsAddress rs → AreFormed (BlockPart Two) None (bare_addresses rs)
addresses_formed [] all = refl
addresses_formed (a ∷ rs) all = (refl, address_formed a all.0, addresses_behind rs all.1)

blocks_behind : (bs : List (List AddrRec)) → AllByRecursion (AllByRecursion FitsAddress) bs → AreFormed (Keyed Two) (Some 22) (bare_blocks bs)
blocks_behind [] all = refl
blocks_behind (b ∷ bs) all = (refl, addresses_formed b all.0, blocks_behind bs all.1)

blocks_formed : (bs : List (List AddrRec)) → AllByRecursion (AllByRecursion FitsAddress) bs → AreFormed (Keyed Two) (Some 10) (bare_blocks bs)
blocks_formed [] all = refl
blocks_formed (b ∷ bs) all = (refl, addresses_formed b all.0, blocks_behind bs all.1)

entry_formed : (offset : ℕ) (b : List AddrRec) → offset < 2 ^ 64 → AreFormed EntryPart None (bare_entry offset b)
entry_formed offset b small = (refl, refl, (refl, refl, (refl, small, refl)))

entries_formed : (offset : ℕ) (bs : List (List AddrRec)) (rest : Bare) → offset + length (flat_map block bs) < 2 ^ 64 → AreFormed (Keyed Two) (Some 10) rest → AreFormed (Keyed Two) (Some 10) (bare_entries offset bs rest)
entries_formed offset [] rest small others = others
entries_formed offset (b ∷ bs) rest small others =
    let long = length-append (block b) (flat_map block bs) in
    (refl, entry_formed offset b (omega (arith, small)), entries_formed (offset + length (block b)) bs rest (omega (arith, small, long)) others)

list_formed : (bs : List (List AddrRec)) → length (flat_map block bs) < 2 ^ 64 → AllByRecursion (AllByRecursion FitsAddress) bs → AreFormed (Keyed Two) None (bare_list bs)
list_formed [] small all = refl
list_formed (b ∷ bs) small all =
    let long = length-append (block b) (flat_map block bs) in
    (refl, entry_formed 0 b (omega arith), entries_formed (0 + length (block b)) bs (bare_blocks (b ∷ bs)) (omega (arith, small, long)) (blocks_formed (b ∷ bs) all))

pub section_formed : (names houses : List (List AddrRec)) → length (flat_map block names) < 2 ^ 64 → length (flat_map block houses) < 2 ^ 64 → AllByRecursion (AllByRecursion FitsAddress) names → AllByRecursion (AllByRecursion FitsAddress) houses
    → AreFormed (AddressesPart Two) None (bare_section names houses)
section_formed names houses small_names small_houses good_names good_houses = (refl, list_formed names small_names good_names, (refl, list_formed houses small_houses good_houses, refl))

-- ---- the lists that they are read to

-- an address at an offset, whose fields begin at another
abbrev pub address_at : ℕ → ℕ → AddrRec → Address
address_at at from a =
    let kind = inside from 8 (ordinal a.id) in
    let of_key = inside kind 16 (address_rank a.kind) in
    let name = beyond of_key 26 (length (key a.name)) in
    let number = beyond name 34 (length a.name) in
    let points = beyond number 42 (length a.number) in
    let lang = beyond points 50 (length (flat_map varint (numbers_of a))) in
    record {
      at = at;
      ordinal = placed from (ordinal a.id);
      kind = placed kind (address_rank a.kind);
      key = placed of_key (key a.name);
      name = placed name a.name;
      number = placed number a.number;
      points = placed points (numbers_of a);
      lang = Some (placed lang a.lang);
    }

-- the addresses of a block from an offset on
abbrev pub addresses_at : ℕ → List AddrRec → List Address
addresses_at at [] = []
addresses_at at (a ∷ rs) = address_at at (inside at 10 (length (bytes_of (bare_address a)))) a ∷ addresses_at (beyond at 10 (length (bytes_of (bare_address a)))) rs

abbrev pub block_at : ℕ → List AddrRec → KeyedBlock
block_at at b = record { at = at; addresses = addresses_at (inside at 22 (length (bytes_of (bare_addresses b)))) b }

abbrev pub blocks_at : ℕ → List (List AddrRec) → List KeyedBlock
blocks_at at [] = []
blocks_at at (b ∷ bs) = block_at at b ∷ blocks_at (beyond at 22 (length (bytes_of (bare_addresses b)))) bs

abbrev pub entry_at : ℕ → ℕ → List AddrRec → KeyEntry
entry_at at offset b =
    let from = inside at 10 (length (bytes_of (bare_entry offset b))) in
    let last = beyond from 10 (length (key_or_empty (first_of b))) in
    record { at = at; first = placed from (key_or_empty (first_of b)); last = placed last (key_or_empty (last_of b)); place = placed (beyond last 18 (length (key_or_empty (last_of b)))) offset }

abbrev pub entries_at : ℕ → ℕ → List (List AddrRec) → List KeyEntry
entries_at at offset [] = []
entries_at at offset (b ∷ bs) = entry_at at offset b ∷ entries_at (beyond at 10 (length (bytes_of (bare_entry offset b)))) (offset + length (block b)) bs

-- where the blocks begin
abbrev pub behind_entries : ℕ → ℕ → List (List AddrRec) → ℕ
behind_entries at offset [] = at
behind_entries at offset (b ∷ bs) = behind_entries (beyond at 10 (length (bytes_of (bare_entry offset b)))) (offset + length (block b)) bs

addresses_read : (at : ℕ) (rs : List AddrRec) → filter_map (λ a. address_with a.at a.value) (messages_in (stood at (bare_addresses rs))) ≡ addresses_at at rs
addresses_read at [] = refl
addresses_read at (a ∷ rs) =
    ap (λ (others : List Address). address_at at (inside at 10 (length (bytes_of (bare_address a)))) a ∷ others) (addresses_read (beyond at 10 (length (bytes_of (bare_address a)))) rs)

abbrev as_entries : List (Placed Fields) → List KeyEntry
as_entries ms = filter_map (λ m. entry_with m.at m.value) ms

abbrev as_blocks : List (Placed Fields) → List KeyedBlock
as_blocks ms = map (λ m. record { at = m.at; addresses = filter_map (λ a. address_with a.at a.value) (messages_in m.value) }) ms

entries_read : (at offset : ℕ) (bs : List (List AddrRec)) (rest : Bare) → as_entries (messages_of (1 * 8 + 2) (stood (behind_entries at offset bs) rest)) ≡ []
    → as_entries (messages_of (1 * 8 + 2) (stood at (bare_entries offset bs rest))) ≡ entries_at at offset bs
entries_read at offset [] rest none = none
entries_read at offset (b ∷ bs) rest none =
    ap (λ (others : List KeyEntry). entry_at at offset b ∷ others) (entries_read (beyond at 10 (length (bytes_of (bare_entry offset b)))) (offset + length (block b)) bs rest none)

no_entries : (at : ℕ) (bs : List (List AddrRec)) → as_entries (messages_of (1 * 8 + 2) (stood at (bare_blocks bs))) ≡ []
no_entries at [] = refl
no_entries at (b ∷ bs) = no_entries (beyond at 22 (length (bytes_of (bare_addresses b)))) bs

blocks_read : (at : ℕ) (bs : List (List AddrRec)) → as_blocks (messages_of (2 * 8 + 6) (stood at (bare_blocks bs))) ≡ blocks_at at bs
blocks_read at [] = refl
blocks_read at (b ∷ bs) =
    ap (λ (rs : List Address). record { at = at; addresses = rs } ∷ as_blocks (messages_of (2 * 8 + 6) (stood (beyond at 22 (length (bytes_of (bare_addresses b)))) (bare_blocks bs))))
    (addresses_read (inside at 22 (length (bytes_of (bare_addresses b)))) b)
    ∙ ap (λ (others : List KeyedBlock). block_at at b ∷ others) (blocks_read (beyond at 22 (length (bytes_of (bare_addresses b)))) bs)

blocks_behind_entries : (at offset : ℕ) (bs : List (List AddrRec)) (rest : Bare) → as_blocks (messages_of (2 * 8 + 6) (stood at (bare_entries offset bs rest))) ≡ as_blocks (messages_of (2 * 8 + 6) (stood (behind_entries at offset bs) rest))
blocks_behind_entries at offset [] rest = refl
blocks_behind_entries at offset (b ∷ bs) rest = blocks_behind_entries (beyond at 10 (length (bytes_of (bare_entry offset b)))) (offset + length (block b)) bs rest

-- the list that packed blocks are read to
abbrev pub list_at : ℕ → List (List AddrRec) → KeyedList
list_at at bs = record { entries = entries_at at 0 bs; blocks = blocks_at (behind_entries at 0 bs) bs }

abbrev made_list : List KeyEntry → List KeyedBlock → KeyedList
made_list entries blocks = record { entries = entries; blocks = blocks }

list_read : (at : ℕ) (bs : List (List AddrRec)) → keyed_list (stood at (bare_list bs)) ≡ list_at at bs
list_read at bs =
    ap (λ (es : List KeyEntry). made_list es (as_blocks (messages_of (2 * 8 + 6) (stood at (bare_list bs))))) (entries_read at 0 bs (bare_blocks bs) (no_entries (behind_entries at 0 bs) bs))
    ∙ ap (made_list (entries_at at 0 bs)) (blocks_behind_entries at 0 bs (bare_blocks bs) ∙ blocks_read (behind_entries at 0 bs) bs)

-- where the two lists of a section begin
abbrev pub names_from : ℕ → List (List AddrRec) → ℕ
names_from at names = inside at 14 (length (bytes_of (bare_list names)))

abbrev pub houses_from : ℕ → List (List AddrRec) → List (List AddrRec) → ℕ
houses_from at names houses = inside (beyond at 14 (length (bytes_of (bare_list names)))) 22 (length (bytes_of (bare_list houses)))

abbrev made_section : KeyedList → KeyedList → Addresses
made_section names houses = record { names = names; houses = houses }

pub section_read : (at : ℕ) (names houses : List (List AddrRec)) → addresses_of (stood at (bare_section names houses)) ≡ record { names = list_at (names_from at names) names; houses = list_at (houses_from at names houses) houses }
section_read at names houses =
    ap (λ (list : KeyedList). made_section list (keyed_list (stood (houses_from at names houses) (bare_list houses)))) (list_read (names_from at names) names)
    ∙ ap (made_section (list_at (names_from at names) names)) (list_read (houses_from at names houses) houses)

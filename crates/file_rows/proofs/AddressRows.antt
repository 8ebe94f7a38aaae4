-- Worked rows of what has to hold of lists of addresses, and of the records that they stand for.
use Rattle.std.specs.Prelude.{◌≡◌, ℕ, ◌+◌, List, [], ◌∷◌, ◌++◌, refl, codes, Bool, true, false, Option, Some, None}
use Rattle.std.specs.Str.{is_utf8, chars}
use Rattle.std.proofs.Math.Utf8.{encode}
use Rattle.caseless.proofs.Computing.{caseless}
use Rattle.name_fold.specs.Keys.{key}
use Rattle.obf_wire.specs.declared.file.FileBreak.{FileBreak}
use Rattle.obf_wire.specs.declared.file.FileKind.{FileKind}
use Rattle.obf_wire.specs.declared.file.FileKind.TheVariants as kinds
use Rattle.live_model.specs.declared.addresses.AddrKind.TheVariants.{Place, Street, House}
use Rattle.live_model.specs.declared.addresses.AddrRec.{AddrRec}
use Rattle.live_model.specs.declared.ids.Kind.TheVariants.{Node, Way}
use Rattle.std.specs.Prelude.{pos}
use Rattle.file_grammar.specs.Messages.{Fields, ends, has_number, has_bytes, has_numbers, has_message}
use Rattle.file_grammar.specs.Facts.{first_failing}
use Rattle.file_grammar.specs.BoxRules.{Beside}
use Rattle.file_grammar.specs.AddressRules.{addresses_of, address_records_in, keyed_facts, keyed_list, list_records}

abbrev beside : Beside
beside = record { rules = []; marks = None }

-- Fields: an address at an offset has its ordinal there, and each of its other fields one further on.

abbrev points : List ℕ
points = 3862000000 ∷ 752000000 ∷ []

abbrev address_of : ℕ → ℕ → ℕ → List ℕ → List ℕ → List ℕ → List ℕ → List ℕ → Fields
address_of at ordinal kind k name number where_it_is lang =
    has_number (at + 1) 8 ordinal (has_number (at + 2) 16 kind (has_bytes (at + 3) 26 k (has_bytes (at + 4) 34 name (has_bytes (at + 5) 42 number
    (has_numbers (at + 6) 50 where_it_is (has_bytes (at + 7) 58 lang ends))))))

-- n1, w20, n2 and r1
abbrev n1 : ℕ
n1 = 281474976710657

abbrev n2 : ℕ
n2 = 281474976710658

abbrev w20 : ℕ
w20 = 1407374883553300

abbrev r1 : ℕ
r1 = 2533274790395905

abbrev sharp : List ℕ
sharp = codes "Stra" ++ 195 ∷ 159 ∷ codes "e"

abbrev place : Fields
place = address_of 210 n1 0 (codes "aldorf") (codes "Aldorf") [] points []

abbrev street : Fields
street = address_of 230 w20 1 (codes "strasse") sharp [] points (codes "de")

-- two addresses of a block at 200
abbrev two : Fields → Fields → Fields
two a b = has_message 210 10 a (has_message 230 10 b ends)

abbrev one : Fields → Fields
one a = has_message 210 10 a ends

-- an entry at 100
abbrev entry : List ℕ → List ℕ → ℕ → Fields
entry first last place = has_bytes 101 10 first (has_bytes 102 18 last (has_number 103 24 place ends))

abbrev list : Fields → Fields → Fields
list e block = has_message 100 10 e (has_message 200 22 block ends)

abbrev broken : ℕ → FileKind → Option FileBreak
broken at kind = Some (record { at = at; kind = kind })

-- the first break of a list of places and streets, and of one of houses
abbrev names : Fields → Option FileBreak
names fields = first_failing (keyed_facts false beside (keyed_list fields))

abbrev houses : Fields → Option FileBreak
houses fields = first_failing (keyed_facts true beside (keyed_list fields))

abbrev of_one : Fields → Option FileBreak
of_one a = names (list (entry (codes "aldorf") (codes "aldorf") 0) (one a))

-- Good lists.

sound : names (list (entry (codes "aldorf") (codes "strasse") 0) (two place street)) ≡ None
unfolding keyed_facts key caseless chars encode is_utf8
sound = refl

empty : names ends ≡ None
unfolding keyed_facts
empty = refl

-- equal neighbours may stand side by side
twice : names (list (entry (codes "aldorf") (codes "aldorf") 0) (two place (address_of 230 n1 0 (codes "aldorf") (codes "Aldorf") [] points []))) ≡ None
unfolding keyed_facts key caseless chars encode is_utf8
twice = refl

house_is_good : houses (list (entry (codes "strasse") (codes "strasse") 0) (one (address_of 210 w20 2 (codes "strasse") sharp (codes "3") points []))) ≡ None
unfolding keyed_facts key caseless chars encode is_utf8
house_is_good = refl

-- a file of the first version has no languages
without_lang : of_one (has_number 211 8 n1 (has_number 212 16 0 (has_bytes 213 26 (codes "aldorf") (has_bytes 214 34 (codes "Aldorf") (has_bytes 215 42 [] (has_numbers 216 50 points ends)))))) ≡ None
unfolding keyed_facts key caseless chars encode is_utf8
without_lang = refl

-- Texts.

key_of_another_name : of_one (address_of 210 n1 0 (codes "Aldorf") (codes "Aldorf") [] points []) ≡ broken 100 kinds.BadOrder
unfolding keyed_facts key caseless chars encode is_utf8
key_of_another_name = refl

-- the entry agrees, so the key itself is told
key_with_its_case : names (list (entry (codes "Aldorf") (codes "Aldorf") 0) (one (address_of 210 n1 0 (codes "Aldorf") (codes "Aldorf") [] points []))) ≡ broken 213 kinds.BadText
unfolding keyed_facts key caseless chars encode is_utf8
key_with_its_case = refl

-- a key that is not UTF-8 frees the order and the entry
key_not_utf8 : of_one (address_of 210 n1 0 (255 ∷ []) (codes "Aldorf") [] points []) ≡ broken 213 kinds.BadText
unfolding keyed_facts key caseless chars encode is_utf8
key_not_utf8 = refl

-- a name that is not UTF-8 frees its key
name_not_utf8 : of_one (address_of 210 n1 0 (codes "aldorf") (255 ∷ []) [] points []) ≡ broken 214 kinds.BadText
unfolding keyed_facts key caseless chars encode is_utf8
name_not_utf8 = refl

-- no key but the empty one is that of the empty name
name_empty : of_one (address_of 210 n1 0 (codes "aldorf") [] [] points []) ≡ broken 213 kinds.BadText
unfolding keyed_facts key caseless chars encode is_utf8
name_empty = refl

name_and_key_empty : names (list (entry [] [] 0) (one (address_of 210 n1 0 [] [] [] points []))) ≡ broken 214 kinds.BadText
unfolding keyed_facts key caseless chars encode is_utf8
name_and_key_empty = refl

number_of_a_place : of_one (address_of 210 n1 0 (codes "aldorf") (codes "Aldorf") (codes "3") points []) ≡ broken 215 kinds.BadText
unfolding keyed_facts key caseless chars encode is_utf8
number_of_a_place = refl

house_without_a_number : houses (list (entry (codes "aldorf") (codes "aldorf") 0) (one (address_of 210 n1 2 (codes "aldorf") (codes "Aldorf") [] points []))) ≡ broken 215 kinds.BadText
unfolding keyed_facts key caseless chars encode is_utf8
house_without_a_number = refl

lang_of_one_letter : of_one (address_of 210 n1 0 (codes "aldorf") (codes "Aldorf") [] points (codes "e")) ≡ broken 217 kinds.BadText
unfolding keyed_facts key caseless chars encode is_utf8
lang_of_one_letter = refl

lang_of_a_house : houses (list (entry (codes "aldorf") (codes "aldorf") 0) (one (address_of 210 n1 2 (codes "aldorf") (codes "Aldorf") (codes "3") points (codes "en")))) ≡ broken 217 kinds.BadText
unfolding keyed_facts key caseless chars encode is_utf8
lang_of_a_house = refl

first_key_not_utf8 : names (list (entry (255 ∷ []) (codes "aldorf") 0) (one place)) ≡ broken 101 kinds.BadText
unfolding keyed_facts key caseless chars encode is_utf8
first_key_not_utf8 = refl

-- Order.

falling : names (list (entry (codes "strasse") (codes "aldorf") 0) (two (address_of 210 w20 1 (codes "strasse") sharp [] points []) (address_of 230 n1 0 (codes "aldorf") (codes "Aldorf") [] points []))) ≡ broken 230 kinds.BadOrder
unfolding keyed_facts key caseless chars encode is_utf8
falling = refl

-- of one key the kind decides, then the ordinal
street_before_place : names (list (entry (codes "a") (codes "a") 0) (two (address_of 210 w20 1 (codes "a") (codes "a") [] points []) (address_of 230 n1 0 (codes "a") (codes "A") [] points []))) ≡ broken 230 kinds.BadOrder
unfolding keyed_facts key caseless chars encode is_utf8
street_before_place = refl

falling_ordinals : names (list (entry (codes "a") (codes "a") 0) (two (address_of 210 n2 0 (codes "a") (codes "a") [] points []) (address_of 230 n1 0 (codes "a") (codes "A") [] points []))) ≡ broken 230 kinds.BadOrder
unfolding keyed_facts key caseless chars encode is_utf8
falling_ordinals = refl

-- a number that is no ordinal frees the comparison only where it comes down to it
no_ordinal : names (list (entry (codes "a") (codes "a") 0) (two (address_of 210 w20 0 (codes "a") (codes "a") [] points []) (address_of 230 1125899906842623 0 (codes "a") (codes "A") [] points []))) ≡ broken 231 kinds.BadId
unfolding keyed_facts key caseless chars encode is_utf8
no_ordinal = refl

last_key_of_the_first_record : names (list (entry (codes "aldorf") (codes "aldorf") 0) (two place street)) ≡ broken 100 kinds.BadOrder
unfolding keyed_facts key caseless chars encode is_utf8
last_key_of_the_first_record = refl

-- over two blocks
over_blocks : names (has_message 100 10 (entry (codes "strasse") (codes "strasse") 0) (has_message 150 10 (has_bytes 151 10 (codes "aldorf") (has_bytes 152 18 (codes "aldorf") (has_number 153 24 100 ends)))
    (has_message 200 22 (one (address_of 210 w20 1 (codes "strasse") sharp [] points [])) (has_message 300 22 (has_message 310 10 (address_of 310 n1 0 (codes "aldorf") (codes "Aldorf") [] points []) ends) ends)))) ≡ broken 310 kinds.BadOrder
unfolding keyed_facts key caseless chars encode is_utf8
over_blocks = refl

-- Ids, kinds, points and marks.

of_a_relation : of_one (address_of 210 r1 0 (codes "aldorf") (codes "Aldorf") [] points []) ≡ broken 211 kinds.BadId
unfolding keyed_facts key caseless chars encode is_utf8
of_a_relation = refl

street_of_a_node : of_one (address_of 210 n1 1 (codes "aldorf") (codes "Aldorf") [] points []) ≡ broken 211 kinds.BadId
unfolding keyed_facts key caseless chars encode is_utf8
street_of_a_node = refl

house_among_names : of_one (address_of 210 n1 2 (codes "aldorf") (codes "Aldorf") (codes "3") points []) ≡ broken 212 kinds.BadRef
unfolding keyed_facts key caseless chars encode is_utf8
house_among_names = refl

place_among_houses : houses (list (entry (codes "aldorf") (codes "aldorf") 0) (one place)) ≡ broken 212 kinds.BadRef
unfolding keyed_facts key caseless chars encode is_utf8
place_among_houses = refl

no_kind : of_one (address_of 210 n1 3 (codes "aldorf") (codes "Aldorf") [] points []) ≡ broken 212 kinds.BadRef
unfolding keyed_facts key caseless chars encode is_utf8
no_kind = refl

two_points : of_one (address_of 210 n1 0 (codes "aldorf") (codes "Aldorf") [] (0 ∷ 0 ∷ 0 ∷ 0 ∷ []) []) ≡ broken 216 kinds.BadPoint
unfolding keyed_facts key caseless chars encode is_utf8
two_points = refl

-- 3,600,000,001
off_the_grid : of_one (address_of 210 n1 0 (codes "aldorf") (codes "Aldorf") [] (7200000002 ∷ 0 ∷ []) []) ≡ broken 216 kinds.BadPoint
unfolding keyed_facts key caseless chars encode is_utf8
off_the_grid = refl

not_marked : first_failing (keyed_facts false (record { rules = []; marks = Some (n2 ∷ []) }) (keyed_list (list (entry (codes "aldorf") (codes "aldorf") 0) (one place)))) ≡ broken 211 kinds.BadMark
unfolding keyed_facts key caseless chars encode is_utf8
not_marked = refl

-- Entries and blocks.

another_place : names (list (entry (codes "aldorf") (codes "aldorf") 1) (one place)) ≡ broken 103 kinds.BadPlace
unfolding keyed_facts key caseless chars encode is_utf8
another_place = refl

entry_without_a_block : names (has_message 100 10 (entry (codes "b") (codes "a") 7) ends) ≡ broken 103 kinds.BadPlace
unfolding keyed_facts key caseless chars encode is_utf8
entry_without_a_block = refl

block_without_an_entry : names (has_message 200 22 (one place) ends) ≡ broken 200 kinds.BadPlace
unfolding keyed_facts key caseless chars encode is_utf8
block_without_an_entry = refl

empty_block : names (list (entry (codes "b") (codes "a") 0) ends) ≡ broken 200 kinds.BadCount
unfolding keyed_facts key caseless chars encode is_utf8
empty_block = refl

-- The records.

records : list_records (keyed_list (list (entry (codes "aldorf") (codes "strasse") 0) (two place street)))
    ≡ record { id = record { kind = Node; number = pos 1 }; kind = Place; lang = []; name = codes "Aldorf"; number = []; point = record { x = 1931000000; y = 376000000 } }
    ∷ record { id = record { kind = Way; number = pos 20 }; kind = Street; lang = codes "de"; name = sharp; number = []; point = record { x = 1931000000; y = 376000000 } } ∷ []
records = refl

both_lists : address_records_in (addresses_of (has_message 90 14 (list (entry (codes "aldorf") (codes "aldorf") 0) (one place)) (has_message 400 22 (list (entry (codes "strasse") (codes "strasse") 0) (one (address_of 210 w20 2 (codes "strasse") sharp (codes "3") points []))) ends)))
    ≡ record { id = record { kind = Node; number = pos 1 }; kind = Place; lang = []; name = codes "Aldorf"; number = []; point = record { x = 1931000000; y = 376000000 } }
    ∷ record { id = record { kind = Way; number = pos 20 }; kind = House; lang = []; name = sharp; number = codes "3"; point = record { x = 1931000000; y = 376000000 } } ∷ []
both_lists = refl

-- Worked rows of form: a whole base without records, its fronts, and single wrong bytes.
use Rattle.std.specs.Prelude.{◌≡◌, ℕ, zero, suc, ◌+◌, ◌/◌, ◌%◌, List, [], ◌∷◌, ◌++◌, length, take, drop, refl, Result, Ok, true, is_ok}
use Rattle.obf_wire.specs.Fields.{Window, field_at}
use Rattle.obf_wire.specs.Varint.{varint, varint_in}
use Rattle.obf_wire.specs.Varint as X
use Rattle.obf_wire.specs.declared.file.FileBreak.{FileBreak}
use Rattle.obf_wire.specs.declared.file.FileKind.TheVariants as kinds
use Rattle.file_grammar.specs.Messages.{Fields, ends, has_number, has_bytes, has_numbers, has_message, spelling}
use Rattle.file_grammar.specs.Readings.{message_at, message_from, breaks}
use Rattle.file_grammar.specs.declared.parts.Boxed.TheVariants.{Map}
use Rattle.file_grammar.specs.declared.parts.Version.TheVariants.{One, Two}
use Rattle.file_grammar.specs.declared.parts.Part.TheVariants.{File, Tree, Node, Block, Record}

abbrev whole : List ℕ → Window
whole bytes = record { bytes = bytes; place = 0; end = length bytes }

abbrev wide : ℕ → List ℕ
wide n = 0 ∷ 0 ∷ 0 ∷ 0 ∷ 0 ∷ 0 ∷ 0 ∷ n ∷ []

abbrev sections : List ℕ
sections =
    (54 ∷ wide 9) ++ (14 ∷ wide 0) ++ (62 ∷ wide 18) ++ (14 ∷ wide 0) ++ (22 ∷ wide 0) ++ (70 ∷ wide 0) ++ (78 ∷ wide 36)
    ++ (14 ∷ wide 9) ++ (14 ∷ wide 0) ++ (22 ∷ wide 9) ++ (14 ∷ wide 0) ++ (134 ∷ 1 ∷ wide 2) ++ (10 ∷ 0 ∷ [])

abbrev base : List ℕ
base = (8 ∷ 1 ∷ 18 ∷ 6 ∷ 8 ∷ 0 ∷ 16 ∷ 0 ∷ 24 ∷ 0 ∷ 26 ∷ 0 ∷ []) ++ sections ++ (128 ∷ 2 ∷ 1 ∷ [])

abbrev base_fields : Fields
base_fields =
    has_number 0 8 1 (has_message 2 18 (has_number 4 8 0 (has_number 6 16 0 (has_number 8 24 0 ends))) (has_bytes 10 26 []
    (has_message 12 54 (has_message 21 14 ends ends) (has_message 30 62 (has_message 39 14 ends (has_message 48 22 ends ends)) (has_message 57 70 ends
    (has_message 66 78 (has_message 75 14 (has_message 84 14 ends ends) (has_message 93 22 (has_message 102 14 ends ends) ends))
    (has_message 111 134 (has_numbers 121 10 [] ends) (has_number 123 256 1 ends))))))))

-- the same with the number 2 as the version
abbrev second_fields : Fields → Fields
second_fields (has_number at key version rest) = has_number at key 2 rest
second_fields fields = fields

base_length : length base ≡ 126
base_length = refl

base_read : message_at (File One) (whole base) ≡ Ok base_fields
unfolding message_from field_at varint_in
base_read = refl

base_spelled : spelling base_fields ≡ base
unfolding spelling varint X.groups
base_spelled = refl

-- The fronts of the base.

abbrev cut : ℕ → Result Fields FileBreak
cut k = message_at (File One) (whole (take k base))

front_111 : cut 111 ≡ breaks 111 kinds.Short
unfolding message_from field_at varint_in
front_111 = refl

front_112 : cut 112 ≡ breaks 111 kinds.Short
unfolding message_from field_at varint_in
front_112 = refl

front_113 : cut 113 ≡ breaks 113 kinds.Short
unfolding message_from field_at varint_in
front_113 = refl

front_116 : cut 116 ≡ breaks 113 kinds.Short
unfolding message_from field_at varint_in
front_116 = refl

front_120 : cut 120 ≡ breaks 113 kinds.Short
unfolding message_from field_at varint_in
front_120 = refl

front_121 : cut 121 ≡ breaks 111 kinds.OverEnd
unfolding message_from field_at varint_in
front_121 = refl

front_122 : cut 122 ≡ breaks 111 kinds.OverEnd
unfolding message_from field_at varint_in
front_122 = refl

front_123 : cut 123 ≡ breaks 123 kinds.Short
unfolding message_from field_at varint_in
front_123 = refl

front_124 : cut 124 ≡ breaks 123 kinds.Short
unfolding message_from field_at varint_in
front_124 = refl

front_125 : cut 125 ≡ breaks 125 kinds.Short
unfolding message_from field_at varint_in
front_125 = refl

front_0 : cut 0 ≡ breaks 0 kinds.Short
unfolding message_from field_at varint_in
front_0 = refl

-- Other bytes.

abbrev read : List ℕ → Result Fields FileBreak
read bytes = message_at (File One) (whole bytes)

abbrev with_byte : ℕ → ℕ → List ℕ
with_byte place value = take place base ++ value ∷ drop (place + 1) base

long_version : read (8 ∷ 129 ∷ 0 ∷ drop 2 base) ≡ breaks 1 kinds.LongVarint
unfolding message_from field_at varint_in
long_version = refl

one_more : read (base ++ 0 ∷ []) ≡ breaks 126 kinds.BadKey
unfolding message_from field_at varint_in
one_more = refl

past_the_end : read (take 13 base ++ 255 ∷ 255 ∷ 255 ∷ 255 ∷ 255 ∷ 255 ∷ 255 ∷ 255 ∷ drop 21 base) ≡ breaks 12 kinds.OverEnd
unfolding message_from field_at varint_in
past_the_end = refl

version_2 : read (with_byte 1 2) ≡ breaks 0 kinds.BadVersion
unfolding message_from field_at varint_in
version_2 = refl

-- in the form of the second version the number 2 is good, and the first version's is not
second_form : message_at (File Two) (whole (with_byte 1 2)) ≡ Ok (second_fields base_fields)
unfolding message_from field_at varint_in
second_form = refl

version_1_in_the_second_form : message_at (File Two) (whole base) ≡ breaks 0 kinds.BadVersion
unfolding message_from field_at varint_in
version_1_in_the_second_form = refl

zero_bytes : read (0 ∷ 0 ∷ 0 ∷ []) ≡ breaks 0 kinds.BadKey
unfolding message_from field_at varint_in
zero_bytes = refl

-- an entry of a list of names without its first key
an_entry_without_fields : read (take 30 base ++ (62 ∷ wide 20) ++ (14 ∷ wide 2) ++ (10 ∷ 0 ∷ 22 ∷ []) ++ wide 0 ++ drop 57 base) ≡ breaks 50 kinds.Short
unfolding message_from field_at varint_in
an_entry_without_fields = refl

-- Nodes: a leaf, a node without children, a child at depth 24, one at depth 25.

abbrev leaf : List ℕ
leaf = 8 ∷ 1 ∷ 16 ∷ 2 ∷ 24 ∷ 3 ∷ 32 ∷ 4 ∷ 40 ∷ 0 ∷ []

abbrev above_leaf : List ℕ
above_leaf = (8 ∷ 1 ∷ 16 ∷ 2 ∷ 24 ∷ 3 ∷ 32 ∷ 4 ∷ []) ++ (54 ∷ wide 10) ++ leaf

leaf_alone : message_at Tree (whole leaf) ≡ Ok (has_number 0 8 1 (has_number 2 16 2 (has_number 4 24 3 (has_number 6 32 4 (has_number 8 40 0 ends)))))
unfolding message_from field_at varint_in
leaf_alone = refl

no_tree : message_at Tree (whole []) ≡ Ok ends
unfolding message_from field_at varint_in
no_tree = refl

no_children : message_at Tree (whole (take 8 leaf)) ≡ breaks 8 kinds.Short
unfolding message_from field_at varint_in
no_children = refl

place_and_children : message_at Tree (whole (leaf ++ (54 ∷ wide 10) ++ leaf)) ≡ breaks 10 kinds.BadKey
unfolding message_from field_at varint_in
place_and_children = refl

children_and_place : message_at Tree (whole (above_leaf ++ 40 ∷ 0 ∷ [])) ≡ breaks 27 kinds.BadKey
unfolding message_from field_at varint_in
children_and_place = refl

deepest : message_at (Node 0) (whole above_leaf) ≡ breaks 8 kinds.BadKey
unfolding message_from field_at varint_in
deepest = refl

last_level : message_at (Node 1) (whole above_leaf)
    ≡ Ok (has_number 0 8 1 (has_number 2 16 2 (has_number 4 24 3 (has_number 6 32 4
    (has_message 8 54 (has_number 17 8 1 (has_number 19 16 2 (has_number 21 24 3 (has_number 23 32 4 (has_number 25 40 0 ends))))) ends)))))
unfolding message_from field_at varint_in
last_level = refl

-- a length of up to 65,535
abbrev wider : ℕ → List ℕ
wider n = 0 ∷ 0 ∷ 0 ∷ 0 ∷ 0 ∷ 0 ∷ (n / 256) ∷ (n % 256) ∷ []

-- a leaf below so many nodes, each the only child of the one above
abbrev chain : ℕ → List ℕ
chain zero = leaf
chain (suc n) = (8 ∷ 1 ∷ 16 ∷ 2 ∷ 24 ∷ 3 ∷ 32 ∷ 4 ∷ []) ++ (54 ∷ wider (length (chain n))) ++ chain n

depth_24 : is_ok (message_at Tree (whole (chain 23))) ≡ true
unfolding message_from field_at varint_in
depth_24 = refl

-- each node above takes 17 bytes
depth_25 : message_at Tree (whole (chain 24)) ≡ breaks 399 kinds.BadKey
unfolding message_from field_at varint_in
depth_25 = refl

-- The block of one map record.

abbrev record_bytes : List ℕ
record_bytes = 8 ∷ 129 ∷ 128 ∷ 128 ∷ 128 ∷ 128 ∷ 128 ∷ 64 ∷ 16 ∷ 0 ∷ 24 ∷ 0 ∷ 32 ∷ 0 ∷ 42 ∷ 10 ∷ 128 ∷ 200 ∷ 206 ∷ 180 ∷ 13 ∷ 128 ∷ 164 ∷ 167 ∷ 218 ∷ 6 ∷ []

abbrev block : List ℕ
block = (14 ∷ wide 0) ++ 18 ∷ 26 ∷ record_bytes

abbrev block_fields : Fields
block_fields =
    has_message 0 14 ends (has_message 9 18 (has_number 11 8 281474976710657 (has_number 19 16 0 (has_number 21 24 0 (has_number 23 32 0
    (has_numbers 25 42 (3600000000 ∷ 1800000000 ∷ []) ends))))) ends)

block_length : length block ≡ 37
block_length = refl

block_read : message_at (Block Map) (whole block) ≡ Ok block_fields
unfolding message_from field_at varint_in
block_read = refl

block_spelled : spelling block_fields ≡ block
unfolding spelling varint X.groups
block_spelled = refl

half_a_point : message_at (Record Map) (whole (8 ∷ 1 ∷ 16 ∷ 0 ∷ 24 ∷ 0 ∷ 32 ∷ 0 ∷ 42 ∷ 1 ∷ 2 ∷ [])) ≡ breaks 11 kinds.Short
unfolding message_from field_at varint_in
half_a_point = refl

cut_number_in_a_list : message_at (Record Map) (whole (8 ∷ 1 ∷ 16 ∷ 0 ∷ 24 ∷ 0 ∷ 32 ∷ 0 ∷ 42 ∷ 2 ∷ 2 ∷ 130 ∷ [])) ≡ breaks 11 kinds.Short
unfolding message_from field_at varint_in
cut_number_in_a_list = refl

long_number_in_a_list : message_at (Record Map) (whole (8 ∷ 1 ∷ 16 ∷ 0 ∷ 24 ∷ 0 ∷ 32 ∷ 0 ∷ 42 ∷ 3 ∷ 2 ∷ 130 ∷ 0 ∷ [])) ≡ breaks 11 kinds.LongVarint
unfolding message_from field_at varint_in
long_number_in_a_list = refl

-- Worked rows of sections as a writer packs them.
use Rattle.std.specs.Prelude.{◌≡◌, ℕ, ◌-◌, List, [], ◌∷◌, ◌++◌, length, take, map, codes, refl, pos}
use Rattle.std.specs.List.{range_with_len}
use Rattle.live_model.specs.declared.points.Point.{Point}
use Rattle.live_model.specs.declared.shapes.Shape.{Shape}
use Rattle.live_model.specs.declared.shapes.Shape.TheVariants.{Point as PointShape, Line as LineShape}
use Rattle.live_model.specs.declared.records.MapRec.{MapRec}
use Rattle.live_model.specs.declared.ids.Kind.{Kind}
use Rattle.live_model.specs.declared.ids.Kind.TheVariants.{Node, Way}
use Rattle.obf_wire.specs.Varint as X
use Rattle.obf_wire.specs.Varint.{varint}
use Rattle.box_tree.specs.Packing.{code, interleave}
use Rattle.boxed_write.specs.Packed.{packed, block, blocks_of, cuts}
use Rattle.map_section.specs.Packed.{packed_map, map_packing}

abbrev wide : ℕ → List ℕ
wide n = 0 ∷ 0 ∷ 0 ∷ 0 ∷ 0 ∷ 0 ∷ 0 ∷ n ∷ []

abbrev at : ℕ → ℕ → Point
at x y = record { x = x; y = y }

abbrev drawn : Kind → ℕ → ℕ → Shape → List ℕ → List Point → MapRec
drawn kind number rule shape name points = record { id = record { kind = kind; number = pos number }; rule = rule; shape = shape; name = name; points = points }

-- `n1 x0 y0 Ta=b`
abbrev only : MapRec
only = drawn Node 1 0 PointShape [] (at 1800000000 900000000 ∷ [])

abbrev only_block : List ℕ
only_block =
    (14 ∷ wide 0) ++ 18 ∷ 26 ∷ 8 ∷ 129 ∷ 128 ∷ 128 ∷ 128 ∷ 128 ∷ 128 ∷ 64 ∷ 16 ∷ 0 ∷ 24 ∷ 0 ∷ 32 ∷ 0 ∷ 42 ∷ 10 ∷ 128 ∷ 200 ∷ 206 ∷ 180 ∷ 13 ∷ 128 ∷ 164 ∷ 167 ∷ 218
    ∷ 6 ∷ []

block_of_one : block map_packing (only ∷ []) ≡ (22 ∷ wide 37) ++ only_block
unfolding varint X.groups
block_of_one = refl

section_of_one : packed_map (only ∷ [])
    ≡ (14 ∷ wide 26) ++ (8 ∷ 128 ∷ 164 ∷ 167 ∷ 218 ∷ 6 ∷ 16 ∷ 128 ∷ 210 ∷ 147 ∷ 173 ∷ 3 ∷ 24 ∷ 128 ∷ 164 ∷ 167 ∷ 218 ∷ 6 ∷ 32 ∷ 128 ∷ 210 ∷ 147 ∷ 173 ∷ 3 ∷ 40 ∷ 0 ∷ [])
    ++ (22 ∷ wide 37) ++ only_block
unfolding packed code interleave varint X.groups
section_of_one = refl

section_of_none : packed_map [] ≡ 14 ∷ wide 0
unfolding packed code interleave varint X.groups
section_of_none = refl

-- Three records in two shapes, given out of order: in the block they stand by id, and it has two texts.

abbrev n1 : MapRec
n1 = drawn Node 1 0 PointShape (codes "b") (at 1 2 ∷ [])

abbrev n2 : MapRec
n2 = drawn Node 2 0 PointShape (codes "b") (at 0 0 ∷ [])

abbrev w1 : MapRec
w1 = drawn Way 1 1 LineShape (codes "a") (at 2 2 ∷ at 1 2 ∷ [])

section_of_three : packed_map (w1 ∷ n2 ∷ n1 ∷ [])
    ≡ (14 ∷ wide 10) ++ (8 ∷ 0 ∷ 16 ∷ 0 ∷ 24 ∷ 2 ∷ 32 ∷ 2 ∷ 40 ∷ 0 ∷ []) ++ (22 ∷ wide 72) ++ (14 ∷ wide 6) ++ (10 ∷ 1 ∷ 97 ∷ 10 ∷ 1 ∷ 98 ∷ [])
    ++ (18 ∷ 18 ∷ 8 ∷ 129 ∷ 128 ∷ 128 ∷ 128 ∷ 128 ∷ 128 ∷ 64 ∷ 16 ∷ 0 ∷ 24 ∷ 0 ∷ 32 ∷ 2 ∷ 42 ∷ 2 ∷ 2 ∷ 4 ∷ [])
    ++ (18 ∷ 12 ∷ 8 ∷ 1 ∷ 16 ∷ 0 ∷ 24 ∷ 0 ∷ 32 ∷ 2 ∷ 42 ∷ 2 ∷ 0 ∷ 0 ∷ [])
    ++ (18 ∷ 21 ∷ 8 ∷ 255 ∷ 255 ∷ 255 ∷ 255 ∷ 255 ∷ 255 ∷ 255 ∷ 1 ∷ 16 ∷ 1 ∷ 24 ∷ 1 ∷ 32 ∷ 1 ∷ 42 ∷ 4 ∷ 4 ∷ 4 ∷ 1 ∷ 0 ∷ [])
unfolding packed code interleave varint X.groups
section_of_three = refl

-- a record that stands twice is packed twice
twice : packed_map (n2 ∷ n2 ∷ [])
    ≡ (14 ∷ wide 10) ++ (8 ∷ 0 ∷ 16 ∷ 0 ∷ 24 ∷ 0 ∷ 32 ∷ 0 ∷ 40 ∷ 0 ∷ []) ++ (22 ∷ wide 46) ++ (14 ∷ wide 3) ++ (10 ∷ 1 ∷ 98 ∷ [])
    ++ (18 ∷ 18 ∷ 8 ∷ 130 ∷ 128 ∷ 128 ∷ 128 ∷ 128 ∷ 128 ∷ 64 ∷ 16 ∷ 0 ∷ 24 ∷ 0 ∷ 32 ∷ 1 ∷ 42 ∷ 2 ∷ 0 ∷ 0 ∷ [])
    ++ (18 ∷ 12 ∷ 8 ∷ 0 ∷ 16 ∷ 0 ∷ 24 ∷ 0 ∷ 32 ∷ 1 ∷ 42 ∷ 2 ∷ 0 ∷ 0 ∷ [])
unfolding packed code interleave varint X.groups
twice = refl

-- 65 nodes, node k at (k, 0): the tree has two leaves, and the second names its block by the 920 bytes of the first.

abbrev along : ℕ → MapRec
along k = drawn Node k 0 PointShape [] (at k 0 ∷ [])

two_blocks : take 77 (packed_map (map along (range_with_len 0 65)))
    ≡ (14 ∷ wide 47) ++ (8 ∷ 0 ∷ 16 ∷ 0 ∷ 24 ∷ 64 ∷ 32 ∷ 0 ∷ []) ++ (54 ∷ wide 10) ++ (8 ∷ 0 ∷ 16 ∷ 0 ∷ 24 ∷ 63 ∷ 32 ∷ 0 ∷ 40 ∷ 0 ∷ [])
    ++ (54 ∷ wide 11) ++ (8 ∷ 64 ∷ 16 ∷ 0 ∷ 24 ∷ 64 ∷ 32 ∷ 0 ∷ 40 ∷ 152 ∷ 7 ∷ []) ++ (22 ∷ 0 ∷ 0 ∷ 0 ∷ 0 ∷ 0 ∷ 0 ∷ 3 ∷ 143 ∷ []) ++ (14 ∷ wide 0) ++ 18 ∷ 18 ∷ 8 ∷ []
unfolding packed code interleave varint X.groups
two_blocks = refl

-- Node k at (64 - k, 0): packed from the last node on, and each block by id.

abbrev back : ℕ → MapRec
back k = drawn Node k 0 PointShape [] (at (64 - k) 0 ∷ [])

packed_backwards : blocks_of map_packing (map back (range_with_len 0 65)) ≡ map back (range_with_len 1 64) ∷ (back 0 ∷ []) ∷ []
unfolding code interleave
packed_backwards = refl

-- nine leaves make two nodes below the root
nine : map length (cuts 8 (range_with_len 0 9)) ≡ 8 ∷ 1 ∷ []
nine = refl

-- The order in which rectangles are packed: along a curve through their centres that keeps near ones together.
use Rattle.std.specs.Prelude.{◌≡◌, ℕ, ◌+◌, ◌*◌, ◌^◌, List, map, sum}
use Rattle.std.specs.List.{range_with_len, enumerate_from}
use Rattle.std.specs.List.Sorted.{IsPermutation, IsSorted}
use Rattle.std.specs.Int.{bit_at}
use Rattle.std.specs.Ordering.{nat_cmp, ordering_then}
use Rattle.std.specs.declared.cmp.Ordering.{Ordering}
use Rattle.live_model.specs.declared.points.Point.{Point}
use Rattle.live_model.specs.declared.points.Rect.{Rect}
use Rattle.live_model.specs.Geometry.{middle}

-- the number whose bit 2k is bit k of this one, for each of its 32 bits
unfoldable pub interleave : ℕ → ℕ
interleave n = sum (map (λ k. bit_at n k * 2 ^ (2 * k)) (range_with_len 0 32))

-- the number whose bit 2k is bit k of x, and whose bit 2k + 1 is bit k of y
unfoldable pub code : Point → ℕ
code p = interleave p.x + 2 * interleave p.y

-- a code, a number and a position
abbrev pub Key : Type 0
Key = ℕ × ℕ × ℕ

-- by code, then by number, then by position
abbrev pub key_cmp : Key → Key → Ordering
key_cmp a b = ordering_then (nat_cmp a.0 b.0) (ordering_then (nat_cmp a.1 b.1) (nat_cmp a.2 b.2))

-- the code of the centre, the number given, and the position of an item
abbrev pub key_of : ℕ × (Rect × ℕ) → Key
key_of placed = (code (middle placed.1.0), placed.1.1, placed.0)

-- the keys of the items in their order
abbrev pub keys_of : List (Rect × ℕ) → List Key
keys_of items = map key_of (enumerate_from 0 items)

-- the position of each item once, in packing order
pub record IsPacking (items : List (Rect × ℕ)) (positions : List ℕ) : Type 0 where
  pub order : List Key
  pub each_once : IsPermutation (keys_of items) order
  pub rises : IsSorted key_cmp order
  pub positions_are : positions ≡ map (λ key. key.2) order

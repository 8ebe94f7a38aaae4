-- The smallest box around boxes or points contains each of them, and is a box of the grid where they are.
use Rattle.std.proofs.Common.{◌≡◌, ◌≤◌, Bool, true, List, [], ◌∷◌, ◌++◌, map, fold, refl, arith}
use Rattle.std.specs.Prelude.{◌&&◌, not, nat_le, pos, int_le}
use Rattle.std.specs.List.{AllByRecursion, list_all}
use Rattle.std.proofs.lemmas.Bool.{le-leb, and_from, and_parts, or_left}
use Rattle.live_model.specs.declared.points.Point.{Point}
use Rattle.live_model.specs.declared.points.Rect.{Rect}
use Rattle.live_model.specs.Points.{IsInGrid}
use Rattle.live_model.specs.Geometry.{box_of, box_of_point, box_with, box_around}
use Rattle.coord_delta.specs.Steps.{place_of}
use Rattle.box_tree.specs.Trees.{Holds, around}
use Rattle.live_model.specs.Points.{union}
use Rattle.box_tree.proofs.Boxes.{holds_self, holds_on}
use Rattle.file_grammar.specs.BoxRules.{is_on_grid, holds_place, is_box, holds_box}
use Rattle.boxed_laws.specs.Classes.{IsBox}

-- the point is in the box
pub record HoldsPoint (b : Rect) (p : Point) : Type 0 where
  pub left : b.left ≤ p.x
  pub top : b.top ≤ p.y
  pub right : p.x ≤ b.right
  pub bottom : p.y ≤ b.bottom

-- ---- boxes

both_one : (a b : Rect) → Holds (union a b) a
both_one a b = record { left = omega arith; top = omega arith; right = omega arith; bottom = omega arith }

both_other : (a b : Rect) → Holds (union a b) b
both_other a b = record { left = omega arith; top = omega arith; right = omega arith; bottom = omega arith }

start_held : (a : Rect) (xs : List Rect) → Holds (fold union a xs) a
start_held a [] = holds_self a
start_held a (x ∷ xs) = holds_on (fold union (union a x) xs) (union a x) a (start_held (union a x) xs) (both_one a x)

each_held : (a : Rect) (xs : List Rect) → AllByRecursion (Holds (fold union a xs)) xs
each_held a [] = tt
each_held a (x ∷ xs) = (holds_on (fold union (union a x) xs) (union a x) x (start_held (union a x) xs) (both_other a x), each_held (union a x) xs)

pub around_each : (xs : List Rect) → AllByRecursion (Holds (around xs)) xs
around_each [] = tt
around_each (x ∷ xs) = (start_held x xs, each_held x xs)

both_box : (a b : Rect) → IsBox a → IsBox b → IsBox (union a b)
both_box a b p q = record {
  across = omega (arith, p.across, q.across);
  down = omega (arith, p.down, q.down);
  east = omega (arith, p.east, q.east);
  south = omega (arith, p.south, q.south);
}

fold_box : (a : Rect) (xs : List Rect) → IsBox a → AllByRecursion IsBox xs → IsBox (fold union a xs)
fold_box a [] one all = one
fold_box a (x ∷ xs) one all = fold_box (union a x) xs (both_box a x one all.0) all.1

no_box : IsBox (record { left = 0; top = 0; right = 0; bottom = 0 })
no_box = record { across = omega arith; down = omega arith; east = omega arith; south = omega arith }

pub around_box : (xs : List Rect) → AllByRecursion IsBox xs → IsBox (around xs)
around_box [] all = no_box
around_box (x ∷ xs) all = fold_box x xs all.0 all.1

-- ---- points

with_box : (r : Rect) (p : Point) → Holds (box_with r p) r
with_box r p = record { left = omega arith; top = omega arith; right = omega arith; bottom = omega arith }

with_point : (r : Rect) (p : Point) → HoldsPoint (box_with r p) p
with_point r p = record { left = omega arith; top = omega arith; right = omega arith; bottom = omega arith }

pub point_on : (a b : Rect) (p : Point) → Holds a b → HoldsPoint b p → HoldsPoint a p
point_on a b p h q = record {
  left = omega (arith, h.left, q.left);
  top = omega (arith, h.top, q.top);
  right = omega (arith, h.right, q.right);
  bottom = omega (arith, h.bottom, q.bottom);
}

begin_held : (r : Rect) (ps : List Point) → Holds (box_around r ps) r
begin_held r [] = holds_self r
begin_held r (p ∷ ps) = holds_on (box_around (box_with r p) ps) (box_with r p) r (begin_held (box_with r p) ps) (with_box r p)

points_held : (r : Rect) (ps : List Point) → AllByRecursion (HoldsPoint (box_around r ps)) ps
points_held r [] = tt
points_held r (p ∷ ps) = (point_on (box_around (box_with r p) ps) (box_with r p) p (begin_held (box_with r p) ps) (with_point r p), points_held (box_with r p) ps)

own_box : (p : Point) → HoldsPoint (box_of_point p) p
own_box p = record { left = omega arith; top = omega arith; right = omega arith; bottom = omega arith }

-- the box around some points contains each of them
pub points_of : (p : Point) (ps : List Point) → AllByRecursion (HoldsPoint (box_of p ps)) (p ∷ ps)
points_of p ps = (point_on (box_around (box_of_point p) ps) (box_of_point p) p (begin_held (box_of_point p) ps) (own_box p), points_held (box_of_point p) ps)

grid_with : (r : Rect) (p : Point) → IsBox r → IsInGrid p → IsBox (box_with r p)
grid_with r p b inside = record {
  across = omega (arith, b.across);
  down = omega (arith, b.down);
  east = omega (arith, b.east, inside.0);
  south = omega (arith, b.south, inside.1);
}

grid_around : (r : Rect) (ps : List Point) → IsBox r → AllByRecursion IsInGrid ps → IsBox (box_around r ps)
grid_around r [] b all = b
grid_around r (p ∷ ps) b all = grid_around (box_with r p) ps (grid_with r p b all.0) all.1

grid_point : (p : Point) → IsInGrid p → IsBox (box_of_point p)
grid_point p inside = record { across = omega arith; down = omega arith; east = inside.0; south = inside.1 }

pub no_points : IsBox (around [])
no_points = no_box

pub grid_of : (p : Point) (ps : List Point) → AllByRecursion IsInGrid (p ∷ ps) → IsBox (box_of p ps)
grid_of p ps all = grid_around (box_of_point p) ps (grid_point p all.0) all.1

-- ---- the same as tests

four : (a b c d : Bool) → a ≡ true → b ≡ true → c ≡ true → d ≡ true → ((a && b) && (c && d)) ≡ true
four a b c d pa pb pc pd = and_from (a && b) (c && d) (and_from a b pa pb) (and_from c d pc pd)

pub box_test : (b : Rect) → IsBox b → is_box b ≡ true
box_test b good =
    four (nat_le b.left b.right) (nat_le b.top b.bottom) (nat_le b.right 3600000000) (nat_le b.bottom 1800000000) (le-leb b.left b.right good.across)
    (le-leb b.top b.bottom good.down) (le-leb b.right 3600000000 good.east) (le-leb b.bottom 1800000000 good.south)

pub inside_test : (a b : Rect) → Holds a b → holds_box a b ≡ true
inside_test a b h =
    or_left _ (not (is_box b)) (four (nat_le a.left b.left) (nat_le b.right a.right) (nat_le a.top b.top) (nat_le b.bottom a.bottom) (le-leb a.left b.left h.left) (le-leb b.right a.right h.right)
    (le-leb a.top b.top h.top) (le-leb b.bottom a.bottom h.bottom))

pub grid_test : (p : Point) → IsInGrid p → is_on_grid (place_of p) ≡ true
grid_test p inside =
    four (int_le (pos 0) (pos p.x)) (int_le (pos p.x) (pos 3600000000)) (int_le (pos 0) (pos p.y)) (int_le (pos p.y) (pos 1800000000)) (le-leb 0 p.x (omega arith))
    (le-leb p.x 3600000000 inside.0) (le-leb 0 p.y (omega arith)) (le-leb p.y 1800000000 inside.1)

pub place_test : (b : Rect) (p : Point) → HoldsPoint b p → holds_place b (place_of p) ≡ true
place_test b p h =
    or_left _ (not (is_on_grid (place_of p)))
    (four (int_le (pos b.left) (pos p.x)) (int_le (pos p.x) (pos b.right)) (int_le (pos b.top) (pos p.y)) (int_le (pos p.y) (pos b.bottom)) (le-leb b.left p.x h.left)
    (le-leb p.x b.right h.right) (le-leb b.top p.y h.top) (le-leb p.y b.bottom h.bottom))

module _ {A B : Type 0} (f : A → B) (test : B → Bool) where
  -- a test holds of each image
  pub test_map : (xs : List A) → AllByRecursion (λ x. test (f x) ≡ true) xs → list_all test (map f xs) ≡ true
  test_map [] all = refl
  test_map (x ∷ xs) all = and_from (test (f x)) (list_all test (map f xs)) all.0 (test_map xs all.1)

module _ {B : Type 0} (test : B → Bool) where
  pub test_join : (xs ys : List B) → list_all test xs ≡ true → list_all test ys ≡ true → list_all test (xs ++ ys) ≡ true
  test_join [] ys a b = b
  test_join (x ∷ xs) ys a b =
      let parts = and_parts (test x) (list_all test xs) a in
      and_from (test x) (list_all test (xs ++ ys)) parts.0 (test_join xs ys parts.1 b)

-- points of a box are in each box that contains it
pub points_inside : (box inner : Rect) (ps : List Point) → Holds box inner → AllByRecursion (HoldsPoint inner) ps → list_all (holds_place box) (map place_of ps) ≡ true
points_inside box inner [] h all = refl
points_inside box inner (p ∷ ps) h all =
    and_from (holds_place box (place_of p)) (list_all (holds_place box) (map place_of ps)) (place_test box p (point_on box inner p h all.0)) (points_inside box inner ps h all.1)

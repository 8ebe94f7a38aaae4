-- Points that are in a box: what meets a rectangle among them lies in a box that meets it.
use Rattle.std.proofs.Common.{◌≡◌, ◌≤◌, ℕ, Bool, true, false, List, [], ◌∷◌, length, map, refl, arith}
use Rattle.std.specs.Prelude.{ℤ, pos, negsuc, ◌&&◌, ◌||◌, ◌==◌, not, nat_le, int_le}
use Rattle.std.specs.List.{AllByRecursion, list_all}
use Rattle.std.proofs.lemmas.Bool.{and_parts, le-leb, leb-true}
use Rattle.live_model.specs.declared.points.Point.{Point}
use Rattle.live_model.specs.declared.points.Rect.{Rect}
use Rattle.live_model.specs.Geometry.{box_around, box_of, box_of_point, box_with}
use Rattle.live_model.specs.Maps.{meets}
use Rattle.live_model.specs.Points.{is_inside, overlaps}
use Rattle.box_tree.specs.Trees.{Holds}
use Rattle.coord_delta.specs.Steps.{Place}
use Rattle.file_grammar.specs.BoxRules.{holds_place, is_on_grid}
use Rattle.file_grammar.specs.MapRules.{point_from}
use Rattle.file_grammar.specs.RecordRules.{is_one_location, only_point}

-- four numbers in order, as a test
pub record Four (a b c d e f g h : ℕ) : Type 0 where
  pub one : a ≤ b
  pub two : c ≤ d
  pub three : e ≤ f
  pub four : g ≤ h

pub four_of : (a b c d e f g h : ℕ) → ((nat_le a b && nat_le c d) && (nat_le e f && nat_le g h)) ≡ true → Four a b c d e f g h
four_of a b c d e f g h t =
    let halves = and_parts (nat_le a b && nat_le c d) (nat_le e f && nat_le g h) t in
    let first = and_parts (nat_le a b) (nat_le c d) halves.0 in
    let second = and_parts (nat_le e f) (nat_le g h) halves.1 in
    record { one = leb-true a b first.0; two = leb-true c d first.1; three = leb-true e f second.0; four = leb-true g h second.1 }

pub four_hold : (a b c d e f g h : ℕ) → Four a b c d e f g h → ((nat_le a b && nat_le c d) && (nat_le e f && nat_le g h)) ≡ true
four_hold a b c d e f g h t = rw (le-leb a b t.one, le-leb c d t.two, le-leb e f t.three, le-leb g h t.four) refl

-- a point that is in both is shared
pub inside_both : (box rect : Rect) (p : Point) → is_inside box p ≡ true → is_inside rect p ≡ true → overlaps box rect ≡ true
inside_both box rect p i j =
    let a = four_of box.left p.x p.x box.right box.top p.y p.y box.bottom i in
    let b = four_of rect.left p.x p.x rect.right rect.top p.y p.y rect.bottom j in
    let x1 = a.one in let x2 = a.two in let x3 = a.three in let x4 = a.four in
    let y1 = b.one in let y2 = b.two in let y3 = b.three in let y4 = b.four in
    four_hold box.left rect.right rect.left box.right box.top rect.bottom rect.top box.bottom
    (record { one = omega (arith, x1, y2); two = omega (arith, y1, x2); three = omega (arith, x3, y4); four = omega (arith, y3, x4) })

-- a box that holds one that meets the rectangle meets it too
pub holder_meets : (outer inner rect : Rect) → Holds outer inner → overlaps inner rect ≡ true → overlaps outer rect ≡ true
holder_meets outer inner rect h o =
    let a = four_of inner.left rect.right rect.left inner.right inner.top rect.bottom rect.top inner.bottom o in
    let x1 = a.one in let x2 = a.two in let x3 = a.three in let x4 = a.four in
    let h1 = h.left in let h2 = h.top in let h3 = h.right in let h4 = h.bottom in
    four_hold outer.left rect.right rect.left outer.right outer.top rect.bottom rect.top outer.bottom
    (record { one = omega (arith, x1, h1); two = omega (arith, x2, h3); three = omega (arith, x3, h2); four = omega (arith, x4, h4) })

-- points that are in a box
abbrev pub AreInside : Rect → List Point → Type 0
AreInside box points = AllByRecursion (λ p. is_inside box p ≡ true) points

pub holds_point : (box : Rect) (p : Point) → is_inside box p ≡ true → Holds box (box_of_point p)
holds_point box p i =
    let a = four_of box.left p.x p.x box.right box.top p.y p.y box.bottom i in
    record { left = a.one; top = a.three; right = a.two; bottom = a.four }

holds_with : (box r : Rect) (p : Point) → Holds box r → is_inside box p ≡ true → Holds box (box_with r p)
holds_with box r p h i =
    let a = four_of box.left p.x p.x box.right box.top p.y p.y box.bottom i in
    let x1 = a.one in let x2 = a.two in let x3 = a.three in let x4 = a.four in
    let h1 = h.left in let h2 = h.top in let h3 = h.right in let h4 = h.bottom in
    record { left = omega (arith, x1, h1); top = omega (arith, x3, h2); right = omega (arith, x2, h3); bottom = omega (arith, x4, h4) }

pub holds_around : (box r : Rect) (points : List Point) → Holds box r → AreInside box points → Holds box (box_around r points)
holds_around box r [] h all = h
holds_around box r (p ∷ ps) h all = holds_around box (box_with r p) ps (holds_with box r p h all.0) all.1

-- points in a box whose own box meets the rectangle
pub points_meet : (box rect : Rect) (points : List Point) → AreInside box points → meets rect points ≡ true → overlaps box rect ≡ true
points_meet box rect [] all m = absurd cc
points_meet box rect (p ∷ ps) all m = holder_meets box (box_of p ps) rect (holds_around box (box_of_point p) ps (holds_point box p all.0) all.1) m

or_not : (a b : Bool) → (a || not b) ≡ true → b ≡ true → a ≡ true
or_not true b e on = refl
or_not false true e on = absurd cc
or_not false false e on = absurd cc

-- a place on the grid that a box holds is a point in it
pub place_inside : (box : Rect) (place : Place) → is_on_grid place ≡ true → holds_place box place ≡ true → is_inside box (point_from place) ≡ true
place_inside box (pos x, pos y) on held = or_not ((int_le (pos box.left) (pos x) && int_le (pos x) (pos box.right)) && (int_le (pos box.top) (pos y) && int_le (pos y) (pos box.bottom))) (is_on_grid (pos x, pos y)) held on
place_inside box (negsuc x, y) on held = absurd cc
place_inside box (pos x, negsuc y) on held =
    absurd (let both = and_parts (int_le (pos 0) (pos x) && int_le (pos x) (pos 3600000000)) (int_le (pos 0) (negsuc y) && int_le (negsuc y) (pos 1800000000)) on in
    let low = and_parts (int_le (pos 0) (negsuc y)) (int_le (negsuc y) (pos 1800000000)) both.1 in
    let none = low.0 in cc)

-- and so are places
pub places_inside : (box : Rect) (places : List Place) → list_all is_on_grid places ≡ true → list_all (holds_place box) places ≡ true → AreInside box (map point_from places)
places_inside box [] on held = tt
places_inside box (place ∷ places) on held =
    let grid = and_parts (is_on_grid place) (list_all is_on_grid places) on in
    let here = and_parts (holds_place box place) (list_all (holds_place box) places) held in
    (place_inside box place grid.0 here.0, places_inside box places grid.1 here.1)

-- the one place of a record that is in a box and in the rectangle
pub one_place_near : (box rect : Rect) (places : List Place) → is_one_location places ≡ true → list_all (holds_place box) places ≡ true → is_inside rect (only_point places) ≡ true → overlaps box rect ≡ true
one_place_near box rect [] one held i = absurd cc
one_place_near box rect (place ∷ places) one held i =
    let on = and_parts (list_all is_on_grid (place ∷ places)) (length (place ∷ places) == 1) one in
    inside_both box rect (point_from place) (places_inside box (place ∷ places) on.0 held).0 i

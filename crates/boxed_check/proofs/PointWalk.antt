-- Numbers and points, each read before what stands behind it.
use Rattle.std.proofs.Common.{◌≡◌, ◌≢◌, ℕ, ◌/◌, suc, ◌+◌, ◌-◌, ◌%◌, ◌<◌, ◌≤◌, Bool, true, List, [], ◌∷◌, length, Result, Ok, refl, ap, subst, ◌∙◌, arith}
use Rattle.std.specs.Prelude.{◌==◌, ℤ, pos, ◌+ℤ◌, int_le, not, ◌&&◌, ◌||◌}
use Rattle.std.proofs.lemmas.Bool.{ne_eqb, le-leb}
use Rattle.std.proofs.lemmas.Int.{ints}
use Rattle.live_model.specs.declared.points.Rect.{Rect}
use Rattle.coord_delta.specs.Steps.{Place}
use Rattle.obf_wire.specs.declared.breaks.WireBreak.{WireBreak}
use Rattle.obf_wire.specs.declared.file.FileBreak.{FileBreak}
use Rattle.obf_wire.specs.Varint.{varint_at}
use Rattle.obf_wire.specs.Fields.{Window, IsWindow}
use Rattle.obf_wire.specs.Zigzag.{unzigzag}
use Rattle.file_grammar.specs.BoxRules.{holds_place, is_on_grid}
use Rattle.file_grammar.specs.Readings.{numbers_up_to, numbers_at}
use Rattle.file_grammar.proofs.Inside.{number_inside}
use Rattle.file_grammar.proofs.Lists.{list_fuel}
use Rattle.boxed_check.specs.declared.points.Spot.{Spot}
use Rattle.boxed_check.specs.Points.{IsMoved, IsShifted, PointsLeft}

abbrev room : Window → ℕ
room w = w.end - w.place

abbrev at_place : Window → ℕ → Window
at_place w next = record w { place = next }

abbrev ok : ℕ × ℕ → Result (ℕ × ℕ) WireBreak
ok x = Ok x

abbrev numbers_ok : List ℕ → Result (List ℕ) FileBreak
numbers_ok ns = Ok ns

-- a number is read, and others stand behind it
pub number_then : (w : Window) (n next : ℕ) (ns : List ℕ) → IsWindow w → w.place < w.end → varint_at w.bytes w.place w.end ≡ ok (n, next) → numbers_at (at_place w next) ≡ numbers_ok ns → numbers_at w ≡ numbers_ok (n ∷ ns)
number_then w n next ns window more is rest =
    let i = number_inside w.bytes w.place w.end n next window.ordered window.within is in
    let later : numbers_up_to (room w) (at_place w next) ≡ numbers_ok ns = list_fuel (room w) (room (at_place w next)) (at_place w next) (record { ordered = i.1; within = window.within }) (omega (arith, i.0, i.1)) (omega arith) ∙ rest in
    list_fuel (room w) (suc (room w)) w window (omega arith) (omega arith) ∙ rw (ne_eqb w.place w.end (λ same. absurd (omega (arith, same, more))), is, later) refl

-- no number stands at the end
pub numbers_end : (w : Window) → IsWindow w → w.end ≤ w.place → numbers_at w ≡ numbers_ok []
numbers_end w window none = list_fuel (room w) 0 w window (omega arith) (omega arith)

pub points_end : (w : Window) (holder : Rect) (from : Place) (count : ℕ) → IsWindow w → w.end ≤ w.place → PointsLeft w holder from count count
points_end w holder from count window none = record { numbers = []; read = numbers_end w window none; pairs = refl; on_grid = refl; in_box = refl; count_is = omega arith }

points_step : (w : Window) (holder : Rect) (x y : ℤ) (a between b next count total : ℕ) → IsWindow w → w.place < w.end → between < w.end → varint_at w.bytes w.place w.end ≡ ok (a, between) → varint_at w.bytes between w.end ≡ ok (b, next)
    → is_on_grid (x +ℤ unzigzag a, y +ℤ unzigzag b) ≡ true → holds_place holder (x +ℤ unzigzag a, y +ℤ unzigzag b) ≡ true
    → PointsLeft (at_place w next) holder (x +ℤ unzigzag a, y +ℤ unzigzag b) (count + 1) total → PointsLeft w holder (x, y) count total
points_step w holder x y a between b next count total window more again first second grid box l =
    let i = number_inside w.bytes w.place w.end a between window.ordered window.within first in
    record {
      numbers = a ∷ b ∷ l.numbers;
      read = number_then w a between (b ∷ l.numbers) window more first (number_then (at_place w between) b next l.numbers (record { ordered = i.1; within = window.within }) again second l.read);
      pairs = (let even : suc (suc (length l.numbers)) % 2 ≡ length l.numbers % 2 = omega arith in ap (λ (k : ℕ). k == 0) even ∙ l.pairs);
      on_grid = rw (grid) l.on_grid;
      in_box = rw (box) l.in_box;
      count_is = omega (arith, l.count_is);
    }

pub points_on : (w : Window) (holder : Rect) (x y : ℕ) (spot : Spot) (count total : ℕ) → IsWindow w → w.place < w.end → spot.next ≤ w.end → IsMoved w holder x y spot
    → PointsLeft (at_place w spot.next) holder (pos spot.x, pos spot.y) (count + 1) total → PointsLeft w holder (pos x, pos y) count total
points_on w holder x y spot count total window more within m l =
    let l1 = subst (λ (z : ℤ). PointsLeft (at_place w spot.next) holder (z, pos spot.y) (count + 1) total) m.x_is l in
    let l2 = subst (λ (z : ℤ). PointsLeft (at_place w spot.next) holder (pos x +ℤ unzigzag m.a, z) (count + 1) total) m.y_is l1 in
    let here : ℤ → ℤ → Place = λ a b. (a, b) in
    let there : here (pos spot.x) (pos spot.y) ≡ here (pos x +ℤ unzigzag m.a) (pos y +ℤ unzigzag m.b) = ap (λ (z : ℤ). here z (pos spot.y)) m.x_is ∙ ap (here (pos x +ℤ unzigzag m.a)) m.y_is in
    points_step w holder (pos x) (pos y) m.a m.between m.b spot.next count total window more m.again m.first m.second
    (subst (λ (p : Place). is_on_grid p ≡ true) there m.on_grid) (subst (λ (p : Place). holds_place holder p ≡ true) there m.in_box) l2

four : (a b c d : Bool) → a ≡ true → b ≡ true → c ≡ true → d ≡ true → ((a && b) && (c && d)) ≡ true
four a b c d p q r s = rw (p, q, r, s) refl

four_or : (a b c d e : Bool) → a ≡ true → b ≡ true → c ≡ true → d ≡ true → (((a && b) && (c && d)) || e) ≡ true
four_or a b c d e p q r s = rw (p, q, r, s) refl

pub moved_is : (w : Window) (holder : Rect) (x y a between b : ℕ) (spot : Spot) → varint_at w.bytes w.place w.end ≡ ok (a, between) → varint_at w.bytes between w.end ≡ ok (b, spot.next) → between < w.end
    → IsShifted x a holder.left holder.right 3600000000 spot.x → IsShifted y b holder.top holder.bottom 1800000000 spot.y → IsMoved w holder x y spot
moved_is w holder x y a between b spot first second again h v = record {
  a = a;
  between = between;
  b = b;
  first = first;
  second = second;
  again = again;
  x_is = h.is;
  y_is = v.is;
  on_grid = four (int_le (pos 0) (pos spot.x)) (int_le (pos spot.x) (pos 3600000000)) (int_le (pos 0) (pos spot.y)) (int_le (pos spot.y) (pos 1800000000)) (le-leb 0 spot.x (omega arith)) (le-leb spot.x 3600000000 h.edge_is) (le-leb 0 spot.y (omega arith)) (le-leb spot.y 1800000000 v.edge_is);
  in_box = four_or (int_le (pos holder.left) (pos spot.x)) (int_le (pos spot.x) (pos holder.right)) (int_le (pos holder.top) (pos spot.y)) (int_le (pos spot.y) (pos holder.bottom)) (not (is_on_grid (pos spot.x, pos spot.y)))
      (le-leb holder.left spot.x h.least_is) (le-leb spot.x holder.right h.most_is) (le-leb holder.top spot.y v.least_is) (le-leb spot.y holder.bottom v.most_is);
}

pub along_even : (n step : ℕ) → step % 2 ≡ 0 → pos (n + step / 2) ≡ pos n +ℤ unzigzag step
along_even n step e = rw e (let h : ℕ = step / 2 in omega (arith, ints))

pub along_odd : (n step : ℕ) → step % 2 ≢ 0 → step / 2 < n → pos (n - step / 2 - 1) ≡ pos n +ℤ unzigzag step
along_odd n step e less = rw (ne_eqb (step % 2) 0 e) (let h : ℕ = step / 2 in omega (arith, ints, less))

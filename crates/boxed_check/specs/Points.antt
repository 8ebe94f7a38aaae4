-- The points of a record, where all are good.
use Rattle.std.specs.Prelude.{◌≡◌, ◌<◌, ◌+◌, ◌==◌, ◌%◌, ◌≤◌, pos, ◌+ℤ◌, ℕ, List, length, true, Ok}
use Rattle.std.specs.List.{list_all}
use Rattle.live_model.specs.declared.points.Rect.{Rect}
use Rattle.coord_delta.specs.Steps.{Place, places_from}
use Rattle.obf_wire.specs.Fields.{Window}
use Rattle.obf_wire.specs.Varint.{varint_at}
use Rattle.obf_wire.specs.Zigzag.{unzigzag}
use Rattle.file_grammar.specs.BoxRules.{holds_place, is_on_grid}
use Rattle.file_grammar.specs.Readings.{numbers_at}
use Rattle.boxed_check.specs.declared.points.Spot.{Spot}

-- on the grid
pub record IsOnGridSpot (x y : ℕ) : Type 0 where
  pub east : x ≤ 3600000000
  pub south : y ≤ 1800000000

-- a number a step further, within limits
pub record IsShifted (n step least most edge m : ℕ) : Type 0 where
  pub is : pos m ≡ pos n +ℤ unzigzag step
  pub edge_is : m ≤ edge
  pub least_is : least ≤ m
  pub most_is : m ≤ most

-- a step was read, and leads to a place on the grid and in the box
pub record IsMoved (w : Window) (holder : Rect) (x y : ℕ) (spot : Spot) : Type 0 where
  pub a : ℕ
  pub between : ℕ
  pub b : ℕ
  pub first : varint_at w.bytes w.place w.end ≡ Ok (a, between)
  pub second : varint_at w.bytes between w.end ≡ Ok (b, spot.next)
  pub again : between < w.end
  pub x_is : pos spot.x ≡ pos x +ℤ unzigzag a
  pub y_is : pos spot.y ≡ pos y +ℤ unzigzag b
  pub on_grid : is_on_grid (pos spot.x, pos spot.y) ≡ true
  pub in_box : holds_place holder (pos spot.x, pos spot.y) ≡ true

-- numbers are left that lead from a place to places on the grid and in the box, so that there are so many in all
pub record PointsLeft (w : Window) (holder : Rect) (from : Place) (count total : ℕ) : Type 0 where
  pub numbers : List ℕ
  pub read : numbers_at w ≡ Ok numbers
  pub pairs : (length numbers % 2 == 0) ≡ true
  pub on_grid : list_all is_on_grid (places_from from numbers) ≡ true
  pub in_box : list_all (holds_place holder) (places_from from numbers) ≡ true
  pub count_is : count + length (places_from from numbers) ≡ total

-- so many points stand there, all on the grid and in the box
abbrev pub ArePointsSeen : Window → Rect → ℕ → Type 0
ArePointsSeen w holder total = PointsLeft w holder (pos 0, pos 0) 0 total

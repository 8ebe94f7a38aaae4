-- Lists of points as steps from one point to the next.
use Rattle.std.specs.Prelude.{◌≡◌, ℕ, zero, suc, ◌%◌, ◌^◌, ◌<◌, ◌≤◌, List, [], ◌∷◌, ◌++◌, length, map, slice_range, ℤ, pos, ◌+ℤ◌, ◌-ℤ◌, ◌≤ℤ◌}
use Rattle.std.specs.List.{AllByRecursion, flat_map}
use Rattle.live_model.specs.declared.points.Point.{Point}
use Rattle.live_model.specs.Points.{IsInGrid}
use Rattle.obf_wire.specs.declared.breaks.WireBreak.{WireBreak}
use Rattle.obf_wire.specs.declared.breaks.WireKind.{WireKind}
use Rattle.obf_wire.specs.declared.breaks.WireKind.TheVariants.{Short, LongVarint, BadKey, OverEnd}
use Rattle.obf_wire.specs.Varint.{varint, IsCut, IsOverlong}
use Rattle.obf_wire.specs.Zigzag.{zigzag, unzigzag}
use Rattle.coord_delta.specs.declared.step.Step.{Step}

-- ---- spelling

-- the step from one point to the next: x, then y
abbrev pub step_spelling : Point → Point → List ℕ
step_spelling from to = varint (zigzag (pos to.x -ℤ pos from.x)) ++ varint (zigzag (pos to.y -ℤ pos from.y))

-- points, each as a step from the one before it
abbrev pub points_from : Point → List Point → List ℕ
points_from from [] = []
points_from from (p ∷ ps) = step_spelling from p ++ points_from p ps

-- points, the first from where x and y are 0
abbrev pub point_list : List Point → List ℕ
point_list ps = points_from (record { x = 0; y = 0 }) ps

-- ---- reading

abbrev pub IsNumber : ℕ → Type 0
IsNumber n = n < 2 ^ 64

-- the numbers, one after another
abbrev pub number_list : List ℕ → List ℕ
number_list numbers = flat_map varint numbers

-- the bytes spell these numbers, an x and a y for each point
pub record ArePairs (bytes numbers : List ℕ) : Type 0 where
  pub fit : AllByRecursion IsNumber numbers
  pub spelled : bytes ≡ number_list numbers
  pub whole : length numbers % 2 ≡ 0

-- x and y of a place, which may lie off the grid
abbrev pub Place : Type 0
Place = ℤ × ℤ

abbrev pub place_of : Point → Place
place_of p = (pos p.x, pos p.y)

abbrev pub moved : Place → ℤ → ℤ → Place
moved (x, y) east south = (x +ℤ east, y +ℤ south)

-- the places that steps lead to, each from the place before it
abbrev pub places_from : Place → List ℕ → List Place
places_from from [] = []
places_from from (x ∷ []) = []
places_from from (x ∷ y ∷ numbers) =
    let to = moved from (unzigzag x) (unzigzag y) in to ∷ places_from to numbers

abbrev pub places : List ℕ → List Place
places numbers = places_from (pos 0, pos 0) numbers

abbrev pub IsWithin : ℕ → ℤ → Type 0
IsWithin most z = (pos 0 ≤ℤ z) × (z ≤ℤ pos most)

abbrev pub IsOnGrid : Place → Type 0
IsOnGrid (x, y) = IsWithin 3600000000 x × IsWithin 1800000000 y

-- the place of this index is off the grid, and none before it is
abbrev pub IsFirstOff : ℕ → List Place → Type 0
IsFirstOff index [] = ⊥
IsFirstOff zero (p ∷ ps) = ¬ IsOnGrid p
IsFirstOff (suc index) (p ∷ ps) = IsOnGrid p × IsFirstOff index ps

-- ---- what bytes are

-- the bytes are these points: numbers that lead to their places, all on the grid
pub record ArePoints (bytes : List ℕ) (points : List Point) : Type 0 where
  pub numbers : List ℕ
  pub pairs : ArePairs bytes numbers
  pub there : places numbers ≡ map place_of points
  pub in_grid : AllByRecursion IsInGrid points

-- the bytes are points, but the one of this index is the first off the grid
pub record IsFirstOffGrid (bytes : List ℕ) (index : ℕ) : Type 0 where
  pub numbers : List ℕ
  pub pairs : ArePairs bytes numbers
  pub first : IsFirstOff index (places numbers)

-- of no number: the front of one, or what no bytes behind it make one
abbrev pub IsNone : WireKind → List ℕ → Type 0
IsNone Short bytes = IsCut bytes
IsNone LongVarint bytes = IsOverlong bytes
IsNone BadKey bytes = ⊥
IsNone OverEnd bytes = ⊥

-- Numbers stand before the break, and none stands there. At the end that is a break only behind an x.
pub record IsFirstBreak (bytes : List ℕ) (from to : ℕ) (b : WireBreak) : Type 0 where
  pub numbers : List ℕ
  pub fit : AllByRecursion IsNumber numbers
  pub ordered : from ≤ b.at
  pub within : b.at ≤ to
  pub spelled : slice_range bytes from b.at ≡ number_list numbers
  pub none : IsNone b.kind (slice_range bytes b.at to)
  pub owed : b.at ≡ to → length numbers % 2 ≡ 1

-- a step is spelled at a place, before the end
pub record IsStepAt (bytes : List ℕ) (at end : ℕ) (step : Step) : Type 0 where
  pub x : ℕ
  pub y : ℕ
  pub x_fits : x < 2 ^ 64
  pub y_fits : y < 2 ^ 64
  pub east : step.x ≡ unzigzag x
  pub south : step.y ≡ unzigzag y
  pub starts : at < step.next
  pub ends : step.next ≤ end
  pub spelled : slice_range bytes at step.next ≡ varint x ++ varint y

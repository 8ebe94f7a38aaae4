-- Points and objects of sound records.
use Rattle.std.proofs.Common.{◌≡◌, ◌≢◌, ℕ, true, List, [], ◌∷◌, ◌++◌, map, Option, Some, None, Ok, refl, sym, ap, subst, ◌∙◌, append_assoc}
use Rattle.std.specs.Prelude.{ℤ, pos, ◌+ℤ◌, IsSome, MatchOption}
use Rattle.std.specs.List.{list_all}
use Rattle.std.proofs.lemmas.Bool.{and_parts}
use Rattle.std.proofs.lemmas.List.{append-nil}
use Rattle.live_model.specs.declared.points.Point.{Point}
use Rattle.live_model.specs.declared.points.Rect.{Rect}
use Rattle.live_model.specs.Geometry.{box_around}
use Rattle.live_model.specs.Ids.{Id, IsId, ordinal}
use Rattle.obf_wire.specs.Fields.{Window}
use Rattle.obf_wire.specs.Zigzag.{unzigzag}
use Rattle.coord_delta.specs.Steps.{Place, places, places_from}
use Rattle.file_grammar.specs.BoxRules.{is_on_grid, is_ordinal}
use Rattle.file_grammar.specs.MapRules.{point_from}
use Rattle.file_grammar.specs.Readings.{numbers_at}
use Rattle.file_grammar.specs.Sections.{object_of}
use Rattle.boxed_exact.specs.declared.points.Step.{Step}
use Rattle.boxed_exact.specs.Numbers.{AreFew, StepsOn}
use Rattle.boxed_exact.proofs.NumberWalk.{at_place, no_places}
use Rattle.boxed_laws.proofs.ObjectNumbers.{object_good, ordinal_again}
use Rattle.boxed_read.specs.Bounds.{bounds_of, widened}
use Rattle.boxed_read.specs.Sound.{HoldsSteps}

-- an ordinal is that of an object
pub some_object : (n : ℕ) (r : Option Id) → is_ordinal n ≡ true → MatchOption r ((o : Id) → IsId o → ordinal o ≢ n) (λ o. IsId o × (ordinal o ≡ n)) → IsSome r
some_object n (Some o) good found = refl
some_object n None good none = absurd (none (object_of n) (object_good n good) (ordinal_again n good))

-- ---- points

grid_first : (x y : ℤ) (w : Window) (numbers : List ℕ) (step : Step) → list_all is_on_grid (places_from (x, y) numbers) ≡ true → StepsOn w numbers step
    → (is_on_grid (x +ℤ step.east, y +ℤ step.south) ≡ true) × HoldsSteps (x +ℤ step.east, y +ℤ step.south) (at_place w step.next)
grid_first x y w numbers step all s =
    let here : Place = (x +ℤ unzigzag s.x, y +ℤ unzigzag s.y) in
    let there : Place = (x +ℤ step.east, y +ℤ step.south) in
    let same : here ≡ there = ap (λ (e : ℤ). (x +ℤ e, y +ℤ unzigzag s.y)) (sym s.east) ∙ ap (λ (e : ℤ). (x +ℤ step.east, y +ℤ e)) (sym s.south) in
    let parts = and_parts (is_on_grid here) (list_all is_on_grid (places_from here s.rest)) (subst (λ (ns : List ℕ). list_all is_on_grid (places_from (x, y) ns) ≡ true) s.is all) in (
      subst (λ (p : Place). is_on_grid p ≡ true) same parts.0,
      record { numbers = s.rest; read = s.others; on_grid = subst (λ (p : Place). list_all is_on_grid (places_from p s.rest) ≡ true) same parts.1 },
    )

-- the next of steps that stay on the grid, and those behind it
pub next_place : (p : Point) (w : Window) (step : Step) → HoldsSteps (pos p.x, pos p.y) w → ((numbers : List ℕ) → numbers_at w ≡ Ok numbers → StepsOn w numbers step)
    → (is_on_grid (pos p.x +ℤ step.east, pos p.y +ℤ step.south) ≡ true) × HoldsSteps (pos p.x +ℤ step.east, pos p.y +ℤ step.south) (at_place w step.next)
next_place p w step h next = grid_first (pos p.x) (pos p.y) w h.numbers step h.on_grid (next h.numbers h.read)

pub steps_behind : (to : Point) (x y : ℤ) (w : Window) → pos to.x ≡ x → pos to.y ≡ y → HoldsSteps (x, y) w → HoldsSteps (pos to.x, pos to.y) w
steps_behind to x y w is_x is_y h =
    subst (λ (n : ℤ). HoldsSteps (n, pos to.y) w) (sym is_x) (subst (λ (n : ℤ). HoldsSteps (x, n) w) (sym is_y) h)

-- behind some of the points
pub record PointsRead (numbers : List ℕ) (point : Point) (now : List Point) (w : Window) : Type 0 where
  pub rest : List ℕ
  pub left : numbers_at w ≡ Ok rest
  pub read : map point_from (places numbers) ≡ now ++ map point_from (places_from (pos point.x, pos point.y) rest)

pub points_begin : (numbers : List ℕ) (w : Window) → numbers_at w ≡ Ok numbers → PointsRead numbers (record { x = 0; y = 0 }) [] w
points_begin numbers w e = record { rest = numbers; left = e; read = refl }

abbrev listed_from : ℤ → ℤ → List ℕ → List Point
listed_from x y numbers = map point_from (places_from (x, y) numbers)

pub points_on : (numbers : List ℕ) (point to : Point) (now new : List Point) (w : Window) (step : Step) → PointsRead numbers point now w → ((numbers : List ℕ) → numbers_at w ≡ Ok numbers → StepsOn w numbers step)
    → pos to.x ≡ pos point.x +ℤ step.east → pos to.y ≡ pos point.y +ℤ step.south → new ≡ now ++ to ∷ [] → PointsRead numbers to new (at_place w step.next)
points_on numbers point to now new w step l next x y more =
    let s = next l.rest l.left in
    let east : pos to.x ≡ pos point.x +ℤ unzigzag s.x = x ∙ ap (λ (e : ℤ). pos point.x +ℤ e) s.east in
    let south : pos to.y ≡ pos point.y +ℤ unzigzag s.y = y ∙ ap (λ (e : ℤ). pos point.y +ℤ e) s.south in
    let there : ℤ → ℤ → List Point = λ x y. point_from (x, y) ∷ listed_from x y s.rest in
    record {
      rest = s.rest;
      left = s.others;
      read =
          l.read ∙ ap (λ (ns : List ℕ). now ++ listed_from (pos point.x) (pos point.y) ns) s.is
          ∙ ap (λ (x : ℤ). now ++ there x (pos point.y +ℤ unzigzag s.y)) (sym east)
          ∙ ap (λ (y : ℤ). now ++ there (pos to.x) y) (sym south)
          ∙ sym (append_assoc now (to ∷ []) (listed_from (pos to.x) (pos to.y) s.rest))
          ∙ ap (λ (ps : List Point). ps ++ listed_from (pos to.x) (pos to.y) s.rest) (sym more);
    }

pub points_all : (numbers : List ℕ) (point : Point) (now : List Point) (w : Window) → PointsRead numbers point now w → ((numbers : List ℕ) → numbers_at w ≡ Ok numbers → AreFew numbers) → now ≡ map point_from (places numbers)
points_all numbers point now w l last =
    sym (l.read ∙ ap (λ (p : List Place). now ++ map point_from p) (no_places (pos point.x, pos point.y) l.rest (last l.rest l.left)) ∙ append-nil now)

-- the box around one, if there is one, and points
abbrev around_more : Option Rect → List Point → Option Rect
around_more None points = bounds_of points
around_more (Some r) points = Some (box_around r points)

-- behind some of the points, with the box around them
pub record BoundsRead (numbers : List ℕ) (point : Point) (now : Option Rect) (w : Window) : Type 0 where
  pub rest : List ℕ
  pub left : numbers_at w ≡ Ok rest
  pub read : bounds_of (map point_from (places numbers)) ≡ around_more now (map point_from (places_from (pos point.x, pos point.y) rest))

pub bounds_begin : (numbers : List ℕ) (w : Window) → numbers_at w ≡ Ok numbers → BoundsRead numbers (record { x = 0; y = 0 }) None w
bounds_begin numbers w e = record { rest = numbers; left = e; read = refl }

one_more : (now : Option Rect) (p : Point) (points : List Point) → around_more now (p ∷ points) ≡ around_more (Some (widened now p)) points
one_more None p points = refl
one_more (Some r) p points = refl

pub bounds_on : (numbers : List ℕ) (point to : Point) (now : Option Rect) (new : Rect) (w : Window) (step : Step) → BoundsRead numbers point now w → ((numbers : List ℕ) → numbers_at w ≡ Ok numbers → StepsOn w numbers step)
    → pos to.x ≡ pos point.x +ℤ step.east → pos to.y ≡ pos point.y +ℤ step.south → new ≡ widened now to → BoundsRead numbers to (Some new) (at_place w step.next)
bounds_on numbers point to now new w step l next x y more =
    let s = next l.rest l.left in
    let east : pos to.x ≡ pos point.x +ℤ unzigzag s.x = x ∙ ap (λ (e : ℤ). pos point.x +ℤ e) s.east in
    let south : pos to.y ≡ pos point.y +ℤ unzigzag s.y = y ∙ ap (λ (e : ℤ). pos point.y +ℤ e) s.south in
    let there : ℤ → ℤ → List Point = λ x y. point_from (x, y) ∷ listed_from x y s.rest in
    record {
      rest = s.rest;
      left = s.others;
      read =
          l.read ∙ ap (λ (ns : List ℕ). around_more now (listed_from (pos point.x) (pos point.y) ns)) s.is
          ∙ ap (λ (x : ℤ). around_more now (there x (pos point.y +ℤ unzigzag s.y))) (sym east)
          ∙ ap (λ (y : ℤ). around_more now (there (pos to.x) y)) (sym south)
          ∙ one_more now to (listed_from (pos to.x) (pos to.y) s.rest)
          ∙ ap (λ (r : Rect). around_more (Some r) (listed_from (pos to.x) (pos to.y) s.rest)) (sym more);
    }

nothing_more : (now : Option Rect) → around_more now [] ≡ now
nothing_more None = refl
nothing_more (Some r) = refl

pub bounds_all : (numbers : List ℕ) (point : Point) (now : Option Rect) (w : Window) → BoundsRead numbers point now w → ((numbers : List ℕ) → numbers_at w ≡ Ok numbers → AreFew numbers) → now ≡ bounds_of (map point_from (places numbers))
bounds_all numbers point now w l last =
    sym (l.read ∙ ap (λ (p : List Place). around_more now (map point_from p)) (no_places (pos point.x, pos point.y) l.rest (last l.rest l.left)) ∙ nothing_more now)

-- Numbers, one after another, and the points that they lead to.
use Rattle.std.proofs.Common.{◌≡◌, ◌≢◌, ℕ, suc, ◌+◌, ◌-◌, Bool, true, false, List, [], ◌∷◌, length, Result, Ok, Err, refl, sym, ap, subst, ◌∙◌, inl, inr, arith}
use Rattle.std.specs.Prelude.{◌==◌, ◌&&◌, ℤ, pos, ◌+ℤ◌}
use Rattle.std.specs.List.{list_all}
use Rattle.std.proofs.lemmas.Bool.{eqb-true}
use Rattle.live_model.specs.declared.points.Rect.{Rect}
use Rattle.coord_delta.specs.Steps.{Place, places, places_from}
use Rattle.obf_wire.specs.declared.breaks.WireBreak.{WireBreak}
use Rattle.obf_wire.specs.declared.file.FileBreak.{FileBreak}
use Rattle.obf_wire.specs.Varint.{varint_at}
use Rattle.obf_wire.specs.Fields.{Window, IsWindow}
use Rattle.obf_wire.specs.Zigzag.{unzigzag}
use Rattle.file_grammar.specs.BoxRules.{holds_place, is_on_grid}
use Rattle.file_grammar.specs.Readings.{◌>>=◌, of_file, numbers_up_to, numbers_at}
use Rattle.file_grammar.proofs.Inside.{chosen, number_inside}
use Rattle.file_grammar.proofs.Lists.{list_fuel}
use Rattle.boxed_exact.specs.declared.points.Step.{Step}
use Rattle.boxed_exact.specs.declared.points.PointsSeen.{PointsSeen}
use Rattle.boxed_exact.specs.Numbers.{Continues, StepsOn, AreFew}

abbrev room : Window → ℕ
room w = w.end - w.place

abbrev pub at_place : Window → ℕ → Window
at_place w next = record w { place = next }

parted : {A B : Type 0} (r : Result A FileBreak) (f : A → Result B FileBreak) (y : B) → (r >>= f) ≡ Ok y → (x : A) × (r ≡ Ok x) × (f x ≡ Ok y)
parted (Ok x) f y e = (x, refl, e)
parted (Err b) f y e = absurd cc

abbrev numbers_ok : List ℕ → Result (List ℕ) FileBreak
numbers_ok ns = Ok ns

same_numbers : (a b : List ℕ) → numbers_ok a ≡ numbers_ok b → a ≡ b
same_numbers a b e = cc

abbrev number_ok : ℕ → ℕ → Result (ℕ × ℕ) WireBreak
number_ok n next = Ok (n, next)

abbrev one_more : ℕ → Window → Result (ℕ × ℕ) WireBreak → Result (List ℕ) FileBreak
one_more fuel w r = of_file r >>= λ n. numbers_up_to fuel (at_place w n.1) >>= λ ns. Ok (n.0 ∷ ns)

pub number_next : (w : Window) (numbers : List ℕ) (r : Result (ℕ × ℕ) WireBreak) (n next : ℕ) → IsWindow w → w.place ≢ w.end → r ≡ varint_at w.bytes w.place w.end → r ≡ number_ok n next → numbers_at w ≡ numbers_ok numbers
    → Continues w numbers n next
number_next w numbers r n next window more exact is e =
    let one : numbers_up_to (suc (room w)) w ≡ numbers_ok numbers = list_fuel (suc (room w)) (room w) w window (omega arith) (omega arith) ∙ e in
    elim (chosen (w.place == w.end) (numbers_ok []) (one_more (room w) w (varint_at w.bytes w.place w.end)) (numbers_ok numbers) one) [
      | inl c ↦ absurd (more (eqb-true _ _ c.0))
      | inr c ↦
          let v : varint_at w.bytes w.place w.end ≡ number_ok n next = sym exact ∙ is in
          let two : one_more (room w) w (number_ok n next) ≡ numbers_ok numbers = subst (λ (x : Result (ℕ × ℕ) WireBreak). one_more (room w) w x ≡ numbers_ok numbers) v c.1 in
          let p = parted (numbers_up_to (room w) (at_place w next)) (λ ns. Ok (n ∷ ns)) numbers two in
          let i = number_inside w.bytes w.place w.end n next window.ordered window.within v in
          record {
            rest = p.0;
            is = sym (same_numbers (n ∷ p.0) numbers p.2);
            others = list_fuel (room (at_place w next)) (room w) (at_place w next) (record { ordered = i.1; within = window.within }) (omega arith) (omega (arith, i.0)) ∙ p.1;
          }
    ]

pub step_next : (w v : Window) (numbers : List ℕ) (m n next : ℕ) (step : Step) → step.east ≡ unzigzag m → step.south ≡ unzigzag n → step.next ≡ next → Continues w numbers m v.place
    → v ≡ at_place w v.place → ((rest : List ℕ) → numbers_at v ≡ Ok rest → Continues v rest n next) → StepsOn w numbers step
step_next w v numbers m n next step east south is first same second =
    let two = second first.rest (subst (λ (x : Window). numbers_at x ≡ Ok first.rest) (sym same) first.others) in
    record {
      x = m;
      y = n;
      rest = two.rest;
      is = first.is ∙ ap (λ (ns : List ℕ). m ∷ ns) two.is;
      east = east;
      south = south;
      others = subst (λ (x : Window). numbers_at (at_place x step.next) ≡ Ok two.rest) same (subst (λ (k : ℕ). numbers_at (at_place v k) ≡ Ok two.rest) (sym is) two.others);
    }

pub few : (numbers : List ℕ) → numbers ≡ [] → AreFew numbers
few numbers e = subst AreFew (sym e) tt

pub few_behind : (w v : Window) (numbers : List ℕ) (m : ℕ) → Continues w numbers m v.place → v ≡ at_place w v.place → ((rest : List ℕ) → numbers_at v ≡ Ok rest → rest ≡ []) → AreFew numbers
few_behind w v numbers m first same last =
    let none = last first.rest (subst (λ (x : Window). numbers_at x ≡ Ok first.rest) (sym same) first.others) in
    subst AreFew (sym (first.is ∙ ap (λ (ns : List ℕ). m ∷ ns) none)) tt

-- ---- points

pub record PointsLeft (holder : Rect) (numbers : List ℕ) (x y : ℤ) (seen : PointsSeen) (w : Window) : Type 0 where
  pub rest : List ℕ
  pub left : numbers_at w ≡ Ok rest
  pub count : length (places numbers) ≡ seen.count + length (places_from (x, y) rest)
  pub on_grid : list_all is_on_grid (places numbers) ≡ (seen.on_grid && list_all is_on_grid (places_from (x, y) rest))
  pub in_box : list_all (holds_place holder) (places numbers) ≡ (seen.in_box && list_all (holds_place holder) (places_from (x, y) rest))

pub points_begin : (holder : Rect) (numbers : List ℕ) (w : Window) → numbers_at w ≡ Ok numbers → PointsLeft holder numbers (pos 0) (pos 0) (record { count = 0; on_grid = true; in_box = true }) w
points_begin holder numbers w e = record { rest = numbers; left = e; count = omega arith; on_grid = refl; in_box = refl }

and_joined : (a b c : Bool) → (a && (b && c)) ≡ ((a && b) && c)
and_joined true b c = refl
and_joined false b c = refl

abbrev with_place : PointsSeen → Rect → Place → PointsSeen
with_place seen holder place = record { count = seen.count + 1; on_grid = seen.on_grid && is_on_grid place; in_box = seen.in_box && holds_place holder place }

points_step : (holder : Rect) (numbers : List ℕ) (x y : ℤ) (seen : PointsSeen) (w : Window) (rest : List ℕ) (m n : ℕ) (others : List ℕ) (next : ℕ) → rest ≡ m ∷ n ∷ others
    → length (places numbers) ≡ seen.count + length (places_from (x, y) rest)
    → list_all is_on_grid (places numbers) ≡ (seen.on_grid && list_all is_on_grid (places_from (x, y) rest))
    → list_all (holds_place holder) (places numbers) ≡ (seen.in_box && list_all (holds_place holder) (places_from (x, y) rest))
    → numbers_at (at_place w next) ≡ Ok others
    → PointsLeft holder numbers (x +ℤ unzigzag m) (y +ℤ unzigzag n) (with_place seen holder (x +ℤ unzigzag m, y +ℤ unzigzag n)) (at_place w next)
points_step holder numbers x y seen w rest m n others next is count on_grid in_box left =
    record {
      rest = others;
      left = left;
      count = let c : seen.count + length (places_from (x, y) rest) ≡ seen.count + suc (length (places_from (x +ℤ unzigzag m, y +ℤ unzigzag n) others)) = ap (λ (r : List ℕ). seen.count + length (places_from (x, y) r)) is in omega (arith, count, c);
      on_grid =
          on_grid ∙ ap (λ (r : List ℕ). seen.on_grid && list_all is_on_grid (places_from (x, y) r)) is
          ∙ and_joined seen.on_grid (is_on_grid (x +ℤ unzigzag m, y +ℤ unzigzag n)) (list_all is_on_grid (places_from (x +ℤ unzigzag m, y +ℤ unzigzag n) others));
      in_box =
          in_box ∙ ap (λ (r : List ℕ). seen.in_box && list_all (holds_place holder) (places_from (x, y) r)) is
          ∙ and_joined seen.in_box (holds_place holder (x +ℤ unzigzag m, y +ℤ unzigzag n)) (list_all (holds_place holder) (places_from (x +ℤ unzigzag m, y +ℤ unzigzag n) others));
    }

pub points_on : (holder : Rect) (numbers : List ℕ) (x y : ℤ) (seen : PointsSeen) (w : Window) (step : Step) → PointsLeft holder numbers x y seen w → ((numbers : List ℕ) → numbers_at w ≡ Ok numbers → StepsOn w numbers step)
    → PointsLeft holder numbers (x +ℤ step.east) (y +ℤ step.south) (with_place seen holder (x +ℤ step.east, y +ℤ step.south)) (at_place w step.next)
points_on holder numbers x y seen w step l next =
    let s = next l.rest l.left in
    let p = points_step holder numbers x y seen w l.rest s.x s.y s.rest step.next s.is l.count l.on_grid l.in_box s.others in
    let q = subst (λ (e : ℤ). PointsLeft holder numbers (x +ℤ e) (y +ℤ unzigzag s.y) (with_place seen holder (x +ℤ e, y +ℤ unzigzag s.y)) (at_place w step.next)) (sym s.east) p in
    subst (λ (e : ℤ). PointsLeft holder numbers (x +ℤ step.east) (y +ℤ e) (with_place seen holder (x +ℤ step.east, y +ℤ e)) (at_place w step.next)) (sym s.south) q

pub no_places : (place : Place) (rest : List ℕ) → AreFew rest → places_from place rest ≡ []
no_places place [] f = refl
no_places place (n ∷ []) f = refl
no_places place (m ∷ n ∷ ns) f = absurd f

and_all : (b : Bool) → (b && true) ≡ b
and_all true = refl
and_all false = refl

pub record AreSeen (holder : Rect) (numbers : List ℕ) (seen : PointsSeen) : Type 0 where
  pub count : seen.count ≡ length (places numbers)
  pub on_grid : seen.on_grid ≡ list_all is_on_grid (places numbers)
  pub in_box : seen.in_box ≡ list_all (holds_place holder) (places numbers)

pub points_all : (holder : Rect) (numbers : List ℕ) (x y : ℤ) (seen : PointsSeen) (w : Window) → PointsLeft holder numbers x y seen w → ((numbers : List ℕ) → numbers_at w ≡ Ok numbers → AreFew numbers) → AreSeen holder numbers seen
points_all holder numbers x y seen w l last =
    let none : places_from (x, y) l.rest ≡ [] = no_places (x, y) l.rest (last l.rest l.left) in
    record {
      count = let c : length (places_from (x, y) l.rest) ≡ 0 = ap (λ (p : List Place). length p) none in omega (arith, c, l.count);
      on_grid = sym (l.on_grid ∙ ap (λ (p : List Place). seen.on_grid && list_all is_on_grid p) none ∙ and_all seen.on_grid);
      in_box = sym (l.in_box ∙ ap (λ (p : List Place). seen.in_box && list_all (holds_place holder) p) none ∙ and_all seen.in_box);
    }

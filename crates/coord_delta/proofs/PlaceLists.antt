-- Places that steps lead to.
use Rattle.std.proofs.Common.{◌≡◌, ℕ, zero, suc, ◌%◌, ◌^◌, ◌<◌, ◌≤◌, List, [], ◌∷◌, ◌++◌, length, map, refl, sym, ap, ◌∙◌, append_assoc, arith}
use Rattle.std.specs.Prelude.{ℤ, pos, negsuc, ◌+ℤ◌, ◌-ℤ◌}
use Rattle.std.specs.List.{AllByRecursion}
use Rattle.std.proofs.lemmas.Int.{ints}
use Rattle.std.proofs.lemmas.Bool.Decides.{nat_tests}
use Rattle.live_model.specs.declared.points.Point.{Point}
use Rattle.live_model.specs.Points.{IsInGrid}
use Rattle.obf_wire.specs.Zigzag.{zigzag, unzigzag}
use Rattle.coord_delta.specs.Steps.{Place, place_of, moved, places_from, IsOnGrid, IsFirstOff, points_from, point_list, IsNumber, number_list, ArePoints}
use Rattle.obf_wire.specs.Varint.{varint}

-- ---- signed numbers

pub unzigzag-zigzag : (v : ℤ) → unzigzag (zigzag v) ≡ v
unzigzag-zigzag (pos n) = grind (arith, nat_tests)
unzigzag-zigzag (negsuc n) = grind (arith, nat_tests)

pub zigzag-unzigzag : (n : ℕ) → zigzag (unzigzag n) ≡ n
zigzag-unzigzag n = grind (arith, nat_tests)

-- ---- the grid

pub grid_place : (p : Point) → IsInGrid p → IsOnGrid (place_of p)
grid_place p inside = ((omega (arith, ints), omega (arith, ints, inside.0)), (omega (arith, ints), omega (arith, ints, inside.1)))

pub none_off : (index : ℕ) (ps : List Point) → AllByRecursion IsInGrid ps → IsFirstOff index (map place_of ps) → ⊥
none_off index [] inside off = off
none_off zero (p ∷ ps) inside off = off (grid_place p inside.0)
none_off (suc index) (p ∷ ps) inside off = none_off index ps inside.1 off.1

pub one_off : (i j : ℕ) (ps : List Place) → IsFirstOff i ps → IsFirstOff j ps → i ≡ j
one_off i j [] a b = absurd a
one_off zero zero (p ∷ ps) a b = refl
one_off zero (suc j) (p ∷ ps) a b = absurd (a b.0)
one_off (suc i) zero (p ∷ ps) a b = absurd (b a.0)
one_off (suc i) (suc j) (p ∷ ps) a b = ap suc (one_off i j ps a.1 b.1)

-- behind points of the grid a place off it is the first
pub off_behind : (ps : List Point) (off : Place) (rest : List Place) → AllByRecursion IsInGrid ps → (IsOnGrid off → ⊥) → IsFirstOff (length ps) (map place_of ps ++ off ∷ rest)
off_behind [] off rest inside out = out
off_behind (p ∷ ps) off rest inside out = (grid_place p inside.0, off_behind ps off rest inside.1 out)

-- ---- points have their places

abbrev nat_of : ℤ → ℕ
nat_of (pos n) = n
nat_of (negsuc n) = 0

same_point : (p q : Point) → place_of p ≡ place_of q → p ≡ q
same_point p q e =
    let x : p.x ≡ q.x = ap (λ (t : Place). nat_of t.0) e in
    let y : p.y ≡ q.y = ap (λ (t : Place). nat_of t.1) e in
    let first : p ≡ record { x = q.x; y = p.y } = ap (λ (n : ℕ). record { x = n; y = p.y }) x in
    first ∙ ap (λ (n : ℕ). record { x = q.x; y = n }) y

pub same_points : (ps qs : List Point) → map place_of ps ≡ map place_of qs → ps ≡ qs
same_points [] [] e = refl
same_points [] (q ∷ qs) e = absurd cc
same_points (p ∷ ps) [] e = absurd cc
same_points (p ∷ ps) (q ∷ qs) e =
    let first : place_of p ≡ place_of q = cc in
    let rest : map place_of ps ≡ map place_of qs = cc in
    ap (λ (x : Point). x ∷ ps) (same_point p q first) ∙ ap (λ (xs : List Point). q ∷ xs) (same_points ps qs rest)

-- ---- the steps of points

-- the numbers that spell points
abbrev pub numbers_from : Point → List Point → List ℕ
numbers_from from [] = []
numbers_from from (p ∷ ps) = zigzag (pos p.x -ℤ pos from.x) ∷ zigzag (pos p.y -ℤ pos from.y) ∷ numbers_from p ps

pub points_are_numbers : (from : Point) (ps : List Point) → points_from from ps ≡ number_list (numbers_from from ps)
points_are_numbers from [] = refl
points_are_numbers from (p ∷ ps) =
    let x : List ℕ = varint (zigzag (pos p.x -ℤ pos from.x)) in
    let y : List ℕ = varint (zigzag (pos p.y -ℤ pos from.y)) in
    append_assoc x y (points_from p ps) ∙ ap (λ (t : List ℕ). x ++ (y ++ t)) (points_are_numbers p ps)

small_of : (a b : ℕ) (v : ℤ) → a ≤ 3600000000 → b ≤ 3600000000 → v ≡ pos a -ℤ pos b → zigzag v < 2 ^ 64
small_of a b (pos n) a_in b_in e = omega (arith, ints)
small_of a b (negsuc n) a_in b_in e = omega (arith, ints)

small : (a b : ℕ) → a ≤ 3600000000 → b ≤ 3600000000 → zigzag (pos a -ℤ pos b) < 2 ^ 64
small a b a_in b_in = small_of a b (pos a -ℤ pos b) a_in b_in refl

pub numbers_fit : (from : Point) (ps : List Point) → IsInGrid from → AllByRecursion IsInGrid ps → AllByRecursion IsNumber (numbers_from from ps)
numbers_fit from [] start inside = tt
numbers_fit from (p ∷ ps) start inside =
    (small p.x from.x inside.0.0 start.0, (small p.y from.y (omega (arith, inside.0.1)) (omega (arith, start.1)), numbers_fit p ps inside.0 inside.1))

pub numbers_whole : (from : Point) (ps : List Point) → length (numbers_from from ps) % 2 ≡ 0
numbers_whole from [] = refl
numbers_whole from (p ∷ ps) = omega (arith, numbers_whole p ps)

forth : (a b : ℕ) → pos b +ℤ (pos a -ℤ pos b) ≡ pos a
forth a b = omega (arith, ints)

step_leads : (from p : Point) → moved (place_of from) (unzigzag (zigzag (pos p.x -ℤ pos from.x))) (unzigzag (zigzag (pos p.y -ℤ pos from.y))) ≡ place_of p
step_leads from p =
    let x : pos from.x +ℤ unzigzag (zigzag (pos p.x -ℤ pos from.x)) ≡ pos p.x = ap (λ (v : ℤ). pos from.x +ℤ v) (unzigzag-zigzag (pos p.x -ℤ pos from.x)) ∙ forth p.x from.x in
    let y : pos from.y +ℤ unzigzag (zigzag (pos p.y -ℤ pos from.y)) ≡ pos p.y = ap (λ (v : ℤ). pos from.y +ℤ v) (unzigzag-zigzag (pos p.y -ℤ pos from.y)) ∙ forth p.y from.y in
    pair_of x y
  where
    pair_of : {a b c d : ℤ} → a ≡ c → b ≡ d → ◌≡◌ {A = Place} (a, b) (c, d)
    pair_of {a} {b} {c} {d} first second = ap (λ (v : ℤ). (v, b)) first ∙ ap (λ (v : ℤ). (c, v)) second

pub numbers_lead : (from : Point) (ps : List Point) → places_from (place_of from) (numbers_from from ps) ≡ map place_of ps
numbers_lead from [] = refl
numbers_lead from (p ∷ ps) =
    let there = step_leads from p in
    ap (λ (t : Place). t ∷ places_from t (numbers_from p ps)) there ∙ ap (λ (ts : List Place). place_of p ∷ ts) (numbers_lead p ps)

back : (a b : ℕ) (v : ℤ) → pos b +ℤ v ≡ pos a → v ≡ pos a -ℤ pos b
back a b v e = omega (arith, ints)

number_of_step : (a b n : ℕ) → pos b +ℤ unzigzag n ≡ pos a → n ≡ zigzag (pos a -ℤ pos b)
number_of_step a b n e = sym (zigzag-unzigzag n) ∙ ap zigzag (back a b (unzigzag n) e)

pub numbers_one : (from : Point) (ns : List ℕ) (ps : List Point) → length ns % 2 ≡ 0 → places_from (place_of from) ns ≡ map place_of ps → ns ≡ numbers_from from ps
numbers_one from [] [] whole e = refl
numbers_one from [] (p ∷ ps) whole e = absurd cc
numbers_one from (x ∷ []) ps whole e = absurd (omega arith)
numbers_one from (x ∷ y ∷ ns) [] whole e = absurd cc
numbers_one from (x ∷ y ∷ ns) (p ∷ ps) whole e =
    let to : Place = moved (place_of from) (unzigzag x) (unzigzag y) in
    let first : to ≡ place_of p = cc in
    let rest : places_from to ns ≡ map place_of ps = cc in
    let behind : places_from (place_of p) ns ≡ map place_of ps = ap (λ (t : Place). places_from t ns) (sym first) ∙ rest in
    let east : x ≡ zigzag (pos p.x -ℤ pos from.x) = number_of_step p.x from.x x (ap (λ (t : Place). t.0) first) in
    let south : y ≡ zigzag (pos p.y -ℤ pos from.y) = number_of_step p.y from.y y (ap (λ (t : Place). t.1) first) in
    let tail = numbers_one p ns ps (omega arith) behind in
    ap (λ (k : ℕ). k ∷ y ∷ ns) east ∙ ap (λ (k : ℕ). zigzag (pos p.x -ℤ pos from.x) ∷ k ∷ ns) south ∙ ap (λ (ks : List ℕ). zigzag (pos p.x -ℤ pos from.x) ∷ zigzag (pos p.y -ℤ pos from.y) ∷ ks) tail

-- ---- the laws

abbrev origin : Point
origin = record { x = 0; y = 0 }

pub again : (ps : List Point) → AllByRecursion IsInGrid ps → ArePoints (point_list ps) ps
again ps inside = record {
  numbers = numbers_from origin ps;
  pairs = record { fit = numbers_fit origin ps (omega arith, omega arith) inside; spelled = points_are_numbers origin ps; whole = numbers_whole origin ps };
  there = numbers_lead origin ps;
  in_grid = inside;
}

pub spelling_one : (bytes : List ℕ) (ps : List Point) → ArePoints bytes ps → bytes ≡ point_list ps
spelling_one bytes ps a = a.pairs.spelled ∙ ap number_list (numbers_one origin a.numbers ps a.pairs.whole a.there) ∙ sym (points_are_numbers origin ps)

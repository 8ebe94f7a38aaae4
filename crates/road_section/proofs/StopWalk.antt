-- Steps from node to node, and the nodes that they lead to.
use Rattle.std.proofs.Common.{◌≡◌, ℕ, suc, ◌+◌, ◌<◌, ◌≤◌, ◌%◌, Bool, true, false, List, [], ◌∷◌, length, Result, Ok, refl, sym, ap, subst, ◌∙◌, arith}
use Rattle.std.specs.Prelude.{◌&&◌, ◌==◌, ℤ, pos, ◌+ℤ◌}
use Rattle.std.specs.List.{list_all}
use Rattle.live_model.specs.declared.points.Rect.{Rect}
use Rattle.coord_delta.specs.Steps.{moved}
use Rattle.obf_wire.specs.declared.breaks.WireBreak.{WireBreak}
use Rattle.obf_wire.specs.Fields.{Window, IsWindow}
use Rattle.obf_wire.specs.Varint.{varint_at}
use Rattle.obf_wire.specs.Zigzag.{unzigzag}
use Rattle.file_grammar.specs.Readings.{numbers_at}
use Rattle.file_grammar.specs.RoadRules.{Stop, stops}
use Rattle.file_grammar.proofs.Inside.{number_inside}
use Rattle.boxed_exact.specs.declared.points.Step.{Step}
use Rattle.boxed_exact.specs.Numbers.{Continues, StepsOn}
use Rattle.boxed_exact.specs.Numbers as N
use Rattle.boxed_check.proofs.PointWalk.{number_then, numbers_end}
use Rattle.road_section.specs.declared.stops.NodesSeen.{NodesSeen}
use Rattle.road_section.specs.declared.stops.Triple.{Triple}
use Rattle.road_section.specs.declared.good_nodes.NodeAt.{NodeAt}
use Rattle.road_section.specs.Stops.{AreFew, AreNodesSeen, IsNodeRead, LeadsOn, NodesLeft, behind, is_held, is_numbered, is_placed, next_stop, seen_with, stop_behind, stop_read}

abbrev pub at_place : Window → ℕ → Window
at_place w next = record w { place = next }

-- ---- three numbers

pub triple_on : (w v : Window) (numbers : List ℕ) (n : ℕ) (step : Step) (triple : Triple) → triple ≡ record { number = unzigzag n; step = step } → Continues w numbers n v.place → v ≡ at_place w v.place
    → ((rest : List ℕ) → numbers_at v ≡ Ok rest → StepsOn v rest step) → LeadsOn w numbers triple
triple_on w v numbers n step triple is first same second =
    let two = second first.rest (subst (λ (x : Window). numbers_at x ≡ Ok first.rest) (sym same) first.others) in
    let next : triple.step ≡ step = ap (λ (t : Triple). t.step) is in
    record {
      n = n;
      x = two.x;
      y = two.y;
      rest = two.rest;
      is = first.is ∙ ap (λ (ns : List ℕ). n ∷ ns) two.is;
      number = ap (λ (t : Triple). t.number) is;
      east = ap (λ (s : Step). s.east) next ∙ two.east;
      south = ap (λ (s : Step). s.south) next ∙ two.south;
      others = subst (λ (x : Window). numbers_at (at_place x triple.step.next) ≡ Ok two.rest) same (subst (λ (s : Step). numbers_at (at_place v s.next) ≡ Ok two.rest) (sym next) two.others);
    }

few_more : (n : ℕ) (rest : List ℕ) → N.AreFew rest → AreFew (n ∷ rest)
few_more n [] few = tt
few_more n (a ∷ []) few = tt
few_more n (a ∷ b ∷ rest) few = absurd few

pub few_behind : (w v : Window) (numbers : List ℕ) (n : ℕ) → Continues w numbers n v.place → v ≡ at_place w v.place → ((rest : List ℕ) → numbers_at v ≡ Ok rest → N.AreFew rest) → AreFew numbers
few_behind w v numbers n first same last =
    subst AreFew (sym first.is) (few_more n first.rest (last first.rest (subst (λ (x : Window). numbers_at x ≡ Ok first.rest) (sym same) first.others)))

pub few : (numbers : List ℕ) → numbers ≡ [] → AreFew numbers
few numbers e = subst AreFew (sym e) tt

-- ---- what was seen of nodes

and_joined : (a b c : Bool) → (a && (b && c)) ≡ ((a && b) && c)
and_joined true b c = refl
and_joined false b c = refl

and_all : (b : Bool) → (b && true) ≡ b
and_all true = refl
and_all false = refl

abbrev start : Stop
start = record { number = pos 0; location = (pos 0, pos 0) }

-- steps are left behind a node, and a test holds of all nodes where it held so far and holds of those that are left
abbrev Passes : (Stop → Bool) → List ℕ → Bool → Stop → List ℕ → Type 0
Passes test numbers so_far stop rest = list_all test (stops numbers) ≡ (so_far && list_all test (behind stop rest))

pub record StopsLeft (holder : Rect) (numbers : List ℕ) (stop : Stop) (seen : NodesSeen) (w : Window) : Type 0 where
  pub rest : List ℕ
  pub left : numbers_at w ≡ Ok rest
  pub count : length (stops numbers) ≡ seen.count + length (behind stop rest)
  pub numbered : Passes is_numbered numbers seen.numbered stop rest
  pub on_grid : Passes is_placed numbers seen.on_grid stop rest
  pub in_box : Passes (is_held holder) numbers seen.in_box stop rest

pub stops_begin : (holder : Rect) (numbers : List ℕ) (w : Window) → numbers_at w ≡ Ok numbers → StopsLeft holder numbers start (record { count = 0; numbered = true; on_grid = true; in_box = true }) w
stops_begin holder numbers w e = record { rest = numbers; left = e; count = omega arith; numbered = refl; on_grid = refl; in_box = refl }

passes_on : (test : Stop → Bool) (numbers : List ℕ) (so_far : Bool) (stop : Stop) (rest : List ℕ) (n x y : ℕ) (others : List ℕ) → rest ≡ n ∷ x ∷ y ∷ others → Passes test numbers so_far stop rest
    → Passes test numbers (so_far && test (next_stop stop n x y)) (next_stop stop n x y) others
passes_on test numbers so_far stop rest n x y others is p =
    p ∙ ap (λ (r : List ℕ). so_far && list_all test (behind stop r)) is
    ∙ and_joined so_far (test (next_stop stop n x y)) (list_all test (behind (next_stop stop n x y) others))

next_is : (stop : Stop) (t : Triple) (n x y : ℕ) → t.number ≡ unzigzag n → t.step.east ≡ unzigzag x → t.step.south ≡ unzigzag y → stop_behind stop t ≡ next_stop stop n x y
next_is stop t n x y number east south =
    let made : ℤ → ℤ → ℤ → Stop = λ number east south. record { number = stop.number +ℤ number; location = moved stop.location east south } in
    ap (λ (v : ℤ). made v t.step.east t.step.south) number ∙ ap (λ (v : ℤ). made (unzigzag n) v t.step.south) east ∙ ap (made (unzigzag n) (unzigzag x)) south

pub stops_on : (holder : Rect) (numbers : List ℕ) (stop : Stop) (seen : NodesSeen) (w : Window) (t : Triple) → StopsLeft holder numbers stop seen w → ((numbers : List ℕ) → numbers_at w ≡ Ok numbers → LeadsOn w numbers t)
    → StopsLeft holder numbers (stop_behind stop t) (seen_with holder seen (stop_behind stop t)) (at_place w t.step.next)
stops_on holder numbers stop seen w t l next =
    let s = next l.rest l.left in
    let to : Stop = next_stop stop s.n s.x s.y in
    let p : StopsLeft holder numbers to (seen_with holder seen to) (at_place w t.step.next) = record {
      rest = s.rest;
      left = s.others;
      count = let c : seen.count + length (behind stop l.rest) ≡ seen.count + suc (length (behind to s.rest)) = ap (λ (r : List ℕ). seen.count + length (behind stop r)) s.is in omega (arith, l.count, c);
      numbered = passes_on is_numbered numbers seen.numbered stop l.rest s.n s.x s.y s.rest s.is l.numbered;
      on_grid = passes_on is_placed numbers seen.on_grid stop l.rest s.n s.x s.y s.rest s.is l.on_grid;
      in_box = passes_on (is_held holder) numbers seen.in_box stop l.rest s.n s.x s.y s.rest s.is l.in_box;
    } in
    subst (λ (x : Stop). StopsLeft holder numbers x (seen_with holder seen x) (at_place w t.step.next)) (sym (next_is stop t s.n s.x s.y s.number s.east s.south)) p

pub none_behind : (stop : Stop) (rest : List ℕ) → AreFew rest → behind stop rest ≡ []
none_behind stop [] few = refl
none_behind stop (a ∷ []) few = refl
none_behind stop (a ∷ b ∷ []) few = refl
none_behind stop (a ∷ b ∷ c ∷ rest) few = absurd few

pub stops_all : (holder : Rect) (numbers : List ℕ) (stop : Stop) (seen : NodesSeen) (w : Window) → StopsLeft holder numbers stop seen w → ((numbers : List ℕ) → numbers_at w ≡ Ok numbers → AreFew numbers) → AreNodesSeen holder numbers seen
stops_all holder numbers stop seen w l last =
    let none : behind stop l.rest ≡ [] = none_behind stop l.rest (last l.rest l.left) in
    record {
      count = let c : length (behind stop l.rest) ≡ 0 = ap (λ (ss : List Stop). length ss) none in omega (arith, c, l.count);
      numbered = sym (l.numbered ∙ ap (λ (ss : List Stop). seen.numbered && list_all is_numbered ss) none ∙ and_all seen.numbered);
      on_grid = sym (l.on_grid ∙ ap (λ (ss : List Stop). seen.on_grid && list_all is_placed ss) none ∙ and_all seen.on_grid);
      in_box = sym (l.in_box ∙ ap (λ (ss : List Stop). seen.in_box && list_all (is_held holder) ss) none ∙ and_all seen.in_box);
    }

-- ---- nodes that are all good

pub nodes_end : (w : Window) (holder : Rect) (from : Stop) (count : ℕ) → IsWindow w → w.end ≤ w.place → NodesLeft w holder from count count
nodes_end w holder from count window none =
    record { numbers = []; read = numbers_end w window none; triples = refl; numbered = refl; on_grid = refl; in_box = refl; count_is = omega arith }

abbrev ok : ℕ × ℕ → Result (ℕ × ℕ) WireBreak
ok x = Ok x

nodes_step : (w : Window) (holder : Rect) (from : Stop) (n first x second y next count total : ℕ) → IsWindow w → w.place < w.end → first < w.end → second < w.end
    → varint_at w.bytes w.place w.end ≡ ok (n, first) → varint_at w.bytes first w.end ≡ ok (x, second) → varint_at w.bytes second w.end ≡ ok (y, next)
    → is_numbered (next_stop from n x y) ≡ true → is_placed (next_stop from n x y) ≡ true → is_held holder (next_stop from n x y) ≡ true
    → NodesLeft (at_place w next) holder (next_stop from n x y) (count + 1) total → NodesLeft w holder from count total
nodes_step w holder from n first x second y next count total window more again still one two three numbered grid box l =
    let i = number_inside w.bytes w.place w.end n first window.ordered window.within one in
    let j = number_inside w.bytes first w.end x second i.1 window.within two in
    record {
      numbers = n ∷ x ∷ y ∷ l.numbers;
      read = number_then w n first (x ∷ y ∷ l.numbers) window more one
          (number_then (at_place w first) x second (y ∷ l.numbers) (record { ordered = i.1; within = window.within }) again two
          (number_then (at_place w second) y next l.numbers (record { ordered = j.1; within = window.within }) still three l.read));
      triples = (let whole : suc (suc (suc (length l.numbers))) % 3 ≡ length l.numbers % 3 = omega arith in ap (λ (k : ℕ). k == 0) whole ∙ l.triples);
      numbered = rw (numbered) l.numbered;
      on_grid = rw (grid) l.on_grid;
      in_box = rw (box) l.in_box;
      count_is = omega (arith, l.count_is);
    }

pub nodes_on : (w : Window) (holder : Rect) (from to : NodeAt) (count total : ℕ) → IsWindow w → w.place < w.end → to.spot.next ≤ w.end → IsNodeRead w holder from to
    → NodesLeft (at_place w to.spot.next) holder (stop_read to) (count + 1) total → NodesLeft w holder (stop_read from) count total
nodes_on w holder from to count total window more within m l =
    let made : ℤ → ℤ → ℤ → Stop = λ number x y. record { number = number; location = (x, y) } in
    let here : stop_read to ≡ next_stop (stop_read from) m.n m.spot.a m.spot.b =
    ap (λ (v : ℤ). made v (pos to.spot.x) (pos to.spot.y)) m.number.is
    ∙ ap (λ (v : ℤ). made (from.number +ℤ unzigzag m.n) v (pos to.spot.y)) m.spot.x_is
    ∙ ap (made (from.number +ℤ unzigzag m.n) (pos from.spot.x +ℤ unzigzag m.spot.a)) m.spot.y_is in
    nodes_step w holder (stop_read from) m.n m.between m.spot.a m.spot.between m.spot.b to.spot.next count total window more m.again m.spot.again m.first m.spot.first m.spot.second
    (subst (λ (s : Stop). is_numbered s ≡ true) here m.number.good)
    (subst (λ (s : Stop). is_placed s ≡ true) here m.spot.on_grid)
    (subst (λ (s : Stop). is_held holder s ≡ true) here m.spot.in_box)
    (subst (λ (s : Stop). NodesLeft (at_place w to.spot.next) holder s (count + 1) total) here l)

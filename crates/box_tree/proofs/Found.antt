-- How many nodes are entered where a leaf is found.
use Rattle.std.proofs.Common.{◌≡◌, ℕ, zero, suc, ◌+◌, ◌-◌, ◌*◌, ◌/◌, ◌^◌, ◌<◌, ◌≤◌, Bool, true, List, [], ◌∷◌, length, get_or, take, drop, map, sum, Option, Some, None, refl, sym, ap, subst, ◌∙◌, arith, inl, inr, find, add-zero, le_trans}
use Rattle.std.specs.Prelude.{IfSome}
use Rattle.std.specs.Option.{option_map}
use Rattle.std.specs.List.{enumerate_from, range_with_len}
use Rattle.std.proofs.lemmas.Bool.{cases_Bool}
use Rattle.std.proofs.lemmas.List.FromFn.{sum_by-map-range_with_len_more}
use Rattle.std.proofs.Math.Nat.{pow-suc, div-lt_iff_lt-mul, le-div_iff_mul-le}
use Rattle.live_model.specs.declared.points.Rect.{Rect}
use Rattle.live_model.specs.Points.{overlaps}
use Rattle.box_tree.specs.Trees.{lowest}
use Rattle.box_tree.specs.Search.{nodes_between}
use Rattle.box_tree.specs.Walk.{nodes_at, first_between, meeting_between, nodes_until, nodes_up_to}
use Rattle.box_tree.proofs.Parts.{meeting_joined, meeting_one}
use Rattle.box_tree.proofs.Walk.{climbed, eighths, eight_times, same_node, scaled, some_eights}

-- ---- where a leaf is found

after : (n : ℕ) (p : ℕ × Rect → Bool) (xs : List Rect) (i : ℕ) → Some i ≡ option_map (λ (leaf : ℕ × Rect). leaf.0) (find p (enumerate_from n xs)) → n ≤ i
after n p [] i e = absurd cc
after n p (x ∷ xs) i e =
    elim (cases_Bool (p (n, x))) [
      | inl first ↦ let here = rw first at e in let same : i ≡ n = cc in omega arith
      | inr later ↦ let there = rw later at e in let next = after (n + 1) p xs i there in omega arith
    ]

drop_numbered : (low n : ℕ) (xs : List Rect) → drop low (enumerate_from n xs) ≡ enumerate_from (n + low) (drop low xs)
drop_numbered zero n xs = ap (λ (k : ℕ). enumerate_from k xs) (sym (add-zero n))
drop_numbered (suc low) n [] = refl
drop_numbered (suc low) n (x ∷ xs) =
    let same : n + 1 + low ≡ n + suc low = omega arith in
    drop_numbered low (n + 1) xs ∙ ap (λ (k : ℕ). enumerate_from k (drop low xs)) same

-- a leaf is found at or after the first place that is asked
pub found_from : (leaves : List Rect) (rect : Rect) (low high i : ℕ) → Some i ≡ first_between leaves rect low high → low ≤ i
unfolding first_between
found_from leaves rect low high i e =
    let numbered = drop_numbered low 0 (take high leaves) in
    let there = after (0 + low) (λ leaf. overlaps leaf.1 rect) (drop low (take high leaves)) i (e ∙ ap (λ (xs : List (ℕ × Rect)). option_map (λ (leaf : ℕ × Rect). leaf.0) (find (λ leaf. overlaps leaf.1 rect) xs)) numbered) in
    omega (arith, there)

at_least : (h c i : ℕ) → c * 8 ^ h ≤ i → c ≤ i / 8 ^ h
at_least h c i le = (le-div_iff_mul-le {k = 8 ^ h} {x = c} {y = i} (some_eights h)).1 le

-- ---- counts

-- the nodes up to one of them, and those from it up to a leaf
pub until_found : (levels : List (List Rect)) (rect : Rect) (h from mid leaf : ℕ) → from ≤ mid * 8 ^ h → mid * 8 ^ h ≤ leaf → nodes_up_to levels rect h from leaf ≡ nodes_until levels rect h from mid + nodes_up_to levels rect h (mid * 8 ^ h) leaf
unfolding nodes_until nodes_up_to
until_found levels rect zero from mid leaf first second =
    let whole : mid * 8 ^ 0 ≡ mid = omega arith in
    meeting_joined (nodes_at levels 0) rect from mid (leaf + 1) (omega arith) (omega arith)
    ∙ ap (λ (k : ℕ). meeting_between (nodes_at levels 0) rect from mid + meeting_between (nodes_at levels 0) rect k (leaf + 1)) (sym whole)
until_found levels rect (suc h) from mid leaf first second =
    let some = some_eights (suc h) in
    let pow = pow-suc 8 h in
    let place : mid * 8 ^ suc h / 8 ^ suc h ≡ mid = same_node (suc h) mid in
    let below : from / 8 ^ suc h < mid + 1 = (div-lt_iff_lt-mul {k = 8 ^ suc h} {x = from} {y = mid + 1} some).1 (omega arith) in
    let above = at_least (suc h) mid leaf second in
    let wide : 8 * mid * 8 ^ h ≡ mid * 8 ^ suc h = eight_times h mid in
    let here = meeting_joined (nodes_at levels (suc h)) rect (from / 8 ^ suc h) mid (leaf / 8 ^ suc h + 1) (omega arith) (omega arith) in
    let lower = until_found levels rect h from (8 * mid) leaf (omega arith) (omega arith) in
    let lower' = ap (λ (k : ℕ). nodes_up_to levels rect h k leaf) wide in
    let here' = ap (λ (k : ℕ). meeting_between (nodes_at levels (suc h)) rect k (leaf / 8 ^ suc h + 1)) place in
    omega (arith, here, lower, lower', here')

-- a node that meets the rectangle counts, and so do those below it up to the leaf
child_steps : (levels : List (List Rect)) (rect : Rect) (h c leaf : ℕ) (d : Rect) → c < length (nodes_at levels (h + 1)) → overlaps (get_or (nodes_at levels (h + 1)) c d) rect ≡ true → c * 8 ^ (h + 1) ≤ leaf
    → 1 + nodes_up_to levels rect h (8 * c * 8 ^ h) leaf ≤ nodes_up_to levels rect (h + 1) (c * 8 ^ (h + 1)) leaf
unfolding nodes_up_to
child_steps levels rect h c leaf d lt meets le =
    let next : h + 1 ≡ suc h = omega arith in
    let one = meeting_one (nodes_at levels (h + 1)) rect c d lt meets in
    let one' = ap (λ (k : ℕ). meeting_between (nodes_at levels k) rect c (c + 1)) next in
    let place : c * 8 ^ suc h / 8 ^ suc h ≡ c = same_node (suc h) c in
    let above = at_least (suc h) c leaf (subst (λ (k : ℕ). c * 8 ^ k ≤ leaf) next le) in
    let joined = meeting_joined (nodes_at levels (suc h)) rect c (c + 1) (leaf / 8 ^ suc h + 1) (omega arith) (omega arith) in
    let place' = ap (λ (k : ℕ). meeting_between (nodes_at levels (suc h)) rect k (leaf / 8 ^ suc h + 1)) place in
    let wide = ap (λ (k : ℕ). nodes_up_to levels rect h k leaf) (eight_times h c) in
    let is : nodes_up_to levels rect (h + 1) (c * 8 ^ (h + 1)) leaf ≡ nodes_up_to levels rect (suc h) (c * 8 ^ suc h) leaf = ap (λ (k : ℕ). nodes_up_to levels rect k (c * 8 ^ k) leaf) next in
    omega (arith, one, one', joined, place', wide, is)

pub child_found : (levels : List (List Rect)) (rect : Rect) (h c : ℕ) (d : Rect) (r : Option ℕ) (high old new : ℕ) → c < length (nodes_at levels (h + 1)) → overlaps (get_or (nodes_at levels (h + 1)) c d) rect ≡ true
    → r ≡ first_between (lowest levels) rect (8 * c * 8 ^ h) high → IfSome r (λ leaf. new ≤ old + 1 + nodes_up_to levels rect h (8 * c * 8 ^ h) leaf) → IfSome r (λ leaf. new ≤ old + nodes_up_to levels rect (h + 1) (c * 8 ^ (h + 1)) leaf)
child_found levels rect h c d None high old new lt meets is few = tt
child_found levels rect h c d (Some leaf) high old new lt meets is few =
    let next : suc h ≡ h + 1 = omega arith in
    let wide : 8 * c * 8 ^ h ≡ c * 8 ^ (h + 1) = eight_times h c ∙ ap (λ (k : ℕ). c * 8 ^ k) next in
    let from = found_from (lowest levels) rect (8 * c * 8 ^ h) high leaf is in
    let steps = child_steps levels rect h c leaf d lt meets (omega arith) in
    omega (arith, steps, few)

-- a leaf that meets the rectangle is one node
pub leaf_steps : (levels : List (List Rect)) (rect : Rect) (c : ℕ) (d : Rect) → c < length (nodes_at levels 0) → overlaps (get_or (nodes_at levels 0) c d) rect ≡ true → 1 ≡ nodes_up_to levels rect 0 (c * 8 ^ 0) c
unfolding nodes_up_to
leaf_steps levels rect c d lt meets =
    let start : c * 8 ^ 0 ≡ c = omega arith in
    sym (ap (λ (k : ℕ). meeting_between (nodes_at levels 0) rect k (c + 1)) start ∙ meeting_one (nodes_at levels 0) rect c d lt meets)

-- what is found below one of the nodes of a height
pub among_found_steps : (levels : List (List Rect)) (rect : Rect) (h from place high : ℕ) (r : Option ℕ) (old before new : ℕ) → from ≤ place → before ≤ old + nodes_until levels rect h (from * 8 ^ h) place
    → r ≡ first_between (lowest levels) rect (place * 8 ^ h) high → IfSome r (λ leaf. new ≤ before + nodes_up_to levels rect h (place * 8 ^ h) leaf) → IfSome r (λ leaf. new ≤ old + nodes_up_to levels rect h (from * 8 ^ h) leaf)
among_found_steps levels rect h from place high None old before new start steps is few = tt
among_found_steps levels rect h from place high (Some leaf) old before new start steps is few =
    let joined = until_found levels rect h (from * 8 ^ h) place leaf (scaled h from place start) (found_from (lowest levels) rect (place * 8 ^ h) high leaf is) in
    omega (arith, joined, steps, few)

-- ---- the climb

climb_steps : (levels : List (List Rect)) (rect : Rect) (from h place leaf : ℕ) → place ≡ from / 8 ^ h → (place + 1) * 8 ^ h ≤ leaf
    → meeting_between (nodes_at levels (h + 1)) rect (place / 8) (place / 8 + 1) + (nodes_until levels rect h from (place + 1) + nodes_up_to levels rect h ((place + 1) * 8 ^ h) leaf) ≤ nodes_up_to levels rect (h + 1) from leaf
unfolding nodes_up_to
climb_steps levels rect from h place leaf here le =
    let next : h + 1 ≡ suc h = omega arith in
    let parent : from / 8 ^ suc h ≡ place / 8 = eighths from h ∙ sym (ap (λ (n : ℕ). n / 8) here) in
    let above : place + 1 ≤ leaf / 8 ^ h = at_least h (place + 1) leaf le in
    let above' = eighths leaf h in
    let joined = meeting_joined (nodes_at levels (suc h)) rect (place / 8) (place / 8 + 1) (leaf / 8 ^ suc h + 1) (omega arith) (omega arith) in
    let own = ap (λ (k : ℕ). meeting_between (nodes_at levels (suc h)) rect k (leaf / 8 ^ suc h + 1)) parent in
    let same = ap (λ (k : ℕ). meeting_between (nodes_at levels k) rect (place / 8) (place / 8 + 1)) next in
    let lower = until_found levels rect h from (place + 1) leaf (climbed from h place here) le in
    let is : nodes_up_to levels rect (h + 1) from leaf ≡ nodes_up_to levels rect (suc h) from leaf = ap (λ (k : ℕ). nodes_up_to levels rect k from leaf) next in
    omega (arith, joined, own, same, lower, is)

module _ (levels : List (List Rect)) (rect : Rect) (from leaf : ℕ) where
  met : ℕ → ℕ
  met h = meeting_between (nodes_at levels h) rect (from / 8 ^ h) (leaf / 8 ^ h + 1)

  met_below : ℕ → ℕ
  met_below n = sum (map met (range_with_len 0 n))

  met_more : (n : ℕ) → met_below (n + 1) ≡ met_below n + met n
  unfolding met_below
  met_more n = sum_by-map-range_with_len_more (λ x. x) met 0 n n (omega arith)

  met_rises : (m k : ℕ) → met_below m ≤ met_below (m + k)
  met_rises m zero = omega (arith, ap met_below (add-zero m))
  met_rises m (suc k) =
      let e : m + suc k ≡ m + k + 1 = omega arith in
      omega (arith, met_rises m k, ap met_below e, met_more (m + k))

  up_to_met : (h : ℕ) → nodes_up_to levels rect h from leaf ≤ met_below (h + 1)
  unfolding nodes_up_to met
  up_to_met zero =
      let low : from / 8 ^ 0 ≡ from = omega arith in
      let high : leaf / 8 ^ 0 ≡ leaf = omega arith in
      let same = ap (λ (k : ℕ). meeting_between (nodes_at levels 0) rect k (leaf / 8 ^ 0 + 1)) low ∙ ap (λ (k : ℕ). meeting_between (nodes_at levels 0) rect from (k + 1)) high in
      omega (arith, same, met_more 0)
  up_to_met (suc h) =
      let next : suc h ≡ h + 1 = omega arith in
      omega (arith, up_to_met h, met_more (suc h), ap met_below next)

  -- the nodes of some levels are among those of all
  pub up_to_all : (h : ℕ) → h < length levels → nodes_up_to levels rect h from leaf ≤ nodes_between levels rect from leaf
  unfolding nodes_between met_below met meeting_between
  up_to_all h low =
      let e : h + 1 + (length levels - (h + 1)) ≡ length levels = omega arith in
      let most = up_to_met h in
      let rises = met_rises (h + 1) (length levels - (h + 1)) in
      let end = ap met_below e in
      le_trans most (subst (λ (n : ℕ). met_below (h + 1) ≤ n) end rises)

-- the leaf that is asked first
pub first_steps : (levels : List (List Rect)) (rect : Rect) (from : ℕ) (d : Rect) → from < length (nodes_at levels 0) → 0 < length levels → overlaps (get_or (nodes_at levels 0) from d) rect ≡ true → 1 ≤ nodes_between levels rect from from
first_steps levels rect from d lt low meets =
    let whole : from * 8 ^ 0 ≡ from = omega arith in
    let one = leaf_steps levels rect from d lt meets ∙ ap (λ (k : ℕ). nodes_up_to levels rect 0 k from) whole in
    omega (arith, one, up_to_all levels rect from from 0 low)

-- what is found beside a node that was climbed from
pub climb_found_steps : (levels : List (List Rect)) (rect : Rect) (from h place high : ℕ) (r : Option ℕ) (old before new : ℕ) → place ≡ from / 8 ^ h → h + 1 < length levels → before ≤ old + nodes_until levels rect h from (place + 1)
    → r ≡ first_between (lowest levels) rect ((place + 1) * 8 ^ h) high
    → IfSome r (λ leaf. new ≤ before + (meeting_between (nodes_at levels (h + 1)) rect (place / 8) (place / 8 + 1) + nodes_up_to levels rect h ((place + 1) * 8 ^ h) leaf)) → IfSome r (λ leaf. new ≤ old + nodes_between levels rect from leaf)
climb_found_steps levels rect from h place high None old before new here low steps is few = tt
climb_found_steps levels rect from h place high (Some leaf) old before new here low steps is few =
    let climb = climb_steps levels rect from h place leaf here (found_from (lowest levels) rect ((place + 1) * 8 ^ h) high leaf is) in
    let all = up_to_all levels rect from leaf (h + 1) low in
    omega (arith, climb, all, steps, few)

-- the parent of nodes counts too
pub with_parent : (levels : List (List Rect)) (rect : Rect) (h from : ℕ) (r : Option ℕ) (old mid new count : ℕ) → count ≡ 1 → mid ≡ old + 1 → IfSome r (λ leaf. new ≤ mid + nodes_up_to levels rect h from leaf)
    → IfSome r (λ leaf. new ≤ old + (count + nodes_up_to levels rect h from leaf))
with_parent levels rect h from None old mid new count one tick few = tt
with_parent levels rect h from (Some leaf) old mid new count one tick few = omega (arith, one, tick, few)

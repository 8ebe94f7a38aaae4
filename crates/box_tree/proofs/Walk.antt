-- What a walk through the levels finds and counts.
use Rattle.std.proofs.Common.{◌≡◌, ℕ, zero, suc, ◌+◌, ◌-◌, ◌*◌, ◌/◌, ◌^◌, ◌<◌, ◌≤◌, true, false, List, [], ◌∷◌, length, get_or, drop, map, sum, count_by, Option, None, refl, sym, ap, subst, ◌∙◌, arith, Some, min, inl, inr, add-zero, le_trans, mul-le-mul_right}
use Rattle.std.specs.Option.{is_some}
use Rattle.std.proofs.lemmas.Bool.{cases_lt}
use Rattle.std.specs.List.{range_with_len}
use Rattle.std.proofs.lemmas.List.FromFn.{sum_by-map-range_with_len_more}
use Rattle.std.proofs.Math.Nat.{pow-suc, div-div-eq-div-mul, div-lt_iff_lt-mul, le-div_iff_mul-le}
use Rattle.live_model.specs.declared.points.Rect.{Rect}
use Rattle.live_model.specs.Points.{overlaps}
use Rattle.box_tree.specs.Trees.{Holds, level_above, levels_of, lowest}
use Rattle.box_tree.specs.Search.{first_meeting, nodes_meeting}
use Rattle.box_tree.specs.Walk.{nodes_at, first_between, meeting_between, nodes_until}
use Rattle.box_tree.proofs.Levels.{length_above, stacked, root_alone}
use Rattle.box_tree.proofs.Boxes.{holds_self, holds_on, parent_holds, holds_apart}
use Rattle.box_tree.proofs.Parts.{none_between, one_between, between_whole, joined_none, joined_some, is_none_of, meeting_joined, meeting_one, meeting_front}

pub some_eights : (h : ℕ) → 0 < 8 ^ h
some_eights zero = omega arith
some_eights (suc h) = omega (arith, some_eights h, pow-suc 8 h)

pub lowest_at : (levels : List (List Rect)) → get_or levels 0 [] ≡ lowest levels
lowest_at [] = refl
lowest_at (level ∷ levels) = refl

pub eighths : (i h : ℕ) → i / 8 ^ suc h ≡ i / 8 ^ h / 8
eighths i h = ap (λ (n : ℕ). i / n) (pow-suc 8 h) ∙ sym (div-div-eq-div-mul i (8 ^ h) 8)

-- the node that a leaf is below
pub above_leaf : (levels : List (List Rect)) (h i : ℕ) (d : Rect) → levels ≡ levels_of (lowest levels) → h < length levels → i < length (lowest levels) → (i / 8 ^ h < length (nodes_at levels h)) × Holds (get_or (nodes_at levels h) (i / 8 ^ h) d) (get_or (lowest levels) i d)
above_leaf levels zero i d tree low lt =
    let is : nodes_at levels 0 ≡ lowest levels = lowest_at levels in
    let whole : i / 8 ^ 0 ≡ i = omega arith in
    let P : List Rect → ℕ → Type 0 = λ boxes k. (k < length boxes) × Holds (get_or boxes k d) (get_or (lowest levels) i d) in
    subst (λ (boxes : List Rect). P boxes (i / 8 ^ 0)) (sym is) (subst (λ (k : ℕ). P (lowest levels) k) (sym whole) (lt, holds_self (get_or (lowest levels) i d)))
above_leaf levels (suc h) i d tree low lt =
    let before = above_leaf levels h i d tree (omega arith) lt in
    let next : suc h ≡ h + 1 = omega arith in
    let is : nodes_at levels (suc h) ≡ level_above (nodes_at levels h) = ap (λ (k : ℕ). get_or levels k []) next ∙ stacked levels h tree (omega arith) in
    let place = eighths i h in
    let long = length_above (nodes_at levels h) in
    let P : List Rect → ℕ → Type 0 = λ boxes k. (k < length boxes) × Holds (get_or boxes k d) (get_or (lowest levels) i d) in
    let held = holds_on (get_or (level_above (nodes_at levels h)) (i / 8 ^ h / 8) d) (get_or (nodes_at levels h) (i / 8 ^ h) d) (get_or (lowest levels) i d) (parent_holds (nodes_at levels h) (i / 8 ^ h) d before.0) before.1 in
    let inside : i / 8 ^ h / 8 < length (level_above (nodes_at levels h)) = omega (arith, before.0) in
    subst (λ (boxes : List Rect). P boxes (i / 8 ^ suc h)) (sym is) (subst (λ (k : ℕ). P (level_above (nodes_at levels h)) k) (sym place) (inside, held))

-- the leaves below a node
pub below_node : (h c i : ℕ) → c * 8 ^ h ≤ i → i < (c + 1) * 8 ^ h → i / 8 ^ h ≡ c
below_node h c i low high =
    let some = some_eights h in
    let at_least : c ≤ i / 8 ^ h = (le-div_iff_mul-le {k = 8 ^ h} {x = c} {y = i} some).1 low in
    let at_most : i / 8 ^ h < c + 1 = (div-lt_iff_lt-mul {k = 8 ^ h} {x = i} {y = c + 1} some).1 high in
    omega arith

-- below a node that does not meet the rectangle no leaf meets it
pub apart_below : (levels : List (List Rect)) (rect : Rect) (h c : ℕ) → levels ≡ levels_of (lowest levels) → h < length levels → ((d : Rect) → overlaps (get_or (nodes_at levels h) c d) rect ≡ false) → (i : ℕ) (d : Rect) → c * 8 ^ h ≤ i → i < (c + 1) * 8 ^ h → i < length (lowest levels) → overlaps (get_or (lowest levels) i d) rect ≡ false
apart_below levels rect h c tree low apart i d from to lt =
    let place = below_node h c i from to in
    let held = (above_leaf levels h i d tree low lt).1 in
    holds_apart (get_or (nodes_at levels h) c d) (get_or (lowest levels) i d) rect (subst (λ (k : ℕ). Holds (get_or (nodes_at levels h) k d) (get_or (lowest levels) i d)) place held) (apart d)

-- the nodes of a height hold all leaves
pub all_below : (levels : List (List Rect)) (h i : ℕ) → levels ≡ levels_of (lowest levels) → h < length levels → i < length (lowest levels) → i < length (nodes_at levels h) * 8 ^ h
all_below levels h i tree low lt =
    let d : Rect = record { left = 0; top = 0; right = 0; bottom = 0 } in
    (div-lt_iff_lt-mul {k = 8 ^ h} {x = i} {y = length (nodes_at levels h)} (some_eights h)).0 (above_leaf levels h i d tree low lt).0

pub same_node : (h c : ℕ) → c * 8 ^ h / 8 ^ h ≡ c
same_node h c = below_node h c (c * 8 ^ h) (omega arith) (omega (arith, some_eights h))

pub eight_times : (h c : ℕ) → 8 * c * 8 ^ h ≡ c * 8 ^ suc h
eight_times h c = omega (arith, ap (λ (n : ℕ). c * n) (pow-suc 8 h))

-- ---- counts

pub until_joined : (levels : List (List Rect)) (rect : Rect) (h from mid to : ℕ) → from ≤ mid * 8 ^ h → mid ≤ to → nodes_until levels rect h from to ≡ nodes_until levels rect h from mid + nodes_until levels rect h (mid * 8 ^ h) to
unfolding nodes_until
until_joined levels rect zero from mid to first second =
    let whole : mid * 8 ^ 0 ≡ mid = omega arith in
    meeting_joined (nodes_at levels 0) rect from mid to (omega arith) second
    ∙ ap (λ (k : ℕ). meeting_between (nodes_at levels 0) rect from mid + meeting_between (nodes_at levels 0) rect k to) (sym whole)
until_joined levels rect (suc h) from mid to first second =
    let some = some_eights (suc h) in
    let pow = pow-suc 8 h in
    let place : mid * 8 ^ suc h / 8 ^ suc h ≡ mid = same_node (suc h) mid in
    let below : from / 8 ^ suc h < mid + 1 = (div-lt_iff_lt-mul {k = 8 ^ suc h} {x = from} {y = mid + 1} some).1 (omega arith) in
    let wide : 8 * mid * 8 ^ h ≡ mid * 8 ^ suc h = omega (arith, ap (λ (n : ℕ). mid * n) pow) in
    let here = meeting_joined (nodes_at levels (suc h)) rect (from / 8 ^ suc h) mid to (omega arith) second in
    let lower = until_joined levels rect h from (8 * mid) (8 * to) (omega arith) (omega arith) in
    let lower' = ap (λ (k : ℕ). nodes_until levels rect h k (8 * to)) wide in
    let here' = ap (λ (k : ℕ). meeting_between (nodes_at levels (suc h)) rect k to) place in
    omega (arith, here, lower, lower', here')

-- the nodes that are counted up to a height are among all
module _ (levels : List (List Rect)) (rect : Rect) (from : ℕ) where
  met : ℕ → ℕ
  met h = count_by (λ box. overlaps box rect) (drop (from / 8 ^ h) (get_or levels h []))

  met_below : ℕ → ℕ
  met_below n = sum (map met (range_with_len 0 n))

  met_more : (n : ℕ) → met_below (n + 1) ≡ met_below n + met n
  unfolding met_below
  met_more n = sum_by-map-range_with_len_more (λ x. x) met 0 n n (omega arith)

  met_rises : (m k : ℕ) → met_below m ≤ met_below (m + k)
  met_rises m zero = omega (arith, ap met_below (add-zero m))
  met_rises m (suc k) =
      let e : m + suc k ≡ m + k + 1 = omega arith in
      omega (arith, met_rises m k, ap met_below e, met_more (m + k))

  until_met : (h to : ℕ) → nodes_until levels rect h from to ≤ met_below (h + 1)
  unfolding nodes_until met
  until_met zero to =
      let whole : from / 8 ^ 0 ≡ from = omega arith in
      let front = meeting_front (nodes_at levels 0) rect from to in
      let same = ap (λ (k : ℕ). count_by (λ box. overlaps box rect) (drop k (get_or levels 0 []))) whole in
      omega (arith, front, same, met_more 0)
  until_met (suc h) to =
      let front = meeting_front (nodes_at levels (suc h)) rect (from / 8 ^ suc h) to in
      let next : suc h ≡ h + 1 = omega arith in
      omega (arith, front, until_met h (8 * to), met_more (suc h), ap met_below next)

  pub until_front : (h to : ℕ) → h < length levels → nodes_until levels rect h from to ≤ nodes_meeting levels rect from
  unfolding nodes_meeting met_below met
  until_front h to low =
      let e : h + 1 + (length levels - (h + 1)) ≡ length levels = omega arith in
      let most = until_met h to in
      let rises = met_rises (h + 1) (length levels - (h + 1)) in
      let end = ap met_below e in
      le_trans most (subst (λ (n : ℕ). met_below (h + 1) ≤ n) end rises)

-- ---- below one node

pub below_apart : (levels : List (List Rect)) (rect : Rect) (h c : ℕ) → levels ≡ levels_of (lowest levels) → h < length levels → ((d : Rect) → overlaps (get_or (nodes_at levels h) c d) rect ≡ false) → None ≡ first_between (lowest levels) rect (c * 8 ^ h) ((c + 1) * 8 ^ h)
below_apart levels rect h c tree low apart =
    none_between (lowest levels) rect (c * 8 ^ h) ((c + 1) * 8 ^ h) (omega arith) (apart_below levels rect h c tree low apart)

pub below_leaf : (levels : List (List Rect)) (rect : Rect) (c : ℕ) (d : Rect) → c < length (nodes_at levels 0) → overlaps (get_or (nodes_at levels 0) c d) rect ≡ true → (Some c ≡ first_between (lowest levels) rect (c * 8 ^ 0) ((c + 1) * 8 ^ 0)) × (1 ≡ nodes_until levels rect 0 (c * 8 ^ 0) (c + 1))
unfolding nodes_until
below_leaf levels rect c d lt meets =
    let is = lowest_at levels in
    let start : c * 8 ^ 0 ≡ c = omega arith in
    let end : (c + 1) * 8 ^ 0 ≡ c + 1 = omega arith in (
      one_between (nodes_at levels 0) rect c d lt meets
          ∙ ap (λ (boxes : List Rect). first_between boxes rect c (c + 1)) is
          ∙ sym (ap (λ (k : ℕ). first_between (lowest levels) rect k ((c + 1) * 8 ^ 0)) start ∙ ap (λ (k : ℕ). first_between (lowest levels) rect c k) end),
      sym (ap (λ (k : ℕ). meeting_between (nodes_at levels 0) rect k (c + 1)) start ∙ meeting_one (nodes_at levels 0) rect c d lt meets),
    )

-- a node that meets the rectangle counts, and so do those below it
pub below_node_steps : (levels : List (List Rect)) (rect : Rect) (h c : ℕ) (d : Rect) → c < length (nodes_at levels (h + 1)) → overlaps (get_or (nodes_at levels (h + 1)) c d) rect ≡ true → nodes_until levels rect (h + 1) (c * 8 ^ (h + 1)) (c + 1) ≡ 1 + nodes_until levels rect h (8 * c * 8 ^ h) (8 * (c + 1))
unfolding nodes_until
below_node_steps levels rect h c d lt meets =
    let next : h + 1 ≡ suc h = omega arith in
    let one = meeting_one (nodes_at levels (h + 1)) rect c d lt meets in
    let one' = ap (λ (k : ℕ). meeting_between (nodes_at levels k) rect c (c + 1)) next in
    let place : c * 8 ^ suc h / 8 ^ suc h ≡ c = same_node (suc h) c in
    let place' = ap (λ (k : ℕ). meeting_between (nodes_at levels (suc h)) rect k (c + 1)) place in
    let wide = ap (λ (k : ℕ). nodes_until levels rect h k (8 * (c + 1))) (eight_times h c) in
    let is : nodes_until levels rect (h + 1) (c * 8 ^ (h + 1)) (c + 1) ≡ nodes_until levels rect (suc h) (c * 8 ^ suc h) (c + 1) = ap (λ (k : ℕ). nodes_until levels rect k (c * 8 ^ k) (c + 1)) next in
    omega (arith, one, one', place', wide, is)

pub below_children : (leaves : List Rect) (rect : Rect) (h c : ℕ) (r : Option ℕ) → r ≡ first_between leaves rect (8 * c * 8 ^ h) (8 * (c + 1) * 8 ^ h) → r ≡ first_between leaves rect (c * 8 ^ (h + 1)) ((c + 1) * 8 ^ (h + 1))
below_children leaves rect h c r is =
    let next : suc h ≡ h + 1 = omega arith in
    is
    ∙ ap (λ (k : ℕ). first_between leaves rect k (8 * (c + 1) * 8 ^ h)) (eight_times h c ∙ ap (λ (k : ℕ). c * 8 ^ k) next)
    ∙ ap (λ (k : ℕ). first_between leaves rect (c * 8 ^ (h + 1)) k) (eight_times h (c + 1) ∙ ap (λ (k : ℕ). (c + 1) * 8 ^ k) next)

-- ---- among the nodes of a height

pub scaled : (h a b : ℕ) → a ≤ b → a * 8 ^ h ≤ b * 8 ^ h
scaled h a b le = mul-le-mul_right (8 ^ h) le

-- nothing lies before the first node
pub among_start : (leaves : List Rect) (rect : Rect) (low : ℕ) → None ≡ first_between leaves rect low low
among_start leaves rect low = none_between leaves rect low low (omega arith) (λ i d from to lt. absurd (omega arith))

-- what is found below the next node is found from the start
pub among_found : (leaves : List Rect) (rect : Rect) (h from place to : ℕ) (r : Option ℕ) → from ≤ place → place < to → None ≡ first_between leaves rect (from * 8 ^ h) (place * 8 ^ h) → is_some r ≡ true → r ≡ first_between leaves rect (place * 8 ^ h) ((place + 1) * 8 ^ h) → r ≡ first_between leaves rect (from * 8 ^ h) (to * 8 ^ h)
among_found leaves rect h from place to r start end none some is =
    joined_some leaves rect (from * 8 ^ h) ((place + 1) * 8 ^ h) (to * 8 ^ h) r (scaled h from (place + 1) (omega arith)) (scaled h (place + 1) to (omega arith)) some
    (joined_none leaves rect (from * 8 ^ h) (place * 8 ^ h) ((place + 1) * 8 ^ h) r (scaled h from place start) (scaled h place (place + 1) (omega arith)) none is)

pub among_more : (leaves : List Rect) (rect : Rect) (h from place : ℕ) (r : Option ℕ) → from ≤ place → None ≡ first_between leaves rect (from * 8 ^ h) (place * 8 ^ h) → is_some r ≡ false → r ≡ first_between leaves rect (place * 8 ^ h) ((place + 1) * 8 ^ h) → None ≡ first_between leaves rect (from * 8 ^ h) ((place + 1) * 8 ^ h)
among_more leaves rect h from place r start none over is =
    joined_none leaves rect (from * 8 ^ h) (place * 8 ^ h) ((place + 1) * 8 ^ h) None (scaled h from place start) (scaled h place (place + 1) (omega arith)) none (is_none_of r over ∙ is)

-- behind the last node there is no leaf
pub among_end : (levels : List (List Rect)) (rect : Rect) (h from place to : ℕ) → levels ≡ levels_of (lowest levels) → h < length levels → from ≤ place → place ≤ to → min to (length (nodes_at levels h)) ≤ place → None ≡ first_between (lowest levels) rect (from * 8 ^ h) (place * 8 ^ h) → None ≡ first_between (lowest levels) rect (from * 8 ^ h) (to * 8 ^ h)
among_end levels rect h from place to tree low start inside past none =
    joined_none (lowest levels) rect (from * 8 ^ h) (place * 8 ^ h) (to * 8 ^ h) None (scaled h from place start) (scaled h place to inside) none
    (none_between (lowest levels) rect (place * 8 ^ h) (to * 8 ^ h) (scaled h place to inside) (λ i d least most lt.
    let all = all_below levels h i tree low lt in
    absurd (elim (cases_lt place to) [
      | inl less ↦ let last = scaled h (length (nodes_at levels h)) place (omega arith) in omega (arith, all, last)
      | inr more ↦ let last = scaled h to place more in omega (arith, last)
    ])))

pub among_steps : (levels : List (List Rect)) (rect : Rect) (h from place : ℕ) → from ≤ place → nodes_until levels rect h (from * 8 ^ h) (place + 1) ≡ nodes_until levels rect h (from * 8 ^ h) place + nodes_until levels rect h (place * 8 ^ h) (place + 1)
among_steps levels rect h from place le = until_joined levels rect h (from * 8 ^ h) place (place + 1) (scaled h from place le) (omega arith)

pub among_rises : (levels : List (List Rect)) (rect : Rect) (h from place to : ℕ) → from ≤ place → place ≤ to → nodes_until levels rect h (from * 8 ^ h) place ≤ nodes_until levels rect h (from * 8 ^ h) to
among_rises levels rect h from place to start le =
    let joined = until_joined levels rect h (from * 8 ^ h) place to (scaled h from place start) le in
    omega (arith, joined)

-- ---- beside a node

pub parent_within : (levels : List (List Rect)) (h place : ℕ) → levels ≡ levels_of (lowest levels) → h + 1 < length levels → place < length (nodes_at levels h) → place / 8 < length (nodes_at levels (h + 1))
parent_within levels h place tree low lt =
    let is : nodes_at levels (h + 1) ≡ level_above (nodes_at levels h) = stacked levels h tree low in
    omega (arith, ap length is, length_above (nodes_at levels h))

high_eights : (h c : ℕ) → c * 8 ^ (h + 1) ≡ 8 * c * 8 ^ h
high_eights h c =
    let next : h + 1 ≡ suc h = omega arith in
    ap (λ (k : ℕ). c * 8 ^ k) next ∙ sym (eight_times h c)

within_parent : (h place : ℕ) → (place + 1) * 8 ^ h ≤ (place / 8 + 1) * 8 ^ (h + 1)
within_parent h place = omega (arith, high_eights h (place / 8 + 1), scaled h (place + 1) (8 * (place / 8 + 1)) (omega arith))

from_parent : (h place : ℕ) → place / 8 * 8 ^ (h + 1) ≤ (place + 1) * 8 ^ h
from_parent h place = omega (arith, high_eights h (place / 8), scaled h (8 * (place / 8)) (place + 1) (omega arith))

pub beside_apart : (levels : List (List Rect)) (rect : Rect) (h place : ℕ) → levels ≡ levels_of (lowest levels) → h + 1 < length levels → ((d : Rect) → overlaps (get_or (nodes_at levels (h + 1)) (place / 8) d) rect ≡ false) → None ≡ first_between (lowest levels) rect ((place + 1) * 8 ^ h) ((place / 8 + 1) * 8 ^ (h + 1))
beside_apart levels rect h place tree low apart =
    let start = from_parent h place in
    none_between (lowest levels) rect ((place + 1) * 8 ^ h) ((place / 8 + 1) * 8 ^ (h + 1)) (within_parent h place) (λ i d from to lt.
    apart_below levels rect (h + 1) (place / 8) tree low apart i d (omega arith) to lt)

pub beside_children : (leaves : List Rect) (rect : Rect) (h place : ℕ) (r : Option ℕ) → r ≡ first_between leaves rect ((place + 1) * 8 ^ h) (8 * (place / 8 + 1) * 8 ^ h) → r ≡ first_between leaves rect ((place + 1) * 8 ^ h) ((place / 8 + 1) * 8 ^ (h + 1))
beside_children leaves rect h place r is = is ∙ ap (λ (k : ℕ). first_between leaves rect ((place + 1) * 8 ^ h) k) (sym (high_eights h (place / 8 + 1)))

-- ---- the climb from a leaf

pub climb_start : (levels : List (List Rect)) (rect : Rect) (from : ℕ) → ((d : Rect) → overlaps (get_or (nodes_at levels 0) from d) rect ≡ false) → None ≡ first_between (lowest levels) rect from ((from + 1) * 8 ^ 0)
climb_start levels rect from apart =
    let is = lowest_at levels in
    none_between (lowest levels) rect from ((from + 1) * 8 ^ 0) (omega arith) (λ i d low high lt.
    let same : i ≡ from = omega arith in
    ap (λ (boxes : List Rect). overlaps (get_or boxes i d) rect) (sym is) ∙ ap (λ (k : ℕ). overlaps (get_or (nodes_at levels 0) k d) rect) same ∙ apart d)

pub climb_leaf : (levels : List (List Rect)) (rect : Rect) (from : ℕ) (d : Rect) → from < length (nodes_at levels 0) → overlaps (get_or (nodes_at levels 0) from d) rect ≡ true → Some from ≡ first_meeting (lowest levels) rect from
climb_leaf levels rect from d lt meets =
    let leaves : List Rect = lowest levels in
    let is = lowest_at levels in
    let one : Some from ≡ first_between leaves rect from (from + 1) = one_between (nodes_at levels 0) rect from d lt meets ∙ ap (λ (boxes : List Rect). first_between boxes rect from (from + 1)) is in
    let long = ap length is in
    joined_some leaves rect from (from + 1) (length leaves) (Some from) (omega arith) (omega arith) refl one ∙ between_whole leaves rect from (length leaves) (omega arith)

pub climb_leaf_steps : (levels : List (List Rect)) (rect : Rect) (from : ℕ) (d : Rect) → from < length (nodes_at levels 0) → 0 < length levels → overlaps (get_or (nodes_at levels 0) from d) rect ≡ true → 1 ≤ nodes_meeting levels rect from
unfolding nodes_until
climb_leaf_steps levels rect from d lt low meets =
    let one = meeting_one (nodes_at levels 0) rect from d lt meets in
    let front : meeting_between (nodes_at levels 0) rect from (from + 1) ≤ nodes_meeting levels rect from = until_front levels rect from 0 (from + 1) low in
    omega (arith, one, front)

-- where the climb comes from
pub climbed : (from h place : ℕ) → place ≡ from / 8 ^ h → from ≤ (place + 1) * 8 ^ h
climbed from h place here =
    let below : from < (place + 1) * 8 ^ h = (div-lt_iff_lt-mul {k = 8 ^ h} {x = from} {y = place + 1} (some_eights h)).0 (omega arith) in
    omega arith

pub climb_more : (leaves : List Rect) (rect : Rect) (from h place : ℕ) (r : Option ℕ) → place ≡ from / 8 ^ h → None ≡ first_between leaves rect from ((place + 1) * 8 ^ h) → r ≡ first_between leaves rect ((place + 1) * 8 ^ h) ((place / 8 + 1) * 8 ^ (h + 1)) → r ≡ first_between leaves rect from ((place / 8 + 1) * 8 ^ (h + 1))
climb_more leaves rect from h place r here none is =
    joined_none leaves rect from ((place + 1) * 8 ^ h) ((place / 8 + 1) * 8 ^ (h + 1)) r (climbed from h place here) (within_parent h place) none is

pub climb_found : (leaves : List Rect) (rect : Rect) (from high : ℕ) (r : Option ℕ) → from ≤ high → is_some r ≡ true → r ≡ first_between leaves rect from high → r ≡ first_meeting leaves rect from
climb_found leaves rect from high r le some is =
    joined_some leaves rect from high (high + length leaves) r le (omega arith) some is ∙ between_whole leaves rect from (high + length leaves) (omega arith)

pub climb_high : (from h place : ℕ) → place ≡ from / 8 ^ h → from ≤ (place / 8 + 1) * 8 ^ (h + 1)
climb_high from h place here = omega (arith, climbed from h place here, within_parent h place)

pub climb_here : (from h place : ℕ) → place ≡ from / 8 ^ h → place / 8 ≡ from / 8 ^ (h + 1)
climb_here from h place here =
    let next : suc h ≡ h + 1 = omega arith in
    ap (λ (n : ℕ). n / 8) here ∙ sym (eighths from h) ∙ ap (λ (k : ℕ). from / 8 ^ k) next

-- the steps up to a node, and those beside it
pub climb_steps : (levels : List (List Rect)) (rect : Rect) (from h place : ℕ) → place ≡ from / 8 ^ h → nodes_until levels rect (h + 1) from (place / 8 + 1) ≡ meeting_between (nodes_at levels (h + 1)) rect (place / 8) (place / 8 + 1) + (nodes_until levels rect h from (place + 1) + nodes_until levels rect h ((place + 1) * 8 ^ h) (8 * (place / 8 + 1)))
unfolding nodes_until
climb_steps levels rect from h place here =
    let next : h + 1 ≡ suc h = omega arith in
    let is : nodes_until levels rect (h + 1) from (place / 8 + 1) ≡ nodes_until levels rect (suc h) from (place / 8 + 1) = ap (λ (k : ℕ). nodes_until levels rect k from (place / 8 + 1)) next in
    let own : meeting_between (nodes_at levels (suc h)) rect (from / 8 ^ suc h) (place / 8 + 1) ≡ meeting_between (nodes_at levels (h + 1)) rect (place / 8) (place / 8 + 1) =
    ap (λ (k : ℕ). meeting_between (nodes_at levels (suc h)) rect k (place / 8 + 1)) (eighths from h ∙ sym (ap (λ (n : ℕ). n / 8) here))
    ∙ ap (λ (k : ℕ). meeting_between (nodes_at levels k) rect (place / 8) (place / 8 + 1)) (sym next) in
    let joined = until_joined levels rect h from (place + 1) (8 * (place / 8 + 1)) (climbed from h place here) (omega arith) in
    omega (arith, is, own, joined)

-- under the root are all leaves
pub climb_end : (levels : List (List Rect)) (rect : Rect) (from h place : ℕ) → levels ≡ levels_of (lowest levels) → from < length (lowest levels) → h < length levels → length levels - 1 ≤ h → None ≡ first_between (lowest levels) rect from ((place + 1) * 8 ^ h) → None ≡ first_meeting (lowest levels) rect from
climb_end levels rect from h place tree some low top none =
    let leaves : List Rect = lowest levels in
    let is : length levels - 1 ≡ h = omega arith in
    let alone = root_alone levels tree (omega arith) in
    let alone' = ap (λ (k : ℕ). length (get_or levels k [])) is in
    let last = all_below levels h (length leaves - 1) tree low (omega arith) in
    let narrow : length (nodes_at levels h) ≤ place + 1 = omega (arith, alone, alone') in
    let wide = scaled h (length (nodes_at levels h)) (place + 1) narrow in
    none ∙ between_whole leaves rect from ((place + 1) * 8 ^ h) (omega (arith, last, wide))

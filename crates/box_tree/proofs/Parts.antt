-- Parts of a list, and what is found or counted in them.
use Rattle.std.proofs.Common.{◌≡◌, ℕ, zero, suc, ◌+◌, ◌-◌, ◌<◌, ◌≤◌, Bool, true, false, cond, List, [], ◌∷◌, ◌++◌, length, get_or, take, drop, Option, Some, None, refl, sym, ap, ◌∙◌, arith, find, count_by}
use Rattle.std.specs.Option.{option_map, option_or, is_some}
use Rattle.std.specs.List.{enumerate_from}
use Rattle.std.proofs.lemmas.List.{get_or-take, get_or-drop, take_all, drop-drop, drop-take, length-take, length-drop}
use Rattle.std.proofs.lemmas.List.Folds.{find-append}
use Rattle.std.proofs.lemmas.List.Sums.{sum_by-append, sum_by-take-drop}
use Rattle.std.proofs.lemmas.List.FromFn.{length-enumerate_from, get_or-enumerate_from}
use Rattle.std.proofs.Math.Seq.{take-add, drop-cons}
use Rattle.live_model.specs.declared.points.Rect.{Rect}
use Rattle.live_model.specs.Points.{overlaps}
use Rattle.box_tree.specs.Search.{first_meeting}
use Rattle.box_tree.specs.Walk.{first_between, meeting_between}

module _ {A : Type 0} where
  -- the part of a list from one place up to another
  abbrev part : List A → ℕ → ℕ → List A
  part xs low high = take (high - low) (drop low xs)

  part_joined : (xs : List A) (low mid high : ℕ) → low ≤ mid → mid ≤ high → part xs low high ≡ part xs low mid ++ part xs mid high
  part_joined xs low mid high first second =
      let parts : high - low ≡ (mid - low) + (high - mid) = omega arith in
      let there : low + (mid - low) ≡ mid = omega arith in
      ap (λ (k : ℕ). take k (drop low xs)) parts
      ∙ take-add (mid - low) (high - mid) (drop low xs)
      ∙ ap (λ (t : List A). take (mid - low) (drop low xs) ++ take (high - mid) t) (drop-drop (mid - low) low xs ∙ ap (λ (k : ℕ). drop k xs) there)

  part_of_front : (xs : List A) (low high : ℕ) → low ≤ high → drop low (take high xs) ≡ part xs low high
  part_of_front xs low high le =
      let parts : high ≡ low + (high - low) = omega arith in
      ap (λ (k : ℕ). drop low (take k xs)) parts ∙ drop-take low (high - low) xs

  find_none : (p : A → Bool) (xs : List A) → ((k : ℕ) (d : A) → k < length xs → p (get_or xs k d) ≡ false) → find p xs ≡ None
  find_none p [] none = refl
  find_none p (x ∷ xs) none =
      let f : p x ≡ false = none 0 x (omega arith) in
      rw f (find_none p xs (λ k d lt. none (suc k) d (omega arith)))

enumerate_front : (n k : ℕ) (xs : List Rect) → enumerate_from n (take k xs) ≡ take k (enumerate_from n xs)
enumerate_front n zero xs = refl
enumerate_front n (suc k) [] = refl
enumerate_front n (suc k) (x ∷ xs) = ap (λ (ys : List (ℕ × Rect)). (n, x) ∷ ys) (enumerate_front (n + 1) k xs)

-- the place of the first of numbered boxes that meets the rectangle
found : Rect → List (ℕ × Rect) → Option ℕ
found rect xs = option_map (λ leaf. leaf.0) (find (λ leaf. overlaps leaf.1 rect) xs)

found_append : (rect : Rect) (xs ys : List (ℕ × Rect)) → found rect (xs ++ ys) ≡ option_or (found rect xs) (found rect ys)
unfolding found
found_append rect xs ys =
    ap (option_map (λ leaf. leaf.0)) (find-append (λ leaf. overlaps leaf.1 rect) xs ys) ∙ mapped (find (λ leaf. overlaps leaf.1 rect) xs) (find (λ leaf. overlaps leaf.1 rect) ys)
  where
    mapped : (a b : Option (ℕ × Rect)) → option_map (λ (leaf : ℕ × Rect). leaf.0) (option_or a b) ≡ option_or (option_map (λ leaf. leaf.0) a) (option_map (λ leaf. leaf.0) b)
    mapped None b = refl
    mapped (Some x) b = refl

between_is : (leaves : List Rect) (rect : Rect) (low high : ℕ) → low ≤ high → first_between leaves rect low high ≡ found rect (part (enumerate_from 0 leaves) low high)
unfolding first_between found
between_is leaves rect low high le =
    ap (found rect) (ap (drop low) (enumerate_front 0 high leaves) ∙ part_of_front (enumerate_from 0 leaves) low high le)

-- what is found in a part and in the one behind it
pub between_joined : (leaves : List Rect) (rect : Rect) (low mid high : ℕ) → low ≤ mid → mid ≤ high → first_between leaves rect low high ≡ option_or (first_between leaves rect low mid) (first_between leaves rect mid high)
between_joined leaves rect low mid high first second =
    let es : List (ℕ × Rect) = enumerate_from 0 leaves in
    between_is leaves rect low high (omega arith)
    ∙ ap (found rect) (part_joined es low mid high first second)
    ∙ found_append rect (part es low mid) (part es mid high)
    ∙ sym (ap (λ (a : Option ℕ). option_or a (first_between leaves rect mid high)) (between_is leaves rect low mid first) ∙ ap (option_or (found rect (part es low mid))) (between_is leaves rect mid high second))

pub joined_none : (leaves : List Rect) (rect : Rect) (low mid high : ℕ) (r : Option ℕ) → low ≤ mid → mid ≤ high → None ≡ first_between leaves rect low mid → r ≡ first_between leaves rect mid high → r ≡ first_between leaves rect low high
joined_none leaves rect low mid high r first second none is =
    is ∙ sym (between_joined leaves rect low mid high first second ∙ ap (λ (a : Option ℕ). option_or a (first_between leaves rect mid high)) (sym none))

pub joined_some : (leaves : List Rect) (rect : Rect) (low mid high : ℕ) (r : Option ℕ) → low ≤ mid → mid ≤ high → is_some r ≡ true → r ≡ first_between leaves rect low mid → r ≡ first_between leaves rect low high
joined_some leaves rect low mid high None first second some is = absurd cc
joined_some leaves rect low mid high (Some i) first second some is =
    sym (between_joined leaves rect low mid high first second ∙ ap (λ (a : Option ℕ). option_or a (first_between leaves rect mid high)) (sym is))

pub is_none_of : (r : Option ℕ) → is_some r ≡ false → None ≡ r
is_none_of None none = refl
is_none_of (Some i) none = absurd cc

-- nothing is found where no box meets the rectangle
pub none_between : (leaves : List Rect) (rect : Rect) (low high : ℕ) → low ≤ high → ((i : ℕ) (d : Rect) → low ≤ i → i < high → i < length leaves → overlaps (get_or leaves i d) rect ≡ false) → None ≡ first_between leaves rect low high
unfolding found
none_between leaves rect low high le none =
    let es : List (ℕ × Rect) = enumerate_from 0 leaves in
    let long = length-enumerate_from 0 leaves in
    let short = length-take (high - low) (drop low es) in
    let rest = length-drop low es in
    sym (between_is leaves rect low high le ∙ ap (option_map (λ leaf. leaf.0)) (find_none (λ leaf. overlaps leaf.1 rect) (part es low high) (λ k d lt.
    let here : get_or (part es low high) k d ≡ (0 + (low + k), get_or leaves (low + k) d.1) =
    get_or-take (high - low) (drop low es) k d (omega arith) ∙ get_or-drop low es k d ∙ get_or-enumerate_from 0 leaves (low + k) d (omega arith) in
    ap (λ (leaf : ℕ × Rect). overlaps leaf.1 rect) here ∙ none (low + k) d.1 (omega arith) (omega arith) (omega arith))))

-- a box that meets it is found
pub one_between : (leaves : List Rect) (rect : Rect) (i : ℕ) (d : Rect) → i < length leaves → overlaps (get_or leaves i d) rect ≡ true → Some i ≡ first_between leaves rect i (i + 1)
unfolding found
one_between leaves rect i d lt meets =
    let es : List (ℕ × Rect) = enumerate_from 0 leaves in
    let long = length-enumerate_from 0 leaves in
    let one : i + 1 - i ≡ 1 = omega arith in
    let here = get_or-enumerate_from 0 leaves i (i, d) lt in
    let inside : i < length es = omega arith in
    let is : part es i (i + 1) ≡ (0 + i, get_or leaves i d) ∷ [] =
    ap (λ (k : ℕ). take k (drop i es)) one
    ∙ ap (take 1) (drop-cons es i (i, d) inside)
    ∙ ap (λ (e : ℕ × Rect). e ∷ []) here in
    let passes : find (λ (leaf : ℕ × Rect). overlaps leaf.1 rect) ((0 + i, get_or leaves i d) ∷ []) ≡ Some (0 + i, get_or leaves i d) = rw meets refl in
    let same : 0 + i ≡ i = omega arith in
    sym (between_is leaves rect i (i + 1) (omega arith) ∙ ap (found rect) is ∙ ap (option_map (λ leaf. leaf.0)) passes ∙ ap (λ (k : ℕ). Some k) same)

-- the leaves up to their end are all
pub between_whole : (leaves : List Rect) (rect : Rect) (low high : ℕ) → length leaves ≤ high → first_between leaves rect low high ≡ first_meeting leaves rect low
unfolding first_between
between_whole leaves rect low high all = ap (λ (xs : List Rect). first_meeting xs rect low) (take_all high leaves all)

pub none_past : (leaves : List Rect) (rect : Rect) (from : ℕ) → length leaves ≤ from → None ≡ first_meeting leaves rect from
none_past leaves rect from past =
    none_between leaves rect from from (omega arith) (λ i d low high lt. absurd (omega arith)) ∙ between_whole leaves rect from from past

-- ---- counts

pub meeting_joined : (boxes : List Rect) (rect : Rect) (low mid high : ℕ) → low ≤ mid → mid ≤ high → meeting_between boxes rect low high ≡ meeting_between boxes rect low mid + meeting_between boxes rect mid high
unfolding meeting_between
meeting_joined boxes rect low mid high first second =
    ap (count_by (λ box. overlaps box rect)) (part_joined boxes low mid high first second)
    ∙ sum_by-append (λ box. cond (overlaps box rect) 1 0) (part boxes low mid) (part boxes mid high)

pub meeting_one : (boxes : List Rect) (rect : Rect) (i : ℕ) (d : Rect) → i < length boxes → overlaps (get_or boxes i d) rect ≡ true → meeting_between boxes rect i (i + 1) ≡ 1
unfolding meeting_between
meeting_one boxes rect i d lt meets =
    let one : i + 1 - i ≡ 1 = omega arith in
    let is : part boxes i (i + 1) ≡ get_or boxes i d ∷ [] = ap (λ (k : ℕ). take k (drop i boxes)) one ∙ ap (take 1) (drop-cons boxes i d lt) in
    ap (count_by (λ box. overlaps box rect)) is ∙ rw meets refl

pub meeting_front : (boxes : List Rect) (rect : Rect) (low high : ℕ) → meeting_between boxes rect low high ≤ count_by (λ box. overlaps box rect) (drop low boxes)
unfolding meeting_between
meeting_front boxes rect low high =
    let whole = sum_by-take-drop (λ box. cond (overlaps box rect) 1 0) (drop low boxes) (high - low) in
    omega (arith, whole)

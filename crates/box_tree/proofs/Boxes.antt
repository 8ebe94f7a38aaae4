-- Boxes around others.
use Rattle.std.proofs.Common.{◌≡◌, ℕ, zero, suc, ◌+◌, ◌*◌, ◌/◌, ◌%◌, ◌<◌, false, List, [], ◌∷◌, length, get_or, drop, fold, sym, ap, subst, ◌∙◌, arith}
use Rattle.std.proofs.lemmas.List.{get_or-take, get_or-drop, length-take, length-drop}
use Rattle.std.proofs.lemmas.List.FromFn.{get_or-map-range_with_len}
use Rattle.std.proofs.lemmas.Bool.Decides.{nat_tests}
use Rattle.live_model.specs.declared.points.Rect.{Rect}
use Rattle.live_model.specs.Points.{overlaps}
use Rattle.box_tree.specs.Trees.{Holds, around, children, node_above, level_above}
use Rattle.live_model.specs.Points.{union}

pub holds_self : (a : Rect) → Holds a a
holds_self a = record { left = omega arith; top = omega arith; right = omega arith; bottom = omega arith }

pub holds_on : (a b c : Rect) → Holds a b → Holds b c → Holds a c
holds_on a b c p q = record {
  left = omega (arith, p.left, q.left);
  top = omega (arith, p.top, q.top);
  right = omega (arith, p.right, q.right);
  bottom = omega (arith, p.bottom, q.bottom);
}

holds_one : (a b : Rect) → Holds (union a b) a
holds_one a b = record { left = omega arith; top = omega arith; right = omega arith; bottom = omega arith }

holds_other : (a b : Rect) → Holds (union a b) b
holds_other a b = record { left = omega arith; top = omega arith; right = omega arith; bottom = omega arith }

holds_start : (a : Rect) (xs : List Rect) → Holds (fold union a xs) a
holds_start a [] = holds_self a
holds_start a (x ∷ xs) = holds_on (fold union (union a x) xs) (union a x) a (holds_start (union a x) xs) (holds_one a x)

holds_each : (a : Rect) (xs : List Rect) (k : ℕ) (d : Rect) → k < length xs → Holds (fold union a xs) (get_or xs k d)
holds_each a [] k d lt = absurd (omega arith)
holds_each a (x ∷ xs) zero d lt = holds_on (fold union (union a x) xs) (union a x) x (holds_start (union a x) xs) (holds_other a x)
holds_each a (x ∷ xs) (suc k) d lt = holds_each (union a x) xs k d (omega arith)

pub around_holds : (xs : List Rect) (k : ℕ) (d : Rect) → k < length xs → Holds (around xs) (get_or xs k d)
around_holds [] k d lt = absurd (omega arith)
around_holds (x ∷ xs) zero d lt = holds_start x xs
around_holds (x ∷ xs) (suc k) d lt = holds_each x xs k d (omega arith)

-- a node holds its children
pub parent_holds : (boxes : List Rect) (k : ℕ) (d : Rect) → k < length boxes → Holds (get_or (level_above boxes) (k / 8) d) (get_or boxes k d)
unfolding level_above
parent_holds boxes k d lt =
    let count : ℕ = (length boxes + 7) / 8 in
    let here : get_or (level_above boxes) (k / 8) d ≡ node_above boxes (k / 8) = get_or-map-range_with_len (node_above boxes) 0 ((length boxes + 7) / 8) (k / 8) (k / 8) d (omega arith) (omega arith) in
    let short = length-take 8 (drop (8 * (k / 8)) boxes) in
    let rest = length-drop (8 * (k / 8)) boxes in
    let same : 8 * (k / 8) + k % 8 ≡ k = omega arith in
    let child : get_or (children boxes (k / 8)) (k % 8) d ≡ get_or boxes k d =
    get_or-take 8 (drop (8 * (k / 8)) boxes) (k % 8) d (omega arith) ∙ get_or-drop (8 * (k / 8)) boxes (k % 8) d ∙ ap (λ (j : ℕ). get_or boxes j d) same in
    let holds = around_holds (children boxes (k / 8)) (k % 8) d (omega arith) in
    subst (λ (inner : Rect). Holds (get_or (level_above boxes) (k / 8) d) inner) child (subst (λ (outer : Rect). Holds outer (get_or (children boxes (k / 8)) (k % 8) d)) (sym here) holds)

-- what does not meet a box meets nothing in it
pub holds_apart : (outer inner rect : Rect) → Holds outer inner → overlaps outer rect ≡ false → overlaps inner rect ≡ false
holds_apart outer inner rect h apart =
    let left = h.left in let top = h.top in let right = h.right in let bottom = h.bottom in grind (arith, nat_tests)

-- ---- the smallest box

holds_both : (outer a b : Rect) → Holds outer a → Holds outer b → Holds outer (union a b)
holds_both outer a b p q =
    let pl = p.left in let pt = p.top in let pr = p.right in let pb = p.bottom in
    let ql = q.left in let qt = q.top in let qr = q.right in let qb = q.bottom in
    record { left = omega arith; top = omega arith; right = omega arith; bottom = omega arith }

holds_fold : (outer a : Rect) (xs : List Rect) → Holds outer a → ((k : ℕ) (d : Rect) → k < length xs → Holds outer (get_or xs k d)) → Holds outer (fold union a xs)
holds_fold outer a [] first each = first
holds_fold outer a (x ∷ xs) first each = holds_fold outer (union a x) xs (holds_both outer a x first (each 0 x (omega arith))) (λ k d lt. each (suc k) d (omega arith))

pub least_around : (xs : List Rect) (outer : Rect) → 0 < length xs → ((k : ℕ) (d : Rect) → k < length xs → Holds outer (get_or xs k d)) → Holds outer (around xs)
least_around [] outer some each = absurd (omega arith)
least_around (x ∷ xs) outer some each = holds_fold outer x xs (each 0 x (omega arith)) (λ k d lt. each (suc k) d (omega arith))

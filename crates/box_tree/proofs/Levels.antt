-- The levels of a tree.
use Rattle.std.proofs.Common.{◌≡◌, ℕ, zero, suc, ◌+◌, ◌-◌, ◌/◌, ◌<◌, ◌≤◌, true, false, cond, nat_le, List, [], ◌∷◌, length, get_or, refl, sym, ap, subst, ◌∙◌, arith}
use Rattle.std.proofs.lemmas.List.FromFn.{length-map-range_with_len}
use Rattle.std.proofs.lemmas.Bool.Decides.{nat_tests}
use Rattle.live_model.specs.declared.points.Rect.{Rect}
use Rattle.box_tree.specs.Trees.{node_above, level_above, levels_within, levels_of, lowest}

pub length_above : (boxes : List Rect) → length (level_above boxes) ≡ (length boxes + 7) / 8
unfolding level_above
length_above boxes = length-map-range_with_len (node_above boxes) 0 ((length boxes + 7) / 8)

le_yes : (a b : ℕ) → a ≤ b → nat_le a b ≡ true
le_yes a b h = grind (arith, nat_tests)

le_no : (a b : ℕ) → b < a → nat_le a b ≡ false
le_no a b h = grind (arith, nat_tests)

-- what stands above some boxes
rest : ℕ → List Rect → List (List Rect)
rest more boxes = cond (nat_le (length boxes) 1) [] (levels_within more (level_above boxes))

one_level : (more : ℕ) (boxes : List Rect) → length boxes ≤ 1 → levels_within (suc more) boxes ≡ boxes ∷ []
one_level more boxes few = let t = le_yes (length boxes) 1 few in rw t refl

more_levels : (more : ℕ) (boxes : List Rect) → 1 < length boxes → levels_within (suc more) boxes ≡ boxes ∷ levels_within more (level_above boxes)
more_levels more boxes many = let f = le_no (length boxes) 1 many in rw f refl

-- levels are the same where enough are allowed
enough : (m n : ℕ) (boxes : List Rect) → 0 < length boxes → length boxes ≤ m → length boxes ≤ n → levels_within m boxes ≡ levels_within n boxes
enough zero n boxes some m_in n_in = absurd (omega arith)
enough (suc m) zero boxes some m_in n_in = absurd (omega arith)
enough (suc m) (suc n) boxes some m_in n_in =
    elim (nat_le (length boxes) 1) as (λ b. nat_le (length boxes) 1 ≡ b → levels_within (suc m) boxes ≡ levels_within (suc n) boxes) [
      | true ↦ λ t. rw t refl
      | false ↦ λ f.
          let many : 1 < length boxes = grind (arith, nat_tests) in
          let long = length_above boxes in
          more_levels m boxes many ∙ ap (λ (ls : List (List Rect)). boxes ∷ ls) (enough m n (level_above boxes) (omega arith) (omega arith) (omega arith)) ∙ sym (more_levels n boxes many)
    ] refl

pub levels_none : (boxes : List Rect) → length boxes ≡ 0 → levels_of boxes ≡ []
unfolding levels_of
levels_none boxes none = ap (λ (n : ℕ). levels_within n boxes) none

pub levels_one : (boxes : List Rect) → length boxes ≡ 1 → levels_of boxes ≡ boxes ∷ []
unfolding levels_of
levels_one boxes one = ap (λ (n : ℕ). levels_within n boxes) one ∙ one_level 0 boxes (omega arith)

pub levels_more : (boxes : List Rect) → 1 < length boxes → levels_of boxes ≡ boxes ∷ levels_of (level_above boxes)
unfolding levels_of
levels_more boxes many =
    let long = length_above boxes in
    let n : ℕ = length boxes - 1 in
    let is : length boxes ≡ suc n = omega arith in
    ap (λ (k : ℕ). levels_within k boxes) is ∙ more_levels n boxes many ∙ ap (λ (ls : List (List Rect)). boxes ∷ ls) (enough n (length (level_above boxes)) (level_above boxes) (omega arith) (omega arith) (omega arith))

pub lowest_again : (leaves : List Rect) → lowest (levels_of leaves) ≡ leaves
unfolding levels_of
lowest_again [] = refl
lowest_again (leaf ∷ leaves) = refl

-- ---- the levels at their heights

behind : (boxes : List Rect) (above : List (List Rect)) (h : ℕ) → h < length above → lowest above ≡ level_above boxes → ((k : ℕ) → k + 1 < length above → get_or above (k + 1) [] ≡ level_above (get_or above k [])) → get_or (boxes ∷ above) (h + 1) [] ≡ level_above (get_or (boxes ∷ above) h [])
behind boxes [] h lt first stack = absurd (omega arith)
behind boxes (level ∷ above) zero lt first stack = first
behind boxes (level ∷ above) (suc h) lt first stack =
    let e : suc h + 1 ≡ suc (h + 1) = omega arith in
    rw e (stack h (omega arith))

stacked_within : (more : ℕ) (boxes : List Rect) (h : ℕ) → h + 1 < length (levels_within more boxes) → get_or (levels_within more boxes) (h + 1) [] ≡ level_above (get_or (levels_within more boxes) h [])
stacked_within zero boxes h lt = absurd (omega arith)
stacked_within (suc zero) boxes h lt =
    elim (nat_le (length boxes) 1) as (λ b. nat_le (length boxes) 1 ≡ b → get_or (levels_within (suc zero) boxes) (h + 1) [] ≡ level_above (get_or (levels_within (suc zero) boxes) h [])) [
      | true ↦ λ t. let e : levels_within (suc zero) boxes ≡ boxes ∷ [] = rw t refl in absurd (omega (arith, ap length e))
      | false ↦ λ f. let e : levels_within (suc zero) boxes ≡ boxes ∷ [] = rw f refl in absurd (omega (arith, ap length e))
    ] refl
stacked_within (suc (suc more)) boxes h lt =
    elim (nat_le (length boxes) 1) as (λ b. nat_le (length boxes) 1 ≡ b → get_or (levels_within (suc (suc more)) boxes) (h + 1) [] ≡ level_above (get_or (levels_within (suc (suc more)) boxes) h [])) [
      | true ↦ λ t. let e : levels_within (suc (suc more)) boxes ≡ boxes ∷ [] = rw t refl in absurd (omega (arith, ap length e))
      | false ↦ λ f.
          let e : levels_within (suc (suc more)) boxes ≡ boxes ∷ levels_within (suc more) (level_above boxes) = rw f refl in
          let P : List (List Rect) → Type 0 = λ ls. get_or ls (h + 1) [] ≡ level_above (get_or ls h []) in
          subst P (sym e) (behind boxes (levels_within (suc more) (level_above boxes)) h (omega (arith, ap length e)) refl (stacked_within (suc more) (level_above boxes)))
    ] refl

-- each level stands above the one before it
pub stacked : (levels : List (List Rect)) (h : ℕ) → levels ≡ levels_of (lowest levels) → h + 1 < length levels → get_or levels (h + 1) [] ≡ level_above (get_or levels h [])
unfolding levels_of
stacked levels h tree lt =
    let P : List (List Rect) → Type 0 = λ ls. h + 1 < length ls → get_or ls (h + 1) [] ≡ level_above (get_or ls h []) in
    subst P (sym tree) (stacked_within (length (lowest levels)) (lowest levels) h) lt

some_within : (more : ℕ) (boxes : List Rect) → length boxes ≤ more → 0 < length boxes → 0 < length (levels_within more boxes)
some_within zero boxes few some = absurd (omega arith)
some_within (suc more) boxes few some = omega arith

root_within : (more : ℕ) (boxes : List Rect) → length boxes ≤ more → 0 < length boxes → length (get_or (levels_within more boxes) (length (levels_within more boxes) - 1) []) ≤ 1
root_within zero boxes few some = absurd (omega arith)
root_within (suc more) boxes few some =
    elim (nat_le (length boxes) 1) as (λ b. nat_le (length boxes) 1 ≡ b → length (get_or (levels_within (suc more) boxes) (length (levels_within (suc more) boxes) - 1) []) ≤ 1) [
      | true ↦ λ t.
          let one : length boxes ≤ 1 = grind (arith, nat_tests) in
          let e : levels_within (suc more) boxes ≡ boxes ∷ [] = rw t refl in
          let P : List (List Rect) → Type 0 = λ ls. length (get_or ls (length ls - 1) []) ≤ 1 in
          subst P (sym e) one
      | false ↦ λ f.
          let many : 1 < length boxes = grind (arith, nat_tests) in
          let e : levels_within (suc more) boxes ≡ boxes ∷ levels_within more (level_above boxes) = rw f refl in
          let long = length_above boxes in
          let some' = some_within more (level_above boxes) (omega arith) (omega arith) in
          let ih = root_within more (level_above boxes) (omega arith) (omega arith) in
          let i : length (boxes ∷ levels_within more (level_above boxes)) - 1 ≡ suc (length (levels_within more (level_above boxes)) - 1) = omega arith in
          let P : List (List Rect) → Type 0 = λ ls. length (get_or ls (length ls - 1) []) ≤ 1 in
          subst P (sym e) (subst (λ (j : ℕ). length (get_or (boxes ∷ levels_within more (level_above boxes)) j []) ≤ 1) (sym i) ih)
    ] refl

-- the highest level is one node
pub root_alone : (levels : List (List Rect)) → levels ≡ levels_of (lowest levels) → 0 < length (lowest levels) → length (get_or levels (length levels - 1) []) ≤ 1
unfolding levels_of
root_alone levels tree some =
    let P : List (List Rect) → Type 0 = λ ls. length (get_or ls (length ls - 1) []) ≤ 1 in
    subst P (sym tree) (root_within (length (lowest levels)) (lowest levels) (omega arith) some)

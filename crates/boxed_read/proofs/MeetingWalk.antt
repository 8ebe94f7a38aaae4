-- The search for the next leaf passes by the blocks whose box does not meet the rectangle, and by no other.
use Rattle.std.proofs.Common.{◌≡◌, ℕ, zero, suc, ◌+◌, List, [], ◌∷◌, map, drop, Option, Some, None, Ok, refl, sym, ap, subst, ◌∙◌, arith, inl, inr, find}
use Rattle.std.specs.Prelude.{MatchOption, slice_get}
use Rattle.std.specs.Option.{option_map}
use Rattle.std.specs.List.{AllByRecursion, enumerate_from}
use Rattle.std.proofs.lemmas.Bool.{cases_Bool}
use Rattle.live_model.specs.declared.points.Rect.{Rect}
use Rattle.live_model.specs.Points.{overlaps}
use Rattle.box_tree.specs.Search.{first_meeting}
use Rattle.boxed_exact.specs.declared.fields.Payload.{Payload}
use Rattle.boxed_check.specs.declared.kept.Kept.{Kept}
use Rattle.obf_wire.specs.Fields.{Window, part_of}
use Rattle.file_grammar.specs.declared.parts.Boxed.{Boxed}
use Rattle.file_grammar.specs.BoxRules.{Boxing}
use Rattle.file_grammar.specs.Listed.{Reading}
use Rattle.boxed_read.specs.Meeting.{meeting, met}
use Rattle.boxed_read.specs.Records.{records_at, records_of}
use Rattle.boxed_read.specs.Sound.{HoldBlocks, HoldsBlock, IsChecked}
use Rattle.boxed_read.specs.Steps.{Coming}
use Rattle.boxed_read.proofs.SectionRead.{checked_blocks}

-- the index that is found among leaves numbered from this one, after so many of them
abbrev searched : Rect → ℕ → ℕ → List Rect → Option ℕ
searched rect from n leaves = option_map (λ (leaf : ℕ × Rect). leaf.0) (find (λ leaf. overlaps leaf.1 rect) (drop from (enumerate_from n leaves)))

module _ {A : Type 0} (rect : Rect) where
  no_blocks : (leaves : List Rect) → meeting {A = A} rect leaves [] ≡ []
  no_blocks [] = refl
  no_blocks (leaf ∷ leaves) = refl

  -- the index that is found is that of the first block that is met, where there is a block of it
  record IsFirst (from n : ℕ) (leaves : List Rect) (blocks : List A) (k : ℕ) : Type 0 where
    j : ℕ
    index : k ≡ n + j
    is : MatchOption (slice_get blocks j) (meeting rect (drop from leaves) (drop from blocks) ≡ []) (λ b. meeting rect (drop from leaves) (drop from blocks) ≡ b ∷ meeting rect (drop (suc j) leaves) (drop (suc j) blocks))

  none_found : (from n : ℕ) (leaves : List Rect) (blocks : List A) → searched rect from n leaves ≡ None → meeting rect (drop from leaves) (drop from blocks) ≡ []
  none_found zero n [] blocks e = refl
  none_found zero n (leaf ∷ leaves) [] e = refl
  none_found zero n (leaf ∷ leaves) (b ∷ bs) e =
      elim (cases_Bool (overlaps leaf rect)) [
        | inl first ↦ absurd (let here = rw first at e in cc)
        | inr later ↦ let there = rw later at e in rw later (none_found zero (n + 1) leaves bs there)
      ]
  none_found (suc from) n [] blocks e = refl
  none_found (suc from) n (leaf ∷ leaves) [] e = no_blocks (drop from leaves)
  none_found (suc from) n (leaf ∷ leaves) (b ∷ bs) e = none_found from (n + 1) leaves bs e

  first_found : (from n : ℕ) (leaves : List Rect) (blocks : List A) (k : ℕ) → searched rect from n leaves ≡ Some k → IsFirst from n leaves blocks k
  first_found zero n [] blocks k e = absurd cc
  first_found zero n (leaf ∷ leaves) [] k e =
      elim (cases_Bool (overlaps leaf rect)) [
        | inl first ↦ let here = rw first at e in let same : k ≡ n = cc in record { j = 0; index = omega (arith, same); is = refl }
        | inr later ↦ let there = rw later at e in let next = first_found zero (n + 1) leaves [] k there in record { j = suc next.j; index = omega (arith, next.index); is = refl }
      ]
  first_found zero n (leaf ∷ leaves) (b ∷ bs) k e =
      elim (cases_Bool (overlaps leaf rect)) [
        | inl first ↦ let here = rw first at e in let same : k ≡ n = cc in record { j = 0; index = omega (arith, same); is = rw first refl }
        | inr later ↦ let there = rw later at e in let next = first_found zero (n + 1) leaves bs k there in record { j = suc next.j; index = omega (arith, next.index); is = rw later next.is }
      ]
  first_found (suc from) n [] blocks k e = absurd cc
  first_found (suc from) n (leaf ∷ leaves) [] k e =
      let next = first_found from (n + 1) leaves [] k e in record { j = suc next.j; index = omega (arith, next.index); is = no_blocks (drop from leaves) }
  first_found (suc from) n (leaf ∷ leaves) (b ∷ bs) k e =
      let next = first_found from (n + 1) leaves bs k e in record { j = suc next.j; index = omega (arith, next.index); is = next.is }

pub none_met : (rect : Rect) (kept : Kept) (from : ℕ) → first_meeting kept.tree rect from ≡ None → met rect kept from ≡ []
none_met rect kept from e = none_found rect from 0 kept.tree kept.blocks.items e

first_met : (rect : Rect) (kept : Kept) (from k : ℕ) → first_meeting kept.tree rect from ≡ Some k
    → MatchOption (slice_get kept.blocks.items k) (met rect kept from ≡ []) (λ b. met rect kept from ≡ b ∷ met rect kept (k + 1))
first_met rect kept from k e =
    let f = first_found rect from 0 kept.tree kept.blocks.items k e in
    let same : f.j ≡ k = omega (arith, f.index) in
    let next : suc f.j ≡ k + 1 = omega (arith, f.index) in
    subst (λ (i : ℕ). MatchOption (slice_get kept.blocks.items i) (met rect kept from ≡ []) (λ b. met rect kept from ≡ b ∷ met rect kept (k + 1))) same
    (subst (λ (i : ℕ). MatchOption (slice_get kept.blocks.items f.j) (met rect kept from ≡ []) (λ b. met rect kept from ≡ b ∷ meeting rect (drop i kept.tree) (drop i kept.blocks.items))) next f.is)

pub no_more_met : (rect : Rect) (kept : Kept) (from k : ℕ) → first_meeting kept.tree rect from ≡ Some k → slice_get kept.blocks.items k ≡ None → met rect kept from ≡ []
no_more_met rect kept from k e none = subst (λ (o : Option Payload). MatchOption o (met rect kept from ≡ []) (λ b. met rect kept from ≡ b ∷ met rect kept (k + 1))) none (first_met rect kept from k e)

pub next_met : (rect : Rect) (kept : Kept) (from k : ℕ) (span : Payload) → first_meeting kept.tree rect from ≡ Some k → slice_get kept.blocks.items k ≡ Some span → met rect kept from ≡ span ∷ met rect kept (k + 1)
next_met rect kept from k span e some = subst (λ (o : Option Payload). MatchOption o (met rect kept from ≡ []) (λ b. met rect kept from ≡ b ∷ met rect kept (k + 1))) some (first_met rect kept from k e)

-- what holds of all blocks holds of those that are met
pub all_met : {A : Type 0} (P : A → Type 0) (rect : Rect) (leaves : List Rect) (blocks : List A) → AllByRecursion P blocks → AllByRecursion P (meeting rect leaves blocks)
all_met P rect [] blocks all = tt
all_met P rect (leaf ∷ leaves) [] all = tt
all_met P rect (leaf ∷ leaves) (b ∷ bs) all =
    elim (cases_Bool (overlaps leaf rect)) [
      | inl first ↦ rw first (all.0, all_met P rect leaves bs all.1)
      | inr later ↦ rw later (all_met P rect leaves bs all.1)
    ]

-- and what is made of each is made of those that are met
pub map_met : {A B : Type 0} (f : A → B) (rect : Rect) (leaves : List Rect) (blocks : List A) → map f (meeting rect leaves blocks) ≡ meeting rect leaves (map f blocks)
map_met f rect [] blocks = refl
map_met f rect (leaf ∷ leaves) [] = refl
map_met {A} {B} f rect (leaf ∷ leaves) (b ∷ bs) =
    elim (cases_Bool (overlaps leaf rect)) [
      | inl first ↦ rw first (ap (λ (rest : List B). f b ∷ rest) (map_met f rect leaves bs))
      | inr later ↦ rw later (map_met f rect leaves bs)
    ]

-- the records of the blocks that are met
pub records_met : {A : Type 0} (class : Boxed) (reads : Reading A) (bytes : List ℕ) (kept : Kept) (rect : Rect)
    → records_of class reads bytes (met rect kept 0) ≡ meeting rect kept.tree (records_of class reads bytes kept.blocks.items)
records_met class reads bytes kept rect = map_met (λ (span : Payload). records_at class reads (part_of bytes span.from span.to)) rect kept.tree kept.blocks.items

-- so a cursor over them begins
pub coming_met : {A : Type 0} (class : Boxed) (reads : Reading A) (bytes : List ℕ) (kept : Kept) (rect : Rect) (coming : Coming A)
    → coming ≡ record { here = []; blocks = records_of class reads bytes (met rect kept 0) } → coming ≡ record { here = []; blocks = meeting rect kept.tree (records_of class reads bytes kept.blocks.items) }
coming_met {A} class reads bytes kept rect coming e =
    let start : List (List A) → Coming A = λ blocks. record { here = []; blocks = blocks } in
    e ∙ ap start (records_met class reads bytes kept rect)

-- every rule holds of each block that is met
pub met_hold : (class : Boxed) (boxing : Boxing) (w : Window) (kept : Kept) (rect : Rect) → IsChecked class boxing w kept → HoldBlocks class boxing w.bytes (met rect kept 0)
met_hold class boxing w kept rect h = all_met (λ (span : Payload). HoldsBlock class boxing (part_of w.bytes span.from span.to)) rect kept.tree kept.blocks.items (checked_blocks class boxing w kept h)

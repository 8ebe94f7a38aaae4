-- A line breaks at an offset within it.
use Rattle.std.proofs.Common.{◌≡◌, ℕ, ◌+◌, ◌≤◌, List, [], ◌∷◌, ◌++◌, Bool, true, false, cond, not, eqb, length, drop, take, Option, Some, None, ap, arith, subst, filter, ◌-◌}
use Rattle.std.specs.Prelude.{find, slice_index, is_some, unwrap_or}
use Rattle.std.specs.Option.{option_map}
use Rattle.std.specs.List.{AllByRecursion, slice_split, onto_first}
use Rattle.std.specs.Str.{is_utf8}
use Rattle.std.specs.Str.Lines.{strip_carriage_return}
use Rattle.std.proofs.lemmas.List.{length-take-le}
use Rattle.text_pieces.specs.Lines.{is_blank, placed, fields_from}
use Rattle.live_model.specs.declared.ids.Kind.{Kind}
use Rattle.live_model.specs.declared.opl.OplKind.{OplKind}
use Rattle.live_model.specs.declared.opl.OplKind.TheVariants.{NotUtf8, BadId}
use Rattle.live_model.specs.Ids.{Id}
use Rattle.live_model.specs.ObjectLines.{first_of, head_of}
use Rattle.live_model.specs.LineTests.{Test, field_tests, tests_at, fields_tests, tests_with, tests_of, place_and_kind, failure_in, break_of}

-- the tests stand at offsets of at most this
abbrev AreWithin : ℕ → List Test → Type 0
AreWithin most ts = AllByRecursion (λ t. t.at ≤ most) ts

-- the fields stand so
abbrev ArePlaced : ℕ → List (ℕ × List ℕ) → Type 0
ArePlaced most fs = AllByRecursion (λ f. f.0 ≤ most) fs

-- the test that fails stands where the tests do
failure_within : (most : ℕ) (ts : List Test) (at : ℕ) (kind : OplKind) → AreWithin most ts → failure_in ts ≡ Some (at, kind) → at ≤ most
failure_within most [] at kind all e = absurd (cc)
failure_within most (t ∷ ts) at kind all e = one (not t.passes) e (failure_within most ts at kind all.1)
  where
    one : (b : Bool) → option_map place_and_kind (cond b (Some t) (find (λ t. not t.passes) ts)) ≡ Some (at, kind) → (failure_in ts ≡ Some (at, kind) → at ≤ most) → at ≤ most
    one true e again =
        let place : t.at ≡ at = ap (λ o. unwrap_or (option_map (λ p. p.0) o) 0) e in
        let first = all.0 in
        omega arith
    one false e again = again e

tests_at_within : (most at : ℕ) (ts : List (OplKind × Bool)) → at ≤ most → AreWithin most (tests_at at ts)
tests_at_within most at [] h = tt
tests_at_within most at (t ∷ ts) h = (h, tests_at_within most at ts h)

within_joined : (most : ℕ) (xs ys : List Test) → AreWithin most xs → AreWithin most ys → AreWithin most (xs ++ ys)
within_joined most [] ys p q = q
within_joined most (x ∷ xs) ys p q = (p.0, within_joined most xs ys p.1 q)

fields_within : (most : ℕ) (kind : Kind) (before : List ℕ) (fs : List (ℕ × List ℕ)) → ArePlaced most fs → AreWithin most (fields_tests kind before fs)
fields_within most kind before [] all = tt
fields_within most kind before (f ∷ fs) all =
    within_joined most (tests_at f.0 (field_tests kind before f.1)) (fields_tests kind (before ++ first_of f.1 ∷ []) fs) (tests_at_within most f.0 (field_tests kind before f.1) all.0)
    (fields_within most kind (before ++ first_of f.1 ∷ []) fs all.1)

-- the pieces of bytes begin within them
pieces_within : (most at : ℕ) (xs : List ℕ) → at + length xs ≤ most → ArePlaced most (placed at (slice_split is_blank xs))
pieces_within most at [] h = (omega arith, tt)
pieces_within most at (x ∷ xs) h = one (is_blank x) (slice_split is_blank xs) (pieces_within most (at + 1) xs (omega arith))
  where
    onto : (parts : List (List ℕ)) → ArePlaced most (placed (at + 1) parts) → ArePlaced most (placed at (onto_first x parts))
    onto [] all = (omega arith, tt)
    onto (part ∷ parts) all =
        let far : at + 1 + (length part + 1) ≡ at + (length (x ∷ part) + 1) = omega arith in
        (omega arith, subst (λ n. ArePlaced most (placed n parts)) far all.1)

    one : (b : Bool) (parts : List (List ℕ)) → ArePlaced most (placed (at + 1) parts) → ArePlaced most (placed at (cond b ([] ∷ parts) (onto_first x parts)))
    one true parts all = (omega arith, all)
    one false parts all = onto parts all

kept_within : (most : ℕ) (q : ℕ × List ℕ → Bool) (fs : List (ℕ × List ℕ)) → ArePlaced most fs → ArePlaced most (filter q fs)
kept_within most q [] all = tt
kept_within most q (f ∷ fs) all =
    elim (q f) as (λ b. ArePlaced most (cond b (f ∷ filter q fs) (filter q fs))) [
      | true ↦ (all.0, kept_within most q fs all.1)
      | false ↦ kept_within most q fs all.1
    ]

places_within : (row : List ℕ) → ArePlaced (length row) (fields_from 0 row)
unfolding fields_from
places_within row = kept_within (length row) (λ f. not (eqb (length f.1) 0)) (placed 0 (slice_split is_blank row)) (pieces_within (length row) 0 row (omega arith))

rest_within : (most : ℕ) (fs : List (ℕ × List ℕ)) → ArePlaced most fs → ArePlaced most (drop 1 fs)
rest_within most [] all = tt
rest_within most (f ∷ fs) all = all.1

with_within : (most : ℕ) (o : Option Id) (fs : List (ℕ × List ℕ)) → ArePlaced most fs → AreWithin most (tests_with o fs)
with_within most None fs all = tt
with_within most (Some o) fs all = fields_within most o.kind [] fs all

-- A line breaks within its bytes.
pub break_within : (row : List ℕ) (at : ℕ) (kind : OplKind) → break_of row ≡ Some (at, kind) → at ≤ length row
unfolding break_of tests_of
break_within row at kind e =
    failure_within (length row) (tests_of row) at kind
    (within_joined (length row) (tests_at 0 ((NotUtf8, is_utf8 row) ∷ (BadId, is_some (head_of (fields_from 0 row))) ∷ [])) (tests_with (head_of (fields_from 0 row)) (drop 1 (fields_from 0 row)))
    (tests_at_within (length row) 0 ((NotUtf8, is_utf8 row) ∷ (BadId, is_some (head_of (fields_from 0 row))) ∷ []) (omega arith))
    (with_within (length row) (head_of (fields_from 0 row)) (drop 1 (fields_from 0 row)) (rest_within (length row) (fields_from 0 row) (places_within row))))
    e

-- no carriage return makes a line longer
pub stripped_within : (line : List ℕ) → length (strip_carriage_return line) ≤ length line
stripped_within line = one (eqb (slice_index line (length line - 1)) 13)
  where
    one : (b : Bool) → length (cond b (take (length line - 1) line) line) ≤ length line
    one true = let long = length-take-le (length line - 1) line (omega arith) in omega arith
    one false = omega arith

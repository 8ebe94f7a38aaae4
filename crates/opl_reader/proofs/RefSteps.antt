-- The first item that is no reference.
use Rattle.std.proofs.Common.{◌≡◌, ℕ, ◌<◌, List, [], ◌∷◌, length, Bool, true, false, cond, Some, None, refl, sym, ap, ◌∙◌, arith}
use Rattle.std.specs.Prelude.{is_some, ℤ}
use Rattle.live_model.specs.declared.opl.OplKind.TheVariants.{BadList, LocatedRef}
use Rattle.live_model.specs.declared.opl.Letter.TheVariants.{Refs}
use Rattle.live_model.specs.FieldValues.{items_of, each_of, ref_of, refs_of, is_located, breaks_located}
use Rattle.live_model.specs.LineTests.{value_tests, failure_kind}
use Rattle.opl_reader.specs.declared.value_error.ValueError.{ValueError}
use Rattle.opl_reader.specs.declared.value_error.ValueError.TheVariants.{NoMemory, Bad}
use Rattle.opl_reader.specs.Values.{FailsBy}
use Rattle.opl_reader.specs.Lists.{OnBadRef}
use Rattle.opl_reader.proofs.ItemSteps.{split, items_some, IsAt, at_bad}

pub located_first : (value : List ℕ) → 0 < length value → breaks_located (split value) ≡ breaks_located (items_of value)
located_first value some = ap breaks_located (sym (items_some value some))

pub located_more : (item : List ℕ) (now left : List (List ℕ)) → now ≡ item ∷ left → is_some (ref_of item) ≡ true → breaks_located now ≡ breaks_located left
located_more item now left is some = ap breaks_located is ∙ ap (λ b. cond b (breaks_located left) (is_located item)) some

pub located_bad : (item : List ℕ) (now left : List (List ℕ)) → now ≡ item ∷ left → ref_of item ≡ None → breaks_located now ≡ is_located item
located_bad item now left is none = ap breaks_located is ∙ ap (λ o. cond (is_some o) (breaks_located left) (is_located item)) none

-- the first item that is no reference breaks the list
pub bad_ref_by_step : (e : ValueError) (value : List ℕ) (keep : Bool) (kept : List ℤ) (item : List ℕ) (now left : List (List ℕ)) → now ≡ item ∷ left → IsAt ref_of value keep kept now
    → breaks_located now ≡ breaks_located (items_of value) → OnBadRef (ref_of item ≡ None) (is_located item) e → OnBadRef (each_of ref_of (items_of value) ≡ None) (breaks_located (items_of value)) e
bad_ref_by_step NoMemory value keep kept item now left is at located h = tt
bad_ref_by_step (Bad kind) value keep kept item now left is at located h =
    let same : is_located item ≡ breaks_located (items_of value) = sym (located_bad item now left is h.1) ∙ located in
    (h.0 ∙ ap (λ b. cond b LocatedRef BadList) same, at_bad ref_of value keep kept item now left is at h.1)

-- nothing is located in the empty value
pub none_located : (value : List ℕ) → length value ≡ 0 → breaks_located (items_of value) ≡ false
none_located [] e = refl
none_located (c ∷ cs) e = absurd (omega arith)

pub fails_by : (value : List ℕ) (e : ValueError) → OnBadRef (refs_of value ≡ None) (breaks_located (items_of value)) e → FailsBy (value_tests Refs value) e
fails_by value NoMemory h = tt
fails_by value (Bad kind) h = one (breaks_located (items_of value)) refl h.0
  where
    one : (b : Bool) → breaks_located (items_of value) ≡ b → kind ≡ cond b LocatedRef BadList → failure_kind (value_tests Refs value) ≡ Some kind
    one true e is = rw e (ap Some (sym is))
    one false e is = rw (e, h.1) (ap Some (sym is))

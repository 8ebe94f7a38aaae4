-- Layers that are merged into one from the newest on.
use Rattle.std.proofs.Common.{◌≡◌, ℕ, zero, suc, take, drop, nat_lt, ◌+◌, ◌≤◌, List, [], ◌∷◌, ◌++◌, Bool, true, false, cond, ◌||◌, not, nat_eq, Option, refl, sym, ap, ◌∙◌, arith, length}
use Rattle.std.proofs.lemmas.Bool.{eqb-true}
use Rattle.std.proofs.lemmas.Bool.Decides.{nat_tests}
use Rattle.std.specs.Option.{is_some}
use Rattle.std.specs.Cmp.{IsTotalOrder}
use Rattle.std.specs.declared.cmp.Ordering.{Ordering}
use Rattle.ordered_lists.specs.Ordered.{put_all}
use Rattle.ordered_lists.proofs.PutAll.{rising-put_all, rising_filter, length-put_all}
use Rattle.layer_table.specs.Layers.{key_of, IsMap, laid, under, changes_in, kept}
use Rattle.layer_table.proofs.Laying.{laid_merged, laid_present, rising_under, under_push}

pub changes_end : {C : Type 0} (ls : List (List C)) (l : List C) → changes_in (ls ++ l ∷ []) ≡ changes_in ls + length l
changes_end [] l = refl
changes_end (m ∷ ls) l = let rest = changes_end ls l in omega (arith, rest)

-- with all removals all changes are kept
kept_all : {K V : Type 0} (cs : List (K × Option V)) → kept true cs ≡ cs
kept_all [] = refl
kept_all (c ∷ cs) = ap (λ ds. c ∷ ds) (kept_all cs)

kept_length : {K V : Type 0} (removals : Bool) (cs : List (K × Option V)) → length (kept removals cs) ≤ length cs
kept_length removals [] = omega arith
kept_length {K} {V} removals (c ∷ cs) =
    let rest = kept_length removals cs in
    elim (removals || is_some c.1) as (λ b. length (cond b (c ∷ kept removals cs) (kept removals cs)) ≤ length (c ∷ cs)) [
      | true ↦ omega arith
      | false ↦ omega arith
    ]

module _ {K V : Type 0} (cmp : K → K → Ordering) (o : IsTotalOrder cmp) where
  pub kept_rising : (removals : Bool) (cs : List (K × Option V)) → IsMap cmp cs → IsMap cmp (kept removals cs)
  kept_rising removals cs rising = rising_filter cmp key_of o (λ (c : K × Option V). removals || is_some c.1) cs rising

  -- a merge is no longer than its parts
  pub merged_length : (removals : Bool) (older newer : List (K × Option V)) → length (kept removals (put_all cmp key_of older newer)) ≤ length older + length newer
  merged_length removals older newer =
      let all = kept_length removals (put_all cmp key_of older newer) in
      let put = length-put_all cmp key_of o older newer in
      omega (arith, all, put)

  pub merged_rising : (removals : Bool) (older newer : List (K × Option V)) → IsMap cmp older → IsMap cmp (kept removals (put_all cmp key_of older newer))
  merged_rising removals older newer rising = kept_rising removals (put_all cmp key_of older newer) (rising-put_all cmp key_of o older newer rising)

  -- over the empty map removals may be left out
  kept_laid : (removals : Bool) (map : List (K × V)) (cs : List (K × Option V)) → IsMap cmp cs → (removals ≡ false → map ≡ []) → laid cmp map (kept removals cs) ≡ laid cmp map cs
  kept_laid true map cs rising bottom = ap (laid cmp map) (kept_all cs)
  kept_laid false map cs rising bottom = (λ i. laid cmp (bottom refl i) (kept false cs)) ∙ sym (laid_present cmp o cs rising) ∙ (λ i. laid cmp (sym (bottom refl) i) cs)

  -- the newest of the layers that are left goes under what was merged of those above it
  pub merge_step : (removals : Bool) (map : List (K × V)) (all rest : List (List (K × Option V))) (layer upper : List (K × Option V)) → IsMap cmp map → IsMap cmp layer → all ≡ rest ++ layer ∷ [] → (removals ≡ false → under cmp map rest ≡ [])
      → laid cmp (under cmp map rest) (kept removals (put_all cmp key_of layer upper)) ≡ laid cmp (under cmp map all) upper
  merge_step removals map all rest layer upper rising rises is bottom =
      kept_laid removals (under cmp map rest) (put_all cmp key_of layer upper) (rising-put_all cmp key_of o layer upper rises) bottom
      ∙ sym (laid_merged cmp o (under cmp map rest) layer upper (rising_under cmp o map rest rising) rises)
      ∙ ap (λ m. laid cmp m upper) (sym (ap (under cmp map) is ∙ under_push cmp o map rest layer))

  -- where removals are left out nothing is below
  pub nothing_below : (removals stay bottom : Bool) (map : List (K × V)) (rest : List (List (K × Option V))) (len : ℕ) → length rest ≡ len → bottom ≡ nat_eq len 0 → stay ≡ not bottom
      → (removals ≡ false → map ≡ []) → removals ≡ false → stay ≡ false → under cmp map rest ≡ []
  nothing_below removals stay bottom map [] len long is same empty dropped none = empty dropped
  nothing_below removals stay true map (l ∷ rest) len long is same empty dropped none = let zero = eqb-true len 0 (sym is) in absurd (omega (arith, long, zero))
  nothing_below removals stay false map (l ∷ rest) len long is same empty dropped none = let bad : true ≡ false = sym same ∙ none in absurd (cc)

  pub under_split : (map : List (K × V)) (n : ℕ) (ls : List (List (K × Option V))) → under cmp (under cmp map (take n ls)) (drop n ls) ≡ under cmp map ls
  under_split map zero ls = refl
  under_split map (suc n) [] = refl
  under_split map (suc n) (l ∷ ls) = under_split (laid cmp map l) n ls

  -- the layers from one on make the same as the one that was merged of them
  pub merged_same : (kept : ℕ) (all after : List (List (K × Option V))) (one : List (K × Option V)) → after ≡ take kept all ++ one ∷ []
      → laid cmp (under cmp [] (take kept all)) one ≡ under cmp (under cmp [] (take kept all)) (drop kept all) → under cmp [] after ≡ under cmp [] all
  merged_same kept all after one is same =
      ap (under cmp []) is ∙ under_push cmp o [] (take kept all) one ∙ same ∙ under_split [] kept all

  -- no layer stays below the lowest
  pub none_kept : (kept : ℕ) (ls : List (List (K × Option V))) → nat_lt 0 kept ≡ false → under cmp {V = V} [] (take kept ls) ≡ []
  none_kept kept ls e = let none : kept ≡ 0 = grind (arith, nat_tests) in ap (λ n. under cmp [] (take n ls)) none

-- Texts that rise, and how one comes in.
use Rattle.std.proofs.Common.{◌≡◌, ℕ, zero, suc, ◌<◌, ◌≤◌, List, [], ◌∷◌, ◌++◌, length, take, drop, get_or, Result, Ok, Err, Some, slice_get, refl, sym, ap, subst, ◌∙◌, arith, inl, inr}
use Rattle.std.specs.List.{AllByRecursion, AllWithin, HoldsAt, insert, Contains}
use Rattle.std.specs.List.Sorted.{IsNonDecreasingBy, IsBinarySearchResult}
use Rattle.std.specs.Result.{MatchResult}
use Rattle.std.specs.Ordering.{nat_cmp, ordering_then, ordering_reverse, ordering_index}
use Rattle.std.specs.declared.cmp.Ordering.{Ordering}
use Rattle.std.specs.declared.cmp.Ordering.TheVariants.{Less, Equal, Greater}
use Rattle.std.proofs.lemmas.Bool.{cases_lt}
use Rattle.std.proofs.lemmas.Bool.Decides.{nat_tests}
use Rattle.std.proofs.lemmas.Cmp.{nat_list_cmp_total, tied_itself}
use Rattle.std.proofs.lemmas.List.Elements.{All-from_recursion}
use Rattle.std.proofs.lemmas.Option.{slice_get_read}
use Rattle.ordered_lists.specs.Ordered.{below, above}
use Rattle.text_table.specs.Tables.{text_cmp, AreRising, with_text, IsText, IsTable, IsThere, IsGap}

-- ---- the order of texts

abbrev pub Text : Type 0
Text = List ℕ

then_equal : (o p : Ordering) → ordering_then o p ≡ Equal → (o ≡ Equal) × (p ≡ Equal)
then_equal Less p e = absurd cc
then_equal Equal p e = (refl, e)
then_equal Greater p e = absurd cc

same_number : (a b : ℕ) → nat_cmp a b ≡ Equal → a ≡ b
same_number a b e = grind (arith, nat_tests)

pub equal_is : (a b : Text) → text_cmp a b ≡ Equal → a ≡ b
equal_is [] [] e = refl
equal_is [] (y ∷ b) e = absurd cc
equal_is (x ∷ a) [] e = absurd cc
equal_is (x ∷ a) (y ∷ b) e =
    let parts = then_equal (nat_cmp x y) (text_cmp a b) e in
    ap (λ (n : ℕ). n ∷ a) (same_number x y parts.0) ∙ ap (λ (t : Text). y ∷ t) (equal_is a b parts.1)

pub itself : (a : Text) → text_cmp a a ≡ Equal
itself a = tied_itself nat_list_cmp_total a

pub less_back : (a b : Text) → text_cmp a b ≡ Less → text_cmp b a ≡ Greater
less_back a b e = nat_list_cmp_total.antisymm b a ∙ ap ordering_reverse e

pub greater_back : (a b : Text) → text_cmp a b ≡ Greater → text_cmp b a ≡ Less
greater_back a b e = nat_list_cmp_total.antisymm b a ∙ ap ordering_reverse e

-- ---- what stands at a place

abbrev Lower : Text → Text → Type 0
Lower text t = text_cmp t text ≡ Less

abbrev Higher : Text → Text → Type 0
Higher text t = text_cmp t text ≡ Greater

abbrev After : Text → Text → Type 0
After text t = text_cmp text t ≡ Less

all_at : (P : Text → Type 0) (ts : List Text) (k : ℕ) (d : Text) → AllByRecursion P ts → k < length ts → P (get_or ts k d)
all_at P ts k d all lt = All-from_recursion P ts all k d lt

-- texts that are higher come after it
after_of : (text : Text) (ts : List Text) → AllWithin (Higher text) ts 0 (length ts) → AllByRecursion (After text) ts
after_of text [] behind = tt
after_of text (t ∷ ts) behind =
    (greater_back t text (behind zero t (omega arith) (omega arith)), after_of text ts (λ k d lo hi. behind (suc k) d (omega arith) (omega arith)))

-- ---- the gap that a text belongs in

-- the lower texts are those before the gap, the higher those behind it
pub parted : (text : Text) (ts : List Text) (i : ℕ) → i ≤ length ts → AllWithin (Lower text) ts 0 i → AllWithin (Higher text) ts i (length ts)
    → (below text_cmp (λ t. t) text ts ≡ take i ts) × (above text_cmp (λ t. t) text ts ≡ drop i ts)
parted text [] zero le front behind = (refl, refl)
parted text [] (suc i) le front behind = absurd (omega arith)
parted text (t ∷ ts) zero le front behind =
    let here : text_cmp t text ≡ Greater = behind zero t (omega arith) (omega arith) in
    let rest = parted text ts zero (omega arith) (λ k d lo hi. absurd (omega arith)) (λ k d lo hi. behind (suc k) d (omega arith) (omega arith)) in
    (rw here rest.0, rw here (ap (λ (us : List Text). t ∷ us) rest.1))
parted text (t ∷ ts) (suc i) le front behind =
    let here : text_cmp t text ≡ Less = front zero t (omega arith) (omega arith) in
    let rest = parted text ts i (omega arith) (λ k d lo hi. front (suc k) d (omega arith) (omega arith)) (λ k d lo hi. behind (suc k) d (omega arith) (omega arith)) in
    (rw here (ap (λ (us : List Text). t ∷ us) rest.0), rw here rest.1)

pub put_in_gap : (text : Text) (ts : List Text) (i : ℕ) → IsGap text ts i → with_text text ts ≡ insert ts i text
put_in_gap text ts i gap =
    let parts = parted text ts i gap.inside gap.parted.0 gap.parted.1 in
    ap (λ (us : List Text). us ++ text ∷ above text_cmp (λ t. t) text ts) parts.0 ∙ ap (λ (us : List Text). take i ts ++ text ∷ us) parts.1

all_insert : (P : Text → Type 0) (ts : List Text) (i : ℕ) (text : Text) → AllByRecursion P ts → P text → AllByRecursion P (insert ts i text)
all_insert P [] zero text all here = (here, tt)
all_insert P [] (suc i) text all here = (here, tt)
all_insert P (t ∷ ts) zero text all here = (here, all)
all_insert P (t ∷ ts) (suc i) text all here = (all.0, all_insert P ts i text all.1 here)

rising_insert : (text : Text) (ts : List Text) (i : ℕ) → AreRising ts → i ≤ length ts → AllWithin (Lower text) ts 0 i → AllWithin (Higher text) ts i (length ts) → AreRising (insert ts i text)
rising_insert text [] zero rising le front behind = (tt, tt)
rising_insert text [] (suc i) rising le front behind = absurd (omega arith)
rising_insert text (t ∷ ts) zero rising le front behind = (after_of text (t ∷ ts) behind, rising)
rising_insert text (t ∷ ts) (suc i) rising le front behind =
    let here : text_cmp t text ≡ Less = front zero t (omega arith) (omega arith) in (
      all_insert (After t) ts i text rising.0 here,
      rising_insert text ts i rising.1 (omega arith) (λ k d lo hi. front (suc k) d (omega arith) (omega arith)) (λ k d lo hi. behind (suc k) d (omega arith) (omega arith)),
    )

pub table_insert : (text : Text) (ts : List Text) (i : ℕ) → IsTable ts → IsText text → IsGap text ts i → IsTable (insert ts i text)
table_insert text ts i table is_text gap = record {
  each = all_insert IsText ts i text table.each is_text;
  rising = rising_insert text ts i table.rising gap.inside gap.parted.0 gap.parted.1;
}

pub absent : (text : Text) (ts : List Text) (i : ℕ) → IsGap text ts i → Contains ts text → ⊥
absent text ts i gap there =
    let k = there.0 in
    let inside = there.1 in
    let same : get_or ts k text ≡ text = there.2 in
    let tie : text_cmp (get_or ts k text) text ≡ Equal = ap (λ (t : Text). text_cmp t text) same ∙ itself text in
    elim (cases_lt k i) [
      | inl lt ↦ let other : text_cmp (get_or ts k text) text ≡ Less = gap.parted.0 k text (omega arith) lt in cc
      | inr le ↦ let other : text_cmp (get_or ts k text) text ≡ Greater = gap.parted.1 k text le inside in cc
    ]

-- ---- a text that is there

all_after : (text : Text) (ts : List Text) → AllByRecursion (After text) ts → (below text_cmp (λ t. t) text ts ≡ []) × (above text_cmp (λ t. t) text ts ≡ ts)
all_after text [] all = (refl, refl)
all_after text (t ∷ ts) all =
    let here : text_cmp t text ≡ Greater = less_back text t all.0 in
    let rest = all_after text ts all.1 in
    (rw here rest.0, rw here (ap (λ (us : List Text). t ∷ us) rest.1))

put_at : (text : Text) (ts : List Text) (i : ℕ) → AreRising ts → i < length ts → HoldsAt (λ t. t ≡ text) ts i → with_text text ts ≡ ts
put_at text [] i rising lt at = absurd (omega arith)
put_at text (t ∷ ts) zero rising lt at =
    let same : t ≡ text = at t in
    let tie : text_cmp t text ≡ Equal = ap (λ (u : Text). text_cmp t u) (sym same) ∙ itself t in
    let after : AllByRecursion (After text) ts = subst (λ (u : Text). AllByRecursion (After u) ts) same rising.0 in
    let parts = all_after text ts after in
    rw (tie, parts.0, parts.1) (ap (λ (u : Text). u ∷ ts) (sym same))
put_at text (t ∷ ts) (suc i) rising lt at =
    let there : get_or ts i t ≡ text = at t in
    let here : text_cmp t text ≡ Less = subst (After t) there (all_at (After t) ts i t rising.0 (omega arith)) in
    rw here (ap (λ (us : List Text). t ∷ us) (put_at text ts i rising.1 (omega arith) at))

pub put_there : (text : Text) (ts : List Text) (i : ℕ) → IsTable ts → IsThere text ts i → with_text text ts ≡ ts
put_there text ts i table there = put_at text ts i table.rising there.inside there.same

pub get_there : (text : Text) (ts : List Text) (i : ℕ) → IsThere text ts i → slice_get ts i ≡ Some text
get_there text ts i there = slice_get_read ts (length ts) i text refl there.inside (sym (there.same text))

-- ---- what a binary search asks

small_index : (o : Ordering) → ordering_index o ≤ 2
small_index Less = omega arith
small_index Equal = omega arith
small_index Greater = omega arith

index_by : (a b text : Text) (o : Ordering) → text_cmp a b ≡ Less → text_cmp b text ≡ o → ordering_index (text_cmp a text) ≤ ordering_index o
index_by a b text Less lt e = let through : text_cmp a text ≡ Less = nat_list_cmp_total.trans a b text lt e in rw through (omega arith)
index_by a b text Equal lt e = let here : text_cmp a text ≡ Less = ap (λ (t : Text). text_cmp a t) (sym (equal_is b text e)) ∙ lt in rw here (omega arith)
index_by a b text Greater lt e = small_index (text_cmp a text)

abbrev index_of : Text → Text → ℕ
index_of text t = ordering_index (text_cmp t text)

pub no_fall : (text : Text) (ts : List Text) → AreRising ts → IsNonDecreasingBy (index_of text) ts
no_fall text [] rising i j d le lt = absurd (omega arith)
no_fall text (t ∷ ts) rising zero zero d le lt = omega arith
no_fall text (t ∷ ts) rising zero (suc j) d le lt =
    let later : text_cmp t (get_or ts j d) ≡ Less = all_at (After t) ts j d rising.0 (omega arith) in
    index_by t (get_or ts j d) text (text_cmp (get_or ts j d) text) later refl
no_fall text (t ∷ ts) rising (suc i) zero d le lt = absurd (omega arith)
no_fall text (t ∷ ts) rising (suc i) (suc j) d le lt = no_fall text ts rising.1 i j d (omega arith) (omega arith)

abbrev pub InRange : Result ℕ ℕ → ℕ → Type 0
InRange r n = MatchResult r (λ i. i < n) (λ i. i ≤ n)

pub searched : (text : Text) (ts : List Text) (r : Result ℕ ℕ) → IsTable ts → InRange r (length ts) → IsBinarySearchResult (λ t. text_cmp t text) ts r → MatchResult r (IsThere text ts) (IsGap text ts)
searched text ts (Ok i) table bound found = record { inside = bound; same = λ d. equal_is (get_or ts i d) text (found d) }
searched text ts (Err i) table bound found = record { inside = bound; parted = found (no_fall text ts table.rising) }

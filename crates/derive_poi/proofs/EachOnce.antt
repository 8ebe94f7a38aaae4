-- Texts rising by their bytes, each once, are their list sorted, without repetitions.
use Rattle.std.proofs.Common.{◌≡◌, ℕ, List, [], ◌∷◌, ◌++◌, Bool, true, false, cond, ◌||◌, refl, sym, ◌∙◌, ap, subst, filter, arith}
use Rattle.std.specs.List.{AllByRecursion, list_any, dedup, dedup_from}
use Rattle.std.specs.List.Sorted.{IsStrictlySortedBy, IsPermutation, IsSorted}
use Rattle.std.specs.Ordering.{nat_cmp, ordering_reverse, ordering_then, is_eq, is_lt, is_gt}
use Rattle.std.specs.Cmp.Lexicographic.{slice_cmp, pointwise, texts_ties}
use Rattle.std.specs.Prelude.{nat_eq}
use Rattle.std.specs.declared.cmp.Ordering.{Ordering}
use Rattle.std.specs.declared.cmp.Ordering.TheVariants.{Less, Equal, Greater}
use Rattle.std.proofs.lemmas.Bool.{false≢true}
use Rattle.std.proofs.lemmas.Bool.Decides.{nat_tests}
use Rattle.std.proofs.lemmas.Cmp.{nat_list_cmp_total, tied_itself}
use Rattle.std.proofs.lemmas.List.Kept.{IsStrictlySortedBy-dedup}
use Rattle.std.proofs.lemmas.List.Sorted.{list_any-IsPermutation}
use Rattle.ordered_lists.specs.Ordered.{IsRisingBy, below, above, put_by, put_all}
use Rattle.derive_poi.specs.Categories.{each_once}

abbrev Text : Type 0
Text = List ℕ

abbrev compare : Text → Text → Ordering
compare a b = slice_cmp nat_cmp a b

abbrev After : Text → Text → Type 0
After text t = compare text t ≡ Less

abbrev AreRising : List Text → Type 0
AreRising texts = IsRisingBy (slice_cmp nat_cmp) (λ t. t) texts

abbrev with_text : Text → List Text → List Text
with_text text texts = put_by (slice_cmp nat_cmp) (λ t. t) text texts

abbrev lower : Text → List Text → List Text
lower text texts = below (slice_cmp nat_cmp) (λ t. t) text texts

abbrev higher : Text → List Text → List Text
higher text texts = above (slice_cmp nat_cmp) (λ t. t) text texts

-- ---- the order of texts

then_equal : (o p : Ordering) → ordering_then o p ≡ Equal → (o ≡ Equal) × (p ≡ Equal)
then_equal Less p e = absurd cc
then_equal Equal p e = (refl, e)
then_equal Greater p e = absurd cc

same_number : (a b : ℕ) → nat_cmp a b ≡ Equal → a ≡ b
same_number a b e = grind (arith, nat_tests)

equal_is : (a b : Text) → compare a b ≡ Equal → a ≡ b
equal_is [] [] e = refl
equal_is [] (y ∷ b) e = absurd cc
equal_is (x ∷ a) [] e = absurd cc
equal_is (x ∷ a) (y ∷ b) e =
    let parts = then_equal (nat_cmp x y) (compare a b) e in
    ap (λ (n : ℕ). n ∷ a) (same_number x y parts.0) ∙ ap (λ (t : Text). y ∷ t) (equal_is a b parts.1)

itself : (a : Text) → compare a a ≡ Equal
itself a = tied_itself nat_list_cmp_total a

turned : (a b : Text) (o : Ordering) → compare a b ≡ o → compare b a ≡ ordering_reverse o
turned a b o e = nat_list_cmp_total.antisymm b a ∙ ap ordering_reverse e

-- ---- lists that rise

all_append : (P : Text → Type 0) (xs ys : List Text) → AllByRecursion P xs → AllByRecursion P ys → AllByRecursion P (xs ++ ys)
all_append P [] ys a b = b
all_append P (x ∷ xs) ys a b = (a.0, all_append P xs ys a.1 b)

all_filter : (P : Text → Type 0) (p : Text → Bool) (xs : List Text) → AllByRecursion P xs → AllByRecursion P (filter p xs)
all_filter P p [] a = tt
all_filter P p (x ∷ xs) a =
    elim (p x) as (λ b. AllByRecursion P (cond b (x ∷ filter p xs) (filter p xs))) [ true ↦ (a.0, all_filter P p xs a.1) | false ↦ all_filter P p xs a.1 ]

all_later : (a b : Text) (xs : List Text) → After a b → AllByRecursion (After b) xs → AllByRecursion (After a) xs
all_later a b [] lt all = tt
all_later a b (x ∷ xs) lt all = (nat_list_cmp_total.trans a b x lt all.0, all_later a b xs lt all.1)

-- where all texts come after one, none is lower, and all are higher
none_lower : (text : Text) (ts : List Text) → AllByRecursion (After text) ts → lower text ts ≡ []
none_lower text [] all = refl
none_lower text (t ∷ ts) all = let here = turned text t Less all.0 in rw here (none_lower text ts all.1)

all_higher : (text : Text) (ts : List Text) → AllByRecursion (After text) ts → higher text ts ≡ ts
all_higher text [] all = refl
all_higher text (t ∷ ts) all = let here = turned text t Less all.0 in rw here (ap (λ (us : List Text). t ∷ us) (all_higher text ts all.1))

rising_put : (text : Text) (ts : List Text) → AreRising ts → AreRising (with_text text ts)
rising_put text [] rising = (tt, tt)
rising_put text (t ∷ ts) rising =
    elim (compare t text) as (λ o. compare t text ≡ o → AreRising (cond (is_lt o) (t ∷ lower text ts) (lower text ts) ++ text ∷ cond (is_gt o) (t ∷ higher text ts) (higher text ts))) [
      | Less ↦ λ e. (
        all_append (After t) (lower text ts) (text ∷ higher text ts) (all_filter (After t) _ ts rising.0) (e, all_filter (After t) _ ts rising.0),
        rising_put text ts rising.1,
      )
      | Equal ↦ λ e.
          let same : t ≡ text = equal_is t text e in
          let all : AllByRecursion (After text) ts = subst (λ u. AllByRecursion (After u) ts) same rising.0 in
          let none = none_lower text ts all in
          let whole = all_higher text ts all in
          rw (none, whole) (all, rising.1)
      | Greater ↦ λ e.
          let lt : compare text t ≡ Less = turned t text Greater e in
          let all = all_later text t ts lt rising.0 in
          let none = none_lower text ts all in
          let whole = all_higher text ts all in
          rw (none, whole) ((lt, all), rising)
    ] refl

rising_all : (ts us : List Text) → AreRising ts → AreRising (put_all (slice_cmp nat_cmp) (λ t. t) ts us)
rising_all ts [] rising = rising
rising_all ts (u ∷ us) rising = rising_all (with_text u ts) us (rising_put u ts rising)

-- ---- which texts are there

abbrev has : Text → List Text → Bool
has text ts = list_any (λ t. is_eq (compare t text)) ts

or_assoc : (a b c : Bool) → (a || b) || c ≡ a || (b || c)
or_assoc true b c = refl
or_assoc false b c = refl

or_left : (a b c : Bool) → a || (b || c) ≡ b || (a || c)
or_left true true c = refl
or_left true false c = refl
or_left false b c = refl

or_twice : (a b : Bool) → a || (a || b) ≡ a || b
or_twice true b = refl
or_twice false b = refl

has_append : (text : Text) (ts us : List Text) → has text (ts ++ us) ≡ has text ts || has text us
has_append text [] us = refl
has_append text (t ∷ ts) us =
    ap (λ b. is_eq (compare t text) || b) (has_append text ts us) ∙ sym (or_assoc (is_eq (compare t text)) (has text ts) (has text us))

-- a text that comes in is there, beside those that were
has_sides : (text u : Text) (ts : List Text) → has text (lower u ts) || (is_eq (compare u text) || has text (higher u ts)) ≡ is_eq (compare u text) || has text ts
has_sides text u [] = refl
has_sides text u (t ∷ ts) =
    let here : Bool = is_eq (compare t text) in
    let new : Bool = is_eq (compare u text) in
    let rest = has_sides text u ts in
    elim (compare t u) as (λ o. compare t u ≡ o → has text (cond (is_lt o) (t ∷ lower u ts) (lower u ts)) || (new || has text (cond (is_gt o) (t ∷ higher u ts) (higher u ts))) ≡ new || (here || has text ts)) [
      | Less ↦ λ e. or_assoc here (has text (lower u ts)) (new || has text (higher u ts)) ∙ ap (λ b. here || b) rest ∙ or_left here new (has text ts)
      | Equal ↦ λ e.
          let same : new ≡ here = ap (λ v. is_eq (compare v text)) (sym (equal_is t u e)) in
          rest ∙ sym (or_twice new (has text ts)) ∙ ap (λ b. new || (b || has text ts)) same
      | Greater ↦ λ e.
          ap (λ b. has text (lower u ts) || b) (or_left new here (has text (higher u ts)))
          ∙ or_left (has text (lower u ts)) here (new || has text (higher u ts)) ∙ ap (λ b. here || b) rest ∙ or_left here new (has text ts)
    ] refl

has_put : (text u : Text) (ts : List Text) → has text (with_text u ts) ≡ is_eq (compare u text) || has text ts
has_put text u ts = has_append text (lower u ts) (u ∷ higher u ts) ∙ has_sides text u ts

has_all : (text : Text) (ts us : List Text) → has text (put_all (slice_cmp nat_cmp) (λ t. t) ts us) ≡ has text us || has text ts
has_all text ts [] = refl
has_all text ts (u ∷ us) =
    has_all text (with_text u ts) us ∙ ap (λ b. has text us || b) (has_put text u ts)
    ∙ or_left (has text us) (is_eq (compare u text)) (has text ts) ∙ sym (or_assoc (is_eq (compare u text)) (has text us) (has text ts))

or_false : (a : Bool) → a || false ≡ a
or_false true = refl
or_false false = refl

-- ---- what is left of a list without repetitions

is_equal : (o : Ordering) → is_eq o ≡ true → o ≡ Equal
is_equal Less e = absurd (false≢true e)
is_equal Equal e = refl
is_equal Greater e = absurd (false≢true e)

has_dedup_from : (text u : Text) (ts : List Text) → has text (dedup_from (pointwise nat_eq) u ts) ≡ has text (u ∷ ts)
has_dedup_from text u [] = refl
has_dedup_from text u (t ∷ ts) =
    let first : Bool = is_eq (compare u text) in
    elim (pointwise nat_eq t u) as (λ b. pointwise nat_eq t u ≡ b → has text (cond b (dedup_from (pointwise nat_eq) u ts) (u ∷ dedup_from (pointwise nat_eq) t ts)) ≡ first || (is_eq (compare t text) || has text ts)) [
      | true ↦ λ e.
          let same : t ≡ u = equal_is t u (is_equal (compare t u) (sym (texts_ties t u) ∙ e)) in
          let here : first ≡ is_eq (compare t text) = ap (λ v. is_eq (compare v text)) (sym same) in
          has_dedup_from text u ts ∙ sym (or_twice first (has text ts)) ∙ ap (λ b. first || (b || has text ts)) here
      | false ↦ λ e. ap (λ b. first || b) (has_dedup_from text t ts)
    ] refl

has_dedup : (text : Text) (ts : List Text) → has text (dedup (pointwise nat_eq) ts) ≡ has text ts
has_dedup text [] = refl
has_dedup text (t ∷ ts) = has_dedup_from text t ts

-- ---- two lists that rise and have the same texts are one

not_among : (text : Text) (ts : List Text) → AllByRecursion (After text) ts → has text ts ≡ false
not_among text [] all = refl
not_among text (t ∷ ts) all = let here = turned text t Less all.0 in rw here (not_among text ts all.1)

not_before : (text t : Text) (ts : List Text) → After text t → AreRising (t ∷ ts) → has text (t ∷ ts) ≡ false
not_before text t ts lt rising = not_among text (t ∷ ts) (lt, all_later text t ts lt rising.0)

there : (t : Text) (ts : List Text) → has t (t ∷ ts) ≡ true
there t ts = ap (λ o. is_eq o || has t ts) (itself t)

same_behind : (t u : Text) (ts us : List Text) → AreRising (t ∷ ts) → AreRising (u ∷ us) → t ≡ u → (text : Text) → has text (t ∷ ts) ≡ has text (u ∷ us) → has text ts ≡ has text us
same_behind t u ts us rt ru first text same =
    elim (is_eq (compare t text)) as (λ b. is_eq (compare t text) ≡ b → has text ts ≡ has text us) [
      | true ↦ λ e.
          let here : t ≡ text = equal_is t text (is_equal (compare t text) e) in
          let none = not_among text ts (subst (λ v. AllByRecursion (After v) ts) here rt.0) in
          let none' = not_among text us (subst (λ v. AllByRecursion (After v) us) (sym first ∙ here) ru.0) in
          none ∙ sym none'
      | false ↦ λ e.
          let e' : is_eq (compare u text) ≡ false = ap (λ v. is_eq (compare v text)) (sym first) ∙ e in
          sym (ap (λ b. b || has text ts) e) ∙ same ∙ ap (λ b. b || has text us) e'
    ] refl

same_texts : (ts us : List Text) → AreRising ts → AreRising us → ((text : Text) → has text ts ≡ has text us) → ts ≡ us
same_texts [] [] rt ru same = refl
same_texts [] (u ∷ us) rt ru same = absurd (false≢true (same u ∙ there u us))
same_texts (t ∷ ts) [] rt ru same = absurd (false≢true (sym (same t) ∙ there t ts))
same_texts (t ∷ ts) (u ∷ us) rt ru same =
    elim (compare t u) as (λ o. compare t u ≡ o → t ∷ ts ≡ u ∷ us) [
      | Less ↦ λ e. absurd (false≢true (sym (not_before t u us e ru) ∙ sym (same t) ∙ there t ts))
      | Equal ↦ λ e.
          let first : t ≡ u = equal_is t u e in
          let rest : ts ≡ us = same_texts ts us rt.1 ru.1 (λ text. same_behind t u ts us rt ru first text (same text)) in
          ap (λ v. v ∷ ts) first ∙ ap (λ vs. u ∷ vs) rest
      | Greater ↦ λ e. absurd (false≢true (sym (not_before u t ts (turned t u Greater e) rt) ∙ same u ∙ there u us))
    ] refl

-- ---- a list that was sorted, without repetitions

rising_from : (ts : List Text) → IsStrictlySortedBy (slice_cmp nat_cmp) ts → AreRising ts
unfolding IsStrictlySortedBy
rising_from [] sorted = tt
rising_from (t ∷ ts) sorted = (sorted.0, rising_from ts sorted.1)

pub kept_once : (texts sorted kept : List Text) → IsPermutation texts sorted → IsSorted (slice_cmp nat_cmp) sorted → kept ≡ dedup (pointwise nat_eq) sorted → kept ≡ each_once texts
kept_once texts sorted kept moved order is =
    is ∙ same_texts (dedup (pointwise nat_eq) sorted) (each_once texts) (rising_from _ (IsStrictlySortedBy-dedup nat_list_cmp_total texts_ties sorted order)) (rising_all [] texts tt)
    (λ text.
    has_dedup text sorted ∙ sym (list_any-IsPermutation (λ t. is_eq (compare t text)) texts sorted moved)
    ∙ sym (has_all text [] texts ∙ or_false (has text texts)))

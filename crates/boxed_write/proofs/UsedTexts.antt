-- The texts of a block: each name is among them, and has its number.
use Rattle.std.proofs.Common.{◌≡◌, ◌≢◌, ℕ, zero, suc, ◌+◌, ◌<◌, Bool, true, false, cond, List, [], ◌∷◌, length, get_or, Some, slice_get, refl, sym, ap, subst, ◌∙◌, arith, inl, inr, ◌⊎◌}
use Rattle.std.specs.Prelude.{filter, flat_map, nat_lt, ◌==◌}
use Rattle.std.specs.List.{AllByRecursion, Contains, count_by}
use Rattle.std.specs.Ordering.{is_lt, is_gt}
use Rattle.std.specs.declared.cmp.Ordering.{Ordering}
use Rattle.std.specs.declared.cmp.Ordering.TheVariants.{Less, Equal, Greater}
use Rattle.std.proofs.lemmas.Bool.Decides.{nat_tests}
use Rattle.std.proofs.lemmas.List.Sums.{sum_by-cons}
use Rattle.std.proofs.lemmas.List.Elements.{Contains-append_left, Contains-append_right}
use Rattle.ordered_lists.specs.Ordered.{below, above, put_by, put_all}
use Rattle.text_table.specs.Tables.{text_cmp, AreRising}
use Rattle.text_table.proofs.Rising.{equal_is, itself, less_back}
use Rattle.boxed_write.specs.Packed.{Packing, texts_of, text_number}
use Rattle.boxed_write.specs.Classes.{IsNamedIn}

abbrev Text : Type 0
Text = List ℕ

-- ---- the number of a text

lower : Text → List Text → ℕ
lower text texts = count_by (λ other. is_lt (text_cmp other text)) texts

lower_cons : (text t : Text) (ts : List Text) → lower text (t ∷ ts) ≡ cond (is_lt (text_cmp t text)) 1 0 + lower text ts
unfolding lower
lower_cons text t ts = sum_by-cons (λ other. cond (is_lt (text_cmp other text)) 1 0) t ts

step_of : (o : Ordering) (p : Ordering) → o ≡ p → cond {A = ℕ} (is_lt o) 1 0 ≡ cond {A = ℕ} (is_lt p) 1 0
step_of o p e = ap (λ (r : Ordering). cond {A = ℕ} (is_lt r) 1 0) e

none_lower : (text : Text) (ts : List Text) → AllByRecursion (λ t. text_cmp text t ≡ Less) ts → lower text ts ≡ 0
unfolding lower
none_lower text [] all = refl
none_lower text (t ∷ ts) all =
    let here : cond {A = ℕ} (is_lt (text_cmp t text)) 1 0 ≡ 0 = step_of (text_cmp t text) Greater (less_back text t all.0) in
    let rest = none_lower text ts all.1 in
    let parts = lower_cons text t ts in
    omega arith

some_of : (t u : Text) → Some t ≡ Some u → t ≡ u
some_of t u e = cc

all_found : (P : Text → Type 0) (ts : List Text) (k : ℕ) (u : Text) → AllByRecursion P ts → slice_get ts k ≡ Some u → P u
all_found P [] k u all e = absurd (cc)
all_found P (t ∷ ts) zero u all e = subst P (some_of t u e) all.0
all_found P (t ∷ ts) (suc k) u all e = all_found P ts k u all.1 e

lower_is : (text : Text) (ts : List Text) (k : ℕ) → AreRising ts → slice_get ts k ≡ Some text → lower text ts ≡ k
lower_is text [] k rising e = absurd (cc)
lower_is text (t ∷ ts) zero rising e =
    let same : t ≡ text = some_of t text e in
    let here : cond {A = ℕ} (is_lt (text_cmp t text)) 1 0 ≡ 0 = step_of (text_cmp t text) Equal (ap (λ (u : Text). text_cmp t u) (sym same) ∙ itself t) in
    let rest = none_lower text ts (subst (λ (u : Text). AllByRecursion (λ w. text_cmp u w ≡ Less) ts) same rising.0) in
    let parts = lower_cons text t ts in
    omega arith
lower_is text (t ∷ ts) (suc k) rising e =
    let here : cond {A = ℕ} (is_lt (text_cmp t text)) 1 0 ≡ 1 = step_of (text_cmp t text) Less (all_found (λ u. text_cmp t u ≡ Less) ts k text rising.0 e) in
    let rest = lower_is text ts k rising.1 e in
    let parts = lower_cons text t ts in
    omega arith

is_some : (n : ℕ) → (suc n == 0) ≡ false
is_some n = grind (arith, nat_tests)

numbered : (texts : List Text) (text : Text) → text ≢ [] → lower text texts + 1 ≡ text_number texts text
unfolding lower
numbered texts [] some = absurd (some refl)
numbered texts (b ∷ bs) some = rw (is_some (length bs)) refl

pub number_is : (texts : List Text) (text : Text) (k : ℕ) → AreRising texts → slice_get texts k ≡ Some text → text ≢ [] → k + 1 ≡ text_number texts text
number_is texts text k rising e some = ap (λ (n : ℕ). n + 1) (sym (lower_is text texts k rising e)) ∙ numbered texts text some

pub some_bytes : (text : Text) (b : Bool) → b ≡ (length text == 0) → b ≡ false → text ≢ []
some_bytes [] b is f = λ e. absurd (cc)
some_bytes (x ∷ xs) b is f = λ e. absurd (cc)

-- ---- what is among the texts

here : {A : Type 0} (x : A) (xs : List A) → Contains (x ∷ xs) x
here x xs = (0, omega arith, refl)

later : {A : Type 0} (y : A) (xs : List A) (x : A) → Contains xs x → Contains (y ∷ xs) x
later y xs x in_xs = Contains-append_right (y ∷ []) xs x in_xs

first_or : {A : Type 0} (y : A) (ys : List A) (x : A) → Contains (y ∷ ys) x → (y ≡ x) ⊎ Contains ys x
first_or {A} y ys x found = one found.0 found.1 found.2
  where
    one : (k : ℕ) → k < length (y ∷ ys) → get_or (y ∷ ys) k x ≡ x → (y ≡ x) ⊎ Contains ys x
    one zero inside is = inl is
    one (suc k) inside is = inr (k, omega arith, is)

kept : (p : Text → Bool) (xs : List Text) (x : Text) → p x ≡ true → Contains xs x → Contains (filter p xs) x
kept p [] x good found = found
kept p (y ∷ ys) x good found =
    elim (first_or y ys x found) as (λ s. Contains (filter p (y ∷ ys)) x) [
      | inl same ↦ let t : p y ≡ true = ap p same ∙ good in rw t (subst (λ (z : Text). Contains (z ∷ filter p ys) x) (sym same) (here x (filter p ys)))
      | inr rest ↦
          let ih : Contains (filter p ys) x = kept p ys x good rest in
          elim (p y) as (λ b. Contains (cond b (y ∷ filter p ys) (filter p ys)) x) [
            | true ↦ later y (filter p ys) x ih
            | false ↦ ih
          ]
    ]

abbrev put : Text → List Text → List Text
put y xs = put_by text_cmp (λ t. t) y xs

put_itself : (y : Text) (xs : List Text) → Contains (put y xs) y
put_itself y xs = Contains-append_right (below text_cmp (λ t. t) y xs) (y ∷ above text_cmp (λ t. t) y xs) y (here y (above text_cmp (λ t. t) y xs))

put_keeps : (y : Text) (xs : List Text) (x : Text) → Contains xs x → Contains (put y xs) x
put_keeps y xs x found = one (text_cmp x y) refl
  where
    one : (r : Ordering) → text_cmp x y ≡ r → Contains (put y xs) x
    one Less e =
        Contains-append_left (below text_cmp (λ t. t) y xs) (y ∷ above text_cmp (λ t. t) y xs) x (kept (λ t. is_lt (text_cmp t y)) xs x (ap is_lt e) found)
    one Equal e = subst (Contains (put y xs)) (sym (equal_is x y e)) (put_itself y xs)
    one Greater e =
        Contains-append_right (below text_cmp (λ t. t) y xs) (y ∷ above text_cmp (λ t. t) y xs) x
        (later y (above text_cmp (λ t. t) y xs) x (kept (λ t. is_gt (text_cmp t y)) xs x (ap is_gt e) found))

all_keep : (xs ps : List Text) (x : Text) → Contains xs x → Contains (put_all text_cmp (λ t. t) xs ps) x
all_keep xs [] x found = found
all_keep xs (p ∷ ps) x found = all_keep (put p xs) ps x (put_keeps p xs x found)

all_put : (xs ps : List Text) (x : Text) → Contains ps x → Contains (put_all text_cmp (λ t. t) xs ps) x
all_put xs [] x found = absurd (omega (arith, found.1))
all_put xs (p ∷ ps) x found =
    elim (first_or p ps x found) as (λ s. Contains (put_all text_cmp (λ t. t) (put p xs) ps) x) [
      | inl same ↦ all_keep (put p xs) ps x (subst (Contains (put p xs)) same (put_itself p xs))
      | inr rest ↦ all_put (put p xs) ps x rest
    ]

is_text : (text : Text) → text ≢ [] → nat_lt 0 (length text) ≡ true
is_text [] some = absurd (some refl)
is_text (b ∷ bs) some = grind (arith, nat_tests)

module _ {A : Type 0} (packing : Packing A) where
  named_in : (all ms : List A) → ((x : Text) → Contains (flat_map packing.texts ms) x → Contains (flat_map packing.texts all) x) → AllByRecursion (IsNamedIn packing (texts_of packing all)) ms
  named_in all [] among = tt
  named_in all (m ∷ ms) among = (
    λ text found some. all_put [] (filter (λ text. nat_lt 0 (length text)) (flat_map packing.texts all)) text
        (kept (λ text. nat_lt 0 (length text)) (flat_map packing.texts all) text (is_text text some) (among text (Contains-append_left (packing.texts m) (flat_map packing.texts ms) text found))),
    named_in all ms (λ x found. among x (Contains-append_right (packing.texts m) (flat_map packing.texts ms) x found)),
  )

  -- each text is among the texts of its block
  pub all_named : (ms : List A) → AllByRecursion (IsNamedIn packing (texts_of packing ms)) ms
  all_named ms = named_in ms ms (λ x found. found)

-- What is among lists that are filtered, mapped and joined; and rising lists of ids, told by what is among them.
use Rattle.std.proofs.Common.{◌≡◌, ℕ, ◌<◌, List, [], ◌∷◌, Bool, true, false, cond, ◌||◌, ◌&&◌, eqb, refl, sym, ap, ◌∙◌, arith, inl, inr, eq-eqb}
use Rattle.std.specs.Prelude.{filter, map, flat_map}
use Rattle.std.specs.List.{AllByRecursion, list_any}
use Rattle.std.specs.Ordering.{nat_cmp}
use Rattle.std.specs.declared.cmp.Ordering.TheVariants.{Less}
use Rattle.std.proofs.lemmas.Bool.{eqb-true, eqb-false, ne_eqb, cases_lt}
use Rattle.live_model.specs.Ids.{Id, IsId, ordinal}
use Rattle.ordered_lists.specs.Ordered.{IsRisingBy}
use Rattle.map_laws.proofs.Folds.{any_append}
use Rattle.map_laws.proofs.Picks.{lower}
use Rattle.map_laws.proofs.RecordOrder.{one_id}
use Rattle.live_model.specs.Users.{is_among}

pub and_false : (b : Bool) → (b && false) ≡ false
and_false true = refl
and_false false = refl

pub and_true : (b : Bool) → (b && true) ≡ b
and_true true = refl
and_true false = refl

pub or_no : (b : Bool) → (b || false) ≡ b
or_no true = refl
or_no false = refl

or_true : (b : Bool) → (b || true) ≡ true
or_true true = refl
or_true false = refl

-- a test that implies another may stand for both
pub implied : (a b : Bool) → (a ≡ false → b ≡ false) → (a && b) ≡ b
implied true b h = refl
implied false b h = sym (h refl)

pub eqb_turned : (m n : ℕ) → eqb m n ≡ eqb n m
eqb_turned m n = one (eqb m n) refl
  where
    one : (b : Bool) → eqb m n ≡ b → b ≡ eqb n m
    one true e = sym (eq-eqb n m (sym (eqb-true m n e)))
    one false e = sym (ne_eqb n m (λ f. eqb-false m n e (sym f)))

module _ {A : Type 0} where
  pub any_alike : (p q : A → Bool) (xs : List A) → ((x : A) → p x ≡ q x) → list_any p xs ≡ list_any q xs
  any_alike p q [] alike = refl
  any_alike p q (x ∷ xs) alike = λ i. alike x i || any_alike p q xs alike i

  pub any_or : (p q : A → Bool) (xs : List A) → list_any (λ x. p x || q x) xs ≡ (list_any p xs || list_any q xs)
  any_or p q [] = refl
  any_or p q (x ∷ xs) = ap (λ b. (p x || q x) || b) (any_or p q xs) ∙ one (p x) (q x) (list_any p xs)
    where
      one : (s t u : Bool) → ((s || t) || (u || list_any q xs)) ≡ ((s || u) || (t || list_any q xs))
      one true t u = refl
      one false false u = refl
      one false true true = refl
      one false true false = refl

  pub any_no : (xs : List A) → list_any (λ (x : A). false) xs ≡ false
  any_no [] = refl
  any_no (x ∷ xs) = any_no xs

  -- a filter that treats alike what passes
  pub any_filter : (p q : A → Bool) (b : Bool) → ((x : A) → p x ≡ true → q x ≡ b) → (xs : List A) → list_any p (filter q xs) ≡ (list_any p xs && b)
  any_filter p q b alike [] = refl
  any_filter p q b alike (x ∷ xs) = one (p x) (q x) refl refl (any_filter p q b alike xs)
    where
      one : (s t : Bool) → p x ≡ s → q x ≡ t → list_any p (filter q xs) ≡ (list_any p xs && b) → list_any p (cond t (x ∷ filter q xs) (filter q xs)) ≡ ((s || list_any p xs) && b)
      one true true e f again = ap (λ c. c || list_any p (filter q xs)) e ∙ sym (sym (alike x e) ∙ f)
      one true false e f again = again ∙ ap (λ c. list_any p xs && c) (sym (alike x e) ∙ f) ∙ and_false (list_any p xs) ∙ sym (sym (alike x e) ∙ f)
      one false true e f again = ap (λ c. c || list_any p (filter q xs)) e ∙ again
      one false false e f again = again

  pub any_filter_no : (p q : A → Bool) (xs : List A) → list_any p xs ≡ false → list_any p (filter q xs) ≡ false
  any_filter_no p q [] none = refl
  any_filter_no p q (x ∷ xs) none = one (p x) (q x) refl none (any_filter_no p q xs)
    where
      one : (s t : Bool) → p x ≡ s → (s || list_any p xs) ≡ false → (list_any p xs ≡ false → list_any p (filter q xs) ≡ false) → list_any p (cond t (x ∷ filter q xs) (filter q xs)) ≡ false
      one true t e none again = absurd (cc)
      one false true e none again = ap (λ c. c || list_any p (filter q xs)) e ∙ again none
      one false false e none again = again none

pub any_map : {A B : Type 0} (p : B → Bool) (f : A → B) (xs : List A) → list_any p (map f xs) ≡ list_any (λ x. p (f x)) xs
any_map p f [] = refl
any_map p f (x ∷ xs) = ap (λ b. p (f x) || b) (any_map p f xs)

pub any_flat : {A B : Type 0} (p : B → Bool) (f : A → List B) (xs : List A) → list_any p (flat_map f xs) ≡ list_any (λ x. list_any p (f x)) xs
any_flat p f [] = refl
any_flat p f (x ∷ xs) = any_append p (f x) (flat_map f xs) ∙ ap (λ b. list_any p (f x) || b) (any_flat p f xs)

pub any_swap : {A B : Type 0} (r : A → B → Bool) (xs : List A) (ys : List B) → list_any (λ x. list_any (r x) ys) xs ≡ list_any (λ y. list_any (λ x. r x y) xs) ys
any_swap r [] ys = sym (any_no ys)
any_swap r (x ∷ xs) ys = ap (λ b. list_any (r x) ys || b) (any_swap r xs ys) ∙ sym (any_or (r x) (λ y. list_any (λ x. r x y) xs) ys)

-- ---- rising ids

none_above : (i x : Id) (ids : List Id) → ordinal i < ordinal x → AllByRecursion (λ y. nat_cmp (ordinal x) (ordinal y) ≡ Less) ids → is_among ids i ≡ false
none_above i x [] lt all = refl
none_above i x (y ∷ ys) lt all =
    let less = lower (ordinal x) (ordinal y) all.0 in
    ap (λ b. b || is_among ys i) (ne_eqb (ordinal y) (ordinal i) (λ (e : ordinal y ≡ ordinal i). omega arith)) ∙ none_above i x ys lt all.1

pub none_behind : (i x : Id) (ids : List Id) → ordinal i ≡ ordinal x → AllByRecursion (λ y. nat_cmp (ordinal x) (ordinal y) ≡ Less) ids → is_among ids i ≡ false
none_behind i x [] same all = refl
none_behind i x (y ∷ ys) same all =
    let less = lower (ordinal x) (ordinal y) all.0 in
    ap (λ b. b || is_among ys i) (ne_eqb (ordinal y) (ordinal i) (λ (e : ordinal y ≡ ordinal i). omega arith)) ∙ none_behind i x ys same all.1

here : (x : Id) (ids : List Id) → is_among (x ∷ ids) x ≡ true
here x ids = ap (λ b. b || is_among ids x) (eq-eqb (ordinal x) (ordinal x) refl)

no_lower : (x y : Id) (xs ys : List Id) → ordinal x < ordinal y → IsRisingBy nat_cmp ordinal (y ∷ ys) → is_among (x ∷ xs) x ≡ is_among (y ∷ ys) x → ⊥
no_lower x y xs ys lt rising e =
    let first : eqb (ordinal y) (ordinal x) ≡ false = ne_eqb (ordinal y) (ordinal x) (λ (f : ordinal y ≡ ordinal x). omega arith) in
    let none : is_among (y ∷ ys) x ≡ false = ap (λ b. b || is_among ys x) first ∙ none_above x y ys lt rising.0 in
    let some : is_among (x ∷ xs) x ≡ true = here x xs in
    cc

-- rising lists of good ids with the same ids among them are one
pub same_members : (xs ys : List Id) → IsRisingBy nat_cmp ordinal xs → IsRisingBy nat_cmp ordinal ys → AllByRecursion IsId xs → AllByRecursion IsId ys
    → ((i : Id) → is_among xs i ≡ is_among ys i) → xs ≡ ys
same_members [] [] rx ry gx gy h = refl
same_members [] (y ∷ ys) rx ry gx gy h = let some : is_among (y ∷ ys) y ≡ true = here y ys in let e : false ≡ is_among (y ∷ ys) y = h y in absurd (cc)
same_members (x ∷ xs) [] rx ry gx gy h = let some : is_among (x ∷ xs) x ≡ true = here x xs in let e : is_among (x ∷ xs) x ≡ false = h x in absurd (cc)
same_members (x ∷ xs) (y ∷ ys) rx ry gx gy h =
    elim (cases_lt (ordinal x) (ordinal y)) [
      | inl lt ↦ absurd (no_lower x y xs ys lt ry (h x))
      | inr le ↦ elim (cases_lt (ordinal y) (ordinal x)) [
        | inl lt ↦ absurd (no_lower y x ys xs lt rx (sym (h y)))
        | inr ge ↦
            let same : ordinal x ≡ ordinal y = omega arith in
            let first : x ≡ y = one_id x y gx.0 gy.0 same in
            let rest : xs ≡ ys = same_members xs ys rx.1 ry.1 gx.1 gy.1 (λ i. tail i same (eqb (ordinal x) (ordinal i)) refl (h i)) in
            λ i. first i ∷ rest i
      ]
    ]
  where
    tail : (i : Id) → ordinal x ≡ ordinal y → (b : Bool) → eqb (ordinal x) (ordinal i) ≡ b → (eqb (ordinal x) (ordinal i) || is_among xs i) ≡ (eqb (ordinal y) (ordinal i) || is_among ys i) → is_among xs i ≡ is_among ys i
    tail i same true e both =
        let f = eqb-true (ordinal x) (ordinal i) e in
        none_behind i x xs (sym f) rx.0 ∙ sym (none_behind i y ys (sym f ∙ same) ry.0)
    tail i same false e both =
        ap (λ b. b || is_among xs i) (sym e) ∙ both ∙ ap (λ n. eqb n (ordinal i) || is_among ys i) (sym same) ∙ ap (λ b. b || is_among ys i) e

-- Steps of loops over the rest of a list.
use Rattle.std.proofs.Common.{◌≡◌, ℕ, ◌-◌, ◌≤◌, List, [], ◌∷◌, ◌++◌, length, map, take, drop, refl, sym, ap, subst, ◌∙◌, arith, get_or, append_assoc, true, false, cond}
use Rattle.std.specs.Prelude.{flat_map, nat_lt}
use Rattle.std.specs.List.{AllByRecursion}
use Rattle.std.proofs.lemmas.List.{take_all}
use Rattle.obf_wire.specs.Fields.{number_field, short_field}
use Rattle.live_model.specs.declared.points.Rect.{Rect}
use Rattle.live_model.specs.Geometry.{middle}
use Rattle.box_tree.specs.Packing.{code}
use Rattle.boxed_write.specs.Packed.{Packing, records_behind}
use Rattle.boxed_write.specs.Classes.{Placed, IsPlaced, held, items_of, boxes_of, nonempty, with_texts}
use denote.Ref.{Bor}

module _ {A : Type 0} where
  -- the list after its first item
  pub tail_is : (x : A) (xs : List A) → take (length (x ∷ xs) - 1) (drop 1 (x ∷ xs)) ≡ xs
  tail_is x xs =
      let e : length (x ∷ xs) - 1 ≡ length xs = omega arith in
      ap (λ (n : ℕ). take n xs) e ∙ take_all (length xs) xs (omega arith)

  pub all_with : (P : A → Type 0) (xs : List A) (x : A) → AllByRecursion P xs → P x → AllByRecursion P (xs ++ x ∷ [])
  all_with P [] x all one = (one, tt)
  all_with P (y ∷ ys) x all one = (all.0, all_with P ys x all.1 one)

items_more : {A : Type 0} (got : List (Placed A)) (p : Placed A) → items_of (got ++ p ∷ []) ≡ items_of got ++ p.2.now ∷ []
items_more [] p = refl
items_more {A} (q ∷ qs) p = ap (λ (ms : List A). q.2.now ∷ ms) (items_more qs p)

-- one more record is placed
pub placed_step : {A : Type 0} (got now : List (Placed A)) (p : Placed A) (rest : List (Bor A)) (all : List A) → 1 ≤ length rest → p.2 ≡ get_or rest 0 p.2 → now ≡ got ++ p ∷ [] → items_of got ++ held rest ≡ all
    → items_of now ++ held (take (length rest - 1) (drop 1 rest)) ≡ all
placed_step got now p [] all some is more done = absurd (omega arith)
placed_step {A} got now p (x ∷ xs) all some is more done =
    ap (λ (rs : List (Bor A)). items_of now ++ held rs) (tail_is x xs)
    ∙ ap (λ (ps : List (Placed A)). items_of ps ++ held xs) more
    ∙ ap (λ (rs : List A). rs ++ held xs) (items_more got p)
    ∙ append_assoc (items_of got) (p.2.now ∷ []) (held xs)
    ∙ ap (λ (r : Bor A). items_of got ++ r.now ∷ held xs) is
    ∙ done

module _ {A : Type 0} (packing : Packing A) where
  pub placed_more : (got now : List (Placed A)) (p : Placed A) → now ≡ got ++ p ∷ [] → AllByRecursion (IsPlaced packing) got → p.1 ≡ packing.box p.2.now → p.0 ≡ code (middle p.1) → AllByRecursion (IsPlaced packing) now
  placed_more got now p more all box coded =
      subst (AllByRecursion (IsPlaced packing)) (sym more) (all_with (IsPlaced packing) got p all (coded ∙ ap (λ (r : Rect). code (middle r)) box, box))

  -- the boxes beside records are theirs
  pub boxes_are : (ps : List (Placed A)) → AllByRecursion (IsPlaced packing) ps → boxes_of ps ≡ map packing.box (items_of ps)
  boxes_are [] all = refl
  boxes_are (p ∷ ps) all = ap (λ (r : Rect). r ∷ boxes_of ps) all.0.1 ∙ ap (λ (rs : List Rect). packing.box p.2.now ∷ rs) (boxes_are ps all.1)

put_more : (xs ys zs : List (List ℕ)) → with_texts (xs ++ ys) zs ≡ with_texts ys (with_texts xs zs)
put_more [] ys zs = refl
put_more (x ∷ xs) ys zs = put_more xs ys (with_texts (x ∷ []) zs)

kept_more : (xs ys : List (List ℕ)) → nonempty (xs ++ ys) ≡ nonempty xs ++ nonempty ys
kept_more [] ys = refl
kept_more (x ∷ xs) ys =
    elim (nat_lt 0 (length x)) as (λ b. cond b (x ∷ nonempty (xs ++ ys)) (nonempty (xs ++ ys)) ≡ cond b (x ∷ nonempty xs) (nonempty xs) ++ nonempty ys) [
      | true ↦ ap (λ (ts : List (List ℕ)). x ∷ ts) (kept_more xs ys)
      | false ↦ kept_more xs ys
    ]

module _ {A : Type 0} (packing : Packing A) where
  pub texts_step : (old new : List (List ℕ)) (rest : List (Placed A)) (r : Placed A) (all : List (List ℕ)) → 1 ≤ length rest → r ≡ get_or rest 0 r → new ≡ with_texts (nonempty (packing.texts r.2.now)) old → with_texts (nonempty (flat_map packing.texts (items_of rest))) old ≡ all → with_texts (nonempty (flat_map packing.texts (items_of (take (length rest - 1) (drop 1 rest))))) new ≡ all
  texts_step old new [] r all some is put done = absurd (omega arith)
  texts_step old new (x ∷ xs) r all some is put done =
      ap (λ (rs : List (Placed A)). with_texts (nonempty (flat_map packing.texts (items_of rs))) new) (tail_is x xs)
      ∙ ap (λ (ts : List (List ℕ)). with_texts (nonempty (flat_map packing.texts (items_of xs))) ts) put
      ∙ ap (λ (w : Placed A). with_texts (nonempty (flat_map packing.texts (items_of xs))) (with_texts (nonempty (packing.texts w.2.now)) old)) is
      ∙ sym (put_more (nonempty (packing.texts x.2.now)) (nonempty (flat_map packing.texts (items_of xs))) old)
      ∙ ap (λ (ts : List (List ℕ)). with_texts ts old) (sym (kept_more (packing.texts x.2.now) (flat_map packing.texts (items_of xs))))
      ∙ done

  pub behind_step : (texts : List (List ℕ)) (before : ℕ) (out now : List ℕ) (rest : List (Placed A)) (r : Placed A) (after : ℕ) (all : List ℕ) → 1 ≤ length rest → r ≡ get_or rest 0 r → now ≡ out ++ short_field 2 (number_field 1 (packing.ordinal r.2.now - before) ++ packing.fields texts r.2.now) → after ≡ packing.ordinal r.2.now → out ++ records_behind packing texts before (items_of rest) ≡ all → now ++ records_behind packing texts after (items_of (take (length rest - 1) (drop 1 rest))) ≡ all
  behind_step texts before out now [] r after all some is put number done = absurd (omega arith)
  behind_step texts before out now (x ∷ xs) r after all some is put number done =
      let one : A → List ℕ = λ w. short_field 2 (number_field 1 (packing.ordinal w - before) ++ packing.fields texts w) in
      ap (λ (rs : List (Placed A)). now ++ records_behind packing texts after (items_of rs)) (tail_is x xs)
      ∙ ap (λ (n : ℕ). now ++ records_behind packing texts n (items_of xs)) number
      ∙ ap (λ (bytes : List ℕ). bytes ++ records_behind packing texts (packing.ordinal r.2.now) (items_of xs)) put
      ∙ append_assoc out (one r.2.now) (records_behind packing texts (packing.ordinal r.2.now) (items_of xs))
      ∙ ap (λ (w : Placed A). out ++ (one w.2.now ++ records_behind packing texts (packing.ordinal w.2.now) (items_of xs))) is
      ∙ done

pub items_of_behind : {A : Type 0} (P : A → Type 0) (rest : List (Placed A)) → 1 ≤ length rest → AllByRecursion P (items_of rest) → AllByRecursion P (items_of (take (length rest - 1) (drop 1 rest)))
items_of_behind P [] some all = absurd (omega arith)
items_of_behind {A} P (x ∷ xs) some all = subst (λ (rs : List (Placed A)). AllByRecursion P (items_of rs)) (sym (tail_is x xs)) all.1

-- Going over the values of a map in the order of its keys.
use Rattle.std.proofs.Common.{◌≡◌, List, [], ◌∷◌, ◌++◌, Bool, true, false, cond, Option, Some, None, refl, sym, ap, ◌∙◌, arith, length, zip, subst, append_assoc, get_or}
use Rattle.std.specs.Prelude.{filter, find, map}
use Rattle.std.specs.List.{AllByRecursion}
use Rattle.std.specs.Ordering.{is_gt, ordering_reverse}
use Rattle.std.specs.declared.cmp.Ordering.{Ordering}
use Rattle.std.specs.declared.cmp.Ordering.TheVariants.{Less}
use Rattle.std.specs.Cmp.{IsTotalOrder, tied_itself}
use Rattle.std.proofs.lemmas.List.{append-nil}
use Rattle.ordered_lists.proofs.PutAll.{all_map, all_append, filter_all}
use Rattle.layer_table.specs.Layers.{key_of, value_of, IsMap, is_above, next_of, laid, values_set, values_above}
use Rattle.layer_table.proofs.Following.{above_more}
use Rattle.layer_table.proofs.Joining.{AreBelow, all_lower, none_higher, put_above}

-- what stands beside keys
pub zip_values : {K W : Type 0} (ks : List K) (vs : List W) → length ks ≡ length vs → vs ≡ map value_of (zip ks vs)
zip_values [] [] e = refl
zip_values [] (v ∷ vs) e = absurd (omega (arith, e))
zip_values (k ∷ ks) [] e = absurd (omega (arith, e))
zip_values (k ∷ ks) (v ∷ vs) e = ap (λ ws. v ∷ ws) (zip_values ks vs (omega (arith, e)))

map_append : {A B : Type 0} (f : A → B) (xs ys : List A) → map f (xs ++ ys) ≡ map f xs ++ map f ys
map_append f [] ys = refl
map_append f (x ∷ xs) ys = ap (λ zs. f x ∷ zs) (map_append f xs ys)

found_all : {A : Type 0} (P : A → Type 0) (q : A → Bool) (x : A) (xs : List A) → AllByRecursion P xs → find q xs ≡ Some x → P x
found_all P q x [] all e = absurd (cc)
found_all P q x (y ∷ ys) all e = one (q y) e (found_all P q x ys all.1)
  where
    one : (b : Bool) → cond b (Some y) (find q ys) ≡ Some x → (find q ys ≡ Some x → P x) → P x
    one true f again = let same : y ≡ x = cc in subst P same all.0
    one false f again = again f

-- a list of one item
pub one_item : {A : Type 0} (xs : List A) (x : A) → length xs ≡ 1 → x ≡ get_or xs 0 x → xs ≡ x ∷ []
one_item [] x e is = absurd (omega (arith, e))
one_item (y ∷ []) x e is = ap (λ z. z ∷ []) (sym is)
one_item (y ∷ z ∷ ys) x e is = absurd (omega (arith, e))

module _ {K : Type 0} (cmp : K → K → Ordering) (o : IsTotalOrder cmp) where
  not_above : (k : K) → is_above cmp (Some k) k ≡ false
  not_above k = ap is_gt (tied_itself o k)

  all_above : {V : Type 0} (last : Option K) (p : K × V) (ps : List (K × V)) → is_above cmp last p.0 ≡ true → AllByRecursion (λ (q : K × V). cmp p.0 q.0 ≡ Less) ps → filter (λ (q : K × V). is_above cmp last q.0) ps ≡ ps
  all_above {V} last p ps up all =
      filter_all (λ (q : K × V). is_above cmp last q.0) ps (all_map (λ (q : K × V). cmp p.0 q.0 ≡ Less) (λ (q : K × V). is_above cmp last q.0 ≡ true) ps (λ q less. above_more cmp o last q.0 p.0 up less) all)

  all_over : {V : Type 0} (p : K × V) (ps : List (K × V)) → AllByRecursion (λ (q : K × V). cmp p.0 q.0 ≡ Less) ps → filter (λ (q : K × V). is_above cmp (Some p.0) q.0) ps ≡ ps
  all_over {V} p ps all =
      filter_all (λ (q : K × V). is_above cmp (Some p.0) q.0) ps (all_map (λ (q : K × V). cmp p.0 q.0 ≡ Less) (λ (q : K × V). is_above cmp (Some p.0) q.0 ≡ true) ps (λ q less. ap is_gt (o.antisymm q.0 p.0 ∙ ap ordering_reverse less)) all)

  -- what is above a key is the next pair and what is above that
  pub above_next : {V : Type 0} (last : Option K) (p : K × V) (ps : List (K × V)) → IsMap cmp ps → next_of cmp last ps ≡ Some p
      → filter (λ (q : K × V). is_above cmp last q.0) ps ≡ p ∷ filter (λ (q : K × V). is_above cmp (Some p.0) q.0) ps
  above_next last p [] rising e = absurd (cc)
  above_next {V} last p (q ∷ qs) rising e = one (is_above cmp last q.0) refl e (above_next last p qs rising.1)
    where
      one : (b : Bool) → is_above cmp last q.0 ≡ b → cond b (Some q) (next_of cmp last qs) ≡ Some p
          → (next_of cmp last qs ≡ Some p → filter (λ (q : K × V). is_above cmp last q.0) qs ≡ p ∷ filter (λ (q : K × V). is_above cmp (Some p.0) q.0) qs)
          → cond b (q ∷ filter (λ (q : K × V). is_above cmp last q.0) qs) (filter (λ (q : K × V). is_above cmp last q.0) qs)
          ≡ p ∷ cond (is_above cmp (Some p.0) q.0) (q ∷ filter (λ (q : K × V). is_above cmp (Some p.0) q.0) qs) (filter (λ (q : K × V). is_above cmp (Some p.0) q.0) qs)
      one true up f again =
          let same : q ≡ p = cc in
          ap (λ rs. q ∷ rs) (all_above last q qs up rising.0 ∙ sym (all_over q qs rising.0))
          ∙ ap (λ b. q ∷ cond b (q ∷ filter (λ (r : K × V). is_above cmp (Some q.0) r.0) qs) (filter (λ (r : K × V). is_above cmp (Some q.0) r.0) qs)) (sym (not_above q.0))
          ∙ (λ i. same i ∷ cond (is_above cmp (Some (key_of (same i))) q.0) (q ∷ filter (λ (r : K × V). is_above cmp (Some (key_of (same i))) r.0) qs) (filter (λ (r : K × V). is_above cmp (Some (key_of (same i))) r.0) qs))
      one false up f again =
          let less : cmp q.0 p.0 ≡ Less = found_all (λ (r : K × V). cmp q.0 r.0 ≡ Less) (λ (r : K × V). is_above cmp last r.0) p qs rising.0 f in
          again f ∙ ap (λ b. p ∷ cond b (q ∷ filter (λ (r : K × V). is_above cmp (Some p.0) r.0) qs) (filter (λ (r : K × V). is_above cmp (Some p.0) r.0) qs)) (sym (ap is_gt less))

  pub above_none : {V : Type 0} (last : Option K) (ps : List (K × V)) → next_of cmp last ps ≡ None → filter (λ (q : K × V). is_above cmp last q.0) ps ≡ []
  above_none last [] e = refl
  above_none {V} last (q ∷ qs) e = one (is_above cmp last q.0) e (above_none last qs)
    where
      one : (b : Bool) → cond b (Some q) (next_of cmp last qs) ≡ None → (next_of cmp last qs ≡ None → filter (λ (q : K × V). is_above cmp last q.0) qs ≡ [])
          → cond b (q ∷ filter (λ (q : K × V). is_above cmp last q.0) qs) (filter (λ (q : K × V). is_above cmp last q.0) qs) ≡ []
      one true f again = absurd (cc)
      one false f again = again f

  pub all_values : {V : Type 0} (ps : List (K × V)) → values_above cmp None ps ≡ map value_of ps
  all_values [] = refl
  all_values (p ∷ ps) = ap (λ vs. p.1 ∷ vs) (all_values ps)

  -- ---- the values of one layer over the empty map

  -- all keys of the changes are over those of the map
  abbrev AreOver : {V : Type 0} → List (K × V) → List (K × Option V) → Type 0
  AreOver {V} ps cs = AllByRecursion (λ (c : K × Option V). AreBelow cmp o c.0 ps) cs

  still_over : {V : Type 0} (ps : List (K × V)) (k : K) (v : V) (cs : List (K × Option V)) → AreOver ps cs → AllByRecursion (λ (c : K × Option V). cmp k c.0 ≡ Less) cs → AreOver (ps ++ (k, v) ∷ []) cs
  still_over ps k v [] over less = tt
  still_over {V} ps k v (c ∷ cs) over less = (all_append (λ (p : K × V). cmp p.0 c.0 ≡ Less) ps ((k, v) ∷ []) over.0 (less.0, tt), still_over ps k v cs over.1 less.1)

  alone_over : {V : Type 0} (ps : List (K × V)) (cs : List (K × Option V)) → IsMap cmp cs → AreOver ps cs → map value_of (laid cmp ps cs) ≡ map value_of ps ++ values_set (map value_of cs)
  alone_over ps [] rising over = sym (append-nil (map value_of ps))
  alone_over {V} ps ((k, Some v) ∷ cs) rising over =
      ap (λ qs. map value_of (laid cmp qs cs)) (put_above cmp o (k, v) ps over.0)
      ∙ alone_over (ps ++ (k, v) ∷ []) cs rising.1 (still_over ps k v cs over.1 rising.0)
      ∙ ap (λ vs. vs ++ values_set (map value_of cs)) (map_append value_of ps ((k, v) ∷ []))
      ∙ append_assoc (map value_of ps) (v ∷ []) (values_set (map value_of cs))
  alone_over {V} ps ((k, None) ∷ cs) rising over =
      ap (λ qs. map value_of (laid cmp qs cs)) ((λ i. all_lower cmp o k ps over.0 i ++ none_higher cmp o k ps over.0 i) ∙ append-nil ps)
      ∙ alone_over ps cs rising.1 over.1

  none_over : {V : Type 0} (cs : List (K × Option V)) → AreOver {V = V} [] cs
  none_over [] = tt
  none_over (c ∷ cs) = (tt, none_over cs)

  pub alone_values : {V : Type 0} (cs : List (K × Option V)) → IsMap cmp cs → values_set (map value_of cs) ≡ map value_of (laid cmp [] cs)
  alone_values cs rising = sym (alone_over [] cs rising (none_over cs))

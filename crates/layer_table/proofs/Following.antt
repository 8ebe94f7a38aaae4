-- The next pair of a map under layers: the least key above in any layer, and what stands there.
use Rattle.std.proofs.Common.{◌≡◌, ◌<◌, ◌≤◌, List, [], ◌∷◌, Bool, true, false, cond, Option, Some, None, refl, sym, ap, ◌∙◌, arith, length}
use Rattle.std.specs.Prelude.{filter}
use Rattle.std.specs.Option.{option_map}
use Rattle.std.specs.List.{AllByRecursion}
use Rattle.std.specs.Ordering.{is_lt, is_gt, is_eq, ordering_reverse}
use Rattle.std.specs.declared.cmp.Ordering.{Ordering}
use Rattle.std.specs.declared.cmp.Ordering.TheVariants.{Less, Equal, Greater}
use Rattle.std.specs.Cmp.{IsTotalOrder, tied_itself, alike_right}
use Rattle.ordered_lists.specs.Ordered.{below, above}
use Rattle.ordered_lists.proofs.PutAll.{all_filter, all_append, all_map}
use Rattle.layer_table.specs.Layers.{key_of, pair_at, IsMap, set_at, laid, under, is_above, next_of, lesser, least_in, left_above}
use Rattle.layer_table.proofs.Laying.{rising_under}

-- one or the other
abbrev pub or_else : {A : Type 0} → Option A → Option A → Option A
or_else None b = b
or_else (Some a) b = Some a

module _ {K : Type 0} (cmp : K → K → Ordering) (o : IsTotalOrder cmp) where
  -- no key above this one is below that one
  abbrev pub NotBetween : {W : Type 0} → Option K → K → K × W → Type 0
  NotBetween last j p = is_above cmp last p.0 ≡ true → is_lt (cmp p.0 j) ≡ false

  -- what holds of the keys of layers holds of those of the map
  module _ {V : Type 0} (P : K → Type 0) where
    all_laid : (map : List (K × V)) (cs : List (K × Option V)) → AllByRecursion (λ (p : K × V). P p.0) map → AllByRecursion (λ (c : K × Option V). P c.0) cs → AllByRecursion (λ (p : K × V). P p.0) (laid cmp map cs)
    all_laid map [] all each = all
    all_laid map (c ∷ cs) all each = all_laid (set_at cmp c.0 c.1 map) cs (one c.1) each.1
      where
        one : (w : Option V) → AllByRecursion (λ (p : K × V). P p.0) (set_at cmp c.0 w map)
        one (Some v) = all_append (λ (p : K × V). P p.0) (below cmp key_of c.0 map) ((c.0, v) ∷ above cmp key_of c.0 map) (all_filter (λ (p : K × V). P p.0) _ map all) (each.0, all_filter (λ (p : K × V). P p.0) _ map all)
        one None = all_append (λ (p : K × V). P p.0) (below cmp key_of c.0 map) (above cmp key_of c.0 map) (all_filter (λ (p : K × V). P p.0) _ map all) (all_filter (λ (p : K × V). P p.0) _ map all)

    pub all_under : (map : List (K × V)) (ls : List (List (K × Option V))) → AllByRecursion (λ (p : K × V). P p.0) map → AllByRecursion (AllByRecursion (λ (c : K × Option V). P c.0)) ls → AllByRecursion (λ (p : K × V). P p.0) (under cmp map ls)
    all_under map [] all each = all
    all_under map (l ∷ ls) all each = all_under (laid cmp map l) ls (all_laid map l all each.0) each.1

  -- above a key ties go along
  above_tied : (last : Option K) (x j : K) → cmp j x ≡ Equal → is_above cmp last x ≡ is_above cmp last j
  above_tied None x j e = refl
  above_tied (Some k) x j e = ap is_gt (sym (o.congr j x k e))

  turned : (r s : Ordering) → r ≡ ordering_reverse s → s ≡ Greater → r ≡ Less
  turned r s e f = e ∙ ap ordering_reverse f

  -- what is above a key that is above is above
  pub above_more : (last : Option K) (x j : K) → is_above cmp last j ≡ true → cmp j x ≡ Less → is_above cmp last x ≡ true
  above_more None x j up less = refl
  above_more (Some k) x j up less = one (cmp j k) refl up
    where
      one : (r : Ordering) → cmp j k ≡ r → is_gt r ≡ true → is_gt (cmp x k) ≡ true
      one Less e f = absurd (cc)
      one Equal e f = absurd (cc)
      one Greater e f = ap is_gt (o.antisymm x k ∙ ap ordering_reverse (o.trans k j x (turned (cmp k j) (cmp j k) (o.antisymm k j) e) less))

  none_tied : {V : Type 0} (j x : K) (ps : List (K × V)) → cmp j x ≡ Less → AllByRecursion (λ (p : K × V). cmp x p.0 ≡ Less) ps → pair_at cmp j ps ≡ None
  none_tied j x [] less all = refl
  none_tied {V} j x (p ∷ ps) less all =
      let f : is_eq (cmp j p.0) ≡ false = ap is_eq (o.trans j x p.0 less all.0) in
      ap (λ b. cond b (Some p) (pair_at cmp j ps)) f ∙ none_tied j x ps less all.1

  pub next_is : {V : Type 0} (last : Option K) (j : K) (ps : List (K × V)) → IsMap cmp ps → is_above cmp last j ≡ true → AllByRecursion (NotBetween last j) ps → next_of cmp last ps ≡ or_else (pair_at cmp j ps) (next_of cmp (Some j) ps)
  next_is last j [] rising up free = refl
  next_is {V} last j (p ∷ ps) rising up free = one (cmp j p.0) refl (next_is last j ps rising.1 up free.1)
    where
      one : (r : Ordering) → cmp j p.0 ≡ r → next_of cmp last ps ≡ or_else (pair_at cmp j ps) (next_of cmp (Some j) ps)
          → next_of cmp last (p ∷ ps) ≡ or_else (cond (is_eq r) (Some p) (pair_at cmp j ps)) (next_of cmp (Some j) (p ∷ ps))
      one Equal e again = ap (λ b. cond b (Some p) (next_of cmp last ps)) (above_tied last p.0 j e ∙ up)
      one Less e again =
          let higher : is_gt (cmp p.0 j) ≡ true = ap is_gt (o.antisymm p.0 j ∙ ap ordering_reverse e) in
          ap (λ b. cond b (Some p) (next_of cmp last ps)) (above_more last p.0 j up e)
          ∙ sym (ap (λ f. or_else f (next_of cmp (Some j) (p ∷ ps))) (none_tied j p.0 ps e rising.0) ∙ ap (λ b. cond b (Some p) (next_of cmp (Some j) ps)) higher)
      one Greater e again = two (is_above cmp last p.0) refl
        where
          lower : cmp p.0 j ≡ Less
          lower = turned (cmp p.0 j) (cmp j p.0) (o.antisymm p.0 j) e

          two : (b : Bool) → is_above cmp last p.0 ≡ b → cond b (Some p) (next_of cmp last ps) ≡ or_else (pair_at cmp j ps) (next_of cmp (Some j) (p ∷ ps))
          two true f = let g : is_lt (cmp p.0 j) ≡ false = free.0 f in let h : is_lt (cmp p.0 j) ≡ true = ap is_lt lower in absurd (cc)
          two false f = again ∙ sym (ap (λ b. or_else (pair_at cmp j ps) (cond b (Some p) (next_of cmp (Some j) ps))) (ap is_gt lower))

  -- ---- the least key above

  -- a layer without a next pair has nothing above
  next_none : {W : Type 0} (last : Option K) (ps : List (K × W)) → next_of cmp last ps ≡ None → AllByRecursion (λ (p : K × W). is_above cmp last p.0 ≡ false) ps
  next_none last [] e = tt
  next_none {W} last (p ∷ ps) e = one (is_above cmp last p.0) refl e (next_none last ps)
    where
      one : (b : Bool) → is_above cmp last p.0 ≡ b → cond b (Some p) (next_of cmp last ps) ≡ None → (next_of cmp last ps ≡ None → AllByRecursion (λ (p : K × W). is_above cmp last p.0 ≡ false) ps) → AllByRecursion (λ (p : K × W). is_above cmp last p.0 ≡ false) (p ∷ ps)
      one true f e again = absurd (cc)
      one false f e again = (f, again e)

  not_less : (x y : K) → cmp x y ≡ Less → is_lt (cmp y x) ≡ false
  not_less x y less = ap is_lt (o.antisymm y x ∙ ap ordering_reverse less)

  -- the next pair of a layer is above, and none is between
  next_some : {W : Type 0} (last : Option K) (j : K) (ps : List (K × W)) → IsMap cmp ps → option_map key_of (next_of cmp last ps) ≡ Some j → (is_above cmp last j ≡ true) × AllByRecursion (NotBetween last j) ps
  next_some last j [] rising e = absurd (cc)
  next_some {W} last j (p ∷ ps) rising e = one (is_above cmp last p.0) refl e (next_some last j ps rising.1)
    where
      one : (b : Bool) → is_above cmp last p.0 ≡ b → option_map key_of (cond b (Some p) (next_of cmp last ps)) ≡ Some j
          → (option_map key_of (next_of cmp last ps) ≡ Some j → (is_above cmp last j ≡ true) × AllByRecursion (NotBetween last j) ps) → (is_above cmp last j ≡ true) × AllByRecursion (NotBetween last j) (p ∷ ps)
      one false f e again = let rest = again e in (rest.0, ((λ up. absurd (cc)), rest.1))
      one true f e again =
          let same : p.0 ≡ j = cc in (
            sym (ap (is_above cmp last) same) ∙ f,
            ((λ up. ap (λ k. is_lt (cmp k j)) same ∙ ap is_lt (tied_itself o j)), all_map (λ (q : K × W). cmp p.0 q.0 ≡ Less) (NotBetween last j) ps (λ q less up. ap (λ k. is_lt (cmp q.0 k)) (sym same) ∙ not_less p.0 q.0 less) rising.0),
          )

  -- what is not below the higher is not below the lower
  not_lower : {W : Type 0} (last : Option K) (i j : K) (ps : List (K × W)) → is_gt (cmp j i) ≡ false → AllByRecursion (NotBetween last i) ps → AllByRecursion (NotBetween last j) ps
  not_lower {W} last i j ps le all = all_map (NotBetween last i) (NotBetween last j) ps (λ p free up. one p (cmp p.0 j) refl (free up)) all
    where
      two : (p : K × W) → (s : Ordering) → cmp j i ≡ s → is_gt s ≡ false → cmp p.0 j ≡ Less → cmp p.0 i ≡ Less
      two p Less f g less = o.trans p.0 j i less f
      two p Equal f g less = sym (alike_right o j i p.0 f) ∙ less
      two p Greater f g less = absurd (cc)

      one : (p : K × W) (r : Ordering) → cmp p.0 j ≡ r → is_lt (cmp p.0 i) ≡ false → is_lt r ≡ false
      one p Equal e free = refl
      one p Greater e free = refl
      one p Less e free = let bad : is_lt (cmp p.0 i) ≡ true = ap is_lt (two p (cmp j i) refl le e) in absurd (cc)

  pub least_none : {V : Type 0} (last : Option K) (ls : List (List (K × Option V))) → least_in cmp last ls ≡ None → AllByRecursion (AllByRecursion (λ (c : K × Option V). is_above cmp last c.0 ≡ false)) ls
  least_none last [] e = tt
  least_none {V} last (l ∷ ls) e = one (least_none last ls) (next_of cmp last l) refl (least_in cmp last ls) refl e
    where
      one : (least_in cmp last ls ≡ None → AllByRecursion (AllByRecursion (λ (c : K × Option V). is_above cmp last c.0 ≡ false)) ls) → (a : Option (K × Option V)) → next_of cmp last l ≡ a → (b : Option K) → least_in cmp last ls ≡ b → lesser cmp (option_map key_of a) b ≡ None → AllByRecursion (AllByRecursion (λ (c : K × Option V). is_above cmp last c.0 ≡ false)) (l ∷ ls)
      one again None f None g e = (next_none last l f, again g)
      one again None f (Some b) g e = absurd (cc)
      one again (Some a) f None g e = absurd (cc)
      one again (Some a) f (Some b) g e = absurd (three (is_lt (cmp b a.0)) e)
        where
          three : (t : Bool) → cond t (Some b) (Some a.0) ≡ None → ⊥
          three true e = cc
          three false e = cc

  not_above_turned : (r s : Ordering) → s ≡ ordering_reverse r → is_lt r ≡ false → is_gt s ≡ false
  not_above_turned Less s e f = absurd (cc)
  not_above_turned Equal s e f = ap is_gt e
  not_above_turned Greater s e f = ap is_gt e

  less_not_above : (r : Ordering) → is_lt r ≡ true → is_gt r ≡ false
  less_not_above Less e = refl
  less_not_above Equal e = absurd (cc)
  less_not_above Greater e = absurd (cc)

  free_below : {W : Type 0} (last : Option K) (j : K) (ps : List (K × W)) → AllByRecursion (λ (p : K × W). is_above cmp last p.0 ≡ false) ps → AllByRecursion (NotBetween last j) ps
  free_below {W} last j ps all = all_map (λ (p : K × W). is_above cmp last p.0 ≡ false) (NotBetween last j) ps (λ p f up. absurd (cc)) all

  free_layers : {V : Type 0} (last : Option K) (j : K) (ls : List (List (K × Option V))) → AllByRecursion (AllByRecursion (λ (c : K × Option V). is_above cmp last c.0 ≡ false)) ls → AllByRecursion (AllByRecursion (NotBetween last j)) ls
  free_layers {V} last j ls all = all_map (AllByRecursion (λ (c : K × Option V). is_above cmp last c.0 ≡ false)) (AllByRecursion (NotBetween last j)) ls (λ l. free_below last j l) all

  pub least_some : {V : Type 0} (last : Option K) (j : K) (ls : List (List (K × Option V))) → AllByRecursion (IsMap cmp) ls → least_in cmp last ls ≡ Some j → (is_above cmp last j ≡ true) × AllByRecursion (AllByRecursion (NotBetween last j)) ls
  least_some last j [] rising e = absurd (cc)
  least_some {V} last j (l ∷ ls) rising e = one (λ i. least_some last i ls rising.1) (next_of cmp last l) refl (least_in cmp last ls) refl e
    where
      one : ((i : K) → least_in cmp last ls ≡ Some i → (is_above cmp last i ≡ true) × AllByRecursion (AllByRecursion (NotBetween last i)) ls) → (a : Option (K × Option V)) → next_of cmp last l ≡ a → (b : Option K) → least_in cmp last ls ≡ b
          → lesser cmp (option_map key_of a) b ≡ Some j → (is_above cmp last j ≡ true) × AllByRecursion (AllByRecursion (NotBetween last j)) (l ∷ ls)
      one again None f None g e = absurd (cc)
      one again None f (Some b) g e = let rest = again j (g ∙ e) in (rest.0, (free_below last j l (next_none last l f), rest.1))
      one again (Some a) f None g e =
          let own = next_some last j l rising.0 (ap (option_map key_of) f ∙ e) in (own.0, (own.1, free_layers last j ls (least_none last ls g)))
      one again (Some a) f (Some b) g e = three (is_lt (cmp b a.0)) refl e
        where
          three : (t : Bool) → is_lt (cmp b a.0) ≡ t → cond t (Some b) (Some a.0) ≡ Some j → (is_above cmp last j ≡ true) × AllByRecursion (AllByRecursion (NotBetween last j)) (l ∷ ls)
          three true h e =
              let same : b ≡ j = cc in
              let rest = again j (g ∙ e) in
              let own = next_some last a.0 l rising.0 (ap (option_map key_of) f) in
              (rest.0, (not_lower last a.0 j l (ap (λ k. is_gt (cmp k a.0)) (sym same) ∙ less_not_above (cmp b a.0) h) own.1, rest.1))
          three false h e =
              let same : a.0 ≡ j = cc in
              let own = next_some last j l rising.0 (ap (option_map key_of) f ∙ e) in
              let rest = again b g in
              let le : is_gt (cmp j b) ≡ false = ap (λ k. is_gt (cmp k b)) (sym same) ∙ not_above_turned (cmp b a.0) (cmp a.0 b) (o.antisymm a.0 b) h in
              (own.0, (own.1, all_map (AllByRecursion (NotBetween last b)) (AllByRecursion (NotBetween last j)) ls (λ m. not_lower last b j m le) rest.1))

  -- ---- the walk

  next_no : {W : Type 0} (last : Option K) (ps : List (K × W)) → AllByRecursion (λ (p : K × W). is_above cmp last p.0 ≡ false) ps → next_of cmp last ps ≡ None
  next_no last [] all = refl
  next_no {W} last (p ∷ ps) all = ap (λ b. cond b (Some p) (next_of cmp last ps)) all.0 ∙ next_no last ps all.1

  pub walk_stops : {V : Type 0} (last : Option K) (ls : List (List (K × Option V))) → least_in cmp last ls ≡ None → next_of cmp last (under cmp [] ls) ≡ None
  walk_stops last ls e = next_no last (under cmp [] ls) (all_under (λ k. is_above cmp last k ≡ false) [] ls tt (least_none last ls e))

  pub walk_step : {V : Type 0} (last : Option K) (j : K) (ls : List (List (K × Option V))) → AllByRecursion (IsMap cmp) ls → least_in cmp last ls ≡ Some j
      → next_of cmp last (under cmp [] ls) ≡ or_else (pair_at cmp j (under cmp [] ls)) (next_of cmp (Some j) (under cmp [] ls))
  walk_step last j ls rising e =
      let least = least_some last j ls rising e in
      next_is last j (under cmp [] ls) (rising_under cmp o [] ls tt) least.0 (all_under (λ k. is_above cmp last k ≡ true → is_lt (cmp k j) ≡ false) [] ls tt least.1)

  -- ---- it ends

  above_both : (last : Option K) (x j : K) → is_above cmp last j ≡ true → is_above cmp last x ≡ false → is_above cmp (Some j) x ≡ false
  above_both last x j up not = one (cmp x j) refl
    where
      one : (r : Ordering) → cmp x j ≡ r → is_gt r ≡ false
      one Less e = refl
      one Equal e = refl
      one Greater e = let bad : is_above cmp last x ≡ true = above_more last x j up (o.antisymm j x ∙ ap ordering_reverse e) in absurd (cc)

  fewer : {W : Type 0} (last : Option K) (j : K) (ps : List (K × W)) → is_above cmp last j ≡ true → length (filter (λ (p : K × W). is_above cmp (Some j) p.0) ps) ≤ length (filter (λ (p : K × W). is_above cmp last p.0) ps)
  fewer last j [] up = omega arith
  fewer {W} last j (p ∷ ps) up = one (is_above cmp (Some j) p.0) (is_above cmp last p.0) refl refl (fewer last j ps up)
    where
      one : (s t : Bool) → is_above cmp (Some j) p.0 ≡ s → is_above cmp last p.0 ≡ t → length (filter (λ (p : K × W). is_above cmp (Some j) p.0) ps) ≤ length (filter (λ (p : K × W). is_above cmp last p.0) ps)
          → length (cond s (p ∷ filter (λ (p : K × W). is_above cmp (Some j) p.0) ps) (filter (λ (p : K × W). is_above cmp (Some j) p.0) ps)) ≤ length (cond t (p ∷ filter (λ (p : K × W). is_above cmp last p.0) ps) (filter (λ (p : K × W). is_above cmp last p.0) ps))
      one true true e f again = omega (arith, again)
      one false true e f again = omega (arith, again)
      one false false e f again = again
      one true false e f again = let bad : is_above cmp (Some j) p.0 ≡ false = above_both last p.0 j up f in absurd (cc)

  fewer_by_one : {W : Type 0} (last : Option K) (j : K) (ps : List (K × W)) → is_above cmp last j ≡ true → option_map key_of (next_of cmp last ps) ≡ Some j
      → length (filter (λ (p : K × W). is_above cmp (Some j) p.0) ps) < length (filter (λ (p : K × W). is_above cmp last p.0) ps)
  fewer_by_one last j [] up e = absurd (cc)
  fewer_by_one {W} last j (p ∷ ps) up e = one (is_above cmp last p.0) refl e (fewer_by_one last j ps up) (fewer last j ps up)
    where
      one : (t : Bool) → is_above cmp last p.0 ≡ t → option_map key_of (cond t (Some p) (next_of cmp last ps)) ≡ Some j
          → (option_map key_of (next_of cmp last ps) ≡ Some j → length (filter (λ (p : K × W). is_above cmp (Some j) p.0) ps) < length (filter (λ (p : K × W). is_above cmp last p.0) ps))
          → length (filter (λ (p : K × W). is_above cmp (Some j) p.0) ps) ≤ length (filter (λ (p : K × W). is_above cmp last p.0) ps)
          → length (filter (λ (p : K × W). is_above cmp (Some j) p.0) (p ∷ ps)) < length (cond t (p ∷ filter (λ (p : K × W). is_above cmp last p.0) ps) (filter (λ (p : K × W). is_above cmp last p.0) ps))
      one true f e again le =
          let same : p.0 ≡ j = cc in
          let off : is_gt (cmp p.0 j) ≡ false = ap (λ k. is_gt (cmp k j)) same ∙ ap is_gt (tied_itself o j) in
          rw off (omega (arith, le))
      one false f e again le = let off : is_above cmp (Some j) p.0 ≡ false = above_both last p.0 j up f in rw off (again e)

  fewer_all : {V : Type 0} (last : Option K) (j : K) (ls : List (List (K × Option V))) → is_above cmp last j ≡ true → left_above cmp (Some j) ls ≤ left_above cmp last ls
  fewer_all last j [] up = omega arith
  fewer_all last j (l ∷ ls) up = let one = fewer last j l up in let rest = fewer_all last j ls up in omega (arith, one, rest)

  pub walk_ends : {V : Type 0} (last : Option K) (j : K) (ls : List (List (K × Option V))) → is_above cmp last j ≡ true → least_in cmp last ls ≡ Some j → left_above cmp (Some j) ls < left_above cmp last ls
  walk_ends last j [] up e = absurd (cc)
  walk_ends {V} last j (l ∷ ls) up e = one (walk_ends last j ls up) (next_of cmp last l) refl (least_in cmp last ls) refl e
    where
      here : option_map key_of (next_of cmp last l) ≡ Some j → left_above cmp (Some j) (l ∷ ls) < left_above cmp last (l ∷ ls)
      here f = let own = fewer_by_one last j l up f in let rest = fewer_all last j ls up in omega (arith, own, rest)

      later : left_above cmp (Some j) ls < left_above cmp last ls → left_above cmp (Some j) (l ∷ ls) < left_above cmp last (l ∷ ls)
      later rest = let own = fewer last j l up in omega (arith, own, rest)

      one : (least_in cmp last ls ≡ Some j → left_above cmp (Some j) ls < left_above cmp last ls) → (a : Option (K × Option V)) → next_of cmp last l ≡ a → (b : Option K) → least_in cmp last ls ≡ b
          → lesser cmp (option_map key_of a) b ≡ Some j → left_above cmp (Some j) (l ∷ ls) < left_above cmp last (l ∷ ls)
      one again None f None g e = absurd (cc)
      one again None f (Some b) g e = later (again (g ∙ e))
      one again (Some a) f None g e = here (ap (option_map key_of) f ∙ e)
      one again (Some a) f (Some b) g e = three (is_lt (cmp b a.0)) e
        where
          three : (t : Bool) → cond t (Some b) (Some a.0) ≡ Some j → left_above cmp (Some j) (l ∷ ls) < left_above cmp last (l ∷ ls)
          three true e = later (again (g ∙ e))
          three false e = here (ap (option_map key_of) f ∙ e)

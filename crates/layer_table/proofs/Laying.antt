-- What stands at a key of a map under a layer, and that the keys of such a map rise.
use Rattle.std.proofs.Common.{◌≡◌, List, [], ◌∷◌, ◌++◌, ◌≤◌, ◌-◌, length, take, get_or, arith, Bool, true, false, cond, Option, Some, None, refl, sym, ap, ◌∙◌}
use Rattle.std.specs.Prelude.{filter, find}
use Rattle.std.specs.Option.{is_some}
use Rattle.std.specs.List.{AllByRecursion, slice_get}
use Rattle.std.specs.Ordering.{is_lt, is_gt, is_eq}
use Rattle.std.specs.declared.cmp.Ordering.{Ordering}
use Rattle.std.specs.declared.cmp.Ordering.TheVariants.{Less, Equal, Greater}
use Rattle.std.specs.Cmp.{IsTotalOrder}
use Rattle.std.proofs.lemmas.List.{append-nil, take_more, take_all}
use Rattle.std.proofs.lemmas.List.Elements.{filter-append}
use Rattle.ordered_lists.specs.Ordered.{below, above, put_by, without_by, put_all}
use Rattle.ordered_lists.proofs.PutAll.{all_filter, filter_weak, filter_apart, rising-put_by, rising-without_by, rising_unique, last_alone, put_all_same, put_all-rising}
use Rattle.layer_table.specs.Layers.{key_of, pair_at, IsMap, set_at, laid, under, changed_to}

eq_equal : (r : Ordering) → is_eq r ≡ true → r ≡ Equal
eq_equal Less e = absurd (cc)
eq_equal Equal e = refl
eq_equal Greater e = absurd (cc)

pub first_passing : {A : Type 0} (p : A → Bool) (xs : List A) → find p xs ≡ slice_get (filter p xs) 0
first_passing p [] = refl
first_passing p (x ∷ xs) = one (p x) (first_passing p xs)
  where
    one : (b : Bool) → find p xs ≡ slice_get (filter p xs) 0 → cond b (Some x) (find p xs) ≡ slice_get (cond b (x ∷ filter p xs) (filter p xs)) 0
    one true again = refl
    one false again = again

module _ {K : Type 0} (cmp : K → K → Ordering) (o : IsTotalOrder cmp) where
  -- the pairs at a key
  abbrev pub at : {V : Type 0} → K → List (K × V) → List (K × V)
  at {V} k ps = filter (λ (p : K × V). is_eq (cmp k p.0)) ps

  -- at a key a test of how keys compare keeps all or none
  tested : {V : Type 0} (test : Ordering → Bool) (k j : K) (ps : List (K × V)) → at k (filter (λ (p : K × V). test (cmp p.0 j)) ps) ≡ cond (test (cmp k j)) (at k ps) []
  tested {V} test k j ps = one (test (cmp k j)) refl
    where
      one : (b : Bool) → test (cmp k j) ≡ b → at k (filter (λ (p : K × V). test (cmp p.0 j)) ps) ≡ cond b (at k ps) []
      one true e = filter_weak (λ (p : K × V). is_eq (cmp k p.0)) (λ (p : K × V). test (cmp p.0 j)) ps (λ p s. ap test (sym (o.congr k p.0 j (eq_equal (cmp k p.0) s))) ∙ e)
      one false e = filter_apart (λ (p : K × V). is_eq (cmp k p.0)) (λ (p : K × V). test (cmp p.0 j)) ps (λ p s. two p (is_eq (cmp k p.0)) refl s)
        where
          two : (p : K × V) (b : Bool) → is_eq (cmp k p.0) ≡ b → test (cmp p.0 j) ≡ true → b ≡ false
          two p false f s = refl
          two p true f s = let g : test (cmp p.0 j) ≡ false = ap test (sym (o.congr k p.0 j (eq_equal (cmp k p.0) f))) ∙ e in absurd (cc)

  -- one pair that is put
  at_put : {V : Type 0} (k j : K) (v : V) (map : List (K × V)) → at k (put_by cmp key_of (j, v) map) ≡ cond (is_eq (cmp k j)) ((j, v) ∷ []) (at k map)
  at_put {V} k j v map =
      filter-append (λ (p : K × V). is_eq (cmp k p.0)) (below cmp key_of j map) ((j, v) ∷ above cmp key_of j map)
      ∙ ap (λ ps. ps ++ cond (is_eq (cmp k j)) ((j, v) ∷ at k (above cmp key_of j map)) (at k (above cmp key_of j map))) (tested is_lt k j map)
      ∙ ap (λ ps. cond (is_lt (cmp k j)) (at k map) [] ++ cond (is_eq (cmp k j)) ((j, v) ∷ ps) ps) (tested is_gt k j map)
      ∙ one (cmp k j)
    where
      one : (r : Ordering) → cond (is_lt r) (at k map) [] ++ cond (is_eq r) ((j, v) ∷ cond (is_gt r) (at k map) []) (cond (is_gt r) (at k map) []) ≡ cond (is_eq r) ((j, v) ∷ []) (at k map)
      one Less = append-nil (at k map)
      one Equal = refl
      one Greater = refl

  at_without : {V : Type 0} (k j : K) (map : List (K × V)) → at k (without_by cmp key_of j map) ≡ cond (is_eq (cmp k j)) [] (at k map)
  at_without {V} k j map =
      filter-append (λ (p : K × V). is_eq (cmp k p.0)) (below cmp key_of j map) (above cmp key_of j map)
      ∙ ap (λ ps. ps ++ at k (above cmp key_of j map)) (tested is_lt k j map)
      ∙ ap (λ ps. cond (is_lt (cmp k j)) (at k map) [] ++ ps) (tested is_gt k j map)
      ∙ one (cmp k j)
    where
      one : (r : Ordering) → cond (is_lt r) (at k map) [] ++ cond (is_gt r) (at k map) [] ≡ cond (is_eq r) [] (at k map)
      one Less = append-nil (at k map)
      one Equal = refl
      one Greater = refl

  pair_set : {V : Type 0} (k j : K) (c : Option V) (map : List (K × V)) → pair_at cmp k (set_at cmp j c map) ≡ cond (is_eq (cmp k j)) (changed_to j c) (pair_at cmp k map)
  pair_set {V} k j (Some v) map =
      first_passing (λ (p : K × V). is_eq (cmp k p.0)) (put_by cmp key_of (j, v) map) ∙ ap (λ ps. slice_get ps 0) (at_put k j v map) ∙ one (is_eq (cmp k j))
    where
      one : (b : Bool) → slice_get (cond b ((j, v) ∷ []) (at k map)) 0 ≡ cond b (Some (j, v)) (pair_at cmp k map)
      one true = refl
      one false = sym (first_passing (λ (p : K × V). is_eq (cmp k p.0)) map)
  pair_set {V} k j None map =
      first_passing (λ (p : K × V). is_eq (cmp k p.0)) (without_by cmp key_of j map) ∙ ap (λ ps. slice_get ps 0) (at_without k j map) ∙ one (is_eq (cmp k j))
    where
      one : (b : Bool) → slice_get (cond b [] (at k map)) 0 ≡ cond b None (pair_at cmp k map)
      one true = refl
      one false = sym (first_passing (λ (p : K × V). is_eq (cmp k p.0)) map)

  -- what a layer has at a key, over what stood there
  abbrev pub over_pair : {V : Type 0} → Option (K × Option V) → Option (K × V) → Option (K × V)
  over_pair None old = old
  over_pair (Some c) old = changed_to c.0 c.1

  -- above a key that ties with k there is nothing at k
  none_behind : {W : Type 0} (k j : K) (cs : List (K × W)) → cmp k j ≡ Equal → AllByRecursion (λ (c : K × W). cmp j c.0 ≡ Less) cs → pair_at cmp k cs ≡ None
  none_behind k j [] e all = refl
  none_behind k j (c ∷ cs) e all = rw (o.congr k j c.0 e ∙ all.0) (none_behind k j cs e all.1)

  pub pair_laid : {V : Type 0} (k : K) (map : List (K × V)) (cs : List (K × Option V)) → IsMap cmp cs → pair_at cmp k (laid cmp map cs) ≡ over_pair (pair_at cmp k cs) (pair_at cmp k map)
  pair_laid k map [] rising = refl
  pair_laid {V} k map (c ∷ cs) rising =
      pair_laid k (set_at cmp c.0 c.1 map) cs rising.1 ∙ ap (over_pair (pair_at cmp k cs)) (pair_set k c.0 c.1 map) ∙ one (is_eq (cmp k c.0)) refl
    where
      one : (b : Bool) → is_eq (cmp k c.0) ≡ b → over_pair (pair_at cmp k cs) (cond b (changed_to c.0 c.1) (pair_at cmp k map)) ≡ over_pair (cond b (Some c) (pair_at cmp k cs)) (pair_at cmp k map)
      one true e = ap (λ found. over_pair found (changed_to c.0 c.1)) (none_behind k c.0 cs (eq_equal (cmp k c.0) e) rising.0)
      one false e = refl

  -- the newest layer comes last
  pub under_push : {V : Type 0} (map : List (K × V)) (ls : List (List (K × Option V))) (l : List (K × Option V)) → under cmp map (ls ++ l ∷ []) ≡ laid cmp (under cmp map ls) l
  under_push map [] l = refl
  under_push map (m ∷ ls) l = under_push (laid cmp map m) ls l

  pub pair_under : {V : Type 0} (k : K) (ls : List (List (K × Option V))) (l : List (K × Option V)) → IsMap cmp l → pair_at cmp k (under cmp [] (ls ++ l ∷ [])) ≡ over_pair (pair_at cmp k l) (pair_at cmp k (under cmp [] ls))
  pair_under k ls l rising = ap (pair_at cmp k) (under_push [] ls l) ∙ pair_laid k (under cmp [] ls) l rising

  -- the keys rise
  pub rising_laid : {V : Type 0} (map : List (K × V)) (cs : List (K × Option V)) → IsMap cmp map → IsMap cmp (laid cmp map cs)
  rising_laid map [] rising = rising
  rising_laid {V} map (c ∷ cs) rising = rising_laid (set_at cmp c.0 c.1 map) cs (one c.1)
    where
      one : (w : Option V) → IsMap cmp (set_at cmp c.0 w map)
      one (Some v) = rising-put_by cmp key_of o (c.0, v) map rising
      one None = rising-without_by cmp key_of o c.0 map rising

  pub rising_under : {V : Type 0} (map : List (K × V)) (ls : List (List (K × Option V))) → IsMap cmp map → IsMap cmp (under cmp map ls)
  rising_under map [] rising = rising
  rising_under map (l ∷ ls) rising = rising_under (laid cmp map l) ls (rising_laid map l rising)

  -- of one or more layers the last decides
  pub pair_last : {V : Type 0} (k : K) (ls : List (List (K × Option V))) (l : List (K × Option V)) → 1 ≤ length ls → l ≡ get_or ls (length ls - 1) l → IsMap cmp l
      → pair_at cmp k (under cmp [] ls) ≡ over_pair (pair_at cmp k l) (pair_at cmp k (under cmp [] (take (length ls - 1) ls)))
  pair_last k ls l some is rising =
      ap (λ ms. pair_at cmp k (under cmp [] ms)) split ∙ pair_under k (take (length ls - 1) ls) l rising
    where
      split : ls ≡ take (length ls - 1) ls ++ l ∷ []
      split =
          sym (take_all (length ls) ls (omega arith)) ∙ ap (λ n. take n ls) (omega (arith, some)) ∙ take_more ls (length ls - 1) l (omega (arith, some)) ∙ ap (λ m. take (length ls - 1) ls ++ m ∷ []) (sym is)

  -- one step of a search from the last layer on
  pub sought : {V : Type 0} (k : K) (ls all : List (List (K × Option V))) (l : List (K × Option V)) (found : Option (K × Option V)) → pair_at cmp k (under cmp [] ls) ≡ pair_at cmp k (under cmp [] all)
      → 1 ≤ length ls → l ≡ get_or ls (length ls - 1) l → IsMap cmp l → found ≡ pair_at cmp k l → over_pair found (pair_at cmp k (under cmp [] (take (length ls - 1) ls))) ≡ pair_at cmp k (under cmp [] all)
  sought k ls all l found same some is rising e = ap (λ f. over_pair f (pair_at cmp k (under cmp [] (take (length ls - 1) ls)))) e ∙ sym (pair_last k ls l some is rising) ∙ same

  -- ---- of changes of one key the last decides

  -- what a change leaves at its key
  abbrev pub left_by : {V : Type 0} → K → Option V → List (K × V)
  left_by j None = []
  left_by j (Some v) = (j, v) ∷ []

  -- what changes at one key leave of what stood there
  abbrev pub left_in_turn : {V : Type 0} → List (K × V) → List (K × Option V) → List (K × V)
  left_in_turn old [] = old
  left_in_turn old (c ∷ cs) = left_in_turn (left_by c.0 c.1) cs

  at_set : {V : Type 0} (k j : K) (w : Option V) (map : List (K × V)) → at k (set_at cmp j w map) ≡ cond (is_eq (cmp k j)) (left_by j w) (at k map)
  at_set k j (Some v) map = at_put k j v map
  at_set k j None map = at_without k j map

  pub at_laid : {V : Type 0} (k : K) (map : List (K × V)) (cs : List (K × Option V)) → at k (laid cmp map cs) ≡ left_in_turn (at k map) (at k cs)
  at_laid k map [] = refl
  at_laid {V} k map (c ∷ cs) =
      at_laid k (set_at cmp c.0 c.1 map) cs ∙ ap (λ old. left_in_turn old (at k cs)) (at_set k c.0 c.1 map) ∙ one (is_eq (cmp k c.0))
    where
      one : (b : Bool) → left_in_turn (cond b (left_by c.0 c.1) (at k map)) (at k cs) ≡ left_in_turn (at k map) (cond b (c ∷ at k cs) (at k cs))
      one true = refl
      one false = refl

  last_left : {V : Type 0} (old : List (K × V)) (c : K × Option V) (cs : List (K × Option V)) → left_in_turn old (last_alone (c ∷ []) cs) ≡ left_in_turn old (c ∷ cs)
  last_left old c [] = refl
  last_left old c (d ∷ cs) = last_left old d cs

  last_enough : {V : Type 0} (old : List (K × V)) (cs : List (K × Option V)) → left_in_turn old (last_alone [] cs) ≡ left_in_turn old cs
  last_enough old [] = refl
  last_enough old (c ∷ cs) = last_left old c cs

  -- changes may be put in order first, the last of each key in place of all
  pub laid_settled : {V : Type 0} (map : List (K × V)) (cs : List (K × Option V)) → IsMap cmp map → laid cmp map (put_all cmp key_of [] cs) ≡ laid cmp map cs
  laid_settled {V} map cs rising =
      rising_unique cmp key_of o (laid cmp map (put_all cmp key_of [] cs)) (laid cmp map cs) (rising_laid map (put_all cmp key_of [] cs) rising) (rising_laid map cs rising)
      (λ z. at_laid z.0 map (put_all cmp key_of [] cs) ∙ ap (left_in_turn (at z.0 map)) (put_all_same cmp key_of o (z.0, None) [] cs) ∙ last_enough (at z.0 map) (at z.0 cs) ∙ sym (at_laid z.0 map cs))

  laid_joined : {V : Type 0} (map : List (K × V)) (cs ds : List (K × Option V)) → laid cmp map (cs ++ ds) ≡ laid cmp (laid cmp map cs) ds
  laid_joined map [] ds = refl
  laid_joined map (c ∷ cs) ds = laid_joined (set_at cmp c.0 c.1 map) cs ds

  put_joined : {V : Type 0} (old cs ds : List (K × Option V)) → put_all cmp key_of old (cs ++ ds) ≡ put_all cmp key_of (put_all cmp key_of old cs) ds
  put_joined old [] ds = refl
  put_joined old (c ∷ cs) ds = put_joined (put_by cmp key_of c old) cs ds

  -- two layers may be laid as one
  pub laid_merged : {V : Type 0} (map : List (K × V)) (older newer : List (K × Option V)) → IsMap cmp map → IsMap cmp older → laid cmp (laid cmp map older) newer ≡ laid cmp map (put_all cmp key_of older newer)
  laid_merged map older newer rising up =
      sym (laid_joined map older newer) ∙ sym (laid_settled map (older ++ newer) rising)
      ∙ ap (laid cmp map) (put_joined [] older newer ∙ ap (λ old. put_all cmp key_of old newer) (put_all-rising cmp key_of o older up))

  -- ---- at the bottom a change without a value does nothing

  abbrev pub sets : {V : Type 0} → K × Option V → Bool
  sets c = is_some c.1

  -- the changes that set a value
  abbrev pub present : {V : Type 0} → List (K × Option V) → List (K × Option V)
  present cs = filter sets cs

  none_at : {W : Type 0} (k j : K) (cs : List (K × W)) → cmp k j ≡ Equal → AllByRecursion (λ (c : K × W). cmp j c.0 ≡ Less) cs → at k cs ≡ []
  none_at k j [] e all = refl
  none_at k j (c ∷ cs) e all = rw (o.congr k j c.0 e ∙ all.0) (none_at k j cs e all.1)

  left_present : {V : Type 0} (k : K) (cs : List (K × Option V)) → IsMap cmp cs → left_in_turn [] (at k cs) ≡ left_in_turn [] (at k (present cs))
  left_present k [] rising = refl
  left_present {V} k (c ∷ cs) rising = one (is_eq (cmp k c.0)) refl c.1 refl (left_present k cs rising.1)
    where
      here : is_eq (cmp k c.0) ≡ true → (w : Option V) → c.1 ≡ w → left_in_turn [] (c ∷ at k cs) ≡ left_in_turn [] (cond (is_some w) (c ∷ at k (present cs)) (at k (present cs)))
      here e w f =
          let tie = eq_equal (cmp k c.0) e in
          ap (λ ps. left_in_turn (left_by c.0 c.1) ps) (none_at k c.0 cs tie rising.0)
          ∙ two w f
          ∙ sym (ap (λ ps. left_in_turn [] (cond (is_some w) (c ∷ ps) ps)) (none_at k c.0 (present cs) tie (all_filter (λ (d : K × Option V). cmp c.0 d.0 ≡ Less) sets cs rising.0)))
        where
          two : (w : Option V) → c.1 ≡ w → left_by c.0 c.1 ≡ left_in_turn [] (cond (is_some w) (c ∷ []) [])
          two None f = ap (left_by c.0) f
          two (Some v) f = refl

      one : (b : Bool) → is_eq (cmp k c.0) ≡ b → (w : Option V) → c.1 ≡ w → left_in_turn [] (at k cs) ≡ left_in_turn [] (at k (present cs))
          → left_in_turn [] (cond b (c ∷ at k cs) (at k cs)) ≡ left_in_turn [] (at k (cond (is_some c.1) (c ∷ present cs) (present cs)))
      one true e None f again = here e None f ∙ sym (ap (λ w. left_in_turn [] (at k (cond (is_some w) (c ∷ present cs) (present cs)))) f)
      one true e (Some v) f again =
          here e (Some v) f ∙ sym (ap (λ w. left_in_turn [] (at k (cond (is_some w) (c ∷ present cs) (present cs)))) f ∙ ap (λ b. left_in_turn [] (cond b (c ∷ at k (present cs)) (at k (present cs)))) e)
      one false e None f again = again ∙ sym (ap (λ w. left_in_turn [] (at k (cond (is_some w) (c ∷ present cs) (present cs)))) f)
      one false e (Some v) f again =
          again ∙ sym (ap (λ w. left_in_turn [] (at k (cond (is_some w) (c ∷ present cs) (present cs)))) f ∙ ap (λ b. left_in_turn [] (cond b (c ∷ at k (present cs)) (at k (present cs)))) e)

  -- so the one layer of a compacted table need not have them
  pub laid_present : {V : Type 0} (cs : List (K × Option V)) → IsMap cmp cs → laid cmp [] cs ≡ laid cmp [] (present cs)
  laid_present {V} cs rising =
      rising_unique cmp key_of o (laid cmp [] cs) (laid cmp [] (present cs)) (rising_laid [] cs tt) (rising_laid [] (present cs) tt)
      (λ z. at_laid z.0 [] cs ∙ left_present z.0 cs rising ∙ sym (at_laid z.0 [] (present cs)))

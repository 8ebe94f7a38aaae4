-- Two layers as one, from their ends: the greater of the two last changes comes last, and of two that tie the newer one.
use Rattle.std.proofs.Common.{◌≡◌, List, [], ◌∷◌, ◌++◌, true, false, cond, Option, Some, None, refl, sym, ap, ◌∙◌, subst}
use Rattle.std.specs.List.{AllByRecursion}
use Rattle.std.specs.Ordering.{is_lt, is_gt, ordering_reverse}
use Rattle.std.specs.declared.cmp.Ordering.{Ordering}
use Rattle.std.specs.declared.cmp.Ordering.TheVariants.{Less, Equal, Greater}
use Rattle.std.specs.Cmp.{IsTotalOrder, tied_back, alike_right}
use Rattle.std.specs.Option.{option_map, option_to_list, IfNone}
use Rattle.std.proofs.lemmas.List.Elements.{filter-append}
use Rattle.std.proofs.lemmas.List.{append-nil, append_assoc}
use Rattle.ordered_lists.specs.Ordered.{below, above, put_by, put_all}
use Rattle.ordered_lists.proofs.PutAll.{all_map, all_filter, all_append, filter_no, filter_all}
use Rattle.layer_table.specs.Layers.{key_of, IsMap, last_after, last_of, compared_keys}

last_all : {A : Type 0} (P : A → Type 0) (xs : List A) (x : A) → AllByRecursion P (xs ++ x ∷ []) → P x
last_all P [] x all = all.0
last_all P (y ∷ ys) x all = last_all P ys x all.1

front_all : {A : Type 0} (P : A → Type 0) (xs ys : List A) → AllByRecursion P (xs ++ ys) → AllByRecursion P xs
front_all P [] ys all = tt
front_all P (x ∷ xs) ys all = (all.0, front_all P xs ys all.1)

-- the key of the last change, if there is one
abbrev pub end_of : {K W : Type 0} → List (K × W) → Option K
end_of ps = option_map key_of (last_of ps)

module _ {K W : Type 0} (cmp : K → K → Ordering) (o : IsTotalOrder cmp) where
  -- all keys are below this one
  abbrev pub AreBelow : K → List (K × W) → Type 0
  AreBelow k ps = AllByRecursion (λ (p : K × W). cmp p.0 k ≡ Less) ps

  pub all_lower : (k : K) (ps : List (K × W)) → AreBelow k ps → below cmp key_of k ps ≡ ps
  all_lower k ps all = filter_all (λ (p : K × W). is_lt (cmp p.0 k)) ps (all_map (λ (p : K × W). cmp p.0 k ≡ Less) (λ (p : K × W). is_lt (cmp p.0 k) ≡ true) ps (λ p e. ap is_lt e) all)

  pub none_higher : (k : K) (ps : List (K × W)) → AreBelow k ps → above cmp key_of k ps ≡ []
  none_higher k ps all = filter_no (λ (p : K × W). is_gt (cmp p.0 k)) ps (all_map (λ (p : K × W). cmp p.0 k ≡ Less) (λ (p : K × W). is_gt (cmp p.0 k) ≡ false) ps (λ p e. ap is_gt e) all)

  -- a change above all others comes last
  pub put_above : (c : K × W) (ps : List (K × W)) → AreBelow c.0 ps → put_by cmp key_of c ps ≡ ps ++ c ∷ []
  put_above c ps all = λ i. all_lower c.0 ps all i ++ c ∷ none_higher c.0 ps all i

  -- one that ties with the last comes in its place
  pub put_tied : (c d : K × W) (ps : List (K × W)) → AreBelow c.0 ps → cmp d.0 c.0 ≡ Equal → put_by cmp key_of c (ps ++ d ∷ []) ≡ ps ++ c ∷ []
  put_tied c d ps all tie =
      (λ i. filter-append (λ (p : K × W). is_lt (cmp p.0 c.0)) ps (d ∷ []) i ++ c ∷ filter-append (λ (p : K × W). is_gt (cmp p.0 c.0)) ps (d ∷ []) i)
      ∙ (λ i. (all_lower c.0 ps all i ++ cond (is_lt (tie i)) (d ∷ []) []) ++ c ∷ (none_higher c.0 ps all i ++ cond (is_gt (tie i)) (d ∷ []) []))
      ∙ ap (λ qs. qs ++ c ∷ []) (append-nil ps)

  -- one below the last comes before it
  pub put_before : (c d : K × W) (ps : List (K × W)) → cmp c.0 d.0 ≡ Less → put_by cmp key_of c (ps ++ d ∷ []) ≡ put_by cmp key_of c ps ++ d ∷ []
  put_before c d ps less =
      let over : cmp d.0 c.0 ≡ Greater = o.antisymm d.0 c.0 ∙ ap ordering_reverse less in
      (λ i. filter-append (λ (p : K × W). is_lt (cmp p.0 c.0)) ps (d ∷ []) i ++ c ∷ filter-append (λ (p : K × W). is_gt (cmp p.0 c.0)) ps (d ∷ []) i)
      ∙ (λ i. (below cmp key_of c.0 ps ++ cond (is_lt (over i)) (d ∷ []) []) ++ c ∷ (above cmp key_of c.0 ps ++ cond (is_gt (over i)) (d ∷ []) []))
      ∙ ap (λ qs. qs ++ c ∷ (above cmp key_of c.0 ps ++ d ∷ [])) (append-nil (below cmp key_of c.0 ps))
      ∙ sym (append_assoc (below cmp key_of c.0 ps) (c ∷ above cmp key_of c.0 ps) (d ∷ []))

  -- the older layer ends above all of the newer one
  pub merge_older : (older newer : List (K × W)) (d : K × W) → AreBelow d.0 newer → put_all cmp key_of (older ++ d ∷ []) newer ≡ put_all cmp key_of older newer ++ d ∷ []
  merge_older older [] d all = refl
  merge_older older (c ∷ newer) d all = ap (λ ps. put_all cmp key_of ps newer) (put_before c d older all.0) ∙ merge_older (put_by cmp key_of c older) newer d all.1

  put_end : (older newer : List (K × W)) (c : K × W) → put_all cmp key_of older (newer ++ c ∷ []) ≡ put_by cmp key_of c (put_all cmp key_of older newer)
  put_end older [] c = refl
  put_end older (d ∷ newer) c = put_end (put_by cmp key_of d older) newer c

  below_put : (k : K) (older newer : List (K × W)) → AreBelow k older → AreBelow k newer → AreBelow k (put_all cmp key_of older newer)
  below_put k older [] all more = all
  below_put k older (c ∷ newer) all more =
      below_put k (put_by cmp key_of c older) newer
      (all_append (λ (p : K × W). cmp p.0 k ≡ Less) (below cmp key_of c.0 older) (c ∷ above cmp key_of c.0 older) (all_filter (λ (p : K × W). cmp p.0 k ≡ Less) _ older all) (more.0, all_filter (λ (p : K × W). cmp p.0 k ≡ Less) _ older all))
      more.1

  -- the newer layer ends above all of the older one
  pub merge_newer : (older newer : List (K × W)) (c : K × W) → AreBelow c.0 older → AreBelow c.0 newer → put_all cmp key_of older (newer ++ c ∷ []) ≡ put_all cmp key_of older newer ++ c ∷ []
  merge_newer older newer c low lower = put_end older newer c ∙ put_above c (put_all cmp key_of older newer) (below_put c.0 older newer low lower)

  -- both end at one key
  pub merge_tied : (older newer : List (K × W)) (d c : K × W) → cmp d.0 c.0 ≡ Equal → AreBelow c.0 older → AreBelow c.0 newer → AreBelow d.0 newer
      → put_all cmp key_of (older ++ d ∷ []) (newer ++ c ∷ []) ≡ put_all cmp key_of older newer ++ c ∷ []
  merge_tied older newer d c tie low lower under =
      put_end (older ++ d ∷ []) newer c ∙ ap (put_by cmp key_of c) (merge_older older newer d under) ∙ put_tied c d (put_all cmp key_of older newer) (below_put c.0 older newer low lower) tie

  -- ---- the greater of two ends, by what was taken from them

  rising_end : (ps : List (K × W)) (c : K × W) → IsMap cmp (ps ++ c ∷ []) → AreBelow c.0 ps
  rising_end [] c rising = tt
  rising_end (p ∷ ps) c rising = (last_all (λ (q : K × W). cmp p.0 q.0 ≡ Less) ps c rising.0, rising_end ps c rising.1)

  rising_front : (ps qs : List (K × W)) → IsMap cmp (ps ++ qs) → IsMap cmp ps
  rising_front [] qs rising = tt
  rising_front (p ∷ ps) qs rising = (front_all (λ (q : K × W). cmp p.0 q.0 ≡ Less) ps qs rising.0, rising_front ps qs rising.1)

  -- what is left of changes that rise rises
  pub rising_left : (ps rest qs : List (K × W)) → IsMap cmp ps → ps ≡ rest ++ qs → IsMap cmp rest
  rising_left ps rest qs rising is = rising_front rest qs (subst (IsMap cmp) is rising)

  -- all of changes that rise are below a key that is over the last of them
  below_last : (k : K) (p : K × W) (ps : List (K × W)) → IsMap cmp (p ∷ ps) → cmp (key_of (last_after p ps)) k ≡ Less → AreBelow k (p ∷ ps)
  below_last k p [] rising less = (less, tt)
  below_last k p (q ∷ qs) rising less =
      let rest = below_last k q qs rising.1 less in
      (o.trans p.0 q.0 k rising.0.0 rest.0, rest)

  below_tied : (j k : K) (ps : List (K × W)) → cmp j k ≡ Equal → AreBelow j ps → AreBelow k ps
  below_tied j k ps tie all = all_map (λ (p : K × W). cmp p.0 j ≡ Less) (λ (p : K × W). cmp p.0 k ≡ Less) ps (λ p e. sym (alike_right o j k p.0 tie) ∙ e) all

  end_is : (ps : List (K × W)) (c : K × W) → end_of (ps ++ c ∷ []) ≡ Some c.0
  end_is [] c = refl
  end_is (p ∷ ps) c = ap (λ q. Some (key_of q)) (after p ps)
    where
      after : (p : K × W) (ps : List (K × W)) → last_after p (ps ++ c ∷ []) ≡ c
      after p [] = refl
      after p (q ∷ qs) = after q qs

  less_end : (ps : List (K × W)) (k : K) → IsMap cmp ps → compared_keys cmp (end_of ps) (Some k) ≡ Less → AreBelow k ps
  less_end [] k rising less = tt
  less_end (p ∷ ps) k rising less = below_last k p ps rising less

  greater_end : (ps : List (K × W)) (k : K) → IsMap cmp ps → compared_keys cmp (Some k) (end_of ps) ≡ Greater → AreBelow k ps
  greater_end [] k rising more = tt
  greater_end (p ∷ ps) k rising more = below_last k p ps rising (o.antisymm (key_of (last_after p ps)) k ∙ ap ordering_reverse more)

  -- the newer one's last is taken
  pub taken_newer : (older newer rest : List (K × W)) (r : Option (K × W)) → IsMap cmp older → IsMap cmp newer → newer ≡ rest ++ option_to_list r → compared_keys cmp (end_of older) (end_of newer) ≡ Less
      → put_all cmp key_of older newer ≡ put_all cmp key_of older rest ++ option_to_list r
  taken_newer older newer rest None ro rn is less = ap (put_all cmp key_of older) (is ∙ append-nil rest) ∙ sym (append-nil (put_all cmp key_of older rest))
  taken_newer older newer rest (Some c) ro rn is less =
      ap (put_all cmp key_of older) is
      ∙ merge_newer older rest c
      (less_end older c.0 ro (subst (λ ps. compared_keys cmp (end_of older) ps ≡ Less) (ap end_of is ∙ end_is rest c) less))
      (rising_end rest c (subst (IsMap cmp) is rn))

  -- the older one's last is taken
  pub taken_older : (older newer rest : List (K × W)) (r : Option (K × W)) → IsMap cmp older → IsMap cmp newer → older ≡ rest ++ option_to_list r → compared_keys cmp (end_of older) (end_of newer) ≡ Greater
      → put_all cmp key_of older newer ≡ put_all cmp key_of rest newer ++ option_to_list r
  taken_older older newer rest None ro rn is more = ap (λ ps. put_all cmp key_of ps newer) (is ∙ append-nil rest) ∙ sym (append-nil (put_all cmp key_of rest newer))
  taken_older older newer rest (Some d) ro rn is more =
      ap (λ ps. put_all cmp key_of ps newer) is
      ∙ merge_older rest newer d (greater_end newer d.0 rn (subst (λ ps. compared_keys cmp ps (end_of newer) ≡ Greater) (ap end_of is ∙ end_is rest d) more))

  -- both end at one key: the last of each is taken, and that of the newer stands
  pub taken_both : (older newer left rest : List (K × W)) (r s : Option (K × W)) → IsMap cmp older → IsMap cmp newer → older ≡ left ++ option_to_list r → newer ≡ rest ++ option_to_list s
      → IfNone r (older ≡ []) → IfNone s (newer ≡ []) → compared_keys cmp (end_of older) (end_of newer) ≡ Equal
      → put_all cmp key_of older newer ≡ put_all cmp key_of left rest ++ option_to_list s
  taken_both older newer left rest None s ro rn is is' none none' tie =
      let bad : Less ≡ Equal = sym (ap (λ ps. compared_keys cmp (end_of ps) (end_of newer)) none) ∙ tie in absurd (cc)
  taken_both older newer left rest (Some d) None ro rn is is' none none' tie =
      let bad : Greater ≡ Equal = sym ((λ i. compared_keys cmp (end_of (is i)) (end_of (none' i))) ∙ ap (λ k. compared_keys cmp k None) (end_is left d)) ∙ tie in absurd (cc)
  taken_both older newer left rest (Some d) (Some c) ro rn is is' none none' tie =
      let low = rising_end left d (subst (IsMap cmp) is ro) in
      let high = rising_end rest c (subst (IsMap cmp) is' rn) in
      let same : cmp d.0 c.0 ≡ Equal = sym ((λ i. compared_keys cmp (end_of (is i)) (end_of (is' i))) ∙ (λ i. compared_keys cmp (end_is left d i) (end_is rest c i))) ∙ tie in
      (λ i. put_all cmp key_of (is i) (is' i)) ∙ merge_tied left rest d c same (below_tied d.0 c.0 left same low) high (below_tied c.0 d.0 rest (tied_back o d.0 c.0 same) high)

  -- where the newer one is empty and not the less, so is the older one
  pub both_empty : (older newer : List (K × W)) (r : Option (K × W)) → IfNone r (newer ≡ []) → compared_keys cmp (end_of older) (end_of newer) ≡ Less → IfNone r (older ≡ [])
  both_empty older newer (Some c) none less = tt
  both_empty [] newer None none less = refl
  both_empty (p ∷ ps) newer None none less =
      let bad : Greater ≡ Less = sym (ap (λ qs. compared_keys cmp (end_of (p ∷ ps)) (end_of qs)) none) ∙ less in absurd (cc)

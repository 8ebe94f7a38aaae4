-- A search among the places of rules in their order.
use Rattle.std.proofs.Common.{◌≡◌, ◌≢◌, ◌<◌, ◌≤◌, ℕ, List, length, get_or, slice_get, true, false, Bool, Option, Some, None, refl, sym, ap, ◌∙◌, subst, arith, inl, inr, ◌⊎◌, bytes_eq, eq-eqb}
use Rattle.std.specs.Prelude.{◌==◌}
use Rattle.std.specs.List.{range_with_len, Contains, All}
use Rattle.std.specs.List.Sorted.{IsPartitionPoint, IsPartitionedBy}
use Rattle.std.specs.Cmp.{IsTotalOrder, IsStrictWeakOrder, on_total, then_total, nat_cmp_total, tied_itself}
use Rattle.std.specs.Cmp.Lexicographic.{slice_cmp, nat_list_cmp_total, same_text}
use Rattle.std.specs.Ordering.{nat_cmp, ordering_then, ordering_reverse, is_lt, is_eq}
use Rattle.std.specs.declared.cmp.Ordering.{Ordering}
use Rattle.std.specs.declared.cmp.Ordering.TheVariants.{Less, Equal, Greater}
use Rattle.std.proofs.lemmas.Bool.{cases_lt, eqb-true}
use Rattle.std.proofs.lemmas.Bool.Decides.{nat_tests}
use Rattle.std.proofs.lemmas.Slice.Eq.{bytes_eq-Decides}
use Rattle.std.proofs.lemmas.Map.Text.{is_eq-slice_cmp}
use Rattle.std.proofs.lemmas.List.FromFn.{length-range_with_len, get_or-range_with_len}
use Rattle.std.proofs.lemmas.List.Sorted.{sorted_far, ranks_by, Contains-permutation, All-permutation}
use Rattle.std.proofs.lemmas.Option.{slice_get_within}
use Rattle.text_pieces.proofs.NumberLaw.{both_true}
use Rattle.live_model.specs.declared.rules.Rule.{Rule}
use Rattle.live_model.specs.Rules.{shape_rank}
use Rattle.tag_rules.specs.Matching.{first_from}
use Rattle.tag_rules.specs.Order.{Want, want, wants, want_cmp, want_at, want_or_none, stand_cmp, place_cmp, IsOrder, bytes_or_none}
use Rattle.tag_rules.proofs.Firsts.{passes_at, passes_here, one_first, first_is, slice_get_some}

-- Wants.

-- the rules of wants, one by one
want_total : IsTotalOrder want_cmp
want_total = then_total (on_total (λ (w : Want). w.shape) nat_cmp_total) (then_total (on_total (λ (w : Want). w.tag_key) nat_list_cmp_total) (on_total (λ (w : Want). w.tag_value) nat_list_cmp_total))

then_equal : (r s : Ordering) → ordering_then r s ≡ Equal → (r ≡ Equal) × (s ≡ Equal)
then_equal Less s e = absurd (cc)
then_equal Equal s e = (refl, e)
then_equal Greater s e = absurd (cc)

texts_equal : (xs ys : List ℕ) → slice_cmp nat_cmp xs ys ≡ Equal → xs ≡ ys
texts_equal xs ys e = same_text xs ys (sym (sym (is_eq-slice_cmp xs ys) ∙ ap is_eq e))

numbers_equal : (a b : ℕ) → nat_cmp a b ≡ Equal → a ≡ b
numbers_equal a b e = grind (arith, nat_tests)

same_parts : (a b : Want) → a.shape ≡ b.shape → a.tag_key ≡ b.tag_key → a.tag_value ≡ b.tag_value → a ≡ b
same_parts a b e f g = λ i. record { shape = e i; tag_key = f i; tag_value = g i }

want_same : (a b : Want) → want_cmp a b ≡ Equal → a ≡ b
want_same a b e =
    let first = then_equal (nat_cmp a.shape b.shape) _ e in
    let rest = then_equal (slice_cmp nat_cmp a.tag_key b.tag_key) (slice_cmp nat_cmp a.tag_value b.tag_value) first.1 in
    let shape = numbers_equal a.shape b.shape first.0 in
    let key = texts_equal a.tag_key b.tag_key rest.0 in
    let value = texts_equal a.tag_value b.tag_value rest.1 in
    same_parts a b shape key value

want_itself : (a b : Want) → a ≡ b → want_cmp a b ≡ Equal
want_itself a b e = ap (want_cmp a) (sym e) ∙ tied_itself want_total a

-- a rule wants what it wants
wants_is : (w : Want) (r : Rule) → wants w r ≡ true → want r ≡ w
wants_is w r e =
    let first = both_true (shape_rank r.shape == w.shape) _ e in
    let rest = both_true (bytes_eq r.key w.tag_key) (bytes_eq (bytes_or_none r.value) w.tag_value) first.1 in
    let shape = eqb-true (shape_rank r.shape) w.shape first.0 in
    let key = same_text r.key w.tag_key (sym rest.0) in
    let value = same_text (bytes_or_none r.value) w.tag_value (sym rest.1) in
    same_parts (want r) w shape key value

is_wants : (w : Want) (r : Rule) → want r ≡ w → wants w r ≡ true
is_wants w r e =
    subst (λ v. wants v r ≡ true) e (rw (eq-eqb (shape_rank r.shape) (shape_rank r.shape) refl, (bytes_eq-Decides r.key r.key).1 refl, (bytes_eq-Decides (bytes_or_none r.value) (bytes_or_none r.value)).1 refl) refl)

-- Places.

-- what is wanted at a place, and the place
abbrev Stand : Type 0
Stand = Want × ℕ

abbrev pub pair_cmp : Stand → Stand → Ordering
pair_cmp a b = ordering_then (want_cmp a.0 b.0) (nat_cmp a.1 b.1)

pair_total : IsTotalOrder pair_cmp
pair_total = then_total (on_total (λ (s : Stand). s.0) want_total) (on_total (λ (s : Stand). s.1) nat_cmp_total)

module _ (rules : List Rule) where
  abbrev stand : ℕ → Stand
  stand p = (want_at rules p, p)

  -- the order of places is one that a sort takes
  pub places_rank : IsStrictWeakOrder (λ a b. is_lt (place_cmp rules a b))
  places_rank = ranks_by pair_total stand

  -- what is not behind one that is before is before
  before : (a b c : Stand) → is_lt (pair_cmp b a) ≡ false → is_lt (pair_cmp b c) ≡ true → is_lt (pair_cmp a c) ≡ true
  before a b c upto lower = one (pair_cmp a b) refl
    where
      less : (o : Ordering) → is_lt o ≡ true → o ≡ Less
      less Less e = refl
      less Equal e = cc
      less Greater e = cc

      one : (o : Ordering) → pair_cmp a b ≡ o → is_lt (pair_cmp a c) ≡ true
      one Less e = ap is_lt (pair_total.trans a b c e (less (pair_cmp b c) lower))
      one Equal e = ap is_lt (pair_total.congr a b c e) ∙ lower
      one Greater e = let turned : pair_cmp b a ≡ Less = pair_total.antisymm b a ∙ ap ordering_reverse e in absurd (let no : true ≡ false = ap is_lt (sym turned) ∙ upto in cc)

  module _ (order : List ℕ) (ordered : IsOrder rules order) where
    far : (i j d : ℕ) → i ≤ j → j < length order → is_lt (place_cmp rules (get_or order j d) (get_or order i d)) ≡ false
    far i j d le lt = sorted_far (λ a b. is_lt (place_cmp rules a b)) places_rank order ordered.sorted i j d le lt

    -- places before a want and a place stand before the others
    pub parted : (w : Want) (from : ℕ) → IsPartitionedBy (λ p. is_lt (stand_cmp rules p w from)) order
    parted w from i j d le lt lower = before (stand (get_or order i d)) (stand (get_or order j d)) (w, from) (far i j d le lt) lower

    inside : All (λ p. p < length rules) order
    inside = All-permutation (λ p. p < length rules) (range_with_len 0 (length rules)) order ordered.all (λ i d lt. (
        let long = length-range_with_len 0 (length rules) in
        let value = get_or-range_with_len 0 (length rules) i d (omega arith) in
        omega arith))

    there : (q : ℕ) → q < length rules → Contains order q
    there q lt =
        let long = length-range_with_len 0 (length rules) in
        let value = get_or-range_with_len 0 (length rules) q q lt in
        Contains-permutation (range_with_len 0 (length rules)) order q ordered.all (q, omega arith, omega arith)

    module _ (w : Want) (from at : ℕ) (point : IsPartitionPoint (λ p. is_lt (stand_cmp rules p w from) ≡ true) (λ p. is_lt (stand_cmp rules p w from) ≡ false) order at) where
      wanted_here : (q : ℕ) → passes_at (wants w) rules q ≡ true → (want_at rules q ≡ w) × (q < length rules)
      wanted_here q e = one (slice_get rules q) refl e
        where
          one : (o : Option Rule) → slice_get rules q ≡ o → passes_here (wants w) o ≡ true → (want_at rules q ≡ w) × (q < length rules)
          one None here e = absurd (cc)
          one (Some r) here e = (ap want_or_none here ∙ wants_is w r e, slice_get_within rules q r here)

      not_before : (p from : ℕ) → want_at rules p ≡ w → from ≤ p → is_lt (pair_cmp (stand p) (w, from)) ≡ false
      not_before p from is le =
          ap (λ o. is_lt (ordering_then o (nat_cmp p from))) (want_itself (want_at rules p) w is) ∙ numbers p from le
        where
          numbers : (a b : ℕ) → b ≤ a → is_lt (nat_cmp a b) ≡ false
          numbers a b le = grind (arith, nat_tests)

      -- a place that is wanted stands at the point or behind it
      behind : (q : ℕ) → from ≤ q → passes_at (wants w) rules q ≡ true → (j : ℕ) × (at ≤ j) × (j < length order) × (get_or order j q ≡ q)
      behind q le e =
          let here = wanted_here q e in
          let found = there q here.1 in
          (found.0, one found.0 found.1 found.2 here.0 (cases_lt found.0 at), found.1, found.2)
        where
          one : (j : ℕ) → j < length order → get_or order j q ≡ q → want_at rules q ≡ w → (j < at) ⊎ (at ≤ j) → at ≤ j
          one j lt value is (inr ge) = ge
          one j lt value is (inl below) =
              let before : is_lt (stand_cmp rules q w from) ≡ true = subst (λ p. is_lt (stand_cmp rules p w from) ≡ true) value (point.0 j q (omega arith) below) in
              absurd (let e : true ≡ false = sym before ∙ not_before q from is le in cc)

      not_wanted : (b : Bool) → (b ≡ true → ⊥) → b ≡ false
      not_wanted true never = absurd (never refl)
      not_wanted false never = refl

      -- no place is left behind the point
      pub none_left : length order ≤ at → first_from (wants w) rules from ≡ None
      none_left past =
          one_first (passes_at (wants w) rules) from (first_from (wants w) rules from) None (first_is (wants w) rules from)
          (λ q le. not_wanted (passes_at (wants w) rules q) (λ e. let found = behind q le e in let far = found.1 in let near = found.2 in omega arith))

      -- what holds of the first place behind the point
      pub record AtPoint (p : ℕ) : Type 0 where
        pub near : at < length order
        pub value : (d : ℕ) → get_or order at d ≡ p

      later : (p q : ℕ) → AtPoint p → from ≤ q → passes_at (wants w) rules q ≡ true → is_lt (pair_cmp (stand q) (stand p)) ≡ false
      later p q here le e =
          let found = behind q le e in
          subst (λ x. is_lt (place_cmp rules q x) ≡ false) (here.value q) (subst (λ x. is_lt (place_cmp rules x (get_or order at q)) ≡ false) found.3 (far at found.0 q found.1 found.2))

      -- it is wanted
      pub first_wanted : (p : ℕ) → AtPoint p → want_cmp (want_at rules p) w ≡ Equal → first_from (wants w) rules from ≡ Some p
      first_wanted p here equal =
          let is : want_at rules p ≡ w = want_same (want_at rules p) w equal in
          let low : is_lt (stand_cmp rules p w from) ≡ false = subst (λ x. is_lt (stand_cmp rules x w from) ≡ false) (here.value 0) (point.1 at 0 (omega arith) here.near) in
          let within : p < length rules = subst (λ x. x < length rules) (here.value 0) (inside at 0 here.near) in
          one_first (passes_at (wants w) rules) from (first_from (wants w) rules from) (Some p) (first_is (wants w) rules from) (
            reached (sym (ap (λ o. is_lt (ordering_then o (nat_cmp p from))) equal) ∙ low),
            wanted is within (slice_get rules p) refl,
            λ q le below. not_wanted (passes_at (wants w) rules q) (λ e.
                let there : want_at rules q ≡ w = (wanted_here q e).0 in
                let tied : want_cmp (want_at rules q) (want_at rules p) ≡ Equal = want_itself _ _ (there ∙ sym is) in
                let lower : is_lt (pair_cmp (stand q) (stand p)) ≡ true = ap (λ o. is_lt (ordering_then o (nat_cmp q p))) tied ∙ less q p below in
                (let e : true ≡ false = sym lower ∙ later p q here le e in cc)),
          )
        where
          reached : is_lt (nat_cmp p from) ≡ false → from ≤ p
          reached e = grind (arith, nat_tests)

          less : (a b : ℕ) → a < b → is_lt (nat_cmp a b) ≡ true
          less a b lt = grind (arith, nat_tests)

          wanted : want_at rules p ≡ w → p < length rules → (o : Option Rule) → slice_get rules p ≡ o → passes_at (wants w) rules p ≡ true
          wanted is within None e = absurd (slice_get_some rules p within e)
          wanted is within (Some r) e = ap (passes_here (wants w)) e ∙ is_wants w r (sym (ap want_or_none e) ∙ is)

      -- it is not wanted, and neither is any behind it
      pub first_unwanted : (p : ℕ) → AtPoint p → want_cmp (want_at rules p) w ≢ Equal → first_from (wants w) rules from ≡ None
      first_unwanted p here other =
          one_first (passes_at (wants w) rules) from (first_from (wants w) rules from) None (first_is (wants w) rules from)
          (λ q le. not_wanted (passes_at (wants w) rules q) (λ e. apart q le e (want_cmp (want_at rules p) w) refl))
        where
          apart : (q : ℕ) → from ≤ q → passes_at (wants w) rules q ≡ true → (o : Ordering) → want_cmp (want_at rules p) w ≡ o → ⊥
          apart q le e Equal is = other is
          apart q le e Less is =
              let low : is_lt (stand_cmp rules p w from) ≡ false = subst (λ x. is_lt (stand_cmp rules x w from) ≡ false) (here.value 0) (point.1 at 0 (omega arith) here.near) in
              let lower : is_lt (stand_cmp rules p w from) ≡ true = ap (λ o. is_lt (ordering_then o (nat_cmp p from))) is in
              (let e : true ≡ false = sym lower ∙ low in cc)
          apart q le e Greater is =
              let there : want_at rules q ≡ w = (wanted_here q e).0 in
              let turned : want_cmp w (want_at rules p) ≡ Less = want_total.antisymm w (want_at rules p) ∙ ap ordering_reverse is in
              let below : want_cmp (want_at rules q) (want_at rules p) ≡ Less = ap (λ v. want_cmp v (want_at rules p)) there ∙ turned in
              let lower : is_lt (pair_cmp (stand q) (stand p)) ≡ true = ap (λ o. is_lt (ordering_then o (nat_cmp q p))) below in
              (let e : true ≡ false = sym lower ∙ later p q here le e in cc)

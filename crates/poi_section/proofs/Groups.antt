-- Records in the order of their categories, group by group.
use Rattle.std.proofs.Common.{◌≡◌, ℕ, zero, suc, ◌≤◌, Bool, true, false, cond, List, [], ◌∷◌, ◌++◌, length, map, take, drop, refl, sym, ap, subst, ◌∙◌, arith}
use Rattle.std.specs.Prelude.{filter, flat_map}
use Rattle.std.specs.List.{AllByRecursion}
use Rattle.std.specs.Ordering.{is_eq, is_gt, is_lt, ordering_reverse}
use Rattle.std.specs.declared.cmp.Ordering.{Ordering}
use Rattle.std.specs.declared.cmp.Ordering.TheVariants.{Less, Equal, Greater}
use Rattle.std.specs.Cmp.{IsTotalOrder}
use Rattle.std.proofs.lemmas.Cmp.{nat_list_cmp_total}
use Rattle.std.proofs.lemmas.List.{length-drop}
use Rattle.live_model.specs.declared.records.PoiRec.{PoiRec}
use Rattle.ordered_lists.specs.Ordered.{IsRisingBy, put_all, put_by, below, above}
use Rattle.ordered_lists.proofs.PutAll.{all_filter, all_append, last_alone, none_same_over, put_all_same, rising-put_all, rising_unique}
use Rattle.text_table.specs.Tables.{text_cmp}
use Rattle.text_table.proofs.Rising.{equal_is, itself}
use Rattle.boxed_write.proofs.Sorting.{AreUp}
use Rattle.poi_section.specs.Packed.{categories_of, category_cmp, group, of_category, packed_pois, run_of}

abbrev Text : Type 0
Text = List ℕ

total : IsTotalOrder text_cmp
total = nat_list_cmp_total

-- this text ties with another
abbrev ties : Text → Text → Bool
ties a b = is_eq (text_cmp a b)

abbrev of_poi : PoiRec → Text
of_poi p = p.category

-- ---- what the bytes depend on

-- the categories that tie with a text
category_ties : (z : Text) (ps : List PoiRec) → filter (ties z) (map of_poi ps) ≡ map of_poi (of_category z ps)
category_ties z [] = refl
category_ties z (p ∷ ps) =
    elim (ties z p.category) as (λ b. cond b (p.category ∷ filter (ties z) (map of_poi ps)) (filter (ties z) (map of_poi ps)) ≡ map of_poi (cond b (p ∷ of_category z ps) (of_category z ps))) [
      | true ↦ ap (λ (ts : List Text). p.category ∷ ts) (category_ties z ps)
      | false ↦ category_ties z ps
    ]

pub categories_rise : (ps : List PoiRec) → IsRisingBy text_cmp (λ c. c) (categories_of ps)
categories_rise ps = rising-put_all text_cmp (λ c. c) total [] (map of_poi ps) tt

-- one of the categories that tie with a text is kept
kept_ties : (z : Text) (ps : List PoiRec) → filter (ties z) (categories_of ps) ≡ last_alone [] (map of_poi (of_category z ps))
kept_ties z ps = put_all_same text_cmp (λ c. c) total z [] (map of_poi ps) ∙ ap (last_alone []) (category_ties z ps)

same_categories : (ps qs : List PoiRec) → ((z : Text) → of_category z ps ≡ of_category z qs) → categories_of ps ≡ categories_of qs
same_categories ps qs alike =
    rising_unique text_cmp (λ c. c) total (categories_of ps) (categories_of qs) (categories_rise ps) (categories_rise qs)
    (λ z. kept_ties z ps ∙ ap (λ (xs : List PoiRec). last_alone [] (map of_poi xs)) (alike z) ∙ sym (kept_ties z qs))

-- what is made of the records of each category, category by category
abbrev pub by_groups : {B : Type 0} → (Text → List PoiRec → List B) → List PoiRec → List B
by_groups make ps = flat_map (λ c. make c (of_category c ps)) (categories_of ps)

module _ {B : Type 0} (make : Text → List PoiRec → List B) where
  same_groups : (ps qs : List PoiRec) (categories : List Text) → ((z : Text) → of_category z ps ≡ of_category z qs)
      → flat_map (λ c. make c (of_category c ps)) categories ≡ flat_map (λ c. make c (of_category c qs)) categories
  same_groups ps qs [] alike = refl
  same_groups ps qs (c ∷ cs) alike =
      ap (λ (xs : List PoiRec). make c xs ++ flat_map (λ d. make d (of_category d ps)) cs) (alike c)
      ∙ ap (λ (made : List B). make c (of_category c qs) ++ made) (same_groups ps qs cs alike)

  -- records that are the same, category by category, make the same groups
  pub alike_groups : (ps qs : List PoiRec) → ((z : Text) → of_category z ps ≡ of_category z qs) → by_groups make ps ≡ by_groups make qs
  alike_groups ps qs alike =
      ap (flat_map (λ c. make c (of_category c ps))) (same_categories ps qs alike) ∙ same_groups ps qs (categories_of qs) alike

-- records that are the same, category by category, are packed to the same bytes
pub alike_packed : (ps qs : List PoiRec) → ((z : Text) → of_category z ps ≡ of_category z qs) → packed_pois ps ≡ packed_pois qs
unfolding packed_pois
alike_packed ps qs alike = alike_groups group ps qs alike

-- ---- the order of texts

-- what is not above another, and does not tie with it, is below it
below_other : (r : Ordering) → is_gt r ≡ false → is_eq r ≡ false → r ≡ Less
below_other Less up other = refl
below_other Equal up other = absurd (cc)
below_other Greater up other = absurd (cc)

pub eq_is : (r : Ordering) → is_eq r ≡ true → r ≡ Equal
eq_is Less e = absurd (cc)
eq_is Equal e = refl
eq_is Greater e = absurd (cc)

-- above something is what is not below a text above it
past : (a b c : Text) → text_cmp a b ≡ Less → is_gt (text_cmp b c) ≡ false → text_cmp a c ≡ Less
past a b c less up = one (text_cmp b c) refl
  where
    one : (r : Ordering) → text_cmp b c ≡ r → text_cmp a c ≡ Less
    one Less e = total.trans a b c less e
    one Equal e = total.antisymm a c ∙ ap ordering_reverse (sym (total.congr b c a e)) ∙ sym (total.antisymm a b) ∙ less
    one Greater e = let f : is_gt (text_cmp b c) ≡ true = ap is_gt e in absurd (cc)

-- each record is of a category above this one
abbrev AreAbove : Text → List PoiRec → Type 0
AreAbove c ps = AllByRecursion (λ p. text_cmp c p.category ≡ Less) ps

above_all : (c : Text) (p : PoiRec) (ps : List PoiRec) → text_cmp c p.category ≡ Less → AllByRecursion (λ q. is_gt (category_cmp p q) ≡ false) ps → AreAbove c (p ∷ ps)
above_all c p ps less up = (less, rest ps up)
  where
    rest : (qs : List PoiRec) → AllByRecursion (λ q. is_gt (category_cmp p q) ≡ false) qs → AreAbove c qs
    rest [] all = tt
    rest (q ∷ qs) all = (past c p.category q.category less all.0, rest qs all.1)

above_texts : (c : Text) (ps : List PoiRec) → AreAbove c ps → AllByRecursion (λ t. text_cmp c t ≡ Less) (map of_poi ps)
above_texts c [] all = tt
above_texts c (p ∷ ps) all = (all.0, above_texts c ps all.1)

-- what holds of texts holds of those that are put
pub all_put : (P : Text → Type 0) (xs ys : List Text) → AllByRecursion P xs → AllByRecursion P ys → AllByRecursion P (put_all text_cmp (λ c. c) xs ys)
all_put P xs [] all others = all
all_put P xs (y ∷ ys) all others =
    all_put P (put_by text_cmp (λ c. c) y xs) ys
    (all_append P (below text_cmp (λ c. c) y xs) (y ∷ above text_cmp (λ c. c) y xs) (all_filter P (λ x. is_lt (text_cmp x y)) xs all) (others.0, all_filter P (λ x. is_gt (text_cmp x y)) xs all))
    others.1

categories_above : (c : Text) (ps : List PoiRec) → AreAbove c ps → AllByRecursion (λ t. text_cmp c t ≡ Less) (categories_of ps)
categories_above c ps all = all_put (λ t. text_cmp c t ≡ Less) [] (map of_poi ps) tt (above_texts c ps all)

-- none of the records above a category is of it
none_of : (z c : Text) (ps : List PoiRec) → ties z c ≡ true → AreAbove c ps → of_category z ps ≡ []
none_of z c [] e all = refl
none_of z c (p ∷ ps) e all = rw (ap is_eq (total.congr z c p.category (eq_is (text_cmp z c) e) ∙ all.0)) (none_of z c ps e all.1)

-- ---- the first category

-- a record before one of its category adds none
again_categories : (p q : PoiRec) (ps : List PoiRec) → q.category ≡ p.category → categories_of (p ∷ q ∷ ps) ≡ categories_of (q ∷ ps)
again_categories p q ps same =
    rising_unique text_cmp (λ c. c) total (categories_of (p ∷ q ∷ ps)) (categories_of (q ∷ ps)) (categories_rise (p ∷ q ∷ ps)) (categories_rise (q ∷ ps))
    (λ z. put_all_same text_cmp (λ c. c) total z [] (map of_poi (p ∷ q ∷ ps))
    ∙ one z (ties z p.category) (ap (ties z) same)
    ∙ sym (put_all_same text_cmp (λ c. c) total z [] (map of_poi (q ∷ ps))))
  where
    one : (z : Text) (b : Bool) → ties z q.category ≡ b
        → last_alone [] (cond b (p.category ∷ cond (ties z q.category) (q.category ∷ filter (ties z) (map of_poi ps)) (filter (ties z) (map of_poi ps))) (cond (ties z q.category) (q.category ∷ filter (ties z) (map of_poi ps)) (filter (ties z) (map of_poi ps))))
        ≡ last_alone [] (cond (ties z q.category) (q.category ∷ filter (ties z) (map of_poi ps)) (filter (ties z) (map of_poi ps)))
    one z true e = rw e refl
    one z false e = refl

-- a record below all others adds its category in front
front_categories : (p : PoiRec) (ps : List PoiRec) → AreAbove p.category ps → categories_of (p ∷ ps) ≡ p.category ∷ categories_of ps
front_categories p ps all =
    rising_unique text_cmp (λ c. c) total (categories_of (p ∷ ps)) (p.category ∷ categories_of ps) (categories_rise (p ∷ ps)) (categories_above p.category ps all, categories_rise ps)
    (λ z. put_all_same text_cmp (λ c. c) total z [] (map of_poi (p ∷ ps)) ∙ one z (ties z p.category) refl)
  where
    one : (z : Text) (b : Bool) → ties z p.category ≡ b
        → last_alone [] (cond b (p.category ∷ filter (ties z) (map of_poi ps)) (filter (ties z) (map of_poi ps))) ≡ cond b (p.category ∷ filter (ties z) (categories_of ps)) (filter (ties z) (categories_of ps))
    one z true e =
        ap (λ (ts : List Text). last_alone [] (p.category ∷ ts)) (category_ties z ps ∙ ap (map of_poi) (none_of z p.category ps e all))
        ∙ ap (λ (ts : List Text). p.category ∷ ts) (sym (none_same_over text_cmp (λ c. c) total z p.category (categories_of ps) e (categories_above p.category ps all)))
    one z false e = sym (put_all_same text_cmp (λ c. c) total z [] (map of_poi ps))

first_category : (p : PoiRec) (ps : List PoiRec) → AreUp category_cmp (p ∷ ps) → categories_of (p ∷ ps) ≡ p.category ∷ categories_of (drop (run_of p.category ps) ps)
first_category p [] up = refl
first_category p (q ∷ qs) up = one (ties p.category q.category) refl (first_category q qs up.1)
  where
    one : (b : Bool) → ties p.category q.category ≡ b → categories_of (q ∷ qs) ≡ q.category ∷ categories_of (drop (run_of q.category qs) qs)
        → categories_of (p ∷ q ∷ qs) ≡ p.category ∷ categories_of (drop (cond b (suc (run_of p.category qs)) 0) (q ∷ qs))
    one true e rest =
        let same : q.category ≡ p.category = sym (equal_is p.category q.category (eq_is (text_cmp p.category q.category) e)) in
        again_categories p q qs same ∙ rest ∙ ap (λ (c : Text). c ∷ categories_of (drop (run_of c qs) qs)) same
    one false e rest =
        front_categories p (q ∷ qs) (above_all p.category q qs (below_other (text_cmp p.category q.category) up.0.0 e) up.1.0)

-- ---- the first group

-- the records of a category that none of these is below are those at the front
front_records : (c : Text) (ps : List PoiRec) → AllByRecursion (λ p. is_gt (text_cmp c p.category) ≡ false) ps → AreUp category_cmp ps → of_category c ps ≡ take (run_of c ps) ps
front_records c [] up ups = refl
front_records c (p ∷ ps) up ups = one (ties c p.category) refl (front_records c ps up.1 ups.1)
  where
    one : (b : Bool) → ties c p.category ≡ b → of_category c ps ≡ take (run_of c ps) ps → cond b (p ∷ of_category c ps) (of_category c ps) ≡ take (cond b (suc (run_of c ps)) 0) (p ∷ ps)
    one true e rest = ap (λ (qs : List PoiRec). p ∷ qs) rest
    one false e rest = none_of c c ps (ap is_eq (itself c)) (above_all c p ps (below_other (text_cmp c p.category) up.0 e) ups.0).1

-- those of a category above are behind them
back_records : (c d : Text) (ps : List PoiRec) → text_cmp c d ≡ Less → of_category d ps ≡ of_category d (drop (run_of c ps) ps)
back_records c d [] less = refl
back_records c d (p ∷ ps) less = one (ties c p.category) refl (back_records c d ps less)
  where
    other : text_cmp c p.category ≡ Equal → ties d p.category ≡ false
    other e = ap is_eq (total.antisymm d p.category ∙ ap ordering_reverse (sym (total.congr c p.category d e) ∙ less))

    one : (b : Bool) → ties c p.category ≡ b → of_category d ps ≡ of_category d (drop (run_of c ps) ps)
        → cond (ties d p.category) (p ∷ of_category d ps) (of_category d ps) ≡ of_category d (drop (cond b (suc (run_of c ps)) 0) (p ∷ ps))
    one true e rest = rw (other (eq_is (text_cmp c p.category) e)) rest
    one false e rest = refl

-- what stands behind the front is above it
behind_front : (c : Text) (ps : List PoiRec) → AllByRecursion (λ p. is_gt (text_cmp c p.category) ≡ false) ps → AreUp category_cmp ps → AreAbove c (drop (run_of c ps) ps)
behind_front c [] up ups = tt
behind_front c (p ∷ ps) up ups = one (ties c p.category) refl (behind_front c ps up.1 ups.1)
  where
    one : (b : Bool) → ties c p.category ≡ b → AreAbove c (drop (run_of c ps) ps) → AreAbove c (drop (cond b (suc (run_of c ps)) 0) (p ∷ ps))
    one true e rest = rest
    one false e rest = above_all c p ps (below_other (text_cmp c p.category) up.0 e) ups.0

-- the first record is of its own category
pub run_front : (p : PoiRec) (ps : List PoiRec) → run_of p.category (p ∷ ps) ≡ suc (run_of p.category ps)
run_front p ps = rw (itself p.category) refl

module _ {B : Type 0} (make : Text → List PoiRec → List B) where
  -- the groups of categories above are those of the records behind
  back_groups : (c : Text) (ps : List PoiRec) (categories : List Text) → AllByRecursion (λ d. text_cmp c d ≡ Less) categories
      → flat_map (λ d. make d (of_category d ps)) categories ≡ flat_map (λ d. make d (of_category d (drop (run_of c ps) ps))) categories
  back_groups c ps [] all = refl
  back_groups c ps (d ∷ ds) all =
      let rest : List PoiRec = drop (run_of c ps) ps in
      ap (λ (xs : List PoiRec). make d xs ++ flat_map (λ k. make k (of_category k ps)) ds) (back_records c d ps all.0)
      ∙ ap (λ (made : List B). make d (of_category d rest) ++ made) (back_groups c ps ds all.1)

  -- what the first category makes, and what those of the records behind make
  pub first_made : (p : PoiRec) (ps : List PoiRec) → AreUp category_cmp (p ∷ ps)
      → by_groups make (p ∷ ps) ≡ make p.category (take (run_of p.category (p ∷ ps)) (p ∷ ps)) ++ by_groups make (drop (run_of p.category (p ∷ ps)) (p ∷ ps))
  first_made p ps up =
      let c : Text = p.category in
      let all : List PoiRec = p ∷ ps in
      let rest : List PoiRec = drop (run_of c all) all in
      let here : drop (run_of c ps) ps ≡ rest = ap (λ (n : ℕ). drop n all) (sym (run_front p ps)) in
      let self : is_gt (text_cmp c c) ≡ false = ap is_gt (itself c) in
      ap (flat_map (λ d. make d (of_category d all))) (first_category p ps up ∙ ap (λ (qs : List PoiRec). c ∷ categories_of qs) here)
      ∙ ap (λ (xs : List PoiRec). make c xs ++ flat_map (λ d. make d (of_category d all)) (categories_of rest)) (front_records c all (self, up.0) up)
      ∙ ap (λ (made : List B). make c (take (run_of c all) all) ++ made) (back_groups c all (categories_of rest) (categories_above c rest (behind_front c all (self, up.0) up)))

-- the first category's group, and those of the records behind
pub first_group : (p : PoiRec) (ps : List PoiRec) → AreUp category_cmp (p ∷ ps)
    → packed_pois (p ∷ ps) ≡ group p.category (take (run_of p.category (p ∷ ps)) (p ∷ ps)) ++ packed_pois (drop (run_of p.category (p ∷ ps)) (p ∷ ps))
unfolding packed_pois
first_group p ps up = first_made group p ps up

-- what is in order is so from any index on
pub up_behind : (n : ℕ) (ps : List PoiRec) → AreUp category_cmp ps → AreUp category_cmp (drop n ps)
up_behind zero ps up = up
up_behind (suc n) [] up = tt
up_behind (suc n) (p ∷ ps) up = up_behind n ps up.1

-- a run is cut off
pub behind_fewer : (n : ℕ) (p : PoiRec) (ps : List PoiRec) → length (p ∷ ps) ≤ suc n → length (drop (run_of p.category (p ∷ ps)) (p ∷ ps)) ≤ n
behind_fewer n p ps few =
    let short = length-drop (run_of p.category ps) ps in
    subst (λ (k : ℕ). length (drop k (p ∷ ps)) ≤ n) (sym (run_front p ps)) (omega (arith, short))

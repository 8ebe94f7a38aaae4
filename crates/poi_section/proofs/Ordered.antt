-- What a stable sort by category leaves.
use Rattle.std.proofs.Common.{◌≡◌, ℕ, ◌≤◌, zero, suc, Bool, true, false, cond, not, List, [], ◌∷◌, ◌++◌, length, take, drop, get_or, refl, sym, ap, subst, ◌∙◌, arith, append_assoc}
use Rattle.std.specs.Prelude.{filter, ◌&&◌, pos}
use Rattle.std.specs.List.{AllByRecursion}
use Rattle.std.specs.List.Sorted.{IsPermutation, IsSorted, ties}
use Rattle.std.specs.Ordering.{is_eq, is_lt, ordering_reverse}
use Rattle.std.specs.declared.cmp.Ordering.{Ordering}
use Rattle.std.specs.declared.cmp.Ordering.TheVariants.{Less, Equal, Greater}
use Rattle.std.specs.Cmp.{IsTotalOrder}
use Rattle.std.proofs.lemmas.Cmp.{nat_list_cmp_total, on_total}
use Rattle.std.proofs.lemmas.List.{append-nil}
use Rattle.std.proofs.lemmas.List.Sorted.{IsPermutation-map}
use denote.Ref.{Bor}
use Rattle.live_model.specs.declared.ids.Kind.TheVariants.{Node}
use Rattle.live_model.specs.declared.records.PoiRec.{PoiRec}
use Rattle.text_table.specs.Tables.{text_cmp}
use Rattle.boxed_write.specs.Classes.{held}
use Rattle.boxed_write.proofs.Sorting.{AreUp, all_moved, up_from_sorted, up_image}
use Rattle.poi_section.specs.Packed.{category_cmp, group, of_category, packed_pois, run_of}
use Rattle.poi_section.proofs.Groups.{alike_packed, first_group, run_front}

-- the category of one comes before that of another
abbrev pub comes_before : Bor PoiRec → Bor PoiRec → Bool
comes_before a b = is_lt (category_cmp a.now b.now)

borrowed_total : IsTotalOrder (λ (a b : Bor PoiRec). category_cmp a.now b.now)
borrowed_total = on_total (λ (b : Bor PoiRec). b.now.category) nat_list_cmp_total

all_unit : (xs : List (Bor PoiRec)) → AllByRecursion (λ x. Unit {0}) xs
all_unit [] = tt
all_unit (x ∷ xs) = (tt, all_unit xs)

-- borrowed records in order are records in order
pub up_held : (xs : List (Bor PoiRec)) → IsSorted (λ a b. category_cmp a.now b.now) xs → AreUp category_cmp (held xs)
up_held xs sorted =
    up_image (λ (a b : Bor PoiRec). category_cmp a.now b.now) category_cmp (λ (b : Bor PoiRec). b.now) (λ b. Unit {0}) (λ a b _ _ h. h) xs (all_unit xs)
    (up_from_sorted (λ (a b : Bor PoiRec). category_cmp a.now b.now) borrowed_total xs sorted)

-- what holds of each record does in any order
pub all_held : (P : PoiRec → Type 0) (xs ys : List (Bor PoiRec)) → IsPermutation xs ys → AllByRecursion P (held xs) → AllByRecursion P (held ys)
all_held P xs ys moved all = all_moved P (held xs) (held ys) (IsPermutation-map (λ (b : Bor PoiRec). b.now) xs ys moved) all

neither_eq : (r : Ordering) → (not (is_lt r) && not (is_lt (ordering_reverse r))) ≡ is_eq r
neither_eq Less = refl
neither_eq Equal = refl
neither_eq Greater = refl

-- a record of a category, and nothing else of note
abbrev some_poi : List ℕ → Bor PoiRec
some_poi z = record { ref_ptr = (0, 0); now = record { id = record { kind = Node; number = pos 0 }; category = z; name = []; point = record { x = 0; y = 0 } } }

ties_are : (z : List ℕ) (b : Bor PoiRec) → ties comes_before (some_poi z) b ≡ is_eq (text_cmp z b.now.category)
ties_are z b =
    ap (λ (r : Ordering). not (is_lt (text_cmp z b.now.category)) && not (is_lt r)) (nat_list_cmp_total.antisymm b.now.category z)
    ∙ neither_eq (text_cmp z b.now.category)

-- the records of a category, as they are borrowed
held_ties : (z : List ℕ) (xs : List (Bor PoiRec)) → of_category z (held xs) ≡ held (filter (ties comes_before (some_poi z)) xs)
held_ties z [] = refl
held_ties z (x ∷ xs) = rw (ties_are z x) (one (is_eq (text_cmp z x.now.category)) (held_ties z xs))
  where
    one : (b : Bool) → of_category z (held xs) ≡ held (filter (ties comes_before (some_poi z)) xs)
        → cond b (x.now ∷ of_category z (held xs)) (of_category z (held xs)) ≡ held (cond b (x ∷ filter (ties comes_before (some_poi z)) xs) (filter (ties comes_before (some_poi z)) xs))
    one true rest = ap (λ (ps : List PoiRec). x.now ∷ ps) rest
    one false rest = rest

-- records that a stable sort moved are packed to the same bytes
pub stable_packed : (xs ys : List (Bor PoiRec)) → ((x : Bor PoiRec) → filter (ties comes_before x) ys ≡ filter (ties comes_before x) xs) → packed_pois (held ys) ≡ packed_pois (held xs)
stable_packed xs ys stable =
    alike_packed (held ys) (held xs) (λ z. held_ties z ys ∙ ap held (stable (some_poi z)) ∙ sym (held_ties z xs))

-- ---- cutting

pub held_take : (n : ℕ) (xs : List (Bor PoiRec)) → held (take n xs) ≡ take n (held xs)
held_take zero xs = refl
held_take (suc n) [] = refl
held_take (suc n) (x ∷ xs) = ap (λ (ps : List PoiRec). x.now ∷ ps) (held_take n xs)

pub held_drop : (n : ℕ) (xs : List (Bor PoiRec)) → held (drop n xs) ≡ drop n (held xs)
held_drop zero xs = refl
held_drop (suc n) [] = refl
held_drop (suc n) (x ∷ xs) = held_drop n xs

pub all_take : (P : PoiRec → Type 0) (n : ℕ) (ps : List PoiRec) → AllByRecursion P ps → AllByRecursion P (take n ps)
all_take P zero ps all = tt
all_take P (suc n) [] all = tt
all_take P (suc n) (p ∷ ps) all = (all.0, all_take P n ps all.1)

pub all_drop : (P : PoiRec → Type 0) (n : ℕ) (ps : List PoiRec) → AllByRecursion P ps → AllByRecursion P (drop n ps)
all_drop P zero ps all = all
all_drop P (suc n) [] all = tt
all_drop P (suc n) (p ∷ ps) all = all_drop P n ps all.1

-- ---- the first group

some_first : (xs : List (Bor PoiRec)) (first : Bor PoiRec) → 1 ≤ length xs → first ≡ get_or xs 0 first → (ys : List (Bor PoiRec)) × (xs ≡ first ∷ ys)
some_first [] first some is = absurd (omega arith)
some_first (x ∷ xs) first some is = (xs, ap (λ (y : Bor PoiRec). y ∷ xs) (sym is))

-- what is still to be appended once the first group is
pub first_put : (xs : List (Bor PoiRec)) (first : Bor PoiRec) (count : ℕ) (out now : List ℕ) (run rest : List (Bor PoiRec)) → 1 ≤ length xs → first ≡ get_or xs 0 first → count ≡ run_of first.now.category (held xs) → run ≡ take count xs → rest ≡ drop count xs
    → AreUp category_cmp (held xs) → now ≡ out ++ group first.now.category (held run) → now ++ packed_pois (held rest) ≡ out ++ packed_pois (held xs)
first_put xs first count out now run rest some is counted run_is rest_is up put =
    let f = some_first xs first some is in
    let c : List ℕ = first.now.category in
    let g = first_group first.now (held f.0) (subst (λ (ys : List (Bor PoiRec)). AreUp category_cmp (held ys)) f.1 up) in
    let whole : packed_pois (held xs) ≡ group c (take count (held xs)) ++ packed_pois (drop count (held xs)) =
    ap (λ (ys : List (Bor PoiRec)). packed_pois (held ys)) f.1 ∙ g
    ∙ ap (λ (ys : List (Bor PoiRec)). group c (take (run_of c (held ys)) (held ys)) ++ packed_pois (drop (run_of c (held ys)) (held ys))) (sym f.1)
    ∙ ap (λ (n : ℕ). group c (take n (held xs)) ++ packed_pois (drop n (held xs))) (sym counted) in
    ap (λ (bytes : List ℕ). bytes ++ packed_pois (held rest)) put
    ∙ append_assoc out (group c (held run)) (packed_pois (held rest))
    ∙ ap (λ (bytes : List ℕ). out ++ bytes)
    (ap (λ (ys : List (Bor PoiRec)). group c (held ys) ++ packed_pois (held rest)) run_is
    ∙ ap (λ (ps : List PoiRec). group c ps ++ packed_pois (held rest)) (held_take count xs)
    ∙ ap (λ (ys : List (Bor PoiRec)). group c (take count (held xs)) ++ packed_pois (held ys)) rest_is
    ∙ ap (λ (ps : List PoiRec). group c (take count (held xs)) ++ packed_pois ps) (held_drop count xs)
    ∙ sym whole)

-- the records behind are fewer
pub first_some : (xs : List (Bor PoiRec)) (first : Bor PoiRec) (count : ℕ) → 1 ≤ length xs → first ≡ get_or xs 0 first → count ≡ run_of first.now.category (held xs) → 1 ≤ count
first_some xs first count some is counted =
    let f = some_first xs first some is in
    let c : List ℕ = first.now.category in
    let n : count ≡ suc (run_of c (held f.0)) = counted ∙ ap (λ (ys : List (Bor PoiRec)). run_of c (held ys)) f.1 ∙ run_front first.now (held f.0) in
    omega (arith, n)

-- nothing is left to be appended
pub none_left : (rest : List (Bor PoiRec)) (out all : List ℕ) → length rest ≡ 0 → out ++ packed_pois (held rest) ≡ all → out ≡ all
unfolding packed_pois
none_left [] out all none done = sym (append-nil out) ∙ done
none_left (x ∷ xs) out all none done = absurd (omega arith)

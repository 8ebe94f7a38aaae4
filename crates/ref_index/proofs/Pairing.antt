-- Pairs that are sorted by their first parts, and what they have at one first part.
use Rattle.std.proofs.Common.{◌≡◌, ◌==◌, ℕ, zero, suc, ◌≤◌, ◌<◌, ◌-◌, List, [], ◌∷◌, ◌++◌, Bool, true, false, cond, not, ◌&&◌, ◌||◌, nat_lt, nat_le, refl, sym, ap, ◌∙◌, arith, inl, inr, length, take, drop, get_or, zip, map, flat_map, subst, ℤ, pos}
use Rattle.std.specs.Prelude.{filter}
use Rattle.std.specs.List.{AllWithin, list_any}
use Rattle.std.specs.List.Sorted.{IsStableByKey, IsNonDecreasingBy, ties}
use Rattle.std.specs.Ordering.{nat_cmp, is_lt, is_eq}
use Rattle.std.proofs.lemmas.Bool.Decides.{nat_tests}
use Rattle.std.proofs.lemmas.Bool.{cases_lt}
use Rattle.std.proofs.lemmas.Cmp.{nat_cmp_total}
use Rattle.std.proofs.lemmas.List.Elements.{filter-append}
use Rattle.ordered_lists.proofs.PutAll.{last_alone, put_all_same, filter_alike}
use Rattle.layer_table.specs.Layers.{key_of, value_of}
use Rattle.live_model.specs.declared.objects.Entity.{Entity}
use Rattle.live_model.specs.Ids.{Id, ordinal}
use Rattle.live_model.specs.declared.objects.Member.{Member}
use Rattle.live_model.specs.Closures.{node_id, refers_to}
use Rattle.live_model.specs.Users.{is_among, refers, users_of}
use Rattle.ref_index.specs.Pairs.{rising_numbers, pairs_for, pairs_in, users_at}

map_append : {A B : Type 0} (f : A → B) (xs ys : List A) → map f (xs ++ ys) ≡ map f xs ++ map f ys
map_append f [] ys = refl
map_append f (x ∷ xs) ys = ap (λ zs. f x ∷ zs) (map_append f xs ys)

pub parts_zipped : (ps : List (ℕ × Id)) → zip (map key_of ps) (map value_of ps) ≡ ps
parts_zipped [] = refl
parts_zipped (p ∷ ps) = ap (λ qs. p ∷ qs) (parts_zipped ps)

pub users_append : (k : ℕ) (ps qs : List (ℕ × Id)) → users_at k (ps ++ qs) ≡ users_at k ps ++ users_at k qs
users_append k ps qs =
    ap (map value_of) (filter-append (λ (p : ℕ × Id). key_of p == k) ps qs) ∙ map_append value_of (filter (λ (p : ℕ × Id). key_of p == k) ps) (filter (λ (p : ℕ × Id). key_of p == k) qs)

-- ---- the pairs of one object

pub same_test : (k n : ℕ) → is_eq (nat_cmp k n) ≡ (n == k)
same_test k n = grind (arith, nat_tests)

one_left : (c : Id) (n : ℕ) (ns : List ℕ) → map (λ (m : ℕ). c) (last_alone (n ∷ []) ns) ≡ c ∷ []
one_left c n [] = refl
one_left c n (m ∷ ns) = one_left c m ns

one_or_none : (k : ℕ) (c : Id) (ids : List Id) → map (λ (m : ℕ). c) (last_alone [] (filter (λ n. n == k) (map ordinal ids))) ≡ cond (list_any (λ i. ordinal i == k) ids) (c ∷ []) []
one_or_none k c [] = refl
one_or_none k c (i ∷ ids) = one (ordinal i == k) (one_or_none k c ids)
  where
    one : (b : Bool) → map (λ (m : ℕ). c) (last_alone [] (filter (λ n. n == k) (map ordinal ids))) ≡ cond (list_any (λ i. ordinal i == k) ids) (c ∷ []) []
        → map (λ (m : ℕ). c) (last_alone [] (cond b (ordinal i ∷ filter (λ n. n == k) (map ordinal ids)) (filter (λ n. n == k) (map ordinal ids)))) ≡ cond (b || list_any (λ i. ordinal i == k) ids) (c ∷ []) []
    one true again = one_left c (ordinal i) (filter (λ n. n == k) (map ordinal ids))
    one false again = again

with_user : (k : ℕ) (c : Id) (ts : List ℕ) → users_at k (map (λ t. (t, c)) ts) ≡ map (λ (m : ℕ). c) (filter (λ n. n == k) ts)
with_user k c [] = refl
with_user k c (t ∷ ts) = one (t == k) (with_user k c ts)
  where
    one : (b : Bool) → users_at k (map (λ t. (t, c)) ts) ≡ map (λ (m : ℕ). c) (filter (λ n. n == k) ts)
        → map value_of (cond b ((t, c) ∷ filter (λ (p : ℕ × Id). key_of p == k) (map (λ t. (t, c)) ts)) (filter (λ (p : ℕ × Id). key_of p == k) (map (λ t. (t, c)) ts)))
        ≡ map (λ (m : ℕ). c) (cond b (t ∷ filter (λ n. n == k) ts) (filter (λ n. n == k) ts))
    one true again = ap (λ us. c ∷ us) again
    one false again = again

-- an id with which pairs of other ids stand is the user of each of them, once
pub own_pairs : (id user : Id) (ids : List Id) → users_at (ordinal id) (pairs_for user ids) ≡ cond (is_among ids id) (user ∷ []) []
own_pairs id user ids =
    with_user (ordinal id) user (rising_numbers (map ordinal ids))
    ∙ ap (map (λ (m : ℕ). user))
    (sym (filter_alike (λ n. is_eq (nat_cmp (ordinal id) n)) (λ n. n == ordinal id) (rising_numbers (map ordinal ids)) (same_test (ordinal id)))
    ∙ put_all_same nat_cmp (λ n. n) nat_cmp_total (ordinal id) [] (map ordinal ids)
    ∙ ap (last_alone []) (filter_alike (λ n. is_eq (nat_cmp (ordinal id) n)) (λ n. n == ordinal id) (map ordinal ids) (same_test (ordinal id))))
    ∙ one_or_none (ordinal id) user ids

-- the pairs of the objects of a store have the users of each id
pub all_pairs : (id : Id) (es : List Entity) → users_at (ordinal id) (flat_map pairs_in es) ≡ users_of es id
all_pairs id [] = refl
all_pairs id (e ∷ es) =
    users_append (ordinal id) (pairs_in e) (flat_map pairs_in es) ∙ (λ i. own_pairs id e.id (refers_to e) i ++ all_pairs id es i) ∙ one (refers id e)
  where
    one : (b : Bool) → cond b (e.id ∷ []) [] ++ users_of es id ≡ map (λ x. x.id) (cond b (e ∷ filter (refers id) es) (filter (refers id) es))
    one true = refl
    one false = refl

-- ---- a sort by the first parts

tie_is : (a b k : ℕ) → a ≡ k → (not (is_lt (nat_cmp a b)) && not (is_lt (nat_cmp b a))) ≡ (b == k)
tie_is a b k e = grind (arith, nat_tests)

tied_pairs : (k : ℕ) (one : ℕ × Id) (ps : List (ℕ × Id)) → key_of one ≡ k → filter (ties (λ x y. is_lt (nat_cmp (key_of x) (key_of y))) one) ps ≡ filter (λ p. key_of p == k) ps
tied_pairs k one ps same = filter_alike (ties (λ x y. is_lt (nat_cmp (key_of x) (key_of y))) one) (λ p. key_of p == k) ps (λ y. tie_is (key_of one) (key_of y) k same)

-- a stable sort keeps the turns of the pairs of each first part; the user does not matter
pub turns_kept : (any : Id) (xs ys : List (ℕ × Id)) → IsStableByKey key_of nat_cmp xs ys → (k : ℕ) → filter (λ p. key_of p == k) ys ≡ filter (λ p. key_of p == k) xs
turns_kept any xs ys stable k = sym (tied_pairs k (k, any) ys refl) ∙ stable (k, any) ∙ tied_pairs k (k, any) xs refl

-- ---- the part between two searches

pub from_to : (k : ℕ) (ks : List ℕ) (from to : ℕ) → to ≤ length ks → from ≤ length ks → AllWithin (λ n. nat_lt n k ≡ true) ks 0 from → AllWithin (λ n. nat_le n k ≡ false) ks to (length ks) → from ≤ to
from_to k ks from to in_to in_from low high =
    elim (cases_lt to from) [
      | inl lt ↦
          let a : nat_lt (get_or ks to 0) k ≡ true = low to 0 (omega arith) lt in
          let b : nat_le (get_or ks to 0) k ≡ false = high to 0 (omega arith) (omega arith) in
          absurd (grind (arith, nat_tests))
      | inr le ↦ le
    ]

not_it : (n k : ℕ) → nat_lt n k ≡ true → (n == k) ≡ false
not_it n k e = grind (arith, nat_tests)

not_over : (n k : ℕ) → nat_le n k ≡ false → (n == k) ≡ false
not_over n k e = grind (arith, nat_tests)

it_is : (n k : ℕ) → nat_lt n k ≡ false → nat_le n k ≡ true → (n == k) ≡ true
it_is n k e f = grind (arith, nat_tests)

pub part_between : (k : ℕ) (ks : List ℕ) (us : List Id) (from to : ℕ) → length ks ≡ length us → to ≤ length ks → from ≤ length ks
    → AllWithin (λ n. nat_lt n k ≡ true) ks 0 from → AllWithin (λ n. nat_lt n k ≡ false) ks from (length ks)
    → AllWithin (λ n. nat_le n k ≡ true) ks 0 to → AllWithin (λ n. nat_le n k ≡ false) ks to (length ks)
    → take (to - from) (drop from us) ≡ users_at k (zip ks us)
part_between k [] [] zero zero same in_to in_from low high lower higher = refl
part_between k [] [] (suc from) to same in_to in_from low high lower higher = absurd (omega (arith, in_from))
part_between k [] [] zero (suc to) same in_to in_from low high lower higher = absurd (omega (arith, in_to))
part_between k [] (u ∷ us) from to same in_to in_from low high lower higher = absurd (omega (arith, same))
part_between k (n ∷ ks) [] from to same in_to in_from low high lower higher = absurd (omega (arith, same))
part_between k (n ∷ ks) (u ∷ us) (suc from) zero same in_to in_from low high lower higher =
    let a : nat_lt n k ≡ true = low 0 n (omega arith) (omega arith) in
    let b : nat_le n k ≡ false = higher 0 n (omega arith) (omega arith) in
    absurd (grind (arith, nat_tests))
part_between k (n ∷ ks) (u ∷ us) (suc from) (suc to) same in_to in_from low high lower higher =
    let no_it = not_it n k (low 0 n (omega arith) (omega arith)) in
    let rest = part_between k ks us from to (omega (arith, same)) (omega (arith, in_to)) (omega (arith, in_from))
    (λ i d lo hi. low (suc i) d (omega arith) (omega arith)) (λ i d lo hi. high (suc i) d (omega arith) (omega arith))
    (λ i d lo hi. lower (suc i) d (omega arith) (omega arith)) (λ i d lo hi. higher (suc i) d (omega arith) (omega arith)) in
    let less : suc to - suc from ≡ to - from = omega arith in
    ap (λ m. take m (drop from us)) less ∙ rest
    ∙ sym (ap (λ b. map value_of (cond b ((n, u) ∷ filter (λ (p : ℕ × Id). key_of p == k) (zip ks us)) (filter (λ (p : ℕ × Id). key_of p == k) (zip ks us)))) no_it)
part_between k (n ∷ ks) (u ∷ us) zero zero same in_to in_from low high lower higher =
    let no_it = not_over n k (higher 0 n (omega arith) (omega arith)) in
    let rest = part_between k ks us zero zero (omega (arith, same)) (omega arith) (omega arith)
    (λ i d lo hi. absurd (omega arith)) (λ i d lo hi. high (suc i) d (omega arith) (omega arith))
    (λ i d lo hi. absurd (omega arith)) (λ i d lo hi. higher (suc i) d (omega arith) (omega arith)) in
    rest
    ∙ sym (ap (λ b. map value_of (cond b ((n, u) ∷ filter (λ (p : ℕ × Id). key_of p == k) (zip ks us)) (filter (λ (p : ℕ × Id). key_of p == k) (zip ks us)))) no_it)
part_between k (n ∷ ks) (u ∷ us) zero (suc to) same in_to in_from low high lower higher =
    let it = it_is n k (high 0 n (omega arith) (omega arith)) (lower 0 n (omega arith) (omega arith)) in
    let rest = part_between k ks us zero to (omega (arith, same)) (omega (arith, in_to)) (omega arith)
    (λ i d lo hi. absurd (omega arith)) (λ i d lo hi. high (suc i) d (omega arith) (omega arith))
    (λ i d lo hi. lower (suc i) d (omega arith) (omega arith)) (λ i d lo hi. higher (suc i) d (omega arith) (omega arith)) in
    let whole : suc to - 0 ≡ suc to = omega arith in
    let less : to - 0 ≡ to = omega arith in
    ap (λ m. take m (u ∷ us)) whole ∙ ap (λ vs. u ∷ vs) (sym (ap (λ m. take m us) less) ∙ rest)
    ∙ sym (ap (λ b. map value_of (cond b ((n, u) ∷ filter (λ (p : ℕ × Id). key_of p == k) (zip ks us)) (filter (λ (p : ℕ × Id). key_of p == k) (zip ks us)))) it)

-- the places of what an object refers to are those of its nodes and of its members
pub places_are : (numbers : List ℤ) (members : List Member) → map (λ n. ordinal (node_id n)) numbers ++ map (λ (m : Member). ordinal m.target) members ≡ map ordinal (map node_id numbers ++ map (λ (m : Member). m.target) members)
places_are [] [] = refl
places_are [] (m ∷ members) = ap (λ ns. ordinal m.target ∷ ns) (places_are [] members)
places_are (n ∷ numbers) members = ap (λ ns. ordinal (node_id n) ∷ ns) (places_are numbers members)

keys_far : (ps : List (ℕ × Id)) (d : Id) → IsNonDecreasingBy (λ (p : ℕ × Id). p.0) ps → IsNonDecreasingBy (λ n. n) (map key_of ps)
keys_far ps c up = λ i j d le lt.
    let long = map_long ps in
    subst (λ n. n ≤ get_or (map key_of ps) j d) (key_read ps i d c (omega (arith, long))) (subst (λ n. key_of (get_or ps i (d, c)) ≤ n) (key_read ps j d c (omega (arith, long))) (up i j (d, c) le (omega (arith, long))))
  where
    map_long : (ps : List (ℕ × Id)) → length (map key_of ps) ≡ length ps
    map_long [] = refl
    map_long (p ∷ ps) = let rest = map_long ps in omega (arith, rest)

    key_read : (ps : List (ℕ × Id)) (i d : ℕ) (c : Id) → i < length ps → key_of (get_or ps i (d, c)) ≡ get_or (map key_of ps) i d
    key_read [] i d c lt = absurd (omega arith)
    key_read (p ∷ ps) zero d c lt = refl
    key_read (p ∷ ps) (suc i) d c lt = key_read ps i d c (omega arith)

-- the first parts of sorted pairs are sorted
pub keys_rise : (ps : List (ℕ × Id)) → IsNonDecreasingBy (λ (p : ℕ × Id). p.0) ps → IsNonDecreasingBy (λ n. n) (map key_of ps)
keys_rise ps up = keys_far ps (node_id (pos 0)) up

pub parts_long : (ps : List (ℕ × Id)) → length (map key_of ps) ≡ length (map value_of ps)
parts_long [] = refl
parts_long (p ∷ ps) = let rest = parts_long ps in omega (arith, rest)

-- the first parts of two lists side by side
pub first_parts : (ks : List ℕ) (us : List Id) → length ks ≡ length us → map key_of (zip ks us) ≡ ks
first_parts [] [] same = refl
first_parts [] (u ∷ us) same = refl
first_parts (k ∷ ks) [] same = absurd (omega (arith, same))
first_parts (k ∷ ks) (u ∷ us) same = ap (λ ns. k ∷ ns) (first_parts ks us (omega (arith, same)))

-- a key that no pair has
pub none_at : (k : ℕ) (ps : List (ℕ × Id)) → list_any (λ n. n == k) (map key_of ps) ≡ false → users_at k ps ≡ []
none_at k [] none = refl
none_at k (p ∷ ps) none = one (key_of p == k) none (none_at k ps)
  where
    one : (b : Bool) → (b || list_any (λ n. n == k) (map key_of ps)) ≡ false → (list_any (λ n. n == k) (map key_of ps) ≡ false → users_at k ps ≡ [])
        → map value_of (cond b (p ∷ filter (λ (p : ℕ × Id). key_of p == k) ps) (filter (λ (p : ℕ × Id). key_of p == k) ps)) ≡ []
    one true none again = absurd (cc)
    one false none again = again none

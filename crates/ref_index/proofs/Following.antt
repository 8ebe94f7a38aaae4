-- What is staged for an index of users is the index after the lines.
use Rattle.std.proofs.Common.{◌≡◌, ◌==◌, ℕ, List, [], ◌∷◌, ◌++◌, Bool, true, false, cond, not, ◌||◌, Option, Some, None, refl, sym, ap, ◌∙◌, map, flat_map, subst}
use Rattle.std.specs.Prelude.{filter, unwrap_or}
use Rattle.std.specs.Option.{option_map}
use Rattle.std.specs.List.{AllByRecursion, list_any, slice_get}
use Rattle.std.specs.Ordering.{nat_cmp, is_eq}
use Rattle.std.proofs.lemmas.Bool.{eqb-true}
use Rattle.std.proofs.lemmas.Cmp.{nat_cmp_total}
use Rattle.live_model.specs.declared.objects.Entity.{Entity}
use Rattle.live_model.specs.declared.objects.Line.{Line}
use Rattle.live_model.specs.Ids.{Id, ordinal}
use Rattle.live_model.specs.Objects.{IsGoodLine}
use Rattle.live_model.specs.Stores.{IsStore, apply}
use Rattle.live_model.specs.Closures.{rising_ids, referred, entity_at, line_id, is_named}
use Rattle.live_model.specs.Users.{is_among, users_of}
use Rattle.ordered_lists.specs.Ordered.{put_all}
use Rattle.ordered_lists.proofs.PutAll.{last_alone, put_all_same, filter_alike, rising-put_all}
use Rattle.layer_table.specs.Layers.{key_of, pair_at, changed_to, laid}
use Rattle.layer_table.proofs.Laying.{first_passing, over_pair, pair_laid}
use Rattle.change_laws.specs.Users.{refers_at, targets, users_then}
use Rattle.change_laws.proofs.Members.{any_map, any_flat, any_alike}
use Rattle.change_laws.proofs.UsersProof.{users_after, users_stay}
use Rattle.ref_index.specs.Pairs.{has_any, rising_numbers, pairs_in, pairs_named, places_named, name_of, users_at}
use Rattle.ref_index.specs.Indexes.{list_at, Indexes, listed, renewed, lists_for}
use Rattle.ref_index.proofs.Pairing.{all_pairs, none_at, own_pairs, same_test, users_append}

-- ---- numbers in order, each once

any_is : {A : Type 0} (p : A → Bool) (xs : List A) → list_any p xs ≡ has_any (filter p xs)
any_is p [] = refl
any_is p (x ∷ xs) = one (p x) (any_is p xs)
  where
    one : (b : Bool) → list_any p xs ≡ has_any (filter p xs) → (b || list_any p xs) ≡ has_any (cond b (x ∷ filter p xs) (filter p xs))
    one true again = refl
    one false again = again

any_more : {A : Type 0} (x : A) (xs : List A) → has_any (last_alone (x ∷ []) xs) ≡ true
any_more x [] = refl
any_more x (y ∷ ys) = any_more y ys

any_last : {A : Type 0} (xs : List A) → has_any (last_alone [] xs) ≡ has_any xs
any_last [] = refl
any_last (x ∷ xs) = any_more x xs

-- a number stands among rising numbers where it stood among the numbers
any_rising : (k : ℕ) (ns : List ℕ) → list_any (λ n. n == k) (rising_numbers ns) ≡ list_any (λ n. n == k) ns
any_rising k ns =
    any_is (λ n. n == k) (rising_numbers ns)
    ∙ ap has_any (sym (filter_alike (λ n. is_eq (nat_cmp k n)) (λ n. n == k) (rising_numbers ns) (same_test k)) ∙ put_all_same nat_cmp (λ n. n) nat_cmp_total k [] ns)
    ∙ any_last (filter (λ n. is_eq (nat_cmp k n)) ns)
    ∙ ap has_any (filter_alike (λ n. is_eq (nat_cmp k n)) (λ n. n == k) ns (same_test k))
    ∙ sym (any_is (λ n. n == k) ns)

-- ---- a list for each key, as a layer

module _ (users : ℕ → List Id) (k : ℕ) where
  abbrev it : ℕ × Option (List Id)
  it = (k, listed (users k))

  abbrev at_it : List ℕ → List (ℕ × Option (List Id))
  at_it ks = filter (λ (c : ℕ × Option (List Id)). is_eq (nat_cmp k c.0)) (lists_for users ks)

  same_list : (n : ℕ) → is_eq (nat_cmp k n) ≡ true → (n, listed (users n)) ≡ it
  same_list n e = ap (λ m. (m, listed (users m))) (eqb-true n k (sym (same_test k n) ∙ e))

  stays : (ks : List ℕ) → slice_get (last_alone (it ∷ []) (at_it ks)) 0 ≡ Some it
  stays [] = refl
  stays (n ∷ ks) = one (is_eq (nat_cmp k n)) refl (stays ks)
    where
      one : (b : Bool) → is_eq (nat_cmp k n) ≡ b → slice_get (last_alone (it ∷ []) (at_it ks)) 0 ≡ Some it
          → slice_get (last_alone (it ∷ []) (cond b ((n, listed (users n)) ∷ at_it ks) (at_it ks))) 0 ≡ Some it
      one true e again = ap (λ c. slice_get (last_alone (c ∷ []) (at_it ks)) 0) (same_list n e) ∙ again
      one false e again = again

  comes : (ks : List ℕ) → slice_get (last_alone [] (at_it ks)) 0 ≡ cond (list_any (λ n. n == k) ks) (Some it) None
  comes [] = refl
  comes (n ∷ ks) = one (is_eq (nat_cmp k n)) refl (comes ks) ∙ ap (λ b. cond (b || list_any (λ n. n == k) ks) (Some it) None) (same_test k n)
    where
      one : (b : Bool) → is_eq (nat_cmp k n) ≡ b → slice_get (last_alone [] (at_it ks)) 0 ≡ cond (list_any (λ n. n == k) ks) (Some it) None
          → slice_get (last_alone [] (cond b ((n, listed (users n)) ∷ at_it ks) (at_it ks))) 0 ≡ cond (b || list_any (λ n. n == k) ks) (Some it) None
      one true e again = ap (λ c. slice_get (last_alone (c ∷ []) (at_it ks)) 0) (same_list n e) ∙ stays ks
      one false e again = again

  -- the layer has the list of each of its keys
  at_key : (ks : List ℕ) → pair_at nat_cmp k (put_all nat_cmp key_of [] (lists_for users ks)) ≡ cond (list_any (λ n. n == k) ks) (Some it) None
  at_key ks =
      first_passing (λ (c : ℕ × Option (List Id)). is_eq (nat_cmp k c.0)) (put_all nat_cmp key_of [] (lists_for users ks))
      ∙ ap (λ cs. slice_get cs 0) (put_all_same nat_cmp key_of nat_cmp_total it [] (lists_for users ks))
      ∙ comes ks

unlisted : (k : ℕ) (us : List Id) → unwrap_or (option_map (λ (p : ℕ × List Id). p.1) (changed_to k (listed us))) [] ≡ us
unlisted k [] = refl
unlisted k (u ∷ us) = refl

-- a map under such a layer has its lists at its keys, and elsewhere what was there
pub under_lists : (users : ℕ → List Id) (m : List (ℕ × List Id)) (ks : List ℕ) (k : ℕ)
    → list_at (laid nat_cmp m (put_all nat_cmp key_of [] (lists_for users ks))) k ≡ cond (list_any (λ n. n == k) ks) (users k) (list_at m k)
under_lists users m ks k =
    ap (λ p. unwrap_or (option_map (λ (p : ℕ × List Id). p.1) p) [])
    (pair_laid nat_cmp nat_cmp_total k m (put_all nat_cmp key_of [] (lists_for users ks)) (rising-put_all nat_cmp key_of nat_cmp_total [] (lists_for users ks) tt)
    ∙ ap (λ c. over_pair nat_cmp nat_cmp_total c (pair_at nat_cmp k m)) (at_key users k ks))
    ∙ one (list_any (λ n. n == k) ks)
  where
    one : (b : Bool) → unwrap_or (option_map (λ (p : ℕ × List Id). p.1) (over_pair nat_cmp nat_cmp_total (cond b (Some (k, listed (users k))) None) (pair_at nat_cmp k m))) [] ≡ cond b (users k) (list_at m k)
    one true = unlisted k (users k)
    one false = refl

-- ---- an index that is built

-- the lists of the pairs of a store are its index
pub built : (store : List Entity) (sorted : List (ℕ × Id)) → ((k : ℕ) → users_at k sorted ≡ users_at k (flat_map pairs_in store))
    → Indexes (laid nat_cmp [] (put_all nat_cmp key_of [] (lists_for (λ k. users_at k sorted) (rising_numbers (map key_of sorted))))) store
built store sorted same = λ id.
    under_lists (λ k. users_at k sorted) [] (rising_numbers (map key_of sorted)) (ordinal id)
    ∙ ap (λ b. cond b (users_at (ordinal id) sorted) []) (any_rising (ordinal id) (map key_of sorted))
    ∙ one id (list_any (λ n. n == ordinal id) (map key_of sorted)) refl
    ∙ same (ordinal id) ∙ all_pairs id store
  where
    one : (id : Id) (b : Bool) → list_any (λ n. n == ordinal id) (map key_of sorted) ≡ b → cond b (users_at (ordinal id) sorted) [] ≡ users_at (ordinal id) sorted
    one id true e = refl
    one id false e = sym (none_at (ordinal id) sorted e)

-- ---- an index that follows lines

names_are : (u : Id) (lines : List Line) → has_any (users_at (ordinal u) (map name_of lines)) ≡ is_named lines u
names_are u [] = refl
names_are u (line ∷ lines) = one (ordinal (line_id line) == ordinal u) (names_are u lines)
  where
    one : (b : Bool) → has_any (users_at (ordinal u) (map name_of lines)) ≡ is_named lines u
        → has_any (map (λ (p : ℕ × Id). p.1) (cond b (name_of line ∷ filter (λ (p : ℕ × Id). key_of p == ordinal u) (map name_of lines)) (filter (λ (p : ℕ × Id). key_of p == ordinal u) (map name_of lines)))) ≡ (b || is_named lines u)
    one true again = refl
    one false again = again

-- the pairs of lines have the named objects that refer to an id
pairs_are : (after : List Entity) (id : Id) (lines : List Line) → users_at (ordinal id) (flat_map (pairs_named after) lines) ≡ filter (refers_at after id) (map line_id lines)
pairs_are after id [] = refl
pairs_are after id (line ∷ lines) =
    users_append (ordinal id) (pairs_named after line) (flat_map (pairs_named after) lines)
    ∙ (λ i. own_pairs id (line_id line) (referred (entity_at after (line_id line))) i ++ pairs_are after id lines i)
    ∙ one (refers_at after id (line_id line))
  where
    one : (b : Bool) → cond b (line_id line ∷ []) [] ++ filter (refers_at after id) (map line_id lines) ≡ cond b (line_id line ∷ filter (refers_at after id) (map line_id lines)) (filter (refers_at after id) (map line_id lines))
    one true = refl
    one false = refl

places_are_targets : (store : List Entity) (lines : List Line) (id : Id)
    → list_any (λ n. n == ordinal id) (flat_map (places_named store (apply store lines)) lines) ≡ is_among (targets store lines) id
places_are_targets store lines id =
    any_flat (λ n. n == ordinal id) (places_named store (apply store lines)) lines
    ∙ any_alike (λ line. list_any (λ n. n == ordinal id) (places_named store (apply store lines) line)) (λ line. is_among (of line) id) lines (λ line. any_map (λ n. n == ordinal id) ordinal (of line))
    ∙ sym (any_flat (λ i. ordinal i == ordinal id) of lines)
  where
    of : Line → List Id
    of line = referred (entity_at store (line_id line)) ++ referred (entity_at (apply store lines) (line_id line))

followed_apply : (store : List Entity) (lines : List Line) (map' : List (ℕ × List Id)) (named pairs : List (ℕ × Id))
    → IsStore store → AllByRecursion IsGoodLine lines → Indexes map' store
    → ((k : ℕ) → users_at k named ≡ users_at k (map name_of lines))
    → ((k : ℕ) → users_at k pairs ≡ users_at k (flat_map (pairs_named (apply store lines)) lines))
    → Indexes (laid nat_cmp map' (put_all nat_cmp key_of [] (lists_for (renewed named pairs map') (rising_numbers (flat_map (places_named store (apply store lines)) lines))))) (apply store lines)
followed_apply store lines map' named pairs is good indexed names turns = λ id.
    under_lists (renewed named pairs map') map' (rising_numbers (flat_map (places_named store (apply store lines)) lines)) (ordinal id)
    ∙ ap (λ b. cond b (renewed named pairs map' (ordinal id)) (list_at map' (ordinal id)))
    (any_rising (ordinal id) (flat_map (places_named store (apply store lines)) lines) ∙ places_are_targets store lines id)
    ∙ one id (is_among (targets store lines) id) refl
  where
    then : (id : Id) → renewed named pairs map' (ordinal id) ≡ users_then store lines id
    then id = λ i. rising_ids
        ((filter_alike (λ u. not (has_any (users_at (ordinal u) named))) (λ u. not (is_named lines u)) (list_at map' (ordinal id)) (λ u. ap (λ us. not (has_any us)) (names (ordinal u)) ∙ ap not (names_are u lines))
        ∙ ap (filter (λ u. not (is_named lines u))) (indexed id)) i
        ++ (turns (ordinal id) ∙ pairs_are (apply store lines) id lines) i)

    one : (id : Id) (b : Bool) → is_among (targets store lines) id ≡ b → cond b (renewed named pairs map' (ordinal id)) (list_at map' (ordinal id)) ≡ users_of (apply store lines) id
    one id true e = then id ∙ sym (users_after store lines id is good)
    one id false e = indexed id ∙ sym (users_stay store lines id is good e)

-- lists that are renewed at all targets of lines make an index that of the store after them
pub followed : (store after : List Entity) (lines : List Line) (m : List (ℕ × List Id)) (named pairs : List (ℕ × Id))
    → IsStore store → AllByRecursion IsGoodLine lines → after ≡ apply store lines → Indexes m store
    → ((k : ℕ) → users_at k named ≡ users_at k (map name_of lines))
    → ((k : ℕ) → users_at k pairs ≡ users_at k (flat_map (pairs_named after) lines))
    → Indexes (laid nat_cmp m (put_all nat_cmp key_of [] (lists_for (renewed named pairs m) (rising_numbers (flat_map (places_named store after) lines))))) after
followed store after lines m named pairs is good e indexed names turns =
    subst
    (λ a. ((k : ℕ) → users_at k pairs ≡ users_at k (flat_map (pairs_named a) lines))
    → Indexes (laid nat_cmp m (put_all nat_cmp key_of [] (lists_for (renewed named pairs m) (rising_numbers (flat_map (places_named store a) lines))))) a)
    (sym e)
    (λ turned. followed_apply store lines m named pairs is good indexed names turned)
    turns

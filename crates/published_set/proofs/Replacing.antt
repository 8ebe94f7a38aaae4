-- A file in the place of a run of files, whose numbers and images are kept apart.
use Rattle.std.proofs.Common.{◌≡◌, ◌≢◌, ℕ, suc, zero, ◌+◌, ◌<◌, ◌≤◌, Bool, true, false, cond, ◌&&◌, ◌||◌, not, ◌==◌, List, [], ◌∷◌, ◌++◌, length, map, drop, take, find, None, refl, sym, ap, ap₂, subst, ◌∙◌, length-append, arith}
use Rattle.std.specs.List.{AllByRecursion, list_any}
use Rattle.std.specs.Cmp.Lexicographic.{pointwise}
use Rattle.std.proofs.lemmas.Bool.Decides.{nat_tests}
use Rattle.std.proofs.lemmas.List.{length-drop, length-take}
use Rattle.live_model.specs.declared.rules.Rule.{Rule}
use Rattle.live_model.specs.Stores.{IsStore, apply}
use Rattle.map_laws.proofs.OverlayProof.{applied_store}
use Rattle.obf_reader.specs.Images.{Seen}
use Rattle.overlay_set.specs.Sets.{Image, MapFile, State, age, base_image, images_of, numbers_of}
use Rattle.overlay_set.specs.Standing.{Stands}
use Rattle.overlay_set.specs.Swaps.{FoldPlan, Fits, Replace, applied, begins_with, common_rules, fold_image, is_run, missing, replaced}
use Rattle.overlay_set.specs.Machines.{with_fold}
use Rattle.overlay_set.proofs.Laws.{swaps}
use Rattle.published_set.specs.Images.{image_of}
use Rattle.published_set.specs.Runs.{before_run, begins_run, first_missing}
use Rattle.published_set.specs.Sets.{IsStanding, PublishedSet, files_of, images_in, rules_of}

-- Numbers that are missing.

-- the test of numbers is that of the files
any_number : (n : ℕ) (ns : List ℕ) (is : List Image) → length ns ≡ length is → list_any (λ m. m == n) ns ≡ list_any (λ (f : MapFile). f.number == n) (files_of ns is)
any_number n [] is e = refl
any_number n (m ∷ ns) [] e = absurd (omega (arith, e))
any_number n (m ∷ ns) (i ∷ is) e = ap (λ b. (m == n) || b) (any_number n ns is (omega (arith, e)))

-- so the first missing number is that of the plan
pub missing_is : (plan : FoldPlan) (s : State) (ns : List ℕ) (is : List Image) → length ns ≡ length is → s.files ≡ files_of ns is → first_missing (numbers_of plan.files) ns ≡ missing plan s
missing_is plan s ns is e files =
    ap (λ (t : ℕ → Bool). find t (numbers_of plan.files)) (λ i n. not (any_number n ns is e i))
    ∙ sym (ap (λ (fs : List MapFile). find (λ n. not (list_any (λ (f : MapFile). f.number == n) fs)) (numbers_of plan.files)) files)

-- Runs.

turned : (m n : ℕ) → (m == n) ≡ (n == m)
turned m n = go (m == n) refl (n == m) refl
  where
    go : (a : Bool) → (m == n) ≡ a → (b : Bool) → (n == m) ≡ b → a ≡ b
    go true e true f = refl
    go false e false f = refl
    go true e false f = absurd (grind (arith, nat_tests))
    go false e true f = absurd (grind (arith, nat_tests))

begins : (names ns : List ℕ) (is : List Image) → length ns ≡ length is → pointwise (λ a b. a == b) names (take (length names) ns) ≡ begins_with names (files_of ns is)
begins [] ns is e = refl
begins (n ∷ names) [] is e = refl
begins (n ∷ names) (m ∷ ns) [] e = absurd (omega (arith, e))
begins (n ∷ names) (m ∷ ns) (i ∷ is) e = ap₂ (λ a b. a && b) (turned n m) (begins names ns is (omega (arith, e)))

-- the test of numbers is that of the files
run_is : (names ns : List ℕ) (is : List Image) → length ns ≡ length is → begins_run names ns ≡ is_run names (files_of ns is)
run_is [] ns is e = refl
run_is (n ∷ names) ns is e = begins (n ∷ names) ns is e

fits_in : (names ns : List ℕ) → pointwise (λ a b. a == b) names (take (length names) ns) ≡ true → length names ≤ length ns
fits_in [] ns e = omega arith
fits_in (n ∷ names) [] e = absurd cc
fits_in (n ∷ names) (m ∷ ns) e = go (n == m) (fits_in names ns) e
  where
    go : (b : Bool) → (pointwise (λ a b. a == b) names (take (length names) ns) ≡ true → length names ≤ length ns) → (b && pointwise (λ a b. a == b) names (take (length names) ns)) ≡ true
        → length (n ∷ names) ≤ length (m ∷ ns)
    go true ih e = omega (arith, ih e)
    go false ih e = absurd cc

-- a run has a number, and ends where the numbers end or before
record IsInside (names ns : List ℕ) : Type 0 where
  some : 1 ≤ length names
  inside : length names ≤ length ns

run_inside : (names ns : List ℕ) → begins_run names ns ≡ true → IsInside names ns
run_inside [] ns e = absurd cc
run_inside (n ∷ names) ns e = record { some = omega arith; inside = fits_in (n ∷ names) ns e }

-- a run that was found
pub record IsRunFound (names ns : List ℕ) : Type 0 where
  pub some : 1 ≤ length names
  pub inside : before_run names ns + length names ≤ length ns

pub run_found : (names ns : List ℕ) → before_run names ns < length ns → IsRunFound names ns
run_found names [] lt = absurd (omega arith)
run_found names (n ∷ ns) lt = let both = go (begins_run names (n ∷ ns)) refl (run_found names ns) lt in record { some = both.0; inside = both.1 }
  where
    go : (b : Bool) → begins_run names (n ∷ ns) ≡ b → (before_run names ns < length ns → IsRunFound names ns) → cond b 0 (1 + before_run names ns) < length (n ∷ ns)
        → (1 ≤ length names) × (cond b 0 (1 + before_run names ns) + length names ≤ length (n ∷ ns))
    go true is ih lt = let here = run_inside names (n ∷ ns) is in (here.some, omega (arith, here.inside))
    go false is ih lt = let rest = ih (omega (arith, lt)) in (rest.some, omega (arith, rest.inside))

-- Files.

module _ {A : Type 0} (f : A → Seen) where
  -- the files of numbers and images that are kept apart
  abbrev pub files : List ℕ → List A → List MapFile
  files ns xs = files_of ns (images_in (map f xs))

  files_nil : (ns : List ℕ) → files ns [] ≡ []
  files_nil [] = refl
  files_nil (n ∷ ns) = refl

  files_after : (k : ℕ) (ns : List ℕ) (xs : List A) → drop k (files ns xs) ≡ files (drop k ns) (drop k xs)
  files_after zero ns xs = refl
  files_after (suc k) [] xs = refl
  files_after (suc k) (n ∷ ns) [] = sym (files_nil (drop k ns))
  files_after (suc k) (n ∷ ns) (x ∷ xs) = files_after k ns xs

  image_count : (xs : List A) → length (images_in (map f xs)) ≡ length xs
  image_count [] = refl
  image_count (x ∷ xs) = omega (arith, image_count xs)

  -- one item in the place of those from an index up to another
  abbrev pub put_at : {B : Type 0} → ℕ → ℕ → B → List B → List B
  put_at from to x xs = take from xs ++ (x ∷ drop to xs)

  -- a run that was found is replaced where it stands
  pub put_run : (names ns : List ℕ) (xs : List A) (k : ℕ) (x : A) → length ns ≡ length xs → before_run names ns < length ns
      → replaced names (record { number = k; image = image_of (f x) }) (files ns xs)
      ≡ files (put_at (before_run names ns) (before_run names ns + length names) k ns) (put_at (before_run names ns) (before_run names ns + length names) x xs)
  put_run names [] xs k x e lt = absurd (omega arith)
  put_run names (n ∷ ns) [] k x e lt = absurd (omega (arith, e))
  put_run names (n ∷ ns) (y ∷ ys) k x e lt =
      go (begins_run names (n ∷ ns)) refl (is_run names (files (n ∷ ns) (y ∷ ys))) (run_is names (n ∷ ns) (images_in (map f (y ∷ ys))) (e ∙ sym (image_count (y ∷ ys)))) lt
      (put_run names ns ys k x (omega (arith, e)))
    where
      new : MapFile
      new = record { number = k; image = image_of (f x) }

      left : List MapFile
      left = record { number = n; image = image_of (f y) } ∷ replaced names new (files ns ys)

      go : (b : Bool) → begins_run names (n ∷ ns) ≡ b → (c : Bool) → begins_run names (n ∷ ns) ≡ c → cond b 0 (1 + before_run names ns) < length (n ∷ ns)
          → (before_run names ns < length ns → replaced names new (files ns ys) ≡ files (put_at (before_run names ns) (before_run names ns + length names) k ns) (put_at (before_run names ns) (before_run names ns + length names) x ys))
          → cond c (new ∷ drop (length names) (files (n ∷ ns) (y ∷ ys))) (record { number = n; image = image_of (f y) } ∷ replaced names new (files ns ys))
          ≡ files (put_at (cond b 0 (1 + before_run names ns)) (cond b 0 (1 + before_run names ns) + length names) k (n ∷ ns)) (put_at (cond b 0 (1 + before_run names ns)) (cond b 0 (1 + before_run names ns) + length names) x (y ∷ ys))
      go true is true js lt ih =
          let whole : 0 + length names ≡ length names = omega arith in
          subst (λ (to : ℕ). new ∷ drop (length names) (files (n ∷ ns) (y ∷ ys)) ≡ files (put_at 0 to k (n ∷ ns)) (put_at 0 to x (y ∷ ys))) (sym whole)
          (ap (λ l. new ∷ l) (files_after (length names) (n ∷ ns) (y ∷ ys)))
      go false is false js lt ih =
          let next : 1 + before_run names ns ≡ suc (before_run names ns) = omega arith in
          let end : 1 + before_run names ns + length names ≡ suc (before_run names ns + length names) = omega arith in
          subst (λ (from : ℕ). left ≡ files (put_at from (1 + before_run names ns + length names) k (n ∷ ns)) (put_at from (1 + before_run names ns + length names) x (y ∷ ys))) (sym next)
          (subst (λ (to : ℕ). left ≡ files (put_at (suc (before_run names ns)) to k (n ∷ ns)) (put_at (suc (before_run names ns)) to x (y ∷ ys))) (sym end)
          (ap (λ l. record { number = n; image = image_of (f y) } ∷ l) (ih (omega (arith, lt)))))
      go true is false js lt ih = absurd cc
      go false is true js lt ih = absurd cc

  -- without a run nothing is replaced
  pub put_none : (names ns : List ℕ) (xs : List A) (new : MapFile) → length ns ≡ length xs → length ns ≤ before_run names ns → replaced names new (files ns xs) ≡ files ns xs
  put_none names [] xs new e le = refl
  put_none names (n ∷ ns) [] new e le = absurd (omega (arith, e))
  put_none names (n ∷ ns) (y ∷ ys) new e le =
      go (begins_run names (n ∷ ns)) refl (is_run names (files (n ∷ ns) (y ∷ ys))) (run_is names (n ∷ ns) (images_in (map f (y ∷ ys))) (e ∙ sym (image_count (y ∷ ys)))) le
      (put_none names ns ys new (omega (arith, e)))
    where
      go : (b : Bool) → begins_run names (n ∷ ns) ≡ b → (c : Bool) → begins_run names (n ∷ ns) ≡ c → length (n ∷ ns) ≤ cond b 0 (1 + before_run names ns)
          → (length ns ≤ before_run names ns → replaced names new (files ns ys) ≡ files ns ys)
          → cond c (new ∷ drop (length names) (files (n ∷ ns) (y ∷ ys))) (record { number = n; image = image_of (f y) } ∷ replaced names new (files ns ys)) ≡ files (n ∷ ns) (y ∷ ys)
      go true is true js le ih = absurd (omega (arith, le))
      go false is false js le ih = ap (λ l. record { number = n; image = image_of (f y) } ∷ l) (ih (omega (arith, le)))
      go true is false js le ih = absurd cc
      go false is true js le ih = absurd cc

-- the length of what is left
pub put_length : {B : Type 0} (from to : ℕ) (x : B) (xs : List B) → from ≤ to → to ≤ length xs → length (take from xs ++ (x ∷ drop to xs)) + to ≡ length xs + 1 + from
put_length from to x xs le inside = omega (arith, length-append (take from xs) (x ∷ drop to xs), length-drop to xs, length-take from xs)

-- The set.

-- the base stays first
pub rules_stay : (set : PublishedSet) (plan : FoldPlan) (image : Image) → IsStanding set → Fits plan set.state → common_rules (images_of (applied set.state (Replace plan image)).files) ≡ rules_of set
rules_stay set plan image standing fits = go plan.files refl fits.some fits.given
  where
    st : Stands (rules_of set) set.base set.state
    st = standing.stands

    go : (run : List MapFile) → plan.files ≡ run → plan.files ≢ [] → AllByRecursion (λ f. (0 < f.number) × (f.number ≤ age set.state)) plan.files
        → common_rules (images_of (applied set.state (Replace plan image)).files) ≡ rules_of set
    go [] e some given = absurd (some e)
    go (r ∷ rs) e some given =
        let above_zero : 0 < r.number = (subst (AllByRecursion (λ (f : MapFile). (0 < f.number) × (f.number ≤ age set.state))) e given).0.0 in
        ap₂ (λ (run fs : List MapFile). common_rules (images_of (replaced (numbers_of run) (record { number = age set.state + 1; image = image }) fs))) e st.files
        ∙ first (0 == r.number) refl above_zero ∙ sym (ap (λ (fs : List MapFile). common_rules (images_of fs)) st.files)
      where
        first : (b : Bool) → (0 == r.number) ≡ b → 0 < r.number
            → common_rules (images_of (cond (b && begins_with (numbers_of rs) st.above) (record { number = age set.state + 1; image = image } ∷ drop (length (numbers_of (r ∷ rs))) (record { number = 0; image = base_image (rules_of set) set.base } ∷ st.above))
            (record { number = 0; image = base_image (rules_of set) set.base } ∷ replaced (numbers_of (r ∷ rs)) (record { number = age set.state + 1; image = image }) st.above))) ≡ rules_of set
        first false is lt = refl
        first true is lt = absurd (grind (arith, nat_tests))

-- good base lines make a store
pub store_of : (set : PublishedSet) → IsStanding set → IsStore (apply [] set.base)
store_of set st = applied_store [] set.base (record { good = tt; rising = tt }) st.good_base

-- a set stands after a fold that fits has come in
pub folded_stands : (set : PublishedSet) (plan : FoldPlan) → IsStanding set → Fits plan set.state → missing plan set.state ≡ None → IsStanding (record { base = set.base; state = with_fold plan set.state })
folded_stands set plan st fits all = record {
  stands = subst (λ (rules : List Rule). Stands rules set.base (with_fold plan set.state)) (sym (rules_stay set plan (fold_image plan.level (images_of plan.files)) st fits))
      (swaps (rules_of set) set.base set.state (Replace plan (fold_image plan.level (images_of plan.files))) (store_of set st) st.good_history st.stands (fits, all, refl));
  good_base = st.good_base;
  good_history = st.good_history;
}

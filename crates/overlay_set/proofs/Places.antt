-- What a replaced run leaves: places, numbers and weights.
use Rattle.std.proofs.Common.{◌≡◌, ◌≢◌, ℕ, ◌+◌, ◌<◌, ◌≤◌, IsTrue, Bool, true, false, cond, ◌&&◌, not, ◌==◌, List, [], ◌∷◌, ◌++◌, length, drop, refl, ap, arith}
use Rattle.std.specs.List.{AllByRecursion}
use Rattle.std.proofs.lemmas.Bool.Decides.{nat_tests}
use Rattle.std.proofs.lemmas.List.Sums.{sum_by-append}
use Rattle.live_model.specs.declared.levels.Level.{Level}
use Rattle.live_model.specs.declared.levels.Level.TheVariants.{Base, Hour, Day, Month}
use Rattle.live_model.specs.declared.rules.Rule.{Rule}
use Rattle.live_model.specs.Levels.{level_number}
use Rattle.overlay_set.specs.Sets.{MapFile, numbers_of, greatest}
use Rattle.overlay_set.specs.Periods.{is_one_of_level}
use Rattle.overlay_set.specs.Standing.{level_weight, weight, AreApart}
use Rattle.overlay_set.specs.Swaps.{begins_with, replaced, IsPlanned}

-- Places.

begins_true : (run back : List MapFile) → begins_with (numbers_of run) (run ++ back) ≡ true
begins_true [] back = refl
begins_true (f ∷ fs) back = go (f.number == f.number) (grind (arith, nat_tests)) (begins_true fs back)
  where
    go : (b : Bool) → b ≡ true → begins_with (numbers_of fs) (fs ++ back) ≡ true → (b && begins_with (numbers_of fs) (fs ++ back)) ≡ true
    go true e ih = ih
    go false e ih = e

drop_run : (run back : List MapFile) → drop (length (numbers_of run)) (run ++ back) ≡ back
drop_run [] back = refl
drop_run (f ∷ fs) back = drop_run fs back

number_in : (P : ℕ → Type 0) (fs : List MapFile) (r : MapFile) (rest : List MapFile) → AllByRecursion P (numbers_of (fs ++ (r ∷ rest))) → P r.number
number_in P [] r rest all = all.0
number_in P (f ∷ fs) r rest all = number_in P fs r rest all.1

-- a run that stands in the set is replaced where it stands
pub replaced_at : (front : List MapFile) (r : MapFile) (rs back : List MapFile) (new : MapFile) → AreApart (numbers_of (front ++ ((r ∷ rs) ++ back)))
    → replaced (numbers_of (r ∷ rs)) new (front ++ ((r ∷ rs) ++ back)) ≡ front ++ (new ∷ back)
replaced_at [] r rs back new apart = go (begins_with (numbers_of (r ∷ rs)) ((r ∷ rs) ++ back)) (begins_true (r ∷ rs) back)
  where
    go : (b : Bool) → b ≡ true → cond b (new ∷ drop (length (numbers_of (r ∷ rs))) ((r ∷ rs) ++ back)) (r ∷ replaced (numbers_of (r ∷ rs)) new (rs ++ back)) ≡ new ∷ back
    go true e = ap (λ l. new ∷ l) (drop_run (r ∷ rs) back)
    go false e = absurd cc
replaced_at (f ∷ fs) r rs back new apart =
    go (f.number == r.number) refl (number_in (λ m. f.number ≢ m) fs r (rs ++ back) apart.0) (replaced_at fs r rs back new apart.1)
  where
    go : (b : Bool) → (f.number == r.number) ≡ b → f.number ≢ r.number → replaced (numbers_of (r ∷ rs)) new (fs ++ ((r ∷ rs) ++ back)) ≡ fs ++ (new ∷ back)
        → cond (b && begins_with (numbers_of rs) (fs ++ ((r ∷ rs) ++ back))) (new ∷ drop (length (numbers_of (r ∷ rs))) (f ∷ (fs ++ ((r ∷ rs) ++ back)))) (f ∷ replaced (numbers_of (r ∷ rs)) new (fs ++ ((r ∷ rs) ++ back)))
        ≡ f ∷ (fs ++ (new ∷ back))
    go true e other ih = absurd (grind (arith, nat_tests))
    go false e other ih = ap (λ l. f ∷ l) ih

-- Numbers.

apart_right : (xs ys : List ℕ) → AreApart (xs ++ ys) → AreApart ys
apart_right [] ys a = a
apart_right (x ∷ xs) ys a = apart_right xs ys a.1

all_other : (k : ℕ) (ns : List ℕ) → greatest ns < k → AllByRecursion (λ m. k ≢ m) ns
all_other k [] lt = tt
all_other k (n ∷ ns) lt = (λ (e : k ≡ n). absurd (omega arith), all_other k ns (omega arith))

greatest_right : (xs ys : List ℕ) → greatest ys ≤ greatest (xs ++ ys)
greatest_right [] ys = omega arith
greatest_right (x ∷ xs) ys = omega (arith, greatest_right xs ys)

swap_all : (P : ℕ → Type 0) (a r b : List ℕ) (k : ℕ) → P k → AllByRecursion P (a ++ (r ++ b)) → AllByRecursion P (a ++ (k ∷ b))
swap_all P [] r b k pk all = (pk, right r b all)
  where
    right : (xs ys : List ℕ) → AllByRecursion P (xs ++ ys) → AllByRecursion P ys
    right [] ys a = a
    right (x ∷ xs) ys a = right xs ys a.1
swap_all P (x ∷ xs) r b k pk all = (all.0, swap_all P xs r b k pk all.1)

pub apart_swap : (a r b : List ℕ) (k : ℕ) → greatest (a ++ (r ++ b)) < k → AreApart (a ++ (r ++ b)) → AreApart (a ++ (k ∷ b))
apart_swap [] r b k lt apart = (all_other k b (omega (arith, greatest_right r b)), apart_right r b apart)
apart_swap (x ∷ xs) r b k lt apart = (swap_all (λ m. x ≢ m) xs r b k (λ (e : x ≡ k). absurd (omega arith)) apart.0, apart_swap xs r b k (omega arith) apart.1)

pub greatest_swap : (a r b : List ℕ) (k : ℕ) → greatest (a ++ (r ++ b)) < k → greatest (a ++ (k ∷ b)) ≡ k
greatest_swap [] r b k lt = omega (arith, greatest_right r b)
greatest_swap (x ∷ xs) r b k lt = omega (arith, greatest_swap xs r b k (omega arith))

-- Weights.

weight_of_number : (level : Level) → 1 ≤ level_number level → level_weight level + level_number level ≡ 4
weight_of_number Base h = absurd (omega arith)
weight_of_number Hour h = refl
weight_of_number Day h = refl
weight_of_number Month h = refl

weight_pos : (level : Level) → 1 ≤ level_number level → 1 ≤ level_weight level
weight_pos Base h = absurd (omega arith)
weight_pos Hour h = omega arith
weight_pos Day h = omega arith
weight_pos Month h = omega arith

weight-cons : (f : MapFile) (fs : List MapFile) → weight (f ∷ fs) ≡ level_weight f.image.head.level + weight fs
weight-cons f fs = omega (arith, sum_by-append (λ (f : MapFile). level_weight f.image.head.level) (f ∷ []) fs)

-- a fold weighs less than what it replaces
pub fold_weight : (table : List Rule) (level : Level) (files : List MapFile) → files ≢ [] → 2 ≤ level_number level → AllByRecursion (IsPlanned table level) files
    → IsTrue (not (is_one_of_level level files)) → level_weight level + 1 ≤ weight files
fold_weight table level [] some high planned several = absurd (some refl)
fold_weight table level (f ∷ []) some high planned several =
    go (level_number f.image.head.level == level_number level) refl several
  where
    go : (b : Bool) → (level_number f.image.head.level == level_number level) ≡ b → IsTrue (not b) → level_weight level + 1 ≤ weight (f ∷ [])
    go true e h = absurd cc
    go false e h =
        let other : level_number f.image.head.level ≢ level_number level = grind (arith, nat_tests) in
        omega (arith, other, planned.0.above_base, planned.0.not_above, weight_of_number level (omega arith), weight_of_number f.image.head.level planned.0.above_base, weight-cons f [])
fold_weight table level (f ∷ g ∷ rest) some high planned several =
    omega (
      arith,
      planned.0.above_base,
      planned.0.not_above,
      planned.1.0.above_base,
      planned.1.0.not_above,
      weight_of_number level (omega arith),
      weight_pos level (omega arith),
      weight_of_number f.image.head.level planned.0.above_base,
      weight_of_number g.image.head.level planned.1.0.above_base,
      weight-cons f (g ∷ rest),
      weight-cons g rest,
    )

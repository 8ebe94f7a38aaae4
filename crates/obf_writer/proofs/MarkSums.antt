-- Marks that rise strictly come back from the steps between them, and break no rule.
use Rattle.std.proofs.Common.{◌≡◌, ℕ, zero, suc, ◌+◌, ◌-◌, ◌<◌, ◌≤◌, ◌^◌, ◌/◌, ◌%◌, Bool, true, false, List, [], ◌∷◌, length, map, get_or, refl, ap, ◌∙◌, arith}
use Rattle.std.specs.Prelude.{◌&&◌, ◌||◌, ◌==◌, not, nat_lt, nat_le, Contains, IsTrue, Some, None, if◌then◌else◌}
use Rattle.std.specs.List.{AllByRecursion, list_all}
use Rattle.std.specs.Ordering.{nat_cmp}
use Rattle.std.specs.declared.cmp.Ordering.TheVariants.{Less}
use Rattle.std.proofs.lemmas.Bool.{and_from, and_parts, eqb-true, leb-true, lt-ltb, or_left}
use Rattle.std.proofs.lemmas.Bool.Decides.{nat_tests}
use Rattle.live_model.specs.Ids.{Id, IsId, ordinal}
use Rattle.ordered_lists.specs.Ordered.{IsRisingBy}
use Rattle.file_grammar.specs.BoxRules.{with_before, follows, is_ordinal}
use Rattle.file_grammar.specs.Files.{mark_rises, marks_beside, rise_strictly, sums_from}
use Rattle.boxed_laws.proofs.ObjectNumbers.{ordinal_is}
use Rattle.obf_writer.specs.PackedFile.{steps_from}

-- each number is an ordinal
abbrev pub AreOrdinals : List ℕ → Type 0
AreOrdinals marks = AllByRecursion (λ n. IsTrue (is_ordinal n)) marks

-- ---- the steps between them

below : (a b : ℕ) → nat_cmp a b ≡ Less → a < b
below a b e = grind (arith, nat_tests)

not_below : (n : ℕ) (ns : List ℕ) → AllByRecursion (λ m. nat_cmp n m ≡ Less) ns → AllByRecursion (λ m. n ≤ m) ns
not_below n [] all = tt
not_below n (m ∷ ms) all = let less = below n m all.0 in (omega arith, not_below n ms all.1)

sums_again : (before : ℕ) (marks : List ℕ) → AllByRecursion (λ m. before ≤ m) marks → IsRisingBy nat_cmp (λ n. n) marks → sums_from before (steps_from before marks) ≡ marks
sums_again before [] least rise = refl
sums_again before (n ∷ ns) least rise =
    let le : before ≤ n = least.0 in
    let sum : before + (n - before) ≡ n = omega arith in
    ap (λ (m : ℕ). m ∷ sums_from m (steps_from n ns)) sum ∙ ap (λ (ms : List ℕ). n ∷ ms) (sums_again n ns (not_below n ns rise.0) rise.1)

all_above : (marks : List ℕ) → AllByRecursion (λ m. 0 ≤ m) marks
all_above [] = tt
all_above (n ∷ ns) = (omega arith, all_above ns)

pub marks_again : (marks : List ℕ) → IsRisingBy nat_cmp (λ n. n) marks → sums_from 0 (steps_from 0 marks) ≡ marks
marks_again marks rise = sums_again 0 marks (all_above marks) rise

ordinal_small : (n : ℕ) → is_ordinal n ≡ true → n < 2 ^ 64
ordinal_small n e =
    let p = and_parts (nat_le (n / 2 ^ 50) 2) (nat_le (n % 2 ^ 50) (2 ^ 49)) e in
    let q : n / 2 ^ 50 ≤ 2 = leb-true (n / 2 ^ 50) 2 p.0 in
    omega (arith, q)

-- a step has 64 bits at most
pub steps_small : (before : ℕ) (marks : List ℕ) → AreOrdinals marks → AllByRecursion (λ n. n < 2 ^ 64) (steps_from before marks)
steps_small before [] all = tt
steps_small before (n ∷ ns) all = let small = ordinal_small n all.0 in (less n before small, steps_small n ns all.1)
  where
    less : (a b : ℕ) → a < 2 ^ 64 → a - b < 2 ^ 64
    less a b small = omega arith

-- ---- their rules

rise_from : (before : ℕ) (marks : List ℕ) → AllByRecursion (λ m. nat_cmp before m ≡ Less) marks → IsRisingBy nat_cmp (λ n. n) marks → list_all (follows mark_rises) (with_before (Some before) marks) ≡ true
rise_from before [] least rise = refl
rise_from before (n ∷ ns) least rise =
    and_from (mark_rises before n) (list_all (follows mark_rises) (with_before (Some n) ns)) (or_left (nat_lt before n) (not (is_ordinal before && is_ordinal n)) (lt-ltb before n (below before n least.0)))
    (rise_from n ns rise.0 rise.1)

pub rise_is : (marks : List ℕ) → IsRisingBy nat_cmp (λ n. n) marks → rise_strictly marks ≡ true
rise_is [] rise = refl
rise_is (n ∷ ns) rise = rise_from n ns rise.0 rise.1

pub ordinals_are : (marks : List ℕ) → AreOrdinals marks → list_all is_ordinal marks ≡ true
ordinals_are [] all = refl
ordinals_are (n ∷ ns) all = and_from (is_ordinal n) (list_all is_ordinal ns) all.0 (ordinals_are ns all.1)

pub none_in_base : (level : ℕ) (marks : List ℕ) → (level ≡ 0 → marks ≡ []) → (not (level == 0) || (length marks == 0)) ≡ true
none_in_base level marks none = elim (level == 0) as (λ b. (level == 0) ≡ b → (not b || (length marks == 0)) ≡ true) [
  | true ↦ λ e. ap (λ (ms : List ℕ). length ms == 0) (none (eqb-true level 0 e))
  | false ↦ λ e. refl
] refl

-- records are asked for these marks, but not in a base
pub beside_marks : (level : ℕ) (marks : List ℕ) → rise_strictly marks ≡ true → list_all is_ordinal marks ≡ true → marks_beside level marks ≡ (if level == 0 then None else Some marks)
beside_marks level marks rise all =
    ap (λ (b : Bool). if (level == 0) || not b then None else Some marks) (and_from (rise_strictly marks) (list_all is_ordinal marks) rise all)
    ∙ one (level == 0)
  where
    one : (b : Bool) → (if b || false then None else Some marks) ≡ (if b then None else Some marks)
    one true = refl
    one false = refl

-- ---- marks as ordinals of objects

module _ {A : Type 0} (f : A → ℕ) where
  all_image : (a : A) (xs : List A) → AllByRecursion (λ x. nat_cmp (f a) (f x) ≡ Less) xs → AllByRecursion (λ n. nat_cmp (f a) n ≡ Less) (map f xs)
  all_image a [] all = tt
  all_image a (x ∷ xs) all = (all.0, all_image a xs all.1)

  pub rising_image : (xs : List A) → IsRisingBy nat_cmp f xs → IsRisingBy nat_cmp (λ n. n) (map f xs)
  rising_image [] rise = tt
  rising_image (x ∷ xs) rise = (all_image x xs rise.0, rising_image xs rise.1)

  there : (xs : List A) (k : ℕ) (a : A) → k < length xs → get_or xs k a ≡ a → (k < length (map f xs)) × (get_or (map f xs) k (f a) ≡ f a)
  there [] k a inside e = absurd (omega arith)
  there (x ∷ xs) zero a inside e = (omega arith, ap f e)
  there (x ∷ xs) (suc k) a inside e = let rest = there xs k a (omega arith) e in (omega (arith, rest.0), rest.1)

  pub contains_image : (xs : List A) (a : A) → Contains xs a → Contains (map f xs) (f a)
  contains_image xs a c = let t = there xs c.0 a c.1 c.2 in (c.0, t.0, t.1)

pub ordinals_of_ids : (ids : List Id) → AllByRecursion IsId ids → AreOrdinals (map ordinal ids)
ordinals_of_ids [] all = tt
ordinals_of_ids (o ∷ os) all = (ordinal_is o all.0, ordinals_of_ids os all.1)

-- What is asked of files, one after another.
use Rattle.std.proofs.Common.{◌≡◌, ℕ, suc, ◌+◌, ◌-◌, ◌<◌, Bool, true, false, List, [], ◌∷◌, ◌++◌, length, map, Option, Some, None, refl, sym, ap, subst, ◌∙◌, arith}
use Rattle.std.specs.Prelude.{if◌then◌else◌}
use Rattle.std.specs.Option.{option_map}
use Rattle.file_order.specs.declared.kinds.NotRun.{NotRun}
use Rattle.file_order.specs.declared.kinds.RunKind.{RunKind}
use Rattle.file_order.specs.Runs.{Asked, Placed, all_asked, first_failing, is_base, later_asked, not_run, told_at}

-- where all hold, the others are asked
pub passed : (xs ys : List Asked) → first_failing xs ≡ None → first_failing (xs ++ ys) ≡ first_failing ys
passed [] ys e = refl
passed (x ∷ xs) ys e = one x.holds refl e (passed xs ys)
  where
    one : (b : Bool) → x.holds ≡ b → (if b then first_failing xs else Some x.told) ≡ None → (first_failing xs ≡ None → first_failing (xs ++ ys) ≡ first_failing ys)
        → (if x.holds then first_failing (xs ++ ys) else Some x.told) ≡ first_failing ys
    one true h e on = rw h (on e)
    one false h e on = absurd cc

-- where one fails, it is told
pub failed : (xs ys : List Asked) (told : NotRun) → first_failing xs ≡ Some told → first_failing (xs ++ ys) ≡ Some told
failed [] ys told e = absurd cc
failed (x ∷ xs) ys told e = one x.holds refl e (failed xs ys told)
  where
    one : (b : Bool) → x.holds ≡ b → (if b then first_failing xs else Some x.told) ≡ Some told → (first_failing xs ≡ Some told → first_failing (xs ++ ys) ≡ Some told)
        → (if x.holds then first_failing (xs ++ ys) else Some x.told) ≡ Some told
    one true h e on = rw h (on e)
    one false h e on = rw h e

module _ (first before file : Placed) (files : List Placed) (index : ℕ) where
  -- a file that follows the one before it
  pub file_passed : (r : Option RunKind) → r ≡ None → first_failing (later_asked index first before file) ≡ option_map (told_at index) r
      → first_failing (all_asked index first before (file ∷ files)) ≡ first_failing (all_asked (index + 1) first file files)
  file_passed r none is = passed (later_asked index first before file) (all_asked (index + 1) first file files) (is ∙ ap (λ (k : Option RunKind). option_map (told_at index) k) none)

  -- a file that does not
  pub file_failed : (r : Option RunKind) (kind : RunKind) → r ≡ Some kind → first_failing (later_asked index first before file) ≡ option_map (told_at index) r
      → first_failing (all_asked index first before (file ∷ files)) ≡ Some (told_at index kind)
  file_failed r kind some is = failed (later_asked index first before file) (all_asked (index + 1) first file files) (told_at index kind) (is ∙ ap (λ (k : Option RunKind). option_map (told_at index) k) some)

-- an option that is nothing else is none
pub none_of : (r : Option RunKind) → ((kind : RunKind) → r ≡ Some kind → ⊥) → r ≡ None
none_of None other = refl
none_of (Some kind) other = absurd (other kind refl)

module _ {A : Type 0} (seen : A → Placed) where
  -- these files are left to be asked, after one and beside the first
  pub record AreLeft (all rest : List A) (first before : A) : Type 0 where
    pub asked : not_run (map seen all) ≡ first_failing (all_asked (length all - length rest) (seen first) (seen before) (map seen rest))
    pub inside : length rest < length all

  -- after a base all others are left
  pub left_first : (all after : List A) (first : A) → all ≡ first ∷ after → true ≡ is_base (seen first) → AreLeft all after first first
  left_first all after first is base =
      let one : length (first ∷ after) - length after ≡ 1 = omega arith in
      subst (λ (files : List A). AreLeft files after first first) (sym is)
      (record {
        asked = rw (← base) rw one refl;
        inside = omega arith;
      })

  module _ (all rest more : List A) (first before file : A) (r : Option RunKind) (is : rest ≡ file ∷ more)
      (told : (index : ℕ) → first_failing (later_asked index (seen first) (seen before) (seen file)) ≡ option_map (told_at index) r) where
    -- those after a file that follows
    pub left_next : r ≡ None → AreLeft all rest first before → AreLeft all more first file
    left_next none l =
        let index : ℕ = length all - length rest in
        let longer : length rest ≡ suc (length more) = ap length is in
        let next : index + 1 ≡ length all - length more = omega (arith, longer, l.inside) in
        record {
          asked =
              l.asked ∙ ap (λ (files : List A). first_failing (all_asked index (seen first) (seen before) (map seen files))) is
              ∙ file_passed (seen first) (seen before) (seen file) (map seen more) index r none (told index)
              ∙ ap (λ (n : ℕ). first_failing (all_asked n (seen first) (seen file) (map seen more))) next;
          inside = omega (arith, longer, l.inside);
        }

    -- a file that does not follow is told
    pub left_told : (kind : RunKind) → r ≡ Some kind → AreLeft all rest first before → not_run (map seen all) ≡ Some (told_at (length all - length rest) kind)
    left_told kind some l =
        let index : ℕ = length all - length rest in
        l.asked ∙ ap (λ (files : List A). first_failing (all_asked index (seen first) (seen before) (map seen files))) is
        ∙ file_failed (seen first) (seen before) (seen file) (map seen more) index r kind some (told index)

  -- where none is left, all follow
  pub left_none : (all rest : List A) (first before : A) → length rest ≡ 0 → AreLeft all rest first before → not_run (map seen all) ≡ None
  left_none all [] first before none l = l.asked
  left_none all (x ∷ xs) first before none l = absurd (omega (arith, none))

-- What is asked of files that are to become one, one after another.
use Rattle.std.proofs.Common.{◌≡◌, ℕ, suc, ◌+◌, ◌-◌, ◌≤◌, List, [], ◌∷◌, length, map, Option, Some, None, refl, sym, ap, subst, ◌∙◌, arith}
use Rattle.std.specs.Option.{option_map}
use Rattle.live_model.specs.declared.levels.Level.{Level}
use Rattle.stamp_core.specs.Hours.{CivilHour}
use Rattle.file_order.specs.declared.kinds.RunKind.{RunKind}
use Rattle.file_order.specs.Folding.{not_fold, part_asked, parts_asked}
use Rattle.file_order.specs.Runs.{Placed, first_failing, told_at}
use Rattle.file_order.proofs.Passing.{failed, passed}

module _ {A : Type 0} (level : Level) (seen : A → Placed) where
  -- these files are left to be asked, after one that ends at this hour, and beside the first
  pub record AreLeft (all rest : List A) (first : A) (last : Option CivilHour) : Type 0 where
    pub asked : not_fold level (map seen all) ≡ first_failing (parts_asked level (length all - length rest) (seen first) last (map seen rest))
    pub inside : length rest ≤ length all

  -- all are, before the first
  pub left_all : (all rest : List A) (first : A) → all ≡ first ∷ rest → AreLeft all all first None
  left_all all rest first is =
      let none : length (first ∷ rest) - length (first ∷ rest) ≡ 0 = omega arith in
      subst (λ (files : List A). AreLeft files files first None) (sym is) (record { asked = rw none refl; inside = omega arith })

  module _ (all rest more : List A) (first file : A) (last : Option CivilHour) (r : Option RunKind) (is : rest ≡ file ∷ more)
      (told : (index : ℕ) → first_failing (part_asked level index (seen first) last (seen file)) ≡ option_map (told_at index) r) where
    -- those after a file of which all holds
    pub left_next : r ≡ None → AreLeft all rest first last → AreLeft all more first (seen file).head.last
    left_next none l =
        let index : ℕ = length all - length rest in
        let longer : length rest ≡ suc (length more) = ap length is in
        let next : index + 1 ≡ length all - length more = omega (arith, longer, l.inside) in
        record {
          asked =
              l.asked ∙ ap (λ (files : List A). first_failing (parts_asked level index (seen first) last (map seen files))) is
              ∙ passed (part_asked level index (seen first) last (seen file)) (parts_asked level (index + 1) (seen first) (seen file).head.last (map seen more)) (told index ∙ ap (λ (k : Option RunKind). option_map (told_at index) k) none)
              ∙ ap (λ (n : ℕ). first_failing (parts_asked level n (seen first) (seen file).head.last (map seen more))) next;
          inside = omega (arith, longer, l.inside);
        }

    -- a file of which something fails is told
    pub left_told : (kind : RunKind) → r ≡ Some kind → AreLeft all rest first last → not_fold level (map seen all) ≡ Some (told_at (length all - length rest) kind)
    left_told kind some l =
        let index : ℕ = length all - length rest in
        l.asked ∙ ap (λ (files : List A). first_failing (parts_asked level index (seen first) last (map seen files))) is
        ∙ failed (part_asked level index (seen first) last (seen file)) (parts_asked level (index + 1) (seen first) (seen file).head.last (map seen more)) (told_at index kind) (told index ∙ ap (λ (k : Option RunKind). option_map (told_at index) k) some)

  -- where none is left, all hold
  pub left_none : (all rest : List A) (first : A) (last : Option CivilHour) → length rest ≡ 0 → AreLeft all rest first last → not_fold level (map seen all) ≡ None
  left_none all [] first last none l = l.asked
  left_none all (x ∷ xs) first last none l = absurd (omega (arith, none))

-- Numbers that are put into a list, one after another.
use Rattle.std.proofs.Common.{◌≡◌, ℕ, List, [], ◌∷◌, ◌++◌, Ok, refl, sym, ap, ◌∙◌, append_assoc}
use Rattle.std.proofs.lemmas.List.{append-nil}
use Rattle.obf_wire.specs.Fields.{Window}
use Rattle.file_grammar.specs.Readings.{numbers_at}
use Rattle.boxed_exact.specs.Numbers.{Continues}

-- of all numbers these were read, and the others stand from a place on
pub record NumbersLeft (all read : List ℕ) (w : Window) : Type 0 where
  pub rest : List ℕ
  pub left : numbers_at w ≡ Ok rest
  pub is : all ≡ read ++ rest

pub left_first : (all : List ℕ) (w : Window) → numbers_at w ≡ Ok all → NumbersLeft all [] w
left_first all w e = record { rest = all; left = e; is = refl }

pub left_on : (all read : List ℕ) (w : Window) (n next : ℕ) → NumbersLeft all read w → ((numbers : List ℕ) → numbers_at w ≡ Ok numbers → Continues w numbers n next)
    → NumbersLeft all (read ++ n ∷ []) (record w { place = next })
left_on all read w n next l one =
    let s = one l.rest l.left in
    record { rest = s.rest; left = s.others; is = l.is ∙ ap (λ (ns : List ℕ). read ++ ns) s.is ∙ sym (append_assoc read (n ∷ []) s.rest) }

pub left_all : (all read : List ℕ) (w : Window) → NumbersLeft all read w → ((numbers : List ℕ) → numbers_at w ≡ Ok numbers → numbers ≡ []) → read ≡ all
left_all all read w l last = sym (l.is ∙ ap (λ (ns : List ℕ). read ++ ns) (last l.rest l.left) ∙ append-nil read)

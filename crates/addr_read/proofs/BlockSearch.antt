-- A search for the next address that is found goes on with a block.
use Rattle.std.proofs.Common.{◌≡◌, ◌+◌, ℕ, suc, List, [], ◌∷◌, ◌++◌, drop, ap, ◌∙◌, arith}
use Rattle.boxed_read.specs.Steps.{joined}
use Rattle.addr_read.specs.Finding.{to_search}

module _ {A : Type 0} where
  -- what is left, the blocks after it and what they cost, from where a block has been begun
  pub record IsBegun (here : List A) (blocks : List (List A)) (block : List A) (more : List (List A)) : Type 0 where
    pub left : here ++ joined blocks ≡ block ++ joined more
    pub rest : drop (to_search here blocks) blocks ≡ drop (to_search block more) more
    pub steps : to_search here blocks ≡ 1 + to_search block more

  drop_one : (n : ℕ) (x : List A) (xs : List (List A)) → drop (1 + n) (x ∷ xs) ≡ drop n xs
  drop_one n x xs = let one : 1 + n ≡ suc n = omega arith in ap (λ (m : ℕ). drop m (x ∷ xs)) one

  -- where none is left of a block, the next one is begun
  pub begun : (here : List A) (blocks : List (List A)) (block : List A) (more : List (List A)) → here ≡ [] → blocks ≡ block ∷ more → IsBegun here blocks block more
  begun here blocks block more none next = record {
    left = λ i. none i ++ joined (next i);
    rest = (λ i. drop (to_search (none i) (next i)) (next i)) ∙ drop_one (to_search block more) block more;
    steps = λ i. to_search (none i) (next i);
  }

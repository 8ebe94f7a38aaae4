-- What a search for the next address reads.
use Rattle.std.proofs.Common.{◌≡◌, ◌≤◌, ◌+◌, ◌-◌, ℕ, List, [], ◌∷◌, drop, length, ap, ◌∙◌, arith}
use Rattle.std.proofs.lemmas.List.{length-drop}
use Rattle.addr_read.specs.Finding.{to_search}

module _ {A : Type 0} where
  -- no more blocks than there are
  within : (here : List A) (blocks : List (List A)) → to_search here blocks ≤ length blocks
  within (x ∷ xs) blocks = omega arith
  within [] [] = omega arith
  within [] (block ∷ blocks) = let on = within block blocks in omega (arith, on)

  -- the blocks that are read are left no more
  pub searched : (here : List A) (blocks more : List (List A)) (before after : ℕ) → more ≡ drop (to_search here blocks) blocks → after ≡ before + to_search here blocks
      → after + length more ≡ before + length blocks
  searched here blocks more before after left steps =
      let most = within here blocks in
      let rest : length more ≡ length blocks - to_search here blocks = ap length left ∙ length-drop (to_search here blocks) blocks in
      omega (arith, most, rest, steps)

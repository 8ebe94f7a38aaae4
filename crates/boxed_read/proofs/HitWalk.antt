-- Records that pass a filter, one after another.
use Rattle.std.proofs.Common.{◌≡◌, ℕ, ◌+◌, ◌<◌, Bool, true, false, List, [], ◌∷◌, length, drop, refl, sym, ap, ◌∙◌, arith}
use Rattle.std.specs.Prelude.{filter}
use Rattle.boxed_read.specs.Steps.{to_read}

module _ {A : Type 0} (passing : A → Bool) where
  -- the next record passes
  pub passed : (view : A) (left others : List A) → left ≡ view ∷ others → passing view ≡ true → filter passing left ≡ view ∷ filter passing others
  passed view left others e passes = ap (filter passing) e ∙ (rw passes refl)

  -- or not
  pub skipped : (view : A) (left others : List A) → left ≡ view ∷ others → passing view ≡ false → filter passing left ≡ filter passing others
  skipped view left others e fails = ap (filter passing) e ∙ (rw fails refl)

  pub none_left : (left : List A) → left ≡ [] → filter passing left ≡ []
  none_left left e = ap (filter passing) e

pub fewer : {A : Type 0} (view : A) (left others : List A) → left ≡ view ∷ others → length others < length left
fewer view left others e = omega (arith, ap length e)

-- a block that is read is one less to be read
pub blocks_read : {A : Type 0} (here : List A) (blocks later : List (List A)) (before after : ℕ) → later ≡ drop (to_read here blocks) blocks → after ≡ before + to_read here blocks → after + length later ≡ before + length blocks
blocks_read [] [] later before after e steps = omega (arith, ap length e, steps)
blocks_read [] (block ∷ blocks) later before after e steps = omega (arith, ap length e, steps)
blocks_read (x ∷ xs) blocks later before after e steps = omega (arith, ap length e, steps)

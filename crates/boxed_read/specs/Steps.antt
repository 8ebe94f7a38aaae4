-- What a cursor over a section has before it, and what a step costs.
use Rattle.std.specs.Prelude.{ℕ, List, [], ◌∷◌, ◌++◌, flat_map}

-- the records that are left of the block that is being read, and those of the blocks after it
pub record Coming (A : Type 0) : Type 0 where
  pub here : List A
  pub blocks : List (List A)

module _ {A : Type 0} where
  -- nothing at all
  abbrev pub nothing_left : Coming A
  nothing_left = record { here = []; blocks = [] }

  -- the records of blocks, one block after another
  abbrev pub joined : List (List A) → List A
  joined blocks = flat_map (λ block. block) blocks

  -- all that are left, in the order of the file
  abbrev pub still_left : Coming A → List A
  still_left c = c.here ++ joined c.blocks

  -- how many blocks have to be read for the next record: one, where none is left of this one, and there is another
  abbrev pub to_read : List A → List (List A) → ℕ
  to_read [] (block ∷ blocks) = 1
  to_read here blocks = 0

-- Lists that rise strictly by a key, and how an item comes into one or leaves it.
use Rattle.std.specs.Prelude.{◌≡◌, List, [], ◌∷◌, ◌++◌, filter}
use Rattle.std.specs.List.{AllByRecursion}
use Rattle.std.specs.Ordering.{is_lt, is_gt}
use Rattle.std.specs.declared.cmp.Ordering.{Ordering}
use Rattle.std.specs.declared.cmp.Ordering.TheVariants.{Less}

module _ {A K : Type 0} (cmp : K → K → Ordering) (key : A → K) where
  -- each item comes before all later ones
  abbrev pub IsRisingBy : List A → Type 0
  IsRisingBy [] = Unit {0}
  IsRisingBy (x ∷ xs) = AllByRecursion (λ y. cmp (key x) (key y) ≡ Less) xs × IsRisingBy xs

  -- the items that come before a key
  abbrev pub below : K → List A → List A
  below k xs = filter (λ x. is_lt (cmp (key x) k)) xs

  -- the items that come behind a key
  abbrev pub above : K → List A → List A
  above k xs = filter (λ x. is_gt (cmp (key x) k)) xs

  -- in place of the item with its key, or between its neighbours
  abbrev pub put_by : A → List A → List A
  put_by x xs = below (key x) xs ++ x ∷ above (key x) xs

  -- without the item of this key
  abbrev pub without_by : K → List A → List A
  without_by k xs = below k xs ++ above k xs

  -- the items in turn, so that of those with one key the last stands
  abbrev pub put_all : List A → List A → List A
  put_all xs [] = xs
  put_all xs (y ∷ ys) = put_all (put_by y xs) ys

-- A finite map is a list of pairs whose keys rise. A layer is such a list of changes: a key with a value sets it, one without removes it.
use Rattle.std.specs.Prelude.{ℕ, ◌+◌, ◌||◌, List, [], ◌∷◌, Bool, true, if◌then◌else◌, Option, Some, None, find, filter, map, length, ◌++◌}
use Rattle.std.specs.Option.{option_map, option_copied, option_to_list, is_some}
use Rattle.std.specs.Ordering.{is_eq, is_gt, is_lt}
use Rattle.std.specs.declared.cmp.Ordering.{Ordering}
use Rattle.std.specs.declared.cmp.Ordering.TheVariants.{Less, Greater}
use Rattle.std.specs.Borrow.{Bor}
use Rattle.ordered_lists.specs.Ordered.{IsRisingBy, put_by, without_by}

-- what a table is seen as: its map, how many layers it has room for, and how many it has
pub record Table (K V : Type 0) : Type 0 where
  pub map : List (K × V)
  pub spare : ℕ
  pub depth : ℕ

-- what a layer in the making is seen as: its changes, and for how many more it has room
pub record Piled (K V : Type 0) : Type 0 where
  pub changes : List (K × Option V)
  pub room : ℕ

-- the last of an item and those after it, and of a list, if there is one
abbrev pub last_after : {A : Type 0} → A → List A → A
last_after x [] = x
last_after x (y ∷ ys) = last_after y ys

abbrev pub last_of : {A : Type 0} → List A → Option A
last_of [] = None
last_of (x ∷ xs) = Some (last_after x xs)

-- how many changes layers have
abbrev pub changes_in : {C : Type 0} → List (List C) → ℕ
changes_in [] = 0
changes_in (l ∷ ls) = changes_in ls + length l

-- the changes, or without removals those that set a value
abbrev pub kept : {K V : Type 0} → Bool → List (K × Option V) → List (K × Option V)
kept {K} {V} removals cs = filter (λ (c : K × Option V). removals || is_some c.1) cs

-- the values that changes set
abbrev pub values_set : {V : Type 0} → List (Option V) → List V
values_set [] = []
values_set (w ∷ ws) = option_to_list w ++ values_set ws

-- the value of a pair
abbrev pub value_of : {K V : Type 0} → K × V → V
value_of p = p.1

-- the key of a pair
abbrev pub key_of : {K V : Type 0} → K × V → K
key_of p = p.0

-- what two references show
abbrev pub both_seen : {K V : Type 0} → Bor K × Bor V → K × V
both_seen p = (p.0.now, p.1.now)

-- what references to a key and, if there is one, to a value show
abbrev pub change_seen : {K V : Type 0} → Bor K × Option (Bor V) → K × Option V
change_seen p = (p.0.now, option_copied p.1)

-- what a change makes of what stood at its key
abbrev pub changed_to : {K V : Type 0} → K → Option V → Option (K × V)
changed_to j None = None
changed_to j (Some v) = Some (j, v)

module _ {K : Type 0} (cmp : K → K → Ordering) where
  -- the pair at a key
  abbrev pub pair_at : {V : Type 0} → K → List (K × V) → Option (K × V)
  pair_at {V} k ps = find (λ (p : K × V). is_eq (cmp k p.0)) ps

  -- the value at a key
  abbrev pub value_at : {V : Type 0} → K → List (K × V) → Option V
  value_at {V} k ps = option_map (λ (p : K × V). p.1) (pair_at k ps)

  -- a key is above this one, if one is given
  abbrev pub is_above : Option K → K → Bool
  is_above None j = true
  is_above (Some k) j = is_gt (cmp j k)

  -- the first pair whose key is above this one, or the first of all
  abbrev pub next_of : {V : Type 0} → Option K → List (K × V) → Option (K × V)
  next_of {V} last ps = find (λ (p : K × V). is_above last p.0) ps

  -- the values of the keys above this one, or of all
  abbrev pub values_above : {V : Type 0} → Option K → List (K × V) → List V
  values_above {V} last ps = map value_of (filter (λ (p : K × V). is_above last p.0) ps)

  -- the same of a table, if there is one
  abbrev pub values_in : {V : Type 0} → Option K → Option (Table K V) → List V
  values_in last None = []
  values_in last (Some t) = values_above last t.map

  -- the keys rise strictly
  abbrev pub IsMap : {V : Type 0} → List (K × V) → Type 0
  IsMap ps = IsRisingBy cmp key_of ps

  -- a key comes before the first of these, if there is one
  abbrev pub is_first : {V : Type 0} → K → List (K × V) → Bool
  is_first k [] = true
  is_first k (p ∷ ps) = is_lt (cmp k p.0)

  -- a key with a value is set, one without is removed
  abbrev pub set_at : {V : Type 0} → K → Option V → List (K × V) → List (K × V)
  set_at k (Some v) map = put_by cmp key_of (k, v) map
  set_at k None map = without_by cmp key_of k map

  -- a map under a layer
  abbrev pub laid : {V : Type 0} → List (K × V) → List (K × Option V) → List (K × V)
  laid map [] = map
  laid map (c ∷ cs) = laid (set_at c.0 c.1 map) cs

  -- a map under layers, the last on top
  abbrev pub under : {V : Type 0} → List (K × V) → List (List (K × Option V)) → List (K × V)
  under map [] = map
  under map (l ∷ ls) = under (laid map l) ls

  -- how two keys compare, where one that is missing is less than any
  abbrev pub compared_keys : Option K → Option K → Ordering
  compared_keys None b = Less
  compared_keys (Some a) None = Greater
  compared_keys (Some a) (Some b) = cmp a b

  -- the lesser of two keys, if there is one
  abbrev pub lesser : Option K → Option K → Option K
  lesser None b = b
  lesser (Some a) None = Some a
  lesser (Some a) (Some b) = if is_lt (cmp b a) then Some b else Some a

  -- the least key above this one in any layer
  abbrev pub least_in : {V : Type 0} → Option K → List (List (K × Option V)) → Option K
  least_in last [] = None
  least_in last (l ∷ ls) = lesser (option_map key_of (next_of last l)) (least_in last ls)

  -- how many keys the layers have above this one
  abbrev pub left_above : {V : Type 0} → Option K → List (List (K × Option V)) → ℕ
  left_above last [] = 0
  left_above {V} last (l ∷ ls) = length (filter (λ (c : K × Option V). is_above last c.0) l) + left_above last ls

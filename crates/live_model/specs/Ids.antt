-- Ids of objects: a kind and a number.
use Rattle.std.specs.Prelude.{ℕ, ◌^◌, ◌*◌, ◌+◌, ◌-◌, ◌≤◌, ℤ, pos, negsuc, unsigned_abs}
use Rattle.live_model.specs.declared.ids.Kind.{Kind}
use Rattle.live_model.specs.declared.ids.Kind.TheVariants.{Node, Way, Relation}

-- what an object is known by
pub record Id : Type 0 where
  pub kind : Kind
  pub number : ℤ

-- the number has magnitude at most 2^48
abbrev pub IsId : Id → Type 0
IsId o = unsigned_abs o.number ≤ 2 ^ 48

-- nodes come before ways, and ways before relations
abbrev pub rank : Kind → ℕ
rank Node = 0
rank Way = 1
rank Relation = 2

-- a number of at least -by, moved up by that much
abbrev pub lifted_by : ℕ → ℤ → ℕ
lifted_by by (pos n) = by + n
lifted_by by (negsuc n) = by - (n + 1)

-- the place of an id in the order by kind, then by number
abbrev pub ordinal : Id → ℕ
ordinal o = rank o.kind * 2 ^ 50 + lifted_by (2 ^ 48) o.number

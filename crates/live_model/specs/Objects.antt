-- What an object of the map may hold.
use Rattle.std.specs.Prelude.{◌≡◌, ◌≤◌, List, [], length, Option, None, ℤ, unsigned_abs, ◌^◌}
use Rattle.std.specs.Ordering.{nat_cmp}
use Rattle.std.specs.Cmp.Lexicographic.{slice_cmp}
use Rattle.std.specs.Option.{IfSome}
use Rattle.std.specs.List.{AllByRecursion}
use Rattle.live_model.specs.declared.ids.Kind.{Kind}
use Rattle.live_model.specs.declared.ids.Kind.TheVariants.{Node, Way, Relation}
use Rattle.live_model.specs.declared.points.Point.{Point}
use Rattle.live_model.specs.declared.objects.Tag.{Tag}
use Rattle.live_model.specs.declared.objects.Member.{Member}
use Rattle.live_model.specs.declared.objects.Entity.{Entity}
use Rattle.live_model.specs.declared.objects.Line.{Line}
use Rattle.live_model.specs.declared.objects.Line.TheVariants.{Live, Gone}
use Rattle.live_model.specs.Ids.{IsId}
use Rattle.live_model.specs.Points.{IsInGrid}
use Rattle.ordered_lists.specs.Ordered.{IsRisingBy}

-- tags in the order of the bytes of their keys, no key twice
abbrev pub AreTags : List Tag → Type 0
AreTags tags = IsRisingBy (slice_cmp nat_cmp) (λ t. t.key) tags

-- only a node has a place, only a way has references, and only a relation has members
abbrev pub HasParts : Kind → Option Point → List ℤ → List Member → Type 0
HasParts Node place refs members = (refs ≡ []) × (members ≡ [])
HasParts Way place refs members = (place ≡ None) × (members ≡ [])
HasParts Relation place refs members = (place ≡ None) × (refs ≡ [])

-- an object as the map may hold it
pub record IsGood (e : Entity) : Type 0 where
  pub id : IsId e.id
  pub tags : AreTags e.tags
  pub parts : HasParts e.id.kind e.place e.refs e.members
  pub place : IfSome e.place IsInGrid
  pub few_tags : length e.tags ≤ 65535
  pub few_refs : length e.refs ≤ 65535
  pub few_members : length e.members ≤ 65535
  pub refs : AllByRecursion (λ n. unsigned_abs n ≤ 2 ^ 48) e.refs
  pub members : AllByRecursion (λ m. IsId m.target) e.members

-- a good object, or the id of one that is gone
abbrev pub IsGoodLine : Line → Type 0
IsGoodLine (Live e) = IsGood e
IsGoodLine (Gone o version) = IsId o

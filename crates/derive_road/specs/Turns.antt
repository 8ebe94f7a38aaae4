-- The members of a turn restriction.
use Rattle.std.specs.Prelude.{ℕ, List, [], ◌∷◌, Bool, ◌&&◌, ◌==◌, Option, Some, None, map, filter, bytes_eq}
use Rattle.live_model.specs.declared.ids.Kind.{Kind}
use Rattle.live_model.specs.declared.objects.Member.{Member}
use Rattle.live_model.specs.Ids.{Id, rank}
use Rattle.live_model.specs.Records.{the_only}

-- the member is of this kind and has this role
abbrev pub is_member_as : Kind → List ℕ → Member → Bool
is_member_as kind role m = (rank m.target.kind == rank kind) && bytes_eq m.role role

-- the objects that members of this kind and role name, in order
abbrev pub targets_as : Kind → List ℕ → List Member → List Id
targets_as kind role members = map (λ m. m.target) (filter (is_member_as kind role) members)

-- the only one of those that were seen, one at most, and of those that are still to come
abbrev pub only_after : Option Id → List Id → Option Id
only_after None ids = the_only ids
only_after (Some id) [] = Some id
only_after (Some id) (other ∷ ids) = None

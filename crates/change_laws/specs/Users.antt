-- How those who refer to an object follow lines, and which objects a change can touch.
use Rattle.std.specs.Prelude.{◌≡◌, List, ◌++◌, Bool, false, not, map, filter, flat_map}
use Rattle.std.specs.List.{AllByRecursion}
use Rattle.std.specs.Ordering.{nat_cmp}
use Rattle.live_model.specs.declared.objects.Entity.{Entity}
use Rattle.live_model.specs.declared.objects.Line.{Line}
use Rattle.live_model.specs.declared.rules.Rule.{Rule}
use Rattle.live_model.specs.Ids.{Id, IsId, ordinal}
use Rattle.live_model.specs.Objects.{IsGoodLine}
use Rattle.ordered_lists.specs.Ordered.{IsRisingBy}
use Rattle.live_model.specs.Stores.{IsStore, apply}
use Rattle.live_model.specs.Closures.{rising_ids, referred, entity_at, line_id, is_named, is_touched}
use Rattle.live_model.specs.Users.{is_among, users_of, touched}
use Rattle.live_model.specs.Maps.{differs, changed}

-- the object is there and refers to this id
abbrev pub refers_at : List Entity → Id → Id → Bool
refers_at store id user = is_among (referred (entity_at store user)) id

-- the users after lines: those before that no line names, and the named ones that refer to the id now
abbrev pub users_then : List Entity → List Line → Id → List Id
users_then store lines id =
    rising_ids (filter (λ u. not (is_named lines u)) (users_of store id) ++ filter (refers_at (apply store lines) id) (map line_id lines))

-- an object uses an id exactly where it is there and refers to it
abbrev pub UsersLaw : Type 0
UsersLaw = (store : List Entity) (id user : Id) → IsStore store → is_among (users_of store id) user ≡ refers_at store id user

-- users rise strictly, and are good ids
abbrev pub UsersRiseLaw : Type 0
UsersRiseLaw = (store : List Entity) (id : Id) → IsStore store → IsRisingBy nat_cmp ordinal (users_of store id) × AllByRecursion IsId (users_of store id)

-- the users after lines are told by the users before and by the objects of the lines after
abbrev pub UsersThenLaw : Type 0
UsersThenLaw = (store : List Entity) (lines : List Line) (id : Id) → IsStore store → AllByRecursion IsGoodLine lines → users_of (apply store lines) id ≡ users_then store lines id

-- the marks of an overlay are exactly those of the touched objects whose records differ
abbrev pub TouchedMarksLaw : Type 0
TouchedMarksLaw =
    (rules : List Rule) (store : List Entity) (lines : List Line) → IsStore store → AllByRecursion IsGoodLine lines
    → changed rules store (apply store lines) ≡ filter (differs rules store (apply store lines)) (touched store lines)

-- the list of touched objects has exactly those that lines touch, before or after, each once
pub record AreTouched (store : List Entity) (lines : List Line) (ids : List Id) : Type 0 where
  pub rising : IsRisingBy nat_cmp ordinal ids
  pub good : AllByRecursion IsId ids
  pub before : (id : Id) → is_among ids id ≡ is_touched store lines id
  pub after : (id : Id) → is_among ids id ≡ is_touched (apply store lines) lines id

abbrev pub TouchedLaw : Type 0
TouchedLaw = (store : List Entity) (lines : List Line) → IsStore store → AllByRecursion IsGoodLine lines → AreTouched store lines (touched store lines)

-- what the objects of the lines refer to, before the lines or after them
abbrev pub targets : List Entity → List Line → List Id
targets store lines = flat_map (λ line. referred (entity_at store (line_id line)) ++ referred (entity_at (apply store lines) (line_id line))) lines

-- an id to which no object of the lines refers, before or after, keeps its users
abbrev pub UsersStayLaw : Type 0
UsersStayLaw =
    (store : List Entity) (lines : List Line) (id : Id) → IsStore store → AllByRecursion IsGoodLine lines → is_among (targets store lines) id ≡ false
    → users_of (apply store lines) id ≡ users_of store id

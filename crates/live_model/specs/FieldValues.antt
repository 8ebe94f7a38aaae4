-- What the value of a field spells, letter by letter.
use Rattle.std.specs.Prelude.{ℕ, List, [], ◌∷◌, length, codes, Bool, true, false, ◌&&◌, ◌||◌, nat_le, ◌==◌, Option, Some, None, if◌then◌else◌, ℤ, is_some}
use Rattle.std.specs.Option.{option_map, option_and_then}
use Rattle.std.specs.List.{slice_split, before_first, after_first}
use Rattle.std.specs.Ordering.{nat_cmp}
use Rattle.std.specs.Cmp.Lexicographic.{slice_cmp}
use Rattle.text_pieces.specs.Numbers.{number_of, are_digits, is_digit, id_of, without_minus}
use Rattle.text_pieces.specs.Coordinates.{degrees_of}
use Rattle.text_pieces.specs.Escapes.{text_of}
use Rattle.live_model.specs.declared.ids.Kind.{Kind}
use Rattle.live_model.specs.declared.ids.Kind.TheVariants.{Node, Way, Relation}
use Rattle.live_model.specs.declared.objects.Tag.{Tag}
use Rattle.live_model.specs.declared.objects.Member.{Member}
use Rattle.live_model.specs.Ids.{Id}
use Rattle.ordered_lists.specs.Ordered.{put_all}

-- Lists.

-- the items between commas, and none in the empty value
abbrev pub items_of : List ℕ → List (List ℕ)
items_of [] = []
items_of (c ∷ cs) = slice_split (λ b. b == 44) (c ∷ cs)

-- at most 65,535 items as they are written
abbrev pub is_few : List ℕ → Bool
is_few value = nat_le (length (items_of value)) 65535

-- an item before others, where both are there
abbrev pub prepended : {A : Type 0} → Option A → Option (List A) → Option (List A)
prepended (Some x) (Some xs) = Some (x ∷ xs)
prepended x xs = None

-- what each item spells, where each does
abbrev pub each_of : {A : Type 0} → (List ℕ → Option A) → List (List ℕ) → Option (List A)
each_of read [] = Some []
each_of read (item ∷ items) = prepended (read item) (each_of read items)

-- what stands before the first byte c and what stands behind it, where there is one
abbrev pub parted_at : ℕ → List ℕ → Option (List ℕ × List ℕ)
parted_at c bytes =
    if length (before_first (λ b. b == c) bytes) == length bytes then None
    else Some (before_first (λ b. b == c) bytes, after_first (λ b. b == c) bytes)

-- Ids with their letter.

-- the kind of a letter
abbrev pub kind_of : ℕ → Option Kind
kind_of c = if c == 110 then Some Node else if c == 119 then Some Way else if c == 114 then Some Relation else None

-- an id of a kind and a number, where both are there
abbrev pub id_from : Option Kind → Option ℤ → Option Id
id_from (Some kind) (Some number) = Some (record { kind = kind; number = number })
id_from kind number = None

-- `n`, `w` or `r` and an id
unfoldable pub object_of : List ℕ → Option Id
object_of [] = None
object_of (c ∷ cs) = id_from (kind_of c) (id_of cs)

-- `n` and an id
unfoldable pub ref_of : List ℕ → Option ℤ
ref_of [] = None
ref_of (c ∷ cs) = if c == 110 then id_of cs else None

-- The values.

-- 1 to 10 digits, at most 4,294,967,295
unfoldable pub version_of : List ℕ → Option ℕ
version_of value = number_of 10 4294967295 value

-- `V` is live, and `D` is gone
unfoldable pub gone_of : List ℕ → Option Bool
gone_of (c ∷ []) = if c == 86 then Some false else if c == 68 then Some true else None
gone_of value = None

-- a changeset or a user: a minus or none, and 1 to 19 digits
unfoldable pub is_count : List ℕ → Bool
is_count value = are_digits 19 (without_minus value)

-- a digit for each `d` of the form, and else the byte itself
abbrev pub has_form : List ℕ → List ℕ → Bool
has_form [] [] = true
has_form (f ∷ fs) (c ∷ cs) = (if f == 100 then is_digit c else c == f) && has_form fs cs
has_form fs cs = false

-- nothing, or a time
unfoldable pub is_time : List ℕ → Bool
is_time value = (length value == 0) || has_form (codes "dddd-dd-ddTdd:dd:ddZ") value

-- nothing, or a coordinate of magnitude at most `most`
unfoldable pub coordinate_of : ℕ → List ℕ → Option (Option ℤ)
coordinate_of most [] = Some None
coordinate_of most (c ∷ cs) = option_map Some (degrees_of most (c ∷ cs))

-- nothing, or at most 180 degrees to the east or west
abbrev pub longitude_of : List ℕ → Option (Option ℤ)
longitude_of value = coordinate_of 1800000000 value

-- nothing, or at most 90 degrees to the north or south
abbrev pub latitude_of : List ℕ → Option (Option ℤ)
latitude_of value = coordinate_of 900000000 value

-- a tag of a key and a value, where both are there
abbrev pub tag_from : Option (List ℕ) → Option (List ℕ) → Option Tag
tag_from (Some key) (Some value) = Some (record { key = key; value = value })
tag_from key value = None

-- a key, `=` and a value
unfoldable pub tag_of : List ℕ → Option Tag
tag_of item = option_and_then (λ parts. tag_from (text_of parts.0) (text_of parts.1)) (parted_at 61 item)

-- the pairs as they are written, parted by commas
unfoldable pub pairs_of : List ℕ → Option (List Tag)
pairs_of value = each_of tag_of (items_of value)

-- the pairs in the order of the bytes of their keys; of the pairs with one key the last stands
abbrev pub tags_from : List Tag → List Tag
tags_from pairs = put_all (slice_cmp nat_cmp) (λ t. t.key) [] pairs

-- the references of a way
unfoldable pub refs_of : List ℕ → Option (List ℤ)
refs_of value = each_of ref_of (items_of value)

-- a member of a target and a role, where both are there
abbrev pub member_from : Option Id → Option (List ℕ) → Option Member
member_from (Some target) (Some role) = Some (record { target = target; role = role })
member_from target role = None

-- an id with its letter, `@` and a role
unfoldable pub member_of : List ℕ → Option Member
member_of item = option_and_then (λ parts. member_from (object_of parts.0) (text_of parts.1)) (parted_at 64 item)

-- the members of a relation
unfoldable pub members_of : List ℕ → Option (List Member)
members_of value = each_of member_of (items_of value)

-- a reference and then this letter, whatever stands behind it
abbrev pub is_located_by : ℕ → List ℕ → Bool
is_located_by c item = is_some (option_and_then (λ parts. ref_of parts.0) (parted_at c item))

-- a reference and then `x` or `y`
abbrev pub is_located : List ℕ → Bool
is_located item = is_located_by 120 item || is_located_by 121 item

-- the first item that is no reference is a located one
abbrev pub breaks_located : List (List ℕ) → Bool
breaks_located [] = false
breaks_located (item ∷ items) = if is_some (ref_of item) then breaks_located items else is_located item

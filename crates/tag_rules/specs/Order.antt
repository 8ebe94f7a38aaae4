-- The order of the places of rules.
use Rattle.std.specs.Prelude.{ℕ, List, [], length, slice_get, Bool, ◌&&◌, ◌==◌, Option, Some, None, bytes_eq}
use Rattle.std.specs.List.{range_with_len}
use Rattle.std.specs.List.Sorted.{IsSortedBy, IsPermutation}
use Rattle.std.specs.Ordering.{nat_cmp, ordering_then, is_lt}
use Rattle.std.specs.Cmp.Lexicographic.{slice_cmp}
use Rattle.std.specs.declared.cmp.Ordering.{Ordering}
use Rattle.live_model.specs.declared.rules.Rule.{Rule}
use Rattle.live_model.specs.Rules.{shape_rank}
use Rattle.tag_rules.specs.declared.places.Wanted.{Wanted}

-- what a rule wants of an object: its shape, and a tag of it by key and value; no value has no byte, and stands for the star
pub record Want : Type 0 where
  pub shape : ℕ
  pub tag_key : List ℕ
  pub tag_value : List ℕ

-- the bytes of a text, and none where there is no text
abbrev pub bytes_or_none : Option (List ℕ) → List ℕ
bytes_or_none None = []
bytes_or_none (Some text) = text

-- what this rule wants
abbrev pub want : Rule → Want
want r = record { shape = shape_rank r.shape; tag_key = r.key; tag_value = bytes_or_none r.value }

-- what is wanted, as the code holds it
abbrev pub seen_want : Wanted → Want
seen_want w = record { shape = shape_rank w.shape; tag_key = w.key.now; tag_value = w.value.now }

-- the rule wants this
abbrev pub wants : Want → Rule → Bool
wants w r = (shape_rank r.shape == w.shape) && (bytes_eq r.key w.tag_key && bytes_eq (bytes_or_none r.value) w.tag_value)

-- by shape, then by key, then by value
abbrev pub want_cmp : Want → Want → Ordering
want_cmp a b = ordering_then (nat_cmp a.shape b.shape) (ordering_then (slice_cmp nat_cmp a.tag_key b.tag_key) (slice_cmp nat_cmp a.tag_value b.tag_value))

-- where there is no rule, what no rule wants: a rule's key has a byte
abbrev pub want_or_none : Option Rule → Want
want_or_none None = record { shape = 0; tag_key = []; tag_value = [] }
want_or_none (Some r) = want r

-- what the rule at a place wants
abbrev pub want_at : List Rule → ℕ → Want
want_at rules place = want_or_none (slice_get rules place)

-- by what the rule at a place wants, and then by the place, against a want and a place
abbrev pub stand_cmp : List Rule → ℕ → Want → ℕ → Ordering
stand_cmp rules place w from = ordering_then (want_cmp (want_at rules place) w) (nat_cmp place from)

-- the same of two places
abbrev pub place_cmp : List Rule → ℕ → ℕ → Ordering
place_cmp rules a b = stand_cmp rules a (want_at rules b) b

-- the places of all rules, by what the rules want, and of those that want the same by the place
pub record IsOrder (rules : List Rule) (order : List ℕ) : Type 0 where
  pub all : IsPermutation (range_with_len 0 (length rules)) order
  pub sorted : IsSortedBy (λ a b. is_lt (place_cmp rules a b)) order

-- The categories that rules give an object.
use Rattle.std.specs.Prelude.{ℕ, List, [], filter_map}
use Rattle.std.specs.Ordering.{nat_cmp}
use Rattle.std.specs.Cmp.Lexicographic.{slice_cmp}
use Rattle.live_model.specs.declared.rules.Rule.{Rule}
use Rattle.ordered_lists.specs.Ordered.{put_all}
use Rattle.live_model.specs.Records.{category_of}

-- the categories of these rules, in their order
abbrev pub categories_of : List (ℕ × Rule) → List (List ℕ)
categories_of rules = filter_map (λ r. category_of r.1.class) rules

-- texts rising by their bytes, each once
abbrev pub each_once : List (List ℕ) → List (List ℕ)
each_once texts = put_all (slice_cmp nat_cmp) (λ t. t) [] texts

-- Tags that are brought in order.
use Rattle.std.specs.Prelude.{◌≡◌, ℕ, List, [], ◌∷◌}
use Rattle.std.specs.Ordering.{nat_cmp}
use Rattle.std.specs.declared.cmp.Ordering.TheVariants.{Less}
use Rattle.std.specs.Cmp.Lexicographic.{slice_cmp}
use Rattle.live_model.specs.declared.objects.Tag.{Tag}

-- a key comes before that of the first tag, if there is one
abbrev pub ComesFirst : List ℕ → List Tag → Type 0
ComesFirst key [] = Unit {0}
ComesFirst key (t ∷ ts) = slice_cmp nat_cmp key t.key ≡ Less

-- What stands beside a section, as the code holds it.
use Rattle.std.specs.Prelude.{ℕ, List, Option, Some, None}
use Rattle.std.specs.Ordering.{nat_cmp}
use Rattle.ordered_lists.specs.Ordered.{IsRisingBy}
use Rattle.obf_wire.specs.declared.file.Marks.{Marks}
use Rattle.obf_wire.specs.declared.file.Marks.TheVariants.{Any, Only}
use Rattle.file_grammar.specs.BoxRules.{Beside}
use Rattle.boxed_exact.specs.declared.around.Around.{Around}

-- the ordinals, where not every one may stand
abbrev pub ordinals_of : Marks → Option (List ℕ)
ordinals_of Any = None
ordinals_of (Only ordinals) = Some ordinals.now

-- they rise strictly
abbrev pub AreRising : Marks → Type 0
AreRising Any = Unit {0}
AreRising (Only ordinals) = IsRisingBy nat_cmp (λ n. n) ordinals.now

abbrev pub beside : Around → Beside
beside around = record { rules = around.rules.now; marks = ordinals_of around.marks }

-- The names of the kinds of misfits.
use Rattle.std.specs.Prelude.{ℕ, List, codes}
use Rattle.file_order.specs.declared.kinds.RunKind.{RunKind}
use Rattle.file_order.specs.declared.kinds.RunKind.TheVariants as kind

-- the name of a kind of misfit
abbrev pub run_kind_name : RunKind → List ℕ
run_kind_name kind.IsBase = codes "IsBase"
run_kind_name kind.OtherRules = codes "OtherRules"
run_kind_name kind.StampNotLater = codes "StampNotLater"
run_kind_name kind.OtherPeriod = codes "OtherPeriod"
run_kind_name kind.NotBase = codes "NotBase"

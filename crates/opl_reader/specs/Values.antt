-- What a reader of a value owes where it refuses the value.
use Rattle.std.specs.Prelude.{◌≡◌, List, Bool, Some}
use Rattle.live_model.specs.declared.opl.OplKind.{OplKind}
use Rattle.live_model.specs.LineTests.{failure_kind}
use Rattle.opl_reader.specs.declared.value_error.ValueError.{ValueError}
use Rattle.opl_reader.specs.declared.value_error.ValueError.TheVariants.{NoMemory, Bad}

-- memory was refused, or the first of the tests that fails has this kind
abbrev pub FailsBy : List (OplKind × Bool) → ValueError → Type 0
FailsBy tests NoMemory = Unit {0}
FailsBy tests (Bad kind) = failure_kind tests ≡ Some kind

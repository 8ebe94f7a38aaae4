-- How a line of a script is read, field by field.
use Rattle.std.specs.Prelude.{◌≡◌, ◌≤◌, ◌≢◌, ℕ, List, Some}
use Rattle.script_text.specs.declared.breaks.ScriptKind.{ScriptKind}
use Rattle.line_texts.specs.declared.errors.LineError.{LineError}
use Rattle.line_texts.specs.declared.errors.LineError.TheVariants.{NoMemory, Broken}
use Rattle.script_text.specs.Scripts.{StepTest, first_failure}

-- memory was refused, or the first of these tests that fails is this one, at a place that is not after the end of the line
abbrev pub IsFailure : List StepTest → ℕ → LineError ScriptKind → Type 0
IsFailure tests end NoMemory = Unit {0}
IsFailure tests end (Broken b) = (first_failure tests ≡ Some (b.at, b.kind)) × (b.at ≤ end)

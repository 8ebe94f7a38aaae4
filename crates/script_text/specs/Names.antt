-- A field that spells no name.
use Rattle.std.specs.Prelude.{◌≡◌, ℕ, List, None}
use Rattle.line_texts.specs.declared.errors.LineError.{LineError}
use Rattle.line_texts.specs.declared.errors.LineError.TheVariants.{NoMemory, Broken}
use Rattle.script_text.specs.declared.breaks.ScriptKind.{ScriptKind}
use Rattle.script_text.specs.declared.breaks.ScriptKind.TheVariants.{BadName}
use Rattle.script_text.specs.Scripts.{name_of}

-- memory was refused, or the field at this place spells none, and that is reported there
abbrev pub IsUnnamed : ℕ → List ℕ → LineError ScriptKind → Type 0
IsUnnamed at field NoMemory = Unit {0}
IsUnnamed at field (Broken b) = (b ≡ record { at = at; kind = BadName }) × (name_of field ≡ None)

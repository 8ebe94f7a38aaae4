-- The first break of a section.
use Rattle.std.specs.Prelude.{◌≡◌, Option, Some, Result, Ok, Err}
use Rattle.obf_wire.specs.declared.file.FileBreak.{FileBreak}
use Rattle.obf_wire.specs.declared.file.FileError.{FileError}
use Rattle.obf_wire.specs.declared.file.FileError.TheVariants.{NoMemory, Broken}
use Rattle.obf_wire.specs.Fields.{Window}
use Rattle.file_grammar.specs.declared.parts.Boxed.{Boxed}
use Rattle.file_grammar.specs.declared.parts.Part.TheVariants.{Boxes}
use Rattle.file_grammar.specs.BoxRules.{Beside, Boxing, section_facts}
use Rattle.file_grammar.specs.Facts.{first_failing}
use Rattle.file_grammar.specs.Messages.{Fields}
use Rattle.file_grammar.specs.Readings.{message_at}
use Rattle.file_grammar.specs.Sections.{section_in}

-- the break of form, else that of the fields
abbrev pub form_then : (Fields → Option FileBreak) → Result Fields FileBreak → Option FileBreak
form_then rules (Ok fields) = rules fields
form_then rules (Err b) = Some b

-- the first rule that fails of a section of good form
abbrev pub rules_break : Boxing → Beside → Fields → Option FileBreak
rules_break boxing beside fields = first_failing (section_facts boxing beside (section_in fields))

-- the first break of the bytes of the window as a section of the class
abbrev pub section_break : Boxed → Boxing → Beside → Window → Option FileBreak
section_break class boxing beside w = form_then (rules_break boxing beside) (message_at (Boxes class) w)

-- the error tells this break; out of memory has no cause in the bytes
abbrev pub Breaks : FileError → Option FileBreak → Type 0
Breaks NoMemory first = Unit {0}
Breaks (Broken b) first = first ≡ Some b

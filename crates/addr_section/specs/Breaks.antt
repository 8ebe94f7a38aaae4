-- The first break of addresses.
use Rattle.std.specs.Prelude.{Option}
use Rattle.obf_wire.specs.declared.file.FileBreak.{FileBreak}
use Rattle.obf_wire.specs.Fields.{Window}
use Rattle.file_grammar.specs.declared.parts.Part.TheVariants.{Addresses}
use Rattle.file_grammar.specs.declared.parts.Version.{Version}
use Rattle.file_grammar.specs.AddressRules.{addresses_facts, addresses_of}
use Rattle.file_grammar.specs.BoxRules.{Beside}
use Rattle.file_grammar.specs.Facts.{first_failing}
use Rattle.file_grammar.specs.Messages.{Fields}
use Rattle.file_grammar.specs.Readings.{message_at}
use Rattle.boxed_exact.specs.Breaks.{form_then}

-- the first rule that fails of addresses of good form
abbrev pub rules_break : Beside → Fields → Option FileBreak
rules_break beside fields = first_failing (addresses_facts beside (addresses_of fields))

-- the first break of the bytes of the window as the addresses of a file of this version
abbrev pub addresses_break : Version → Beside → Window → Option FileBreak
addresses_break version beside w = form_then (rules_break beside) (message_at (Addresses version) w)

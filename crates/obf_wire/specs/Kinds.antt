-- Numbers and names of what can be wrong at a place.
use Rattle.std.specs.Prelude.{ℕ, List, codes}
use Rattle.obf_wire.specs.declared.breaks.WireKind.{WireKind}
use Rattle.obf_wire.specs.declared.breaks.WireKind.TheVariants as wire
use Rattle.obf_wire.specs.declared.breaks.WireBreak.{WireBreak}
use Rattle.obf_wire.specs.declared.file.FileKind.{FileKind}
use Rattle.obf_wire.specs.declared.file.FileKind.TheVariants as file
use Rattle.obf_wire.specs.declared.file.FileBreak.{FileBreak}

-- the number of a kind of the wire form
abbrev pub wire_number : WireKind → ℕ
wire_number wire.Short = 1
wire_number wire.LongVarint = 2
wire_number wire.BadKey = 3
wire_number wire.OverEnd = 4

-- the number of a kind of the file
abbrev pub file_number : FileKind → ℕ
file_number file.Short = 1
file_number file.LongVarint = 2
file_number file.BadKey = 3
file_number file.OverEnd = 4
file_number file.BadVersion = 5
file_number file.BadHead = 6
file_number file.BadRules = 7
file_number file.BadText = 8
file_number file.BadOrder = 9
file_number file.BadId = 10
file_number file.BadRef = 11
file_number file.BadPoint = 12
file_number file.BadBox = 13
file_number file.BadPlace = 14
file_number file.BadMark = 15
file_number file.BadConfirm = 16
file_number file.BadCount = 17

-- the name of a kind of the file
abbrev pub file_name : FileKind → List ℕ
file_name file.Short = codes "Short"
file_name file.LongVarint = codes "LongVarint"
file_name file.BadKey = codes "BadKey"
file_name file.OverEnd = codes "OverEnd"
file_name file.BadVersion = codes "BadVersion"
file_name file.BadHead = codes "BadHead"
file_name file.BadRules = codes "BadRules"
file_name file.BadText = codes "BadText"
file_name file.BadOrder = codes "BadOrder"
file_name file.BadId = codes "BadId"
file_name file.BadRef = codes "BadRef"
file_name file.BadPoint = codes "BadPoint"
file_name file.BadBox = codes "BadBox"
file_name file.BadPlace = codes "BadPlace"
file_name file.BadMark = codes "BadMark"
file_name file.BadConfirm = codes "BadConfirm"
file_name file.BadCount = codes "BadCount"

-- a kind of the wire form as a kind of the file
abbrev pub file_kind : WireKind → FileKind
file_kind wire.Short = file.Short
file_kind wire.LongVarint = file.LongVarint
file_kind wire.BadKey = file.BadKey
file_kind wire.OverEnd = file.OverEnd

-- a break of the wire form as a break of the file, at the same place
abbrev pub file_break : WireBreak → FileBreak
file_break b = record { at = b.at; kind = file_kind b.kind }

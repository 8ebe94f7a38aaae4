-- What a map file holds, found by reading its bytes.
use Rattle.std.specs.Prelude.{ℕ, List, [], map, Option, Some, None, Result, Ok, Err}
use Rattle.live_model.specs.declared.records.Rec.{Rec}
use Rattle.live_model.specs.Maps.{Overlay}
use Rattle.obf_wire.specs.declared.file.FileBreak.{FileBreak}
use Rattle.file_grammar.specs.Files.{FileParts, file_in, file_records}
use Rattle.file_grammar.specs.Messages.{Fields}
use Rattle.file_grammar.specs.Sections.{object_of}
use Rattle.obf_reader.specs.Images.{Seen}
use Rattle.obf_reader.specs.Spread.{read_file}

-- Parts.

-- of bytes that were read; a file of good form always has them
abbrev pub parts_read : Result Fields FileBreak → Option FileParts
parts_read (Err b) = None
parts_read (Ok fields) = file_in fields

-- the parts of the file that an image is
unfoldable pub parts_of : Seen → Option FileParts
parts_of image = parts_read (read_file image.bytes)

-- Records.

-- the records of a file of good form, which always has its parts
abbrev pub records_of : Option FileParts → List Rec
records_of None = []
records_of (Some parts) = file_records parts

-- of bytes that were read
abbrev pub records_read : Result Fields FileBreak → List Rec
records_read (Err b) = []
records_read (Ok fields) = records_of (file_in fields)

-- the records of the file that the bytes are, in order
unfoldable pub records_in : List ℕ → List Rec
records_in bytes = records_read (read_file bytes)

-- what an image lays over a map: the objects that it marks, and all its records
abbrev pub overlay_of : Seen → Overlay
overlay_of image = record { marks = map object_of image.marks; records = records_in image.bytes }

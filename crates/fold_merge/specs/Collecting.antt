-- Records as they are collected, before they are sorted.
use Rattle.std.specs.Prelude.{ℕ, List, [], ◌∷◌, ◌++◌, filter, Option, Some, None, Result, Ok, Err}
use Rattle.live_model.specs.declared.records.PoiRec.{PoiRec}
use Rattle.live_model.specs.declared.records.Rec.{Rec}
use Rattle.obf_wire.specs.declared.file.FileBreak.{FileBreak}
use Rattle.file_grammar.specs.Files.{FileParts, file_in, section_records}
use Rattle.file_grammar.specs.Messages.{Fields}
use Rattle.boxed_read.specs.Steps.{joined}
use Rattle.poi_section.specs.PoiSections.{GroupRead}
use Rattle.map_laws.specs.Laws.{untouched_by}
use Rattle.obf_reader.specs.Images.{Seen}
use Rattle.obf_reader.specs.Spread.{read_file}
use Rattle.fold_merge.specs.Folds.{overlays_of}

-- the records of a file of good form, section by section
abbrev pub sections_of : Option FileParts → List Rec
sections_of None = []
sections_of (Some parts) = section_records parts

-- of bytes that were read
abbrev pub sections_read : Result Fields FileBreak → List Rec
sections_read (Err b) = []
sections_read (Ok fields) = sections_of (file_in fields)

-- the records of the file that the bytes are, as they stand in its sections
unfoldable pub sections_in : List ℕ → List Rec
sections_in bytes = sections_read (read_file bytes)

-- the points of interest of a group, as it is read
abbrev pub records_of_group : GroupRead → List PoiRec
records_of_group group = joined group.section.blocks

-- of each image the records on whose objects no later one decides, as they stand
abbrev pub collected : List Seen → List Rec
collected [] = []
collected (image ∷ later) = filter (untouched_by (overlays_of later)) (sections_in image.bytes) ++ collected later

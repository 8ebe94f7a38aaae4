-- What is gathered for a question over several images.
use Rattle.std.specs.Prelude.{ℕ, List, [], ◌∷◌, ◌++◌, filter, map, Option, Some, None}
use Rattle.name_fold.specs.Keys.{key}
use Rattle.live_model.specs.declared.queries.Query.{Query}
use Rattle.live_model.specs.declared.queries.Query.TheVariants.{Prefix, Street}
use Rattle.live_model.specs.declared.records.Rec.{Rec}
use Rattle.file_grammar.specs.Files.{FileParts, section_records}
use Rattle.map_laws.specs.Laws.{gives_rows, untouched_by}
use Rattle.obf_reader.specs.Images.{Seen}
use Rattle.obf_reader.specs.Overlays.{overlay_of, parts_of}

-- the key of the name that is looked for; none where none is
abbrev pub key_of : Query → List ℕ
key_of (Prefix text) = key text
key_of (Street text) = key text
key_of query = []

-- the records of a file, section by section
abbrev pub stored_in : Option FileParts → List Rec
stored_in None = []
stored_in (Some parts) = section_records parts

-- the records of an image that give rows, as they stand in the file
abbrev pub found_in : Query → Seen → List Rec
found_in query image = filter (gives_rows image.rules query) (stored_in (parts_of image))

-- those of several images, without the records on whose objects a later one decides
abbrev pub found_over : Query → List Seen → List Rec
found_over query [] = []
found_over query (image ∷ later) = filter (untouched_by (map overlay_of later)) (found_in query image) ++ found_over query later

-- The parts and the records of the file that an image is.
use Rattle.std.proofs.Common.{◌≡◌, Option, Some, Result, Ok, Err, refl, ap, ◌∙◌}
use Rattle.obf_wire.specs.declared.file.FileBreak.{FileBreak}
use Rattle.file_grammar.specs.Files.{FileParts, file_records}
use Rattle.file_grammar.specs.Messages.{Fields}
use Rattle.obf_reader.specs.Images.{IsImage, Seen}
use Rattle.obf_reader.specs.Overlays.{parts_of, parts_read, records_in, records_of, records_read}
use Rattle.obf_reader.specs.Spread.{read_file}

-- the parts of an image are those that it holds
pub parts_are : (image : Seen) (i : IsImage image) → parts_of image ≡ Some i.holds.parts
unfolding parts_of
parts_are image i = ap parts_read i.holds.form ∙ i.holds.are

-- its records are those of the parts that it holds
pub records_are : (image : Seen) (i : IsImage image) → records_in image.bytes ≡ file_records i.holds.parts
unfolding records_in
records_are image i = ap records_read i.holds.form ∙ ap records_of i.holds.are

read_as_parts : (r : Result Fields FileBreak) → records_read r ≡ records_of (parts_read r)
read_as_parts (Ok fields) = refl
read_as_parts (Err b) = refl

-- the records of bytes are those of the parts that they are read as
pub records_of_parts : (image : Seen) → records_in image.bytes ≡ records_of (parts_of image)
unfolding records_in parts_of
records_of_parts image = read_as_parts (read_file image.bytes)

-- What a map file that was read stands for in a set.
use Rattle.std.specs.Prelude.{List, map}
use Rattle.live_model.specs.Ids.{ordinal}
use Rattle.file_grammar.specs.Files.{IsFile, head_numbers}
use Rattle.obf_reader.specs.Images.{Seen}
use Rattle.obf_reader.specs.Overlays.{overlay_of}
use Rattle.overlay_set.specs.Sets.{Image}

-- its head and rules, and what it lays over a map: the objects that it marks, and the records of the file that its bytes are
abbrev pub image_of : Seen → Image
image_of seen = record { head = seen.head; rules = seen.rules; overlay = overlay_of seen }

-- the bytes are a file of just what this stands for
abbrev pub IsItsFile : Seen → Image → Type 0
IsItsFile seen image = IsFile seen.bytes seen.version (head_numbers image.head) image.rules (map ordinal image.overlay.marks) image.overlay.records

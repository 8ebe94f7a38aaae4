-- The image of parts.
use Rattle.std.specs.Prelude.{◌≡◌, List, length, map}
use Rattle.live_model.specs.declared.records.Rec.{Rec}
use Rattle.live_model.specs.declared.rules.Rule.{Rule}
use Rattle.live_model.specs.Ids.{Id, ordinal}
use Rattle.stamp_core.specs.declared.head.Head.{Head}
use Rattle.file_grammar.specs.Files.{head_numbers}
use Rattle.file_grammar.specs.declared.parts.Version.TheVariants.{Two}
use Rattle.obf_reader.specs.Images.{Seen}
use Rattle.obf_reader.specs.Overlays.{overlay_of}
use Rattle.obf_writer.specs.PackedFile.{IsPackedFile}

-- the bytes of the image are the packed file of these parts, and it is seen to hold them
pub record IsImageOfParts (image : Seen) (head : Head) (rules : List Rule) (marks : List Id) (records : List Rec) : Type 0 where
  pub packed : IsPackedFile image.bytes (head_numbers head) rules (map ordinal marks) records
  pub version : image.version ≡ Two
  pub head_is : image.head ≡ head
  pub rules_are : image.rules ≡ rules
  pub overlay_is : overlay_of image ≡ record { marks = marks; records = records }
  pub count : image.records ≡ length records

-- Map files that are read one after another, and what is seen of them.
use Rattle.std.specs.Prelude.{◌≡◌, ◌++◌, ℕ, List, [], ◌∷◌}
use Rattle.outside.specs.Files.{FilesState}
use Rattle.obf_reader.specs.Images.{Seen}
use Rattle.obf_reader.specs.Overlays.{overlay_of, parts_of}
use Rattle.run_model.specs.Inputs.{in_turn, input, map_file, map_files}
use Rattle.run_model.specs.MapFiles.{map_file_in, parts_in}
use Rattle.run_model.specs.Reads.{ReadInOrder, ReadsGood}

-- an image of these bytes holds what the map file that they are holds
pub record IsHeld (bytes : List ℕ) (image : Seen) : Type 0 where
  pub bytes_are : image.bytes ≡ bytes
  pub parts : parts_in bytes ≡ parts_of image
  pub head : (map_file_in bytes).head ≡ image.head
  pub rules : (map_file_in bytes).rules ≡ image.rules
  pub overlay : (map_file_in bytes).overlay ≡ overlay_of image

-- each image is one of the bytes beside it
abbrev pub AreHeld : List (List ℕ) → List Seen → Type 0
AreHeld [] [] = Unit {0}
AreHeld (text ∷ texts) (image ∷ images) = IsHeld text image × AreHeld texts images
AreHeld texts images = ⊥

-- the file was read, and its image is the last of those at hand now
pub record ReadsImage (before after : FilesState) (name : List ℕ) (old new : List Seen) : Type 0 where
  pub text : List ℕ
  pub read : ReadsGood before after (input name map_file) text
  pub image : Seen
  pub held : IsHeld text image
  pub last : new ≡ old ++ image ∷ []

-- the files of these names were read, one after another, and these are their images
pub record AreRead (before after : FilesState) (names : List (List ℕ)) (images : List Seen) : Type 0 where
  pub texts : List (List ℕ)
  pub reads : ReadInOrder before after (in_turn (map_files names)) texts
  pub held : AreHeld texts images

-- Changes that are read one after another, and made.
use Rattle.std.specs.Prelude.{◌≡◌, ℕ, List}
use Rattle.live_model.specs.declared.objects.Entity.{Entity}
use Rattle.live_model.specs.declared.objects.Line.{Line}
use Rattle.live_model.specs.Maps.{published}
use Rattle.live_model.specs.OplTexts.{OplText}
use Rattle.live_model.specs.Stores.{IsStore, apply}
use Rattle.outside.specs.Files.{FilesState}
use Rattle.run_model.specs.Inputs.{in_turn, input, object_text, object_texts}
use Rattle.run_model.specs.Jobs.{AreTexts}
use Rattle.run_model.specs.Reads.{ReadInOrder, ReadsGood}

-- the file was read, and its lines were made in the store
pub record ReadsChange (before after : FilesState) (name : List ℕ) (old new : List Entity) : Type 0 where
  pub text : List ℕ
  pub read : ReadsGood before after (input name object_text) text
  pub lines : List Line
  pub spelled : OplText text lines
  pub same : new ≡ apply old lines

-- the files of these names were read, one after another, and the lines of each were made in the store
pub record AreMade (before after : FilesState) (names : List (List ℕ)) (old new : List Entity) : Type 0 where
  pub texts : List (List ℕ)
  pub reads : ReadInOrder before after (in_turn (object_texts names)) texts
  pub changes : List (List Line)
  pub spelled : AreTexts texts changes
  pub same : new ≡ published old changes
  pub good : IsStore new

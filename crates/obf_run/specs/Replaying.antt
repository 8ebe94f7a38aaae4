-- The changes of a script, read one after another.
use Rattle.std.specs.Prelude.{◌≡◌, ◌++◌, ℕ, List, [], ◌∷◌, Option, Some, None}
use Rattle.std.specs.List.{AllByRecursion}
use Rattle.live_model.specs.declared.objects.Line.{Line}
use Rattle.live_model.specs.Objects.{IsGoodLine}
use Rattle.live_model.specs.OplTexts.{OplText}
use Rattle.outside.specs.Files.{FilesState, OnlyReads}
use Rattle.run_model.specs.Endings.{Ending}
use Rattle.run_model.specs.Inputs.{in_turn, input, object_text, object_texts}
use Rattle.run_model.specs.Jobs.{AreTexts}
use Rattle.run_model.specs.Reads.{EndsAt, ReadInOrder, ReadsGood}

-- the file was read, and its lines are the last of those at hand now
pub record ReadsLines (before after : FilesState) (name : List ℕ) (old new : List (List Line)) : Type 0 where
  pub text : List ℕ
  pub read : ReadsGood before after (input name object_text) text
  pub lines : List Line
  pub spelled : OplText text lines
  pub good : AllByRecursion IsGoodLine lines
  pub last : new ≡ old ++ lines ∷ []

-- a step that names no file is passed over, and the file of another is read
abbrev pub ReadsStep : FilesState → FilesState → Option (List ℕ) → List (List Line) → List (List Line) → Type 0
ReadsStep before after None old new = (after ≡ before) × (new ≡ old)
ReadsStep before after (Some name) old new = ReadsLines before after name old new

-- the run ended at the file that a step names
abbrev pub EndsAtStep : Option (List ℕ) → FilesState → FilesState → Ending → Type 0
EndsAtStep None before after e = ⊥
EndsAtStep (Some name) before after e = EndsAt (input name object_text) before after e × OnlyReads before after

-- the files of these names were read, one after another, and these are their lines
pub record AreChanges (before after : FilesState) (names : List (List ℕ)) (changes : List (List Line)) : Type 0 where
  pub texts : List (List ℕ)
  pub reads : ReadInOrder before after (in_turn (object_texts names)) texts
  pub spelled : AreTexts texts changes
  pub good : AllByRecursion (λ lines. AllByRecursion IsGoodLine lines) changes

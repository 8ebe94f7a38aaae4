-- Files over a base that stand for its changes, however these are cut into folds.
use Rattle.std.specs.Prelude.{◌≡◌, List, [], ◌∷◌, flat_map}
use Rattle.std.specs.List.{AllByRecursion}
use Rattle.live_model.specs.declared.levels.Level.{Level}
use Rattle.live_model.specs.declared.objects.Line.{Line}
use Rattle.live_model.specs.declared.queries.Query.{Query}
use Rattle.live_model.specs.declared.rules.Rule.{Rule}
use Rattle.live_model.specs.MapLaws.{IsOverlay, overlays}
use Rattle.live_model.specs.Maps.{Overlay, answer, folded, laid, rebuilt}
use Rattle.live_model.specs.Objects.{IsGoodLine}
use Rattle.live_model.specs.Stores.{apply}
use Rattle.obf_reader.specs.Images.{Seen}
use Rattle.obf_reader.specs.Overlays.{overlay_of, records_in}
use Rattle.fold_merge.specs.Folds.{IsFoldOf, overlays_of}

-- the image holds one overlay in place of these
abbrev pub StandsFor : Seen → List Overlay → Type 0
StandsFor image os = overlay_of image ≡ folded os

-- each image stands for its part
abbrev pub StandFor : List Seen → List (List Overlay) → Type 0
StandFor [] [] = Unit {0}
StandFor (image ∷ images) (part ∷ parts) = StandsFor image part × StandFor images parts
StandFor images parts = ⊥

-- Of whatever is made of the images of single overlays by folds, and by folds of folds:

-- the image of an overlay stands for it
abbrev pub OneLaw : Type 0
OneLaw = (image : Seen) (o : Overlay) → IsOverlay o → overlay_of image ≡ o → StandsFor image (o ∷ [])

-- a fold stands for all that its images stand for
abbrev pub FoldLaw : Type 0
FoldLaw = (level : Level) (images : List Seen) (image : Seen) (parts : List (List Overlay)) → StandFor images parts → IsFoldOf level images image → StandsFor image (flat_map (λ part. part) parts)

-- images that stand for the overlays of a history, laid over the image of its base, are the map made anew of both, and answer alike
abbrev pub CutsLaw : Type 0
CutsLaw =
    (rules : List Rule) (lines : List Line) (history : List (List Line)) (base : Seen) (images : List Seen) (parts : List (List Overlay)) → AllByRecursion IsGoodLine lines → AllByRecursion (AllByRecursion IsGoodLine) history
    → records_in base.bytes ≡ rebuilt rules lines [] → flat_map (λ part. part) parts ≡ overlays rules (apply [] lines) history → StandFor images parts
    → (laid (records_in base.bytes) (overlays_of images) ≡ rebuilt rules lines history)
    × ((query : Query) → answer rules query (laid (records_in base.bytes) (overlays_of images)) ≡ answer rules query (rebuilt rules lines history))

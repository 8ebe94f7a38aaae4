-- A history whose hours were folded, in whatever way.
use Rattle.std.specs.Prelude.{◌≡◌, List, ◌∷◌}
use Rattle.live_model.specs.declared.objects.Line.{Line}
use Rattle.live_model.specs.declared.queries.Query.{Query}
use Rattle.live_model.specs.declared.rules.Rule.{Rule}
use Rattle.live_model.specs.Maps.{answer, rebuilt}
use Rattle.obf_reader.specs.Images.{Seen}
use Rattle.query_merge.specs.Questions.{answer_over}
use Rattle.map_history.specs.Written.{AreOfHistory, Change, lines_of}
use Rattle.fold_history.specs.Forests.{AreFolds, Forest, leaves, roots}

-- images are a base and the roots of a forest of folds whose leaves are the hours above this base
pub record IsCut (written images : List Seen) : Type 0 where
  pub base : Seen
  pub forest : Forest
  pub folds : AreFolds forest
  pub hours : written ≡ base ∷ leaves forest
  pub cut : images ≡ base ∷ roots forest

-- a cut of the files of a history answers as the map made anew
abbrev pub CutAnswers : List Seen → List Seen → Type 0
CutAnswers written images =
    (rules : List Rule) (base : List Line) (changes : List Change) (query : Query) → AreOfHistory rules base changes written → IsCut written images
    → answer_over query images ≡ answer rules query (rebuilt rules base (lines_of changes))

-- What is to hold of questions over maps that lie over one another.
use Rattle.std.specs.Prelude.{◌≡◌, List, [], ◌∷◌, ◌++◌, filter, map}
use Rattle.std.specs.List.{AllByRecursion}
use Rattle.live_model.specs.declared.objects.Line.{Line}
use Rattle.live_model.specs.declared.queries.Query.{Query}
use Rattle.live_model.specs.declared.records.Rec.{Rec}
use Rattle.live_model.specs.declared.rules.Rule.{Rule}
use Rattle.live_model.specs.Maps.{Overlay, answer, in_order, laid, rebuilt}
use Rattle.live_model.specs.MapLaws.{AreInOrder, overlays}
use Rattle.live_model.specs.Objects.{IsGoodLine}
use Rattle.live_model.specs.Stores.{apply}
use Rattle.map_laws.specs.Laws.{gives_rows, untouched_by}

-- a map over others, and what was found in it, as it stood
pub record Layer : Type 0 where
  pub overlay : Overlay
  pub found : List Rec

-- what was found in each of several maps, without the records on whose objects a later one decides
abbrev pub gathered : List Layer → List Rec
gathered [] = []
gathered (l ∷ ls) = filter (untouched_by (map (λ m. m.overlay) ls)) l.found ++ gathered ls

-- what was found are the records of the map that give rows to the question
abbrev pub HoldsHits : List Rule → Query → Layer → Type 0
HoldsHits rules query l = in_order l.found ≡ filter (gives_rows rules query) l.overlay.records

-- one sort stands for many: what was found in all maps, sorted once, answers as the maps laid one after another
abbrev pub GatheredLaw : Type 0
GatheredLaw =
    (rules : List Rule) (query : Query) (base : Layer) (ls : List Layer) → AreInOrder base.overlay.records → AllByRecursion (HoldsHits rules query) (base ∷ ls)
    → answer rules query (in_order (gathered (base ∷ ls))) ≡ answer rules query (laid base.overlay.records (map (λ l. l.overlay) ls))

-- the overlays of a history, over the map of its base, answer as the map made anew
abbrev pub HistoryAnswerLaw : Type 0
HistoryAnswerLaw =
    (rules : List Rule) (query : Query) (base : List Line) (history : List (List Line)) → AllByRecursion IsGoodLine base → AllByRecursion (AllByRecursion IsGoodLine) history
    → answer rules query (laid (rebuilt rules base []) (overlays rules (apply [] base) history)) ≡ answer rules query (rebuilt rules base history)

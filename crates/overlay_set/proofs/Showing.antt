-- A set that stands shows the map made anew.
use Rattle.std.proofs.Common.{◌≡◌, List, [], ◌∷◌, ◌++◌, flat_map, refl, sym, ap, subst, ◌∙◌}
use Rattle.std.specs.List.{AllByRecursion}
use Rattle.live_model.specs.declared.objects.Entity.{Entity}
use Rattle.live_model.specs.declared.records.Rec.{Rec}
use Rattle.live_model.specs.declared.rules.Rule.{Rule}
use Rattle.live_model.specs.Stores.{apply}
use Rattle.live_model.specs.Maps.{Overlay, map_of, published, over, laid}
use Rattle.live_model.specs.MapLaws.{MarksItsRecords, IsOverlay, overlays, HistoryLaw, FoldedLaw}
use Rattle.overlay_set.specs.Sets.{Entry, Image, images_of, overlays_of, lines_of, shown}
use Rattle.overlay_set.specs.Standing.{IsFileOf, AreFilesOf}
use Rattle.overlay_set.proofs.Overlays.{ShownOverLaw}
use Rattle.overlay_set.proofs.Fitting.{each_of}
use Rattle.overlay_set.proofs.Replacing.{overlays_runs, all_left, all_right}
use Rattle.overlay_set.proofs.Staying.{run_some}

laid-append : (records : List Rec) (a b : List Overlay) → laid records (a ++ b) ≡ laid (laid records a) b
laid-append records [] b = refl
laid-append records (o ∷ os) b = laid-append (over records o) os b

marks : (os : List Overlay) → AllByRecursion IsOverlay os → AllByRecursion MarksItsRecords os
marks os all = each_of IsOverlay MarksItsRecords (λ o h. h.marked) os all

-- one file over a map shows what the overlays of its run show
one_over : FoldedLaw → (rules : List Rule) (history : List Entry) (store : List Entity) (run : List Entry) (image : Image) (records : List Rec) → IsFileOf rules history store run image
    → AllByRecursion IsOverlay (overlays rules store (lines_of run)) → over records image.overlay ≡ laid records (overlays rules store (lines_of run))
one_over law rules history store [] image records file good = absurd (run_some image.head.level history file.covers)
one_over law rules history store (e ∷ run) image records file good =
    ap (λ (i : Image). over records i.overlay) file.holds ∙ law records _ (overlays rules (apply store e.lines) (lines_of run)) (marks (overlays rules store (lines_of (e ∷ run))) good)

all_over : FoldedLaw → (rules : List Rule) (history : List Entry) (store : List Entity) (runs : List (List Entry)) (images : List Image) (records : List Rec) → AreFilesOf rules history store runs images
    → AllByRecursion IsOverlay (overlays rules store (lines_of (flat_map (λ x. x) runs))) → laid records (overlays_of images) ≡ laid records (overlays rules store (lines_of (flat_map (λ x. x) runs)))
all_over law rules history store [] [] records held good = refl
all_over law rules history store [] (i ∷ is) records held good = absurd held
all_over law rules history store (r ∷ rs) [] records held good = absurd held
all_over law rules history store (r ∷ rs) (i ∷ is) records held good =
    let rest : List Entry = flat_map (λ x. x) rs in
    let both : AllByRecursion IsOverlay (overlays rules store (lines_of r) ++ overlays rules (published store (lines_of r)) (lines_of rest)) = subst (AllByRecursion IsOverlay) (overlays_runs rules store r rest) good in
    ap (λ m. laid m (overlays_of is)) (one_over law rules history store r i records held.0 (all_left IsOverlay (overlays rules store (lines_of r)) (overlays rules (published store (lines_of r)) (lines_of rest)) both))
    ∙ all_over law rules history (published store (lines_of r)) rs is (laid records (overlays rules store (lines_of r))) held.1
    (all_right IsOverlay (overlays rules store (lines_of r)) (overlays rules (published store (lines_of r)) (lines_of rest)) both)
    ∙ sym (laid-append records (overlays rules store (lines_of r)) (overlays rules (published store (lines_of r)) (lines_of rest)))
    ∙ ap (laid records) (sym (overlays_runs rules store r rest))

-- where the laws on overlays and folds hold
pub shown_law : FoldedLaw → HistoryLaw → ShownOverLaw
shown_law fold_ history_ rules base s store lines good st =
    let whole : List Entry = flat_map (λ x. x) st.runs in
    ap shown st.files ∙ all_over fold_ rules s.history (apply [] base) st.runs (images_of st.above) (map_of rules (apply [] base)) st.held
    (subst (λ h. AllByRecursion IsOverlay (overlays rules (apply [] base) (lines_of h))) st.parted good)
    ∙ ap (λ h. laid (map_of rules (apply [] base)) (overlays rules (apply [] base) (lines_of h))) (sym st.parted)
    ∙ history_ rules (apply [] base) (lines_of s.history) store lines

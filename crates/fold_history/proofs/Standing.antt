-- The roots of a forest of folds stand for the overlays of its leaves.
use Rattle.std.proofs.Common.{◌≡◌, List, [], ◌∷◌, ◌++◌, map, refl, sym, ap, ap₂, subst, ◌∙◌}
use Rattle.std.specs.Prelude.{flat_map}
use Rattle.std.specs.List.{AllByRecursion}
use Rattle.std.proofs.lemmas.List.{map-append}
use Rattle.live_model.specs.declared.objects.Entity.{Entity}
use Rattle.live_model.specs.declared.objects.Line.{Line}
use Rattle.live_model.specs.declared.rules.Rule.{Rule}
use Rattle.live_model.specs.MapLaws.{IsOverlay, overlays}
use Rattle.live_model.specs.Maps.{Overlay, answer, laid}
use Rattle.live_model.specs.Objects.{IsGoodLine}
use Rattle.live_model.specs.Stores.{IsStore, apply}
use Rattle.map_laws.proofs.OverlayProof.{applied_store, overlay_law}
use Rattle.obf_reader.specs.Images.{Seen}
use Rattle.obf_reader.specs.Overlays.{overlay_of, records_in}
use Rattle.query_merge.specs.Questions.{answer_over}
use Rattle.fold_merge.specs.Cuts.{CutsLaw, FoldLaw, OneLaw, StandFor}
use Rattle.fold_merge.specs.Folds.{overlays_of}
use Rattle.map_history.specs.Written.{AreOfHistory, Change, HoldHistory, lines_of}
use Rattle.fold_history.specs.Cuts.{CutAnswers}
use Rattle.fold_history.specs.Forests.{AreFolds, Forest, fold, hour, leaves, nothing, roots}

-- ---- the overlays of a history

-- each is one
are_overlays : (rules : List Rule) (store : List Entity) (history : List (List Line)) → IsStore store → AllByRecursion (AllByRecursion IsGoodLine) history → AllByRecursion IsOverlay (overlays rules store history)
are_overlays rules store [] is good = tt
are_overlays rules store (lines ∷ history) is good =
    ((overlay_law rules store lines is good.0).0, are_overlays rules (apply store lines) history (applied_store store lines is good.0) good.1)

base_store : (base : List Line) → AllByRecursion IsGoodLine base → IsStore (apply [] base)
base_store base good = applied_store [] base (record { good = tt; rising = tt }) good

-- ---- the overlays under the roots

-- of each root those of the leaves under it, in order
abbrev parts : Forest → List (List Overlay)
parts nothing = []
parts (hour image next) = (overlay_of image ∷ []) ∷ parts next
parts (fold level under image next) = flat_map (λ part. part) (parts under) ∷ parts next

-- together they are those of all leaves
flat : (forest : Forest) → flat_map (λ part. part) (parts forest) ≡ map overlay_of (leaves forest)
flat nothing = refl
flat (hour image next) = ap (λ (os : List Overlay). overlay_of image ∷ os) (flat next)
flat (fold level under image next) =
    ap₂ (λ (xs ys : List Overlay). xs ++ ys) (flat under) (flat next) ∙ sym (map-append overlay_of (leaves under) (leaves next))

-- what holds of the overlays of images in turn holds of both lists
split : (xs ys : List Seen) → AllByRecursion IsOverlay (map overlay_of (xs ++ ys)) → AllByRecursion IsOverlay (map overlay_of xs) × AllByRecursion IsOverlay (map overlay_of ys)
split [] ys all = (tt, all)
split (x ∷ xs) ys all = let rest = split xs ys all.1 in ((all.0, rest.0), rest.1)

module _ (one : OneLaw) (folds_stand : FoldLaw) where
  stand : (forest : Forest) → AreFolds forest → AllByRecursion IsOverlay (map overlay_of (leaves forest)) → StandFor (roots forest) (parts forest)
  stand nothing folds all = tt
  stand (hour image next) folds all = (one image (overlay_of image) all.0 refl, stand next folds all.1)
  stand (fold level under image next) folds all =
      let both = split (leaves under) (leaves next) all in
      (folds_stand level (roots under) image (parts under) (stand under folds.1.0 both.0) folds.0.fold, stand next folds.1.1 both.1)

  -- ---- questions

  module _ (cuts : CutsLaw) where
    -- images of which the first holds a base, and the others are the roots over what holds the overlays of changes
    pub cut_answers : (written images : List Seen) → (
        (rules : List Rule) (base : List Line) (changes : List Change) → AreOfHistory rules base changes written → HoldHistory rules base changes written
        ) → CutAnswers written images
    cut_answers written images holds = λ rules base changes query history cut.
        let forest : Forest = cut.forest in
        let held : HoldHistory rules base changes (cut.base ∷ leaves forest) = subst (HoldHistory rules base changes) cut.hours (holds rules base changes history) in
        let good = history.history.good in
        let every : AllByRecursion IsOverlay (map overlay_of (leaves forest)) =
        subst (AllByRecursion IsOverlay) (sym held.1.1) (are_overlays rules (apply [] base) (lines_of changes) (base_store base history.history.base_good) good) in
        ap (answer_over query) cut.cut
        ∙ (ap (λ (rs : List Rule). answer rs query (laid (records_in cut.base.bytes) (overlays_of (roots forest)))) held.0
        ∙ (cuts rules base (lines_of changes) cut.base (roots forest) (parts forest) history.history.base_good good held.1.0 (flat forest ∙ held.1.1) (stand forest cut.folds every)).1 query)

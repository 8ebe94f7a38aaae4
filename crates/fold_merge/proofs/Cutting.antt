-- However changes are cut into folds, the files over a base show one map.
use Rattle.std.proofs.Common.{◌≡◌, List, [], ◌∷◌, map, refl, sym, ap, ap₂, ◌∙◌}
use Rattle.std.specs.Prelude.{flat_map}
use Rattle.live_model.specs.declared.records.Rec.{Rec}
use Rattle.live_model.specs.Maps.{Overlay, answer, folded, laid, rebuilt}
use Rattle.map_laws.proofs.FoldLaws.{any_folds}
use Rattle.map_laws.proofs.MoreLaws.{built, one_fold}
use Rattle.obf_reader.specs.Images.{Seen}
use Rattle.obf_reader.specs.Overlays.{overlay_of, records_in}
use Rattle.fold_merge.specs.Cuts.{CutsLaw, FoldLaw, OneLaw, StandFor}
use Rattle.fold_merge.specs.Folds.{overlays_of}

-- what images lay over a map are the folds of their parts
folds_of : (images : List Seen) (parts : List (List Overlay)) → StandFor images parts → overlays_of images ≡ map folded parts
folds_of [] [] stand = refl
folds_of (i ∷ is) (p ∷ ps) stand = ap₂ (λ (o : Overlay) (os : List Overlay). o ∷ os) stand.0 (folds_of is ps stand.1)
folds_of [] (p ∷ ps) stand = absurd stand
folds_of (i ∷ is) [] stand = absurd stand

pub one_law : OneLaw
one_law = λ image o is same. same ∙ sym (one_fold o is)

pub fold_law : FoldLaw
fold_law = λ level images image parts stand fold.
    fold.parts.overlay_is ∙ ap folded (folds_of images parts stand) ∙ any_folds parts

pub cuts_law : CutsLaw
cuts_law = λ rules lines history base images parts good_lines good is are stand.
    let same : laid (records_in base.bytes) (overlays_of images) ≡ rebuilt rules lines history =
    ap (λ (rs : List Rec). laid rs (overlays_of images)) is ∙ ap (laid (rebuilt rules lines [])) (folds_of images parts stand) ∙ built rules lines history parts good_lines good are in
    (same, λ query. ap (answer rules query) same)

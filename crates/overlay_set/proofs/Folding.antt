-- A set stands after a fold has come in the place of its files.
use Rattle.std.proofs.Common.{◌≡◌, ◌≢◌, ◌+◌, ◌<◌, ◌≤◌, List, [], ◌∷◌, ◌++◌, flat_map, refl, sym, ap, ap₂, subst, ◌∙◌, append-nil, arith}
use Rattle.std.specs.List.{AllByRecursion, AllZip}
use Rattle.std.proofs.lemmas.List.Sums.{sum_by-append}
use Rattle.live_model.specs.declared.levels.Level.{Level}
use Rattle.live_model.specs.declared.levels.Level.TheVariants.{Base, Hour, Day, Month}
use Rattle.live_model.specs.declared.objects.Entity.{Entity}
use Rattle.live_model.specs.declared.objects.Line.{Line}
use Rattle.live_model.specs.declared.rules.Rule.{Rule}
use Rattle.live_model.specs.Levels.{level_number}
use Rattle.live_model.specs.Stores.{apply}
use Rattle.live_model.specs.Maps.{published}
use Rattle.live_model.specs.MapLaws.{IsOverlay, overlays, FoldsLaw}
use Rattle.overlay_set.specs.Sets.{Entry, Image, MapFile, State, numbers_of, images_of, lines_of, greatest, age, run_image, base_image}
use Rattle.overlay_set.specs.Standing.{level_weight, weight, IsPeriodRun, IsRunOf, IsFileOf, AreFilesOf, AreRising, AreApart, Stands}
use Rattle.overlay_set.specs.Swaps.{FoldPlan, fold_image, replaced, Replace, applied, IsHeadOf, Fits}
use Rattle.overlay_set.proofs.Overlays.{AreOverlays}
use Rattle.overlay_set.proofs.Lists.{map-append, flat-append}
use Rattle.overlay_set.proofs.Adding.{held_append}
use Rattle.overlay_set.proofs.Replacing.{same_runs, Parted, held_parted, fold_of_runs, overlays_runs, all_left, all_right}
use Rattle.overlay_set.proofs.Places.{replaced_at, apart_swap, greatest_swap, fold_weight}

run_of_period : (level : Level) (history run : List Entry) → 2 ≤ level_number level → IsPeriodRun level history run → IsRunOf level history run
run_of_period Base history run high p = absurd (omega arith)
run_of_period Hour history run high p = absurd (omega arith)
run_of_period Day history run high p = p
run_of_period Month history run high p = p

flat_some : (runs : List (List Entry)) (files : List MapFile) → AllZip IsHeadOf runs files → files ≢ [] → flat_map (λ x. x) runs ≢ []
flat_some [] [] heads some e = some refl
flat_some [] (f ∷ fs) heads some e = absurd heads
flat_some (r ∷ rs) [] heads some e = absurd heads
flat_some ([] ∷ rs) (f ∷ fs) heads some e = heads.0.0 refl
flat_some ((x ∷ xs) ∷ rs) (f ∷ fs) heads some e = absurd cc

-- the files above the base, with the plan's files one after another among them
pub record PlanStands (plan : FoldPlan) (above : List MapFile) : Type 0 where
  pub front : List MapFile
  pub back : List MapFile
  pub joined : above ≡ front ++ (plan.files ++ back)

numbers_three : (a b c : List MapFile) → numbers_of (a ++ (b ++ c)) ≡ numbers_of a ++ (numbers_of b ++ numbers_of c)
numbers_three a b c = map-append (λ (f : MapFile). f.number) a (b ++ c) ∙ ap (λ l. numbers_of a ++ l) (map-append (λ (f : MapFile). f.number) b c)

weight_three : (a b c : List MapFile) → weight (a ++ (b ++ c)) ≡ weight a + (weight b + weight c)
weight_three a b c =
    omega (arith, sum_by-append (λ (f : MapFile). level_weight f.image.head.level) a (b ++ c), sum_by-append (λ (f : MapFile). level_weight f.image.head.level) b c)

weight_new : (a : List MapFile) (f : MapFile) (c : List MapFile) → weight (a ++ (f ∷ c)) ≡ weight a + (level_weight f.image.head.level + weight c)
weight_new a f c =
    omega (arith, sum_by-append (λ (f : MapFile). level_weight f.image.head.level) a (f ∷ c), sum_by-append (λ (f : MapFile). level_weight f.image.head.level) (f ∷ []) c)

-- the runs of the plan's files are those that it covers
plan_runs : (rules : List Rule) (s : State) (store : List Entity) (plan : FoldPlan) (fits : Fits plan s) (before runs after : List (List Entry)) → AreRising s.history
    → s.history ≡ flat_map (λ x. x) (before ++ (runs ++ after)) → AreFilesOf rules s.history store runs (images_of plan.files) → runs ≡ fits.covers.runs
plan_runs rules s store plan fits before runs after rising parted held =
    same_runs (record { level = plan.level; hour = fits.covers.hour }) rules s.history store plan.files runs fits.covers.runs (flat_map (λ x. x) before) (flat_map (λ x. x) after) [] []
    rising (parted ∙ flat-append before (runs ++ after) ∙ ap (λ l. flat_map (λ x. x) before ++ l) (flat-append runs after))
    (sym fits.covers.whole ∙ sym (append-nil (flat_map (λ x. x) fits.covers.runs))) held fits.covers.heads

pub stands_fold : FoldsLaw → (rules : List Rule) (base : List Line) (s : State) (plan : FoldPlan) (image : Image) (r : MapFile) (rs : List MapFile) → plan.files ≡ r ∷ rs
    → AreOverlays rules base s.history → (st : Stands rules base s) → Fits plan s → PlanStands plan st.above → image ≡ fold_image plan.level (images_of plan.files)
    → Stands rules base (applied s (Replace plan image))
stands_fold law rules base s plan image r rs is_cons good st fits place is_fold =
    let new : MapFile = record { number = age s + 1; image = image } in
    let bottom : MapFile = record { number = 0; image = base_image rules base } in
    let whole : images_of st.above ≡ images_of place.front ++ (images_of plan.files ++ images_of place.back) =
    ap images_of place.joined ∙ map-append (λ (f : MapFile). f.image) place.front (plan.files ++ place.back) ∙ ap (λ l. images_of place.front ++ l) (map-append (λ (f : MapFile). f.image) plan.files place.back) in
    let one : Parted rules s.history (apply [] base) st.runs (images_of place.front) (images_of plan.files ++ images_of place.back) =
    held_parted rules s.history (apply [] base) st.runs (images_of place.front) (images_of plan.files ++ images_of place.back)
    (subst (λ is. AreFilesOf rules s.history (apply [] base) st.runs is) whole st.held) in
    let here : List Entity = published (apply [] base) (lines_of (flat_map (λ x. x) one.left)) in
    let two : Parted rules s.history here one.right (images_of plan.files) (images_of place.back) = held_parted rules s.history here one.right (images_of plan.files) (images_of place.back) one.second in
    let parted : s.history ≡ flat_map (λ x. x) (one.left ++ (two.left ++ two.right)) =
    st.parted ∙ ap (flat_map (λ x. x)) (one.joined ∙ ap (λ l. one.left ++ l) two.joined) in
    let runs_are : two.left ≡ fits.covers.runs = plan_runs rules s here plan fits one.left two.left two.right st.rising parted two.first in
    let heads : AllZip IsHeadOf two.left plan.files = subst (λ rs. AllZip IsHeadOf rs plan.files) (sym runs_are) fits.covers.heads in
    let run : List Entry = flat_map (λ x. x) two.left in
    let three : s.history ≡ flat_map (λ x. x) one.left ++ (run ++ flat_map (λ x. x) two.right) =
    parted ∙ flat-append one.left (two.left ++ two.right) ∙ ap (λ l. flat_map (λ x. x) one.left ++ l) (flat-append two.left two.right) in
    let good' : AllByRecursion IsOverlay (overlays rules here (lines_of run)) =
    all_left IsOverlay (overlays rules here (lines_of run)) (overlays rules (published here (lines_of run)) (lines_of (flat_map (λ x. x) two.right)))
    (subst (AllByRecursion IsOverlay) (overlays_runs rules here run (flat_map (λ x. x) two.right))
    (all_right IsOverlay (overlays rules (apply [] base) (lines_of (flat_map (λ x. x) one.left))) (overlays rules here (lines_of (run ++ flat_map (λ x. x) two.right)))
    (subst (AllByRecursion IsOverlay) (overlays_runs rules (apply [] base) (flat_map (λ x. x) one.left) (run ++ flat_map (λ x. x) two.right))
    (subst (λ h. AllByRecursion IsOverlay (overlays rules (apply [] base) (lines_of h))) three good)))) in
    let image_is : image ≡ run_image rules here plan.level run = is_fold ∙ fold_of_runs law rules s.history here plan.level two.left plan.files good' two.first heads fits.some in
    let level : image.head.level ≡ plan.level = ap (λ (i : Image). i.head.level) image_is in
    let period : IsPeriodRun plan.level s.history run =
    record { hour = fits.covers.hour; closed = fits.covers.closed; whole = ap (flat_map (λ x. x)) runs_are ∙ fits.covers.whole; some = flat_some two.left plan.files heads fits.some } in
    let middle : IsFileOf rules s.history here run image = record {
      covers = subst (λ l. IsRunOf l s.history run) (sym level) (run_of_period plan.level s.history run fits.level period);
      holds = image_is ∙ ap (λ l. run_image rules here l run) (sym level);
    } in
    let files_were : s.files ≡ (bottom ∷ place.front) ++ ((r ∷ rs) ++ place.back) = st.files ∙ ap (λ l. bottom ∷ l) (place.joined ∙ ap (λ l. place.front ++ (l ++ place.back)) is_cons) in
    let apart : AreApart (numbers_of ((bottom ∷ place.front) ++ ((r ∷ rs) ++ place.back))) = subst (λ fs. AreApart (numbers_of fs)) files_were st.apart in
    let files_are : (applied s (Replace plan image)).files ≡ bottom ∷ (place.front ++ (new ∷ place.back)) =
    ap₂ (λ (p : List MapFile) (fs : List MapFile). replaced (numbers_of p) new fs) is_cons files_were ∙ replaced_at (bottom ∷ place.front) r rs place.back new apart in
    let numbers_were : numbers_of s.files ≡ numbers_of (bottom ∷ place.front) ++ (numbers_of (r ∷ rs) ++ numbers_of place.back) = ap numbers_of files_were ∙ numbers_three (bottom ∷ place.front) (r ∷ rs) place.back in
    let numbers_are : numbers_of (applied s (Replace plan image)).files ≡ numbers_of (bottom ∷ place.front) ++ ((age s + 1) ∷ numbers_of place.back) =
    ap numbers_of files_are ∙ map-append (λ (f : MapFile). f.number) (bottom ∷ place.front) (new ∷ place.back) in
    let below : greatest (numbers_of (bottom ∷ place.front) ++ (numbers_of (r ∷ rs) ++ numbers_of place.back)) < age s + 1 = subst (λ ns. greatest ns < age s + 1) numbers_were (omega arith) in
    let new_age : age (applied s (Replace plan image)) ≡ age s + 1 =
    ap greatest numbers_are ∙ greatest_swap (numbers_of (bottom ∷ place.front)) (numbers_of (r ∷ rs)) (numbers_of place.back) (age s + 1) below in
    let weight_was : weight s.files ≡ weight (bottom ∷ place.front) + (weight plan.files + weight place.back) =
    ap weight files_were ∙ weight_three (bottom ∷ place.front) (r ∷ rs) place.back ∙ ap (λ (p : List MapFile). weight (bottom ∷ place.front) + (weight p + weight place.back)) (sym is_cons) in
    let weight_is : weight (applied s (Replace plan image)).files ≡ weight (bottom ∷ place.front) + (level_weight plan.level + weight place.back) =
    ap weight files_are ∙ weight_new (bottom ∷ place.front) new place.back ∙ ap (λ l. weight (bottom ∷ place.front) + (level_weight l + weight place.back)) level in
    record {
      above = place.front ++ (new ∷ place.back);
      runs = one.left ++ (run ∷ two.right);
      files = files_are;
      parted = three ∙ sym (flat-append one.left (run ∷ two.right));
      held = subst (λ is. AreFilesOf rules s.history (apply [] base) (one.left ++ (run ∷ two.right)) is) (sym (map-append (λ (f : MapFile). f.image) place.front (new ∷ place.back)))
          (held_append rules s.history (apply [] base) one.left (run ∷ two.right) (images_of place.front) (image ∷ images_of place.back) one.first (middle, two.second));
      rising = st.rising;
      apart = subst AreApart (sym numbers_are) (apart_swap (numbers_of (bottom ∷ place.front)) (numbers_of (r ∷ rs)) (numbers_of place.back) (age s + 1) below (subst AreApart numbers_were st.apart));
      light = omega (arith, new_age, weight_was, weight_is, fold_weight fits.rules plan.level plan.files fits.some fits.level fits.planned fits.several, st.light);
    }

-- A fold that comes in brings a number above all that were there.
use Rattle.std.proofs.Common.{◌≡◌, ◌+◌, ◌<◌, ◌≤◌, ◌⊎◌, ℕ, Bool, true, false, cond, None, List, [], ◌∷◌, ◌++◌, drop, length, inl, inr, refl, ap, ap₂, subst, ◌∙◌, arith}
use Rattle.live_model.specs.declared.objects.Line.{Line}
use Rattle.live_model.specs.declared.rules.Rule.{Rule}
use Rattle.overlay_set.specs.Sets.{MapFile, State, age, base_image, greatest, images_of, numbers_of}
use Rattle.overlay_set.specs.Standing.{AreApart, Stands}
use Rattle.overlay_set.specs.Swaps.{FoldPlan, Fits, IsLater, fold_image, is_run, missing, replaced}
use Rattle.overlay_set.specs.Machines.{with_fold}
use Rattle.overlay_set.proofs.Fitting.{fits_later}
use Rattle.overlay_set.proofs.Folding.{PlanStands}
use Rattle.overlay_set.proofs.Places.{replaced_at}
use Rattle.overlay_set.proofs.Staying.{plan_stands}

-- files with a run replaced are the files as they were, or have the number that came in
either : (numbers : List ℕ) (new : MapFile) (files : List MapFile) → (replaced numbers new files ≡ files) ⊎ (new.number ≤ greatest (numbers_of (replaced numbers new files)))
either numbers new [] = inl refl
either numbers new (f ∷ fs) = go (is_run numbers (f ∷ fs)) (either numbers new fs)
  where
    go : (b : Bool) → (replaced numbers new fs ≡ fs) ⊎ (new.number ≤ greatest (numbers_of (replaced numbers new fs)))
        → (cond b (new ∷ drop (length numbers) (f ∷ fs)) (f ∷ replaced numbers new fs) ≡ f ∷ fs)
        ⊎ (new.number ≤ greatest (numbers_of (cond b (new ∷ drop (length numbers) (f ∷ fs)) (f ∷ replaced numbers new fs))))
    go true ih = inr (omega arith)
    go false (inl same) = inl (ap (λ l. f ∷ l) same)
    go false (inr le) = inr (omega (arith, le))

-- a number among others is at most the greatest
among : (a : List MapFile) (f : MapFile) (b : List MapFile) → f.number ≤ greatest (numbers_of (a ++ (f ∷ b)))
among [] f b = omega arith
among (g ∷ gs) f b = omega (arith, among gs f b)

-- in a set that stands the number of a fold is there
fold_is_there : (rules : List Rule) (base : List Line) (s : State) (plan : FoldPlan) → Stands rules base s → Fits plan s → missing plan s ≡ None → age s + 1 ≤ age (with_fold plan s)
fold_is_there rules base s plan st fits all = go plan.files refl
  where
    new : MapFile
    new = record { number = age s + 1; image = fold_image plan.level (images_of plan.files) }

    bottom : MapFile
    bottom = record { number = 0; image = base_image rules base }

    place : PlanStands plan st.above
    place = plan_stands rules base s plan st fits all

    go : (files : List MapFile) → plan.files ≡ files → age s + 1 ≤ age (with_fold plan s)
    go [] e = absurd (fits.some e)
    go (r ∷ rs) e =
        let files_were : s.files ≡ (bottom ∷ place.front) ++ ((r ∷ rs) ++ place.back) = st.files ∙ ap (λ l. bottom ∷ l) (place.joined ∙ ap (λ l. place.front ++ (l ++ place.back)) e) in
        let apart : AreApart (numbers_of ((bottom ∷ place.front) ++ ((r ∷ rs) ++ place.back))) = subst (λ fs. AreApart (numbers_of fs)) files_were st.apart in
        let files_are : (with_fold plan s).files ≡ bottom ∷ (place.front ++ (new ∷ place.back)) =
        ap₂ (λ (p : List MapFile) (fs : List MapFile). replaced (numbers_of p) new fs) e files_were ∙ replaced_at (bottom ∷ place.front) r rs place.back new apart in
        omega (arith, ap (λ (fs : List MapFile). greatest (numbers_of fs)) files_are, among (bottom ∷ place.front) new place.back)

-- where a fold came in, after all that came before it, and the set stands then, it has a number above all that there were
pub fold_grows : (rules : List Rule) (base : List Line) (before found after : State) (plan : FoldPlan) → Fits plan before → IsLater before found → missing plan found ≡ None → after ≡ with_fold plan found
    → Stands rules base after → age before < age after
fold_grows rules base before found after plan fits later all is st = go (either (numbers_of plan.files) new found.files)
  where
    new : MapFile
    new = record { number = age found + 1; image = fold_image plan.level (images_of plan.files) }

    age_is : age after ≡ age (with_fold plan found)
    age_is = ap age is

    go : (replaced (numbers_of plan.files) new found.files ≡ found.files) ⊎ (new.number ≤ greatest (numbers_of (replaced (numbers_of plan.files) new found.files))) → age before < age after
    go (inr le) = omega (arith, le, age_is, later.grows)
    go (inl same) =
        let unchanged : with_fold plan found ≡ found = ap (λ (fs : List MapFile). record { history = found.history; files = fs }) same in
        let stands : Stands rules base found = subst (Stands rules base) (is ∙ unchanged) st in
        omega (arith, age_is, later.grows, fold_is_there rules base found plan stands (fits_later plan before found stands.rising fits later) all)

-- Each swap comes under the number above the greatest, which is the greatest then.
use Rattle.std.proofs.Common.{◌≡◌, ◌≢◌, ◌+◌, ◌<◌, max, List, [], ◌∷◌, ◌++◌, refl, ap, ap₂, subst, ◌∙◌, arith}
use Rattle.live_model.specs.declared.objects.Line.{Line}
use Rattle.live_model.specs.declared.rules.Rule.{Rule}
use Rattle.overlay_set.specs.Sets.{Image, MapFile, State, age, base_image, greatest, numbers_of}
use Rattle.overlay_set.specs.Standing.{AreApart, Stands}
use Rattle.overlay_set.specs.Swaps.{Add, FoldPlan, Replace, Swap, Takes, applied, replaced}
use Rattle.overlay_set.proofs.Folding.{PlanStands}
use Rattle.overlay_set.proofs.Later.{greatest-add}
use Rattle.overlay_set.proofs.Lists.{map-append}
use Rattle.overlay_set.proofs.Places.{greatest_swap, replaced_at}
use Rattle.overlay_set.proofs.Staying.{plan_stands}

numbers_three : (a b c : List MapFile) → numbers_of (a ++ (b ++ c)) ≡ numbers_of a ++ (numbers_of b ++ numbers_of c)
numbers_three a b c = map-append (λ (f : MapFile). f.number) a (b ++ c) ∙ ap (λ l. numbers_of a ++ l) (map-append (λ (f : MapFile). f.number) b c)

-- files of a plan that stand one after another in a set
pub fold_swaps : (rules : List Rule) (base : List Line) (s : State) (plan : FoldPlan) (image : Image) (st : Stands rules base s) → PlanStands plan st.above
    → (files : List MapFile) → plan.files ≡ files → files ≢ [] → age (applied s (Replace plan image)) ≡ age s + 1
fold_swaps rules base s plan image st place [] is some = absurd (some refl)
fold_swaps rules base s plan image st place (r ∷ rs) is some =
    let new : MapFile = record { number = age s + 1; image = image } in
    let bottom : MapFile = record { number = 0; image = base_image rules base } in
    let were : s.files ≡ (bottom ∷ place.front) ++ ((r ∷ rs) ++ place.back) = st.files ∙ ap (λ l. bottom ∷ l) (place.joined ∙ ap (λ l. place.front ++ (l ++ place.back)) is) in
    let apart : AreApart (numbers_of ((bottom ∷ place.front) ++ ((r ∷ rs) ++ place.back))) = subst (λ fs. AreApart (numbers_of fs)) were st.apart in
    let are : (applied s (Replace plan image)).files ≡ bottom ∷ (place.front ++ (new ∷ place.back)) =
    ap₂ (λ (p : List MapFile) (fs : List MapFile). replaced (numbers_of p) new fs) is were ∙ replaced_at (bottom ∷ place.front) r rs place.back new apart in
    let numbers_were : numbers_of s.files ≡ numbers_of (bottom ∷ place.front) ++ (numbers_of (r ∷ rs) ++ numbers_of place.back) = ap numbers_of were ∙ numbers_three (bottom ∷ place.front) (r ∷ rs) place.back in
    let numbers_are : numbers_of (applied s (Replace plan image)).files ≡ numbers_of (bottom ∷ place.front) ++ ((age s + 1) ∷ numbers_of place.back) =
    ap numbers_of are ∙ map-append (λ (f : MapFile). f.number) (bottom ∷ place.front) (new ∷ place.back) in
    let below : greatest (numbers_of (bottom ∷ place.front) ++ (numbers_of (r ∷ rs) ++ numbers_of place.back)) < age s + 1 = subst (λ ns. greatest ns < age s + 1) numbers_were (omega arith) in
    ap greatest numbers_are ∙ greatest_swap (numbers_of (bottom ∷ place.front)) (numbers_of (r ∷ rs)) (numbers_of place.back) (age s + 1) below

-- a swap that may come
pub age_step : (rules : List Rule) (base : List Line) (s : State) (swap : Swap) → Stands rules base s → Takes rules base s swap → age (applied s swap) ≡ age s + 1
age_step rules base s (Add entry image) st takes = omega (arith, greatest-add s.files (record { number = age s + 1; image = image }))
age_step rules base s (Replace plan image) st takes = fold_swaps rules base s plan image st (plan_stands rules base s plan st takes.0 takes.1) plan.files refl takes.0.some

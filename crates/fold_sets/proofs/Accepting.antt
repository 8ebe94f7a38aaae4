-- The files of a plan that fits can become one.
use Rattle.std.proofs.Common.{◌≡◌, ◌+◌, ◌/◌, ◌<◌, ◌≤◌, ℕ, Bool, true, false, ◌&&◌, not, ◌==◌, List, [], ◌∷◌, ◌++◌, flat_map, map, Option, Some, None, nat_cmp, Less, refl, sym, ap, ap₂, subst, ◌∙◌, arith}
use Rattle.std.specs.Prelude.{bytes_eq, if◌then◌else◌}
use Rattle.std.specs.List.{AllByRecursion, AllZip}
use Rattle.std.proofs.lemmas.Bool.Decides.{nat_tests}
use Rattle.std.proofs.lemmas.Slice.Eq.{bytes_eq-Decides}
use Rattle.live_model.specs.declared.levels.Level.{Level}
use Rattle.live_model.specs.declared.levels.Level.TheVariants.{Base, Hour, Day, Month}
use Rattle.live_model.specs.declared.rules.Rule.{Rule}
use Rattle.live_model.specs.Levels.{level_number}
use Rattle.live_model.specs.Rules.{rules_text}
use Rattle.stamp_core.specs.Hours.{CivilHour, number_of}
use Rattle.stamp_core.specs.declared.head.Head.{Head}
use Rattle.file_order.specs.Folding.{not_fold, parts_asked, share_period}
use Rattle.file_order.specs.Runs.{Placed, first_failing, has_rules_of, is_after, is_base}
use Rattle.file_order.specs.declared.kinds.NotRun.{NotRun}
use Rattle.overlay_set.specs.Sets.{Entry, MapFile, State}
use Rattle.overlay_set.specs.Periods.{Period, is_within, stretch}
use Rattle.overlay_set.specs.Standing.{AreRising}
use Rattle.overlay_set.specs.Swaps.{FoldPlan, Fits, IsHeadOf, IsPlanned}
use Rattle.overlay_set.proofs.Closing.{less-lt}
use Rattle.overlay_set.proofs.Spans.{AreWithin, last_hour, last_in-hour, period_within, rising_filter, rising_right}

-- what the place of a file among others depends on
abbrev pub placed : MapFile → Placed
placed f = record { head = f.image.head; rules = f.image.rules }

-- Entries of a run, and those after it.

-- the entries come after the hour, if there is one
abbrev AreAfter : Option CivilHour → List Entry → Type 0
AreAfter None es = Unit {0}
AreAfter (Some hour) es = AllByRecursion (λ e. number_of hour < number_of e.stamp) es

after_first : (x : Entry) (ys : List Entry) → AllByRecursion (λ (y : Entry). nat_cmp (number_of x.stamp) (number_of y.stamp) ≡ Less) ys → AreAfter (Some x.stamp) ys
after_first x [] rising = tt
after_first x (y ∷ ys) rising = (less-lt (number_of x.stamp) (number_of y.stamp) rising.0, after_first x ys rising.1)

-- what follows a run of a rising history comes after its last hour
after_run : (x : Entry) (xs ys : List Entry) → AreRising ((x ∷ xs) ++ ys) → AreAfter (Some (last_hour x.stamp xs)) ys
after_run x [] ys rising = after_first x ys rising.0
after_run x (z ∷ zs) ys rising = after_run z zs ys rising.1

-- the last hour of a run in a period is one of the period
last_within : (p : Period) (x : Entry) (xs ys : List Entry) → AreWithin p ((x ∷ xs) ++ ys) → stretch p.level (last_hour x.stamp xs) ≡ stretch p.level p.hour
last_within p x [] ys all = all.0
last_within p x (z ∷ zs) ys all = last_within p z zs ys all.1

within_right : (p : Period) (xs ys : List Entry) → AreWithin p (xs ++ ys) → AreWithin p ys
within_right p [] ys all = all
within_right p (x ∷ xs) ys all = within_right p xs ys all.1

-- What is asked of a file.

-- one more that holds
holds : (b : Bool) (r : Option NotRun) (told : NotRun) → b ≡ true → r ≡ None → (if b then r else Some told) ≡ None
holds true r told is none = none
holds false r told is none = absurd cc

above_base : (n : ℕ) → 1 ≤ n → not (n == 0) ≡ true
above_base n some = grind (arith, nat_tests)

same_text : (a b : List Rule) → a ≡ b → bytes_eq (rules_text a) (rules_text b) ≡ true
same_text a b same = (bytes_eq-Decides (rules_text a) (rules_text b)).1 (ap rules_text same)

is_later : (last : Option CivilHour) (x : Entry) (es : List Entry) → AreAfter last (x ∷ es) → is_after last (Some x.stamp) ≡ true
is_later None x es after = refl
is_later (Some hour) x es after = let later : number_of hour < number_of x.stamp = after.0 in grind (arith, nat_tests)

-- hours of one stretch share a period
shares : (level : Level) (a b : CivilHour) → stretch level a ≡ stretch level b → share_period level (Some a) (Some b) ≡ true
shares Base a b same = refl
shares Hour a b same = refl
shares Day a b same = let e : number_of a / 100 ≡ number_of b / 100 = same in grind (arith, nat_tests)
shares Month a b same = let e : number_of a / 10000 ≡ number_of b / 10000 = same in grind (arith, nat_tests)

-- both hours of a file share the period of another
share_both : (level : Level) (h a b : CivilHour) (first from to : Option CivilHour) → first ≡ Some h → from ≡ Some a → to ≡ Some b → stretch level h ≡ stretch level a → stretch level h ≡ stretch level b
    → (share_period level first from && share_period level first to) ≡ true
share_both level h a b first from to first_is from_is to_is begin end =
    subst (λ (o : Option CivilHour). (share_period level o from && share_period level o to) ≡ true) (sym first_is)
    (subst (λ (o : Option CivilHour). (share_period level (Some h) o && share_period level (Some h) to) ≡ true) (sym from_is)
    (subst (λ (o : Option CivilHour). (share_period level (Some h) (Some a) && share_period level (Some h) o) ≡ true) (sym to_is)
    (ap₂ (λ p q. p && q) (shares level h a begin) (shares level h b end))))

-- Along the files.

-- files with the heads of runs of a period, one after another and after an hour, meet all that is asked of them beside a first one in the period
parts_follow : (p : Period) (rules : List Rule) (level : Level) (first : Placed) (h : CivilHour) → p.level ≡ level → first.rules ≡ rules → first.head.first ≡ Some h → stretch level h ≡ stretch level p.hour
    → (index : ℕ) (last : Option CivilHour) (runs : List (List Entry)) (files : List MapFile) → AllZip IsHeadOf runs files → AllByRecursion (IsPlanned rules level) files → AreRising (flat_map (λ run. run) runs)
    → AreWithin p (flat_map (λ run. run) runs) → AreAfter last (flat_map (λ run. run) runs) → first_failing (parts_asked level index first last (map placed files)) ≡ None
parts_follow p rules level first h level_is table begins within index last [] [] heads planned rising all after = refl
parts_follow p rules level first h level_is table begins within index last [] (f ∷ fs) heads planned rising all after = absurd heads
parts_follow p rules level first h level_is table begins within index last (run ∷ runs) [] heads planned rising all after = absurd heads
parts_follow p rules level first h level_is table begins within index last ([] ∷ runs) (f ∷ fs) heads planned rising all after = absurd (heads.0.0 refl)
parts_follow p rules level first h level_is table begins within index last ((x ∷ xs) ∷ runs) (f ∷ fs) heads planned rising all after =
    let rest : List Entry = flat_map (λ run. run) runs in
    let from : f.image.head.first ≡ Some x.stamp = ap (λ (head : Head). head.first) heads.0.1 in
    let to : f.image.head.last ≡ Some (last_hour x.stamp xs) = ap (λ (head : Head). head.last) heads.0.1 ∙ last_in-hour x.stamp xs in
    let begin : stretch level h ≡ stretch level x.stamp = subst (λ (l : Level). stretch l h ≡ stretch l x.stamp) level_is (subst (λ (l : Level). stretch l h ≡ stretch l p.hour) (sym level_is) within ∙ sym all.0) in
    let end : stretch level h ≡ stretch level (last_hour x.stamp xs) =
    subst (λ (l : Level). stretch l h ≡ stretch l (last_hour x.stamp xs)) level_is (subst (λ (l : Level). stretch l h ≡ stretch l p.hour) (sym level_is) within ∙ sym (last_within p x xs rest all)) in
    holds (not (is_base (placed f))) _ _ (above_base (level_number f.image.head.level) planned.0.above_base)
    (holds (has_rules_of (placed f) first) _ _ (same_text f.image.rules first.rules (planned.0.table ∙ sym table))
    (holds (is_after last f.image.head.first) _ _ (subst (λ (o : Option CivilHour). is_after last o ≡ true) (sym from) (is_later last x (xs ++ rest) after))
    (holds (share_period level first.head.first f.image.head.first && share_period level first.head.first f.image.head.last) _ _
    (share_both level h x.stamp (last_hour x.stamp xs) first.head.first f.image.head.first f.image.head.last begins from to begin end)
    (parts_follow p rules level first h level_is table begins within (index + 1) f.image.head.last runs fs heads.1 planned.1 (rising_right (x ∷ xs) rest rising)
    (within_right p (x ∷ xs) rest all) (subst (λ (o : Option CivilHour). AreAfter o rest) (sym to) (after_run x xs rest rising))))))

-- the files of a plan that fits can become one of its level
pub files_follow : (plan : FoldPlan) (s : State) → AreRising s.history → Fits plan s → not_fold plan.level (map placed plan.files) ≡ None
files_follow plan s rising fits = go plan.files fits.planned fits.covers.runs fits.covers.heads
    (subst AreRising (sym fits.covers.whole) (rising_filter (λ e. is_within plan.level fits.covers.hour e.stamp) s.history rising))
    (subst (AreWithin p) (sym fits.covers.whole) (period_within p s.history))
  where
    p : Period
    p = record { level = plan.level; hour = fits.covers.hour }

    go : (files : List MapFile) → AllByRecursion (IsPlanned fits.rules plan.level) files → (runs : List (List Entry)) → AllZip IsHeadOf runs files → AreRising (flat_map (λ run. run) runs)
        → AreWithin p (flat_map (λ run. run) runs) → not_fold plan.level (map placed files) ≡ None
    go [] planned runs heads rising all = refl
    go (f ∷ fs) planned [] heads rising all = absurd heads
    go (f ∷ fs) planned ([] ∷ runs) heads rising all = absurd (heads.0.0 refl)
    go (f ∷ fs) planned ((x ∷ xs) ∷ runs) heads rising all =
        parts_follow p fits.rules plan.level (placed f) x.stamp refl planned.0.table (ap (λ (head : Head). head.first) heads.0.1) all.0 0 None ((x ∷ xs) ∷ runs) (f ∷ fs) heads planned rising all tt

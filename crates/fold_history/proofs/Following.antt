-- The roots of a forest of folds follow one another where its leaves do.
use Rattle.std.proofs.Common.{◌≡◌, ◌≢◌, ◌+◌, ℕ, Bool, true, false, List, [], ◌∷◌, ◌++◌, map, not, Option, Some, None, inl, inr, refl, sym, ap, subst, ◌∙◌}
use Rattle.std.specs.Prelude.{if◌then◌else◌, ◌==◌, ◌⊎◌, bytes_eq}
use Rattle.live_model.specs.declared.levels.Level.{Level}
use Rattle.live_model.specs.declared.levels.Level.TheVariants.{Day, Month}
use Rattle.live_model.specs.declared.rules.Rule.{Rule}
use Rattle.live_model.specs.Levels.{level_number}
use Rattle.live_model.specs.Rules.{rules_text}
use Rattle.stamp_core.specs.declared.head.Head.{Head}
use Rattle.stamp_core.specs.Hours.{CivilHour}
use Rattle.file_order.specs.declared.kinds.NotRun.{NotRun}
use Rattle.file_order.specs.Runs.{all_asked, first_failing, has_rules_of, is_after, is_base, not_run}
use Rattle.obf_reader.specs.Images.{Seen}
use Rattle.fold_merge.specs.Folds.{common_rules, first_hour, fold_head, last_hour, placed_of}
use Rattle.fold_history.specs.Cuts.{IsCut}
use Rattle.fold_history.specs.Forests.{AreFolds, Forest, fold, hour, leaves, nothing, roots}

-- ---- what is asked of files

-- each is above a base, has the rules of the first, and begins after the hour before it
abbrev Follow : Seen → Option CivilHour → List Seen → Type 0
Follow first last [] = Unit {0}
Follow first last (i ∷ is) =
    (not (is_base (placed_of i)) ≡ true) × ((has_rules_of (placed_of i) (placed_of first) ≡ true) × ((is_after last i.head.first ≡ true) × Follow first i.head.last is))

held_so : (b : Bool) (r : Option NotRun) (told : NotRun) → (if b then r else Some told) ≡ None → (b ≡ true) × (r ≡ None)
held_so true r told e = (refl, e)
held_so false r told e = absurd cc

one : (a : Bool) (rest : Option NotRun) (x : NotRun) → a ≡ true → rest ≡ None → (if a then rest else Some x) ≡ None
one true rest x ea e = e
one false rest x ea e = absurd cc

follow_of : (index : ℕ) (first before : Seen) (images : List Seen) → first_failing (all_asked index (placed_of first) (placed_of before) (map placed_of images)) ≡ None → Follow first before.head.last images
follow_of index first before [] e = tt
follow_of index first before (i ∷ is) e =
    let a = held_so _ _ _ e in
    let b = held_so _ _ _ a.1 in
    let c = held_so _ _ _ b.1 in
    (a.0, (b.0, (c.0, follow_of (index + 1) first i is c.1)))

none_fails : (index : ℕ) (first before : Seen) (images : List Seen) → Follow first before.head.last images → first_failing (all_asked index (placed_of first) (placed_of before) (map placed_of images)) ≡ None
none_fails index first before [] follow = refl
none_fails index first before (i ∷ is) follow =
    one _ _ _ follow.0 (one _ _ _ follow.1.0 (one _ _ _ follow.1.1.0 (none_fails (index + 1) first i is follow.1.1.1)))

-- ---- lists in turn

hour_after : (last : Option CivilHour) (xs ys : List Seen) → last_hour last (xs ++ ys) ≡ last_hour (last_hour last xs) ys
hour_after last [] ys = refl
hour_after last (x ∷ xs) ys = hour_after x.head.last xs ys

any_last : (a b : Option CivilHour) (xs : List Seen) → xs ≢ [] → last_hour a xs ≡ last_hour b xs
any_last a b [] some = absurd (some refl)
any_last a b (x ∷ xs) some = refl

split : (first : Seen) (last : Option CivilHour) (xs ys : List Seen) → Follow first last (xs ++ ys) → Follow first last xs × Follow first (last_hour last xs) ys
split first last [] ys follow = (tt, follow)
split first last (x ∷ xs) ys follow =
    let rest = split first x.head.last xs ys follow.1.1.1 in
    ((follow.0, (follow.1.0, (follow.1.1.0, rest.0))), rest.1)

front_none : {A : Type 0} (xs ys : List A) → xs ++ ys ≡ [] → xs ≡ []
front_none [] ys e = refl
front_none (x ∷ xs) ys e = absurd cc

-- ---- a fold among others

period_not_base : (level : Level) → (level ≡ Day) ⊎ (level ≡ Month) → not (level_number level == 0) ≡ true
period_not_base level which = elim which [
  | inl day ↦ subst (λ (l : Level). not (level_number l == 0) ≡ true) (sym day) refl
  | inr month ↦ subst (λ (l : Level). not (level_number l == 0) ≡ true) (sym month) refl
]

some_leaves : (forest : Forest) → AreFolds forest → roots forest ≢ [] → leaves forest ≢ []
some_leaves nothing folds some = some
some_leaves (hour image next) folds some = λ e. absurd cc
some_leaves (fold level under image next) folds some = λ e. some_leaves under folds.1.0 folds.0.some (front_none (leaves under) (leaves next) e)

-- the roots end where the leaves end
ends_alike : (forest : Forest) → AreFolds forest → (last : Option CivilHour) → last_hour last (roots forest) ≡ last_hour last (leaves forest)
ends_alike nothing folds last = refl
ends_alike (hour image next) folds last = ends_alike next folds image.head.last
ends_alike (fold level under image next) folds last =
    ends_alike next folds.1.1 image.head.last
    ∙ (ap (λ (o : Option CivilHour). last_hour o (leaves next))
    (ap (λ (h : Head). h.last) folds.0.fold.parts.head_is ∙ (ends_alike under folds.1.0 None ∙ any_last None last (leaves under) (some_leaves under folds.1.0 folds.0.some)))
    ∙ sym (hour_after last (leaves under) (leaves next)))

-- what is asked of the first of some images is asked of a file with its rules and its first hour
begins : (first : Seen) (last : Option CivilHour) (images : List Seen) → images ≢ [] → Follow first last images
    → (bytes_eq (rules_text (common_rules images)) (rules_text first.rules) ≡ true) × (is_after last (first_hour images) ≡ true)
begins first last [] some follow = absurd (some refl)
begins first last (i ∷ is) some follow = (follow.1.0, follow.1.1.0)

roots_follow : (first : Seen) (last : Option CivilHour) (forest : Forest) → AreFolds forest → Follow first last (leaves forest) → Follow first last (roots forest)
roots_follow first last nothing folds follow = tt
roots_follow first last (hour image next) folds follow =
    (follow.0, (follow.1.0, (follow.1.1.0, roots_follow first image.head.last next folds follow.1.1.1)))
roots_follow first last (fold level under image next) folds follow =
    let both = split first last (leaves under) (leaves next) follow in
    let own = begins first last (roots under) folds.0.some (roots_follow first last under folds.1.0 both.0) in
    let head : image.head ≡ fold_head level (roots under) = folds.0.fold.parts.head_is in
    let ends : last_hour last (leaves under) ≡ image.head.last =
    any_last last None (leaves under) (some_leaves under folds.1.0 folds.0.some) ∙ (sym (ends_alike under folds.1.0 None) ∙ ap (λ (h : Head). h.last) (sym head)) in (
      subst (λ (h : Head). not (level_number h.level == 0) ≡ true) (sym head) (period_not_base level folds.0.period),
      (
        subst (λ (rules : List Rule). bytes_eq (rules_text rules) (rules_text first.rules) ≡ true) (sym folds.0.fold.parts.rules_are) own.0,
        (
          subst (λ (h : Head). is_after last h.first ≡ true) (sym head) own.1,
          roots_follow first image.head.last next folds.1.1 (subst (λ (o : Option CivilHour). Follow first o (leaves next)) ends both.1),
        ),
      ),
    )

-- images that are a cut of images that follow one another follow one another
pub cut_follows : (written images : List Seen) → not_run (map placed_of written) ≡ None → IsCut written images → not_run (map placed_of images) ≡ None
cut_follows written images none cut =
    let base : Seen = cut.base in
    let forest : Forest = cut.forest in
    let there : not_run (map placed_of (base ∷ leaves forest)) ≡ None = subst (λ (is : List Seen). not_run (map placed_of is) ≡ None) cut.hours none in
    let above = held_so _ _ _ there in
    let follow : Follow base base.head.last (roots forest) = roots_follow base base.head.last forest cut.folds (follow_of 1 base base (leaves forest) above.1) in
    subst (λ (is : List Seen). not_run (map placed_of is) ≡ None) (sym cut.cut) (one _ _ _ above.0 (none_fails 1 base base (roots forest) follow))

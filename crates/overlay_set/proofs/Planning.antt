-- The plan of a period of a set that stands fits it.
use Rattle.std.proofs.Common.{◌≡◌, ◌≢◌, ℕ, zero, suc, ◌<◌, ◌≤◌, ◌⊎◌, IsTrue, Bool, true, false, cond, not, ◌==◌, nat_le, nat_lt, List, [], ◌∷◌, ◌++◌, length, flat_map, find, filter, Some, refl, sym, ap, ap₂, subst, ◌∙◌, inl, inr, ⊎_elim, arith}
use Rattle.std.specs.List.{AllByRecursion, AllZip, list_any}
use Rattle.std.proofs.lemmas.Bool.Decides.{nat_tests}
use Rattle.live_model.specs.declared.levels.Level.{Level}
use Rattle.live_model.specs.declared.levels.Level.TheVariants.{Base, Hour, Day, Month}
use Rattle.live_model.specs.declared.objects.Entity.{Entity}
use Rattle.live_model.specs.declared.objects.Line.{Line}
use Rattle.live_model.specs.declared.rules.Rule.{Rule}
use Rattle.live_model.specs.Levels.{level_number}
use Rattle.live_model.specs.Stores.{apply}
use Rattle.live_model.specs.Maps.{published}
use Rattle.stamp_core.specs.Hours.{CivilHour}
use Rattle.stamp_core.specs.declared.head.Head.{Head}
use Rattle.overlay_set.specs.Sets.{Entry, Image, MapFile, State, numbers_of, images_of, lines_of, greatest, age, run_head, base_image}
use Rattle.overlay_set.specs.Periods.{Period, stretch, is_within, is_closed, settled_level, settled_runs, put_before, cut_by, period_of, periods, is_hour_of, entries_in, is_file_of, files_in, is_one_of_level, shrinkable}
use Rattle.overlay_set.specs.Standing.{IsRunOf, AreFilesOf, AreApart, Stands}
use Rattle.overlay_set.specs.Swaps.{plan_of, IsAmong, IsHeadOf, IsPlanned, Fits}
use Rattle.overlay_set.specs.SetLaws.{PlanLaw}
use Rattle.overlay_set.proofs.Closing.{filter-append}
use Rattle.overlay_set.proofs.Lists.{all-append}
use Rattle.overlay_set.proofs.Spans.{AreWithin, period_within}
use Rattle.overlay_set.proofs.Staying.{run_some, among_right}

-- What a cut keeps.

flat_put : {A : Type 0} (t : A → A → Bool) (x : A) (runs : List (List A)) → flat_map (λ r. r) (put_before t x runs) ≡ x ∷ flat_map (λ r. r) runs
flat_put t x [] = refl
flat_put t x ([] ∷ runs) = refl
flat_put {A} t x ((y ∷ run) ∷ runs) = go (t x y)
  where
    go : (b : Bool) → flat_map (λ r. r) (cond b ((x ∷ y ∷ run) ∷ runs) ((x ∷ []) ∷ (y ∷ run) ∷ runs)) ≡ x ∷ ((y ∷ run) ++ flat_map (λ r. r) runs)
    go true = refl
    go false = refl

pub flat_cut : {A : Type 0} (t : A → A → Bool) (xs : List A) → flat_map (λ r. r) (cut_by t xs) ≡ xs
flat_cut t [] = refl
flat_cut t (x ∷ xs) = flat_put t x (cut_by t xs) ∙ ap (λ l. x ∷ l) (flat_cut t xs)

-- What a period is.

pub record IsPeriodOf (history : List Entry) (p : Period) : Type 0 where
  pub high : 2 ≤ level_number p.level
  pub closed : IsTrue (is_closed p.level history p.hour)
  pub last_month : level_number p.level ≡ 2 → is_closed Month history p.hour ≡ false
  pub entry : Entry
  pub among : IsAmong entry history
  pub begins : entry.stamp ≡ p.hour

among_left : {A : Type 0} (xs ys : List A) (x : A) → IsAmong x xs → IsAmong x (xs ++ ys)
among_left [] ys x h = absurd h
among_left (z ∷ zs) ys x (inl e) = inl e
among_left (z ∷ zs) ys x (inr h) = inr (among_left zs ys x h)

pub one_period : (history : List Entry) (e : Entry) (run : List Entry) → IsAmong e history → AllByRecursion (IsPeriodOf history) (period_of history (e ∷ run))
one_period history e run among = go (is_closed Month history e.stamp) refl (is_closed Day history e.stamp) refl
  where
    go : (m : Bool) → is_closed Month history e.stamp ≡ m → (d : Bool) → is_closed Day history e.stamp ≡ d
        → AllByRecursion (IsPeriodOf history)
        (cond (level_number (cond m Month (cond d Day Hour)) == 1) [] (record { level = cond m Month (cond d Day Hour); hour = e.stamp } ∷ []))
    go true is d id = (record { high = omega arith; closed = is; last_month = λ (n : 3 ≡ 2). absurd (omega arith); entry = e; among = among; begins = refl }, tt)
    go false is true id = (record { high = omega arith; closed = id; last_month = λ n. is; entry = e; among = among; begins = refl }, tt)
    go false is false id = tt

periods_from : (history : List Entry) (runs : List (List Entry)) → ((e : Entry) → IsAmong e (flat_map (λ r. r) runs) → IsAmong e history)
    → AllByRecursion (IsPeriodOf history) (flat_map (period_of history) runs)
periods_from history [] inside = tt
periods_from history ([] ∷ runs) inside = periods_from history runs inside
periods_from history ((e ∷ run) ∷ runs) inside =
    all-append (IsPeriodOf history) (period_of history (e ∷ run)) (flat_map (period_of history) runs) (one_period history e run (inside e (inl refl)))
    (periods_from history runs (λ f h. inside f (among_right (e ∷ run) (flat_map (λ r. r) runs) f h)))

pub periods_are : (history : List Entry) → AllByRecursion (IsPeriodOf history) (periods history)
periods_are history =
    let test : Entry → Entry → Bool = λ a b. is_within (settled_level history a.stamp) a.stamp b.stamp in
    periods_from history (settled_runs history) (λ e h. subst (IsAmong e) (flat_cut test history) h)

pub find_some : {A : Type 0} (P : A → Type 0) (test : A → Bool) (xs : List A) (x : A) → find test xs ≡ Some x → AllByRecursion P xs → P x × (test x ≡ true)
find_some P test [] x e all = absurd cc
find_some {A} P test (y ∷ ys) x e all = go (test y) refl (λ e'. find_some P test ys x e' all.1) e
  where
    go : (b : Bool) → test y ≡ b → (find test ys ≡ Some x → P x × (test x ≡ true)) → cond b (Some y) (find test ys) ≡ Some x → P x × (test x ≡ true)
    go true is ih e = let same : y ≡ x = cc in (subst P same all.0, subst (λ z. test z ≡ true) same is)
    go false is ih e = ih e

-- A run lies in a period or outside it.

pub day-month : (a b : CivilHour) → stretch Day a ≡ stretch Day b → stretch Month a ≡ stretch Month b
day-month a b e = omega (arith, e)

pub closed_same : (level : Level) (history : List Entry) (a b : CivilHour) → stretch level a ≡ stretch level b → is_closed level history a ≡ is_closed level history b
closed_same level history a b e = ap (λ n. list_any (λ (x : Entry). nat_lt n (stretch level x.stamp)) history) e

within_same : (p : Period) (a b : CivilHour) → stretch p.level a ≡ stretch p.level b → is_within p.level p.hour a ≡ is_within p.level p.hour b
within_same p a b e = ap (λ n. stretch p.level p.hour == n) e

abbrev AreAlike : Period → Entry → List Entry → Type 0
AreAlike p x es = AllByRecursion (λ e. is_within p.level p.hour e.stamp ≡ is_within p.level p.hour x.stamp) es

alike_of : (p : Period) (x : Entry) (es : List Entry) (level : Level) (hour : CivilHour)
    → ((e : Entry) → stretch level e.stamp ≡ stretch level hour → is_within p.level p.hour e.stamp ≡ is_within p.level p.hour x.stamp)
    → AreWithin (record { level = level; hour = hour }) es → AreAlike p x es
alike_of p x [] level hour f all = tt
alike_of p x (e ∷ es) level hour f all = (f e all.0, alike_of p x es level hour f all.1)

-- the hours of a closed month are in no day of an open one
not_in_day : (history : List Entry) (p : Period) (hour a : CivilHour) → p.level ≡ Day → is_closed Month history p.hour ≡ false → IsTrue (is_closed Month history hour)
    → stretch Month a ≡ stretch Month hour → is_within p.level p.hour a ≡ false
not_in_day history p hour a is not_closed closed e = go (is_within p.level p.hour a) refl
  where
    day : stretch p.level p.hour ≡ stretch p.level a → stretch Day p.hour ≡ stretch Day a
    day h = subst (λ l. stretch l p.hour ≡ stretch l a) is h

    wrong : stretch p.level p.hour ≡ stretch p.level a → ⊥
    wrong h =
        let both : is_closed Month history p.hour ≡ is_closed Month history hour = closed_same Month history p.hour hour (day-month p.hour a (day h) ∙ e) in
        let no : false ≡ true = sym not_closed ∙ both ∙ closed in
        cc

    go : (b : Bool) → is_within p.level p.hour a ≡ b → b ≡ false
    go true w = absurd (wrong (grind (arith, nat_tests)))
    go false w = refl

pub level_of : (level : Level) → 2 ≤ level_number level → (level ≡ Day) ⊎ (level ≡ Month)
level_of Base h = absurd (omega arith)
level_of Hour h = absurd (omega arith)
level_of Day h = inl refl
level_of Month h = inr refl

-- each entry of a run of a file is in the period where the first is
pub alike : (history : List Entry) (p : Period) (level : Level) (x : Entry) (xs : List Entry) → IsPeriodOf history p → IsRunOf level history (x ∷ xs) → AreAlike p x (x ∷ xs)
alike history p Base x xs is run = absurd run
alike history p Hour x [] is run = (refl, tt)
alike history p Hour x (y ∷ ys) is run = absurd (omega (arith, run))
alike history p Day x xs is run =
    let here : AreWithin (record { level = Day; hour = run.hour }) (x ∷ xs) = subst (AreWithin (record { level = Day; hour = run.hour })) (sym run.whole) (period_within (record { level = Day; hour = run.hour }) history) in
    let same : (e : Entry) → stretch Day e.stamp ≡ stretch Day run.hour → is_within p.level p.hour e.stamp ≡ is_within p.level p.hour x.stamp =
    λ e h. within_same p e.stamp x.stamp
    (⊎_elim (λ (l : p.level ≡ Day). subst (λ l. stretch l e.stamp ≡ stretch l x.stamp) (sym l) (h ∙ sym here.0))
    (λ (l : p.level ≡ Month). subst (λ l. stretch l e.stamp ≡ stretch l x.stamp) (sym l) (day-month e.stamp x.stamp (h ∙ sym here.0))) (level_of p.level is.high)) in
    alike_of p x (x ∷ xs) Day run.hour same here
alike history p Month x xs is run =
    let here : AreWithin (record { level = Month; hour = run.hour }) (x ∷ xs) = subst (AreWithin (record { level = Month; hour = run.hour })) (sym run.whole) (period_within (record { level = Month; hour = run.hour }) history) in
    let same : (e : Entry) → stretch Month e.stamp ≡ stretch Month run.hour → is_within p.level p.hour e.stamp ≡ is_within p.level p.hour x.stamp =
    λ e h. ⊎_elim
    (λ (l : p.level ≡ Day). not_in_day history p run.hour e.stamp l (is.last_month (ap level_number l)) run.closed h ∙ sym (not_in_day history p run.hour x.stamp l (is.last_month (ap level_number l)) run.closed here.0))
    (λ (l : p.level ≡ Month). within_same p e.stamp x.stamp (subst (λ l. stretch l e.stamp ≡ stretch l x.stamp) (sym l) (h ∙ sym here.0))) (level_of p.level is.high) in
    alike_of p x (x ∷ xs) Month run.hour same here

whole_in : (p : Period) (es : List Entry) → AllByRecursion (λ e. is_within p.level p.hour e.stamp ≡ true) es → entries_in p es ≡ es
whole_in p [] all = refl
whole_in p (e ∷ es) all = go (is_within p.level p.hour e.stamp) all.0 (whole_in p es all.1)
  where
    go : (b : Bool) → b ≡ true → entries_in p es ≡ es → cond b (e ∷ entries_in p es) (entries_in p es) ≡ e ∷ es
    go true is ih = ap (λ l. e ∷ l) ih
    go false is ih = absurd cc

none_in : (p : Period) (es : List Entry) → AllByRecursion (λ e. is_within p.level p.hour e.stamp ≡ false) es → entries_in p es ≡ []
none_in p [] all = refl
none_in p (e ∷ es) all = go (is_within p.level p.hour e.stamp) all.0 (none_in p es all.1)
  where
    go : (b : Bool) → b ≡ false → entries_in p es ≡ [] → cond b (e ∷ entries_in p es) (entries_in p es) ≡ []
    go true is ih = absurd cc
    go false is ih = ih

alike_are : (p : Period) (x : Entry) (es : List Entry) (b : Bool) → is_within p.level p.hour x.stamp ≡ b → AreAlike p x es → AllByRecursion (λ e. is_within p.level p.hour e.stamp ≡ b) es
alike_are p x [] b is all = tt
alike_are p x (e ∷ es) b is all = (all.0 ∙ is, alike_are p x es b is all.1)

above_base : (level : Level) (history run : List Entry) → IsRunOf level history run → 1 ≤ level_number level
above_base Base history run h = absurd h
above_base Hour history run h = omega arith
above_base Day history run h = omega arith
above_base Month history run h = omega arith

-- a file of the period is of no level above it
not_above : (history : List Entry) (p : Period) (level : Level) (x : Entry) (xs : List Entry) → IsPeriodOf history p → IsRunOf level history (x ∷ xs) → is_within p.level p.hour x.stamp ≡ true
    → level_number level ≤ level_number p.level
not_above history p Base x xs is run here = absurd run
not_above history p Hour x xs is run here = omega (arith, is.high)
not_above history p Day x xs is run here = is.high
not_above history p Month x xs is run here = ⊎_elim
    (λ (l : p.level ≡ Day). absurd (apart (sym (not_in_day history p run.hour x.stamp l (is.last_month (ap level_number l)) run.closed first.0) ∙ here)))
    (λ (l : p.level ≡ Month). omega (arith, ap level_number l)) (level_of p.level is.high)
  where
    apart : false ≡ true → ⊥
    apart e = cc

    first : AreWithin (record { level = Month; hour = run.hour }) (x ∷ xs)
    first = subst (AreWithin (record { level = Month; hour = run.hour })) (sym run.whole) (period_within (record { level = Month; hour = run.hour }) history)

-- The files of a period.

record InPeriod (rules : List Rule) (p : Period) (files : List MapFile) (runs : List (List Entry)) : Type 0 where
  sub : List (List Entry)
  whole : flat_map (λ x. x) sub ≡ entries_in p (flat_map (λ x. x) runs)
  heads : AllZip IsHeadOf sub (files_in p files)
  planned : AllByRecursion (IsPlanned rules p.level) (files_in p files)

in_period : (rules : List Rule) (history : List Entry) (p : Period) → IsPeriodOf history p → (store : List Entity) (files : List MapFile) (runs : List (List Entry))
    → AreFilesOf rules history store runs (images_of files) → InPeriod rules p files runs
in_period rules history p is store [] [] held = record { sub = []; whole = refl; heads = tt; planned = tt }
in_period rules history p is store [] (r ∷ rs) held = absurd held
in_period rules history p is store (f ∷ fs) [] held = absurd held
in_period rules history p is store (f ∷ fs) ([] ∷ rs) held = absurd (run_some f.image.head.level history held.0.covers)
in_period rules history p is store (f ∷ fs) ((x ∷ xs) ∷ rs) held =
    let got = go (is_file_of p f) (ap (λ (h : Head). is_hour_of p h.first) head_is) (in_period rules history p is (published store (lines_of (x ∷ xs))) fs rs held.1) in
    record { sub = got.0; whole = got.1; heads = got.2; planned = got.3 }
  where
    head_is : f.image.head ≡ run_head f.image.head.level (x ∷ xs)
    head_is = ap (λ (i : Image). i.head) held.0.holds

    go : (b : Bool) → b ≡ is_within p.level p.hour x.stamp → InPeriod rules p fs rs → (sub : List (List Entry)) × (flat_map (λ x. x) sub ≡ entries_in p ((x ∷ xs) ++ flat_map (λ x. x) rs))
        × AllZip IsHeadOf sub (cond b (f ∷ files_in p fs) (files_in p fs)) × AllByRecursion (IsPlanned rules p.level) (cond b (f ∷ files_in p fs) (files_in p fs))
    go true e rest = (
      (x ∷ xs) ∷ rest.sub,
      ap₂ (λ a b. a ++ b) (sym (whole_in p (x ∷ xs) (alike_are p x (x ∷ xs) true (sym e) (alike history p f.image.head.level x xs is held.0.covers)))) rest.whole
          ∙ sym (filter-append (λ e. is_within p.level p.hour e.stamp) (x ∷ xs) (flat_map (λ x. x) rs)),
      ((λ n. absurd cc, head_is), rest.heads),
      (
        record {
          above_base = above_base f.image.head.level history (x ∷ xs) held.0.covers;
          not_above = not_above history p f.image.head.level x xs is held.0.covers (sym e);
          table = ap (λ (i : Image). i.rules) held.0.holds;
        },
        rest.planned,
      ),
    )
    go false e rest = (
      rest.sub,
      rest.whole ∙ ap (λ l. l ++ entries_in p (flat_map (λ x. x) rs)) (sym (none_in p (x ∷ xs) (alike_are p x (x ∷ xs) false (sym e) (alike history p f.image.head.level x xs is held.0.covers))))
          ∙ sym (filter-append (λ e. is_within p.level p.hour e.stamp) (x ∷ xs) (flat_map (λ x. x) rs)),
      rest.heads,
      rest.planned,
    )

-- The plan.

pub filtered : {A : Type 0} (P : A → Type 0) (test : A → Bool) (xs : List A) → AllByRecursion P xs → AllByRecursion P (filter test xs)
filtered P test [] a = tt
filtered {A} P test (x ∷ xs) a = go (test x) (filtered P test xs a.1)
  where
    go : (b : Bool) → AllByRecursion P (filter test xs) → AllByRecursion P (cond b (x ∷ filter test xs) (filter test xs))
    go true ih = (a.0, ih)
    go false ih = ih

pub among_filter : {A : Type 0} (test : A → Bool) (xs : List A) (x : A) → IsAmong x (filter test xs) → IsAmong x xs
among_filter test [] x h = h
among_filter {A} test (y ∷ ys) x h = go (test y) (among_filter test ys x) h
  where
    go : (b : Bool) → (IsAmong x (filter test ys) → IsAmong x ys) → IsAmong x (cond b (y ∷ filter test ys) (filter test ys)) → IsAmong x (y ∷ ys)
    go true ih (inl e) = inl e
    go true ih (inr k) = inr (ih k)
    go false ih k = inr (ih k)

-- numbers that are apart name one file each
pub number_among : (P : ℕ → Type 0) (fs : List MapFile) (g : MapFile) → AllByRecursion P (numbers_of fs) → IsAmong g fs → P g.number
number_among P [] g all h = absurd h
number_among P (f ∷ fs) g all (inl e) = subst (λ (h : MapFile). P h.number) (sym e) all.0
number_among P (f ∷ fs) g all (inr h) = number_among P fs g all.1 h

pub one_name : (files : List MapFile) (f g : MapFile) → AreApart (numbers_of files) → IsAmong f files → IsAmong g files → f.number ≡ g.number → f ≡ g
one_name [] f g apart hf hg e = absurd hf
one_name (h ∷ hs) f g apart (inl a) (inl b) e = a ∙ sym b
one_name (h ∷ hs) f g apart (inl a) (inr b) e = absurd (number_among (λ m. h.number ≢ m) hs g apart.0 b (sym (ap (λ (x : MapFile). x.number) a) ∙ e))
one_name (h ∷ hs) f g apart (inr a) (inl b) e = absurd (number_among (λ m. h.number ≢ m) hs f apart.0 a (sym (ap (λ (x : MapFile). x.number) b) ∙ sym e))
one_name (h ∷ hs) f g apart (inr a) (inr b) e = one_name hs f g apart.1 a b e

given_all : (most : ℕ) (fs : List MapFile) → AllByRecursion (λ m. 0 ≢ m) (numbers_of fs) → greatest (numbers_of fs) ≤ most → AllByRecursion (λ f. (0 < f.number) × (f.number ≤ most)) fs
given_all most [] all le = tt
given_all most (f ∷ fs) all le = ((positive f.number all.0, omega arith), given_all most fs all.1 (omega arith))
  where
    positive : (n : ℕ) → 0 ≢ n → 0 < n
    positive zero h = absurd (h refl)
    positive (suc n) h = omega arith

some_in : (p : Period) (es : List Entry) (e : Entry) → IsAmong e es → e.stamp ≡ p.hour → entries_in p es ≢ []
some_in p [] e h is none = h
some_in p (x ∷ xs) e h is none = go (is_within p.level p.hour x.stamp) refl h (λ k none. some_in p xs e k is none) none
  where
    go : (b : Bool) → is_within p.level p.hour x.stamp ≡ b → IsAmong e (x ∷ xs) → (IsAmong e xs → entries_in p xs ≡ [] → ⊥) → cond b (x ∷ entries_in p xs) (entries_in p xs) ≡ [] → ⊥
    go true w h ih none = cc
    go false w (inl a) ih none =
        let here : stretch p.level p.hour ≡ stretch p.level x.stamp = ap (stretch p.level) (sym is ∙ ap (λ (e : Entry). e.stamp) a) in
        absurd (grind (arith, nat_tests))
    go false w (inr k) ih none = ih k none

pub plan_fits : (rules : List Rule) (base : List Line) (s : State) (p : Period) → Stands rules base s → IsPeriodOf s.history p → IsTrue (not (is_one_of_level p.level (files_in p s.files)))
    → Fits (plan_of p s.files) s
plan_fits rules base s p st is several =
    let bottom : MapFile = record { number = 0; image = base_image rules base } in
    let found : InPeriod rules p st.above st.runs = in_period rules s.history p is (apply [] base) st.above st.runs st.held in
    let files : files_in p s.files ≡ files_in p st.above = ap (files_in p) st.files in
    let heads : AllZip IsHeadOf found.sub (files_in p s.files) = subst (λ fs. AllZip IsHeadOf found.sub fs) (sym files) found.heads in
    let whole : flat_map (λ x. x) found.sub ≡ entries_in p s.history = found.whole ∙ ap (entries_in p) (sym st.parted) in
    let apart : AreApart (0 ∷ numbers_of st.above) = subst (λ fs. AreApart (numbers_of fs)) st.files st.apart in
    let aged : age s ≡ greatest (0 ∷ numbers_of st.above) = ap (λ fs. greatest (numbers_of fs)) st.files in record {
      some = λ none. some_in p s.history is.entry is.among is.begins (sym whole ∙ no_runs found.sub (files_in p s.files) none heads);
      rules = rules;
      planned = subst (AllByRecursion (IsPlanned rules p.level)) (sym files) found.planned;
      given = subst (AllByRecursion (λ f. (0 < f.number) × (f.number ≤ age s))) (sym files)
          (filtered (λ f. (0 < f.number) × (f.number ≤ age s)) (is_file_of p) st.above (given_all (age s) st.above apart.0 (omega (arith, aged))));
      same = λ f g hf hg e. one_name s.files f g st.apart (among_filter (is_file_of p) s.files f hf) hg e;
      level = is.high;
      covers = record { hour = p.hour; closed = is.closed; runs = found.sub; whole = whole; heads = heads };
      several = several;
    }
  where
    no_runs : (sub : List (List Entry)) (files : List MapFile) → files ≡ [] → AllZip IsHeadOf sub files → flat_map (λ x. x) sub ≡ []
    no_runs [] files e heads = refl
    no_runs (r ∷ rs) [] e heads = absurd heads
    no_runs (r ∷ rs) (f ∷ fs) e heads = absurd cc

pub plan_law : PlanLaw
plan_law rules base s p st e =
    let found : IsPeriodOf s.history p × (not (is_one_of_level p.level (files_in p s.files)) ≡ true) =
    find_some (IsPeriodOf s.history) (λ p. not (is_one_of_level p.level (files_in p s.files))) (periods s.history) p e (periods_are s.history) in
    plan_fits rules base s p st found.0 found.1

two_are_several : (level : Level) (files : List MapFile) → nat_le 2 (length files) ≡ true → IsTrue (not (is_one_of_level level files))
two_are_several level [] e = refl
two_are_several level (f ∷ []) e = absurd (wrong e)
  where
    wrong : nat_le 2 1 ≡ true → ⊥
    wrong e = cc
two_are_several level (f ∷ g ∷ fs) e = refl

pub shrink_law : (rules : List Rule) (base : List Line) (s : State) (p : Period) → Stands rules base s → shrinkable s ≡ Some p → Fits (plan_of p s.files) s
shrink_law rules base s p st e =
    let found : IsPeriodOf s.history p × (nat_le 2 (length (files_in p s.files)) ≡ true) =
    find_some (IsPeriodOf s.history) (λ p. nat_le 2 (length (files_in p s.files))) (periods s.history) p e (periods_are s.history) in
    plan_fits rules base s p st found.0 (two_are_several p.level (files_in p s.files) found.1)

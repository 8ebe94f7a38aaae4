-- A set in which nothing is foldable has the settled shape.
use Rattle.std.proofs.Common.{◌≡◌, ◌≢◌, ℕ, ◌<◌, ◌≤◌, ◌⊎◌, Bool, true, false, cond, not, ◌==◌, List, [], ◌∷◌, ◌++◌, flat_map, find, filter, Some, None, refl, sym, ap, ap₂, subst, ◌∙◌, inl, inr, ⊎_elim, append_assoc, nat_cmp, Less, arith}
use Rattle.std.specs.List.{AllByRecursion}
use Rattle.std.proofs.lemmas.Bool.Decides.{nat_tests}
use Rattle.live_model.specs.declared.levels.Level.{Level}
use Rattle.live_model.specs.declared.levels.Level.TheVariants.{Base, Hour, Day, Month}
use Rattle.live_model.specs.declared.objects.Entity.{Entity}
use Rattle.live_model.specs.declared.rules.Rule.{Rule}
use Rattle.live_model.specs.Levels.{level_number}
use Rattle.live_model.specs.Stores.{apply}
use Rattle.live_model.specs.Maps.{published}
use Rattle.stamp_core.specs.Hours.{CivilHour, number_of}
use Rattle.stamp_core.specs.declared.head.Head.{Head}
use Rattle.overlay_set.specs.Sets.{Entry, Image, MapFile, images_of, lines_of, run_head, run_image, base_image}
use Rattle.overlay_set.specs.Periods.{Period, stretch, is_within, is_closed, settled_level, settled_runs, put_before, cut_by, period_of, periods, is_hour_of, entries_in, is_file_of, files_in, is_one_of_level, run_images}
use Rattle.overlay_set.specs.Standing.{IsRunOf, AreFilesOf, AreRising}
use Rattle.overlay_set.specs.Swaps.{IsAmong}
use Rattle.overlay_set.specs.SetLaws.{SettledLaw}
use Rattle.overlay_set.proofs.Closing.{less-lt}
use Rattle.overlay_set.proofs.Fitting.{of_all}
use Rattle.overlay_set.proofs.Spans.{AreWithin, period_within, rising_right}
use Rattle.overlay_set.proofs.Staying.{run_some, among_right}
use Rattle.overlay_set.proofs.Planning.{IsPeriodOf, periods_are, alike, day-month, closed_same}

-- Levels.

settled_of : Bool → Bool → Level
settled_of m d = cond m Month (cond d Day Hour)

pub number_one : (a b : Level) → level_number a ≡ level_number b → a ≡ b
number_one Base Base e = refl
number_one Base Hour e = absurd (omega (arith, e))
number_one Base Day e = absurd (omega (arith, e))
number_one Base Month e = absurd (omega (arith, e))
number_one Hour Base e = absurd (omega (arith, e))
number_one Hour Hour e = refl
number_one Hour Day e = absurd (omega (arith, e))
number_one Hour Month e = absurd (omega (arith, e))
number_one Day Base e = absurd (omega (arith, e))
number_one Day Hour e = absurd (omega (arith, e))
number_one Day Day e = refl
number_one Day Month e = absurd (omega (arith, e))
number_one Month Base e = absurd (omega (arith, e))
number_one Month Hour e = absurd (omega (arith, e))
number_one Month Day e = absurd (omega (arith, e))
number_one Month Month e = refl

-- hours of one stretch of the level at which the first is kept are kept at that level
pub settled_same : (history : List Entry) (a b : CivilHour) → stretch (settled_level history a) a ≡ stretch (settled_level history a) b → settled_level history b ≡ settled_level history a
settled_same history a b e = go (is_closed Month history a) refl (is_closed Day history a) refl e
  where
    go : (m : Bool) → is_closed Month history a ≡ m → (d : Bool) → is_closed Day history a ≡ d → stretch (cond m Month (cond d Day Hour)) a ≡ stretch (cond m Month (cond d Day Hour)) b
        → settled_level history b ≡ cond m Month (cond d Day Hour)
    go true im d id e = ap (λ m. cond m Month (cond (is_closed Day history b) Day Hour)) (closed_same Month history b a (sym e) ∙ im)
    go false im true id e =
        ap (λ m. cond m Month (cond (is_closed Day history b) Day Hour)) (closed_same Month history b a (sym (day-month a b e)) ∙ im) ∙ ap (λ d. cond d Day Hour) (closed_same Day history b a (sym e) ∙ id)
    go false im false id e =
        let day : stretch Day a ≡ stretch Day b = omega (arith, e) in
        ap (λ m. cond m Month (cond (is_closed Day history b) Day Hour)) (closed_same Month history b a (sym (day-month a b day)) ∙ im) ∙ ap (λ d. cond d Day Hour) (closed_same Day history b a (sym day) ∙ id)

-- Each entry that is not kept alone is in a period.

abbrev pub goes : List Entry → Entry → Entry → Bool
goes history a b = is_within (settled_level history a.stamp) a.stamp b.stamp

-- a run that begins at a level, in the stretch of an hour
abbrev BeginsFor : List Entry → CivilHour → List Entry → Type 0
BeginsFor history hour [] = ⊥
BeginsFor history hour (e ∷ run) = (settled_level history e.stamp ≡ settled_level history hour) × (stretch (settled_level history hour) e.stamp ≡ stretch (settled_level history hour) hour)

record RunFor (history : List Entry) (hour : CivilHour) (runs : List (List Entry)) : Type 0 where
  run : List Entry
  among : IsAmong run runs
  begins : BeginsFor history hour run

pub cut_head : (t : Entry → Entry → Bool) (x : Entry) (xs : List Entry) → (run : List Entry) × (runs : List (List Entry)) × (cut_by t (x ∷ xs) ≡ (x ∷ run) ∷ runs)
cut_head t x xs = go (cut_by t xs)
  where
    go : (runs : List (List Entry)) → (run : List Entry) × (rest : List (List Entry)) × (put_before t x runs ≡ (x ∷ run) ∷ rest)
    go [] = ([], [], refl)
    go ([] ∷ runs) = ([], [] ∷ runs, refl)
    go ((y ∷ run) ∷ runs) = pick (t x y)
      where
        pick : (b : Bool) → (w : List Entry) × (rest : List (List Entry)) × (cond b ((x ∷ y ∷ run) ∷ runs) ((x ∷ []) ∷ (y ∷ run) ∷ runs) ≡ (x ∷ w) ∷ rest)
        pick true = (y ∷ run, runs, refl)
        pick false = ([], (y ∷ run) ∷ runs, refl)

put_keeps : (history : List Entry) (z : Entry) (hour : CivilHour) (runs : List (List Entry)) → RunFor history hour runs → RunFor history hour (put_before (goes history) z runs)
put_keeps history z hour [] found = absurd found.among
put_keeps history z hour ([] ∷ runs) found = record { run = found.run; among = inr found.among; begins = found.begins }
put_keeps history z hour ((y ∷ run) ∷ runs) found = pick (goes history z y) refl found.among
  where
    pick : (b : Bool) → goes history z y ≡ b → IsAmong found.run ((y ∷ run) ∷ runs) → RunFor history hour (cond b ((z ∷ y ∷ run) ∷ runs) ((z ∷ []) ∷ (y ∷ run) ∷ runs))
    pick false g among = record { run = found.run; among = inr among; begins = found.begins }
    pick true g (inr among) = record { run = found.run; among = inr among; begins = found.begins }
    pick true g (inl e) =
        let begins : BeginsFor history hour (y ∷ run) = subst (BeginsFor history hour) e found.begins in
        let together : stretch (settled_level history z.stamp) z.stamp ≡ stretch (settled_level history z.stamp) y.stamp = grind (arith, nat_tests) in
        let levels : settled_level history z.stamp ≡ settled_level history hour = sym (settled_same history z.stamp y.stamp together) ∙ begins.0 in
        record {
          run = z ∷ y ∷ run;
          among = inl refl;
          begins = (levels, subst (λ l. stretch l z.stamp ≡ stretch l y.stamp) levels together ∙ begins.1);
        }

run_for : (history : List Entry) (es : List Entry) (a : Entry) → IsAmong a es → RunFor history a.stamp (cut_by (goes history) es)
run_for history [] a among = absurd among
run_for history (z ∷ zs) a (inr among) = put_keeps history z a.stamp (cut_by (goes history) zs) (run_for history zs a among)
run_for history (z ∷ zs) a (inl e) =
    let head = cut_head (goes history) z zs in
    subst (λ (x : Entry). RunFor history x.stamp (cut_by (goes history) (z ∷ zs))) (sym e)
    (subst (RunFor history z.stamp) (sym head.2) (record { run = z ∷ head.0; among = inl refl; begins = (refl, refl) }))

pub among_append_left : {A : Type 0} (xs ys : List A) (x : A) → IsAmong x xs → IsAmong x (xs ++ ys)
among_append_left [] ys x h = absurd h
among_append_left (z ∷ zs) ys x (inl e) = inl e
among_append_left (z ∷ zs) ys x (inr h) = inr (among_append_left zs ys x h)

among_flat : {A B : Type 0} (f : A → List B) (xs : List A) (x : A) (y : B) → IsAmong x xs → IsAmong y (f x) → IsAmong y (flat_map f xs)
among_flat f [] x y h k = absurd h
among_flat f (z ∷ zs) x y (inl e) k = among_append_left (f z) (flat_map f zs) y (subst (λ w. IsAmong y (f w)) e k)
among_flat f (z ∷ zs) x y (inr h) k = among_right (f z) (flat_map f zs) y (among_flat f zs x y h k)

pub record PeriodFor (history : List Entry) (hour : CivilHour) : Type 0 where
  pub period : Period
  pub among : IsAmong period (periods history)
  pub level : period.level ≡ settled_level history hour
  pub inside : is_within period.level period.hour hour ≡ true

pub period_for : (history : List Entry) (a : Entry) → IsAmong a history → 2 ≤ level_number (settled_level history a.stamp) → PeriodFor history a.stamp
period_for history a among high = go (run_for history history a among)
  where
    go : RunFor history a.stamp (settled_runs history) → PeriodFor history a.stamp
    go found = take found.run found.among found.begins
      where
        take : (run : List Entry) → IsAmong run (settled_runs history) → BeginsFor history a.stamp run → PeriodFor history a.stamp
        take [] in_ begins = absurd begins
        take (e ∷ run) in_ begins = record {
          period = record { level = settled_level history e.stamp; hour = e.stamp };
          among = among_flat (period_of history) (settled_runs history) (e ∷ run) (record { level = settled_level history e.stamp; hour = e.stamp }) in_ (told (level_number (settled_level history e.stamp) == 1) refl);
          level = begins.0;
          inside = together;
        }
          where
            same : stretch (settled_level history e.stamp) e.stamp ≡ stretch (settled_level history e.stamp) a.stamp
            same = subst (λ l. stretch l e.stamp ≡ stretch l a.stamp) (sym begins.0) begins.1

            together : is_within (settled_level history e.stamp) e.stamp a.stamp ≡ true
            together = grind (arith, nat_tests, same)

            above : 2 ≤ level_number (settled_level history e.stamp)
            above = subst (λ l. 2 ≤ level_number l) (sym begins.0) high

            told : (b : Bool) → (level_number (settled_level history e.stamp) == 1) ≡ b
                → IsAmong {A = Period} (record { level = settled_level history e.stamp; hour = e.stamp }) (cond b [] (record { level = settled_level history e.stamp; hour = e.stamp } ∷ []))
            told true is = absurd (grind (arith, nat_tests, above))
            told false is = inl refl

-- Runs of the files are the settled runs.

closed_high : (history : List Entry) (a : CivilHour) (level : Level) → 2 ≤ level_number level → is_closed level history a ≡ true → 2 ≤ level_number (settled_level history a)
closed_high history a Base high e = absurd (omega (arith, high))
closed_high history a Hour high e = absurd (omega (arith, high))
closed_high history a Month high e = subst (λ m. 2 ≤ level_number (cond m Month (cond (is_closed Day history a) Day Hour))) (sym e) (omega arith)
closed_high history a Day high e = go (is_closed Month history a)
  where
    go : (m : Bool) → 2 ≤ level_number (cond m Month (cond (is_closed Day history a) Day Hour))
    go true = omega arith
    go false = subst (λ d. 2 ≤ level_number (cond d Day Hour)) (sym e) (omega arith)

pub low_hour : (history : List Entry) (a : CivilHour) → level_number (settled_level history a) < 2 → settled_level history a ≡ Hour
low_hour history a low = go (is_closed Month history a) (is_closed Day history a) low
  where
    go : (m d : Bool) → level_number (cond m Month (cond d Day Hour)) < 2 → cond m Month (cond d Day Hour) ≡ Hour
    go true d low = absurd (omega (arith, low))
    go false true low = absurd (omega (arith, low))
    go false false low = refl

abbrev pub AreOf : List Entry → Level → ℕ → List Entry → Type 0
AreOf history level k es = AllByRecursion (λ e. (settled_level history e.stamp ≡ level) × (stretch level e.stamp ≡ k)) es

abbrev pub Stops : Level → ℕ → List Entry → Type 0
Stops level k [] = Unit {0}
Stops level k (y ∷ ys) = k ≢ stretch level y.stamp

pub goes_is : (history : List Entry) (a b : Entry) (level : Level) → settled_level history a.stamp ≡ level → goes history a b ≡ (stretch level a.stamp == stretch level b.stamp)
goes_is history a b level e = ap (λ l. stretch l a.stamp == stretch l b.stamp) e

-- a run whose entries go together, and not with what follows, is cut off whole
pub cut_run : (history : List Entry) (level : Level) (k : ℕ) (x : Entry) (xs ys : List Entry) → AreOf history level k (x ∷ xs) → Stops level k ys
    → cut_by (goes history) ((x ∷ xs) ++ ys) ≡ (x ∷ xs) ∷ cut_by (goes history) ys
cut_run history level k x [] [] all stops = refl
cut_run history level k x [] (y ∷ ys) all stops =
    let head = cut_head (goes history) y ys in
    ap (put_before (goes history) x) head.2 ∙ pick head.0 head.1 (goes history x y) refl ∙ ap (λ l. (x ∷ []) ∷ l) (sym head.2)
  where
    pick : (run : List Entry) (runs : List (List Entry)) (b : Bool) → goes history x y ≡ b → cond b ((x ∷ y ∷ run) ∷ runs) ((x ∷ []) ∷ (y ∷ run) ∷ runs) ≡ (x ∷ []) ∷ (y ∷ run) ∷ runs
    pick run runs true e =
        let both : (stretch level x.stamp == stretch level y.stamp) ≡ true = sym (goes_is history x y level all.0.0) ∙ e in
        let same : stretch level x.stamp ≡ stretch level y.stamp = grind (arith, nat_tests) in
        absurd (stops (sym all.0.1 ∙ same))
    pick run runs false e = refl
cut_run history level k x (z ∷ zs) ys all stops =
    ap (put_before (goes history) x) (cut_run history level k z zs ys all.1 stops) ∙ pick (goes history x z) refl
  where
    pick : (b : Bool) → goes history x z ≡ b → cond b ((x ∷ z ∷ zs) ∷ cut_by (goes history) ys) ((x ∷ []) ∷ (z ∷ zs) ∷ cut_by (goes history) ys) ≡ (x ∷ z ∷ zs) ∷ cut_by (goes history) ys
    pick true e = refl
    pick false e =
        let not_both : (stretch level x.stamp == stretch level z.stamp) ≡ false = sym (goes_is history x z level all.0.0) ∙ e in
        let same : stretch level x.stamp ≡ stretch level z.stamp = all.0.1 ∙ sym all.1.0.1 in
        absurd (grind (arith, nat_tests))

pub found_none : {A : Type 0} (test : A → Bool) (xs : List A) → find (λ x. not (test x)) xs ≡ None → AllByRecursion (λ x. test x ≡ true) xs
found_none test [] e = tt
found_none {A} test (x ∷ xs) e = go (test x) refl (found_none test xs) e
  where
    go : (b : Bool) → test x ≡ b → (find (λ x. not (test x)) xs ≡ None → AllByRecursion (λ x. test x ≡ true) xs)
        → cond (not b) (Some x) (find (λ x. not (test x)) xs) ≡ None → (test x ≡ true) × AllByRecursion (λ x. test x ≡ true) xs
    go true is ih e = (is, ih e)
    go false is ih e = absurd cc

pub among_kept : {A : Type 0} (test : A → Bool) (xs : List A) (x : A) → test x ≡ true → IsAmong x xs → IsAmong x (filter test xs)
among_kept test [] x e h = h
among_kept {A} test (y ∷ ys) x e h = go (test y) refl (among_kept test ys x e) h
  where
    go : (b : Bool) → test y ≡ b → (IsAmong x ys → IsAmong x (filter test ys)) → IsAmong x (y ∷ ys) → IsAmong x (cond b (y ∷ filter test ys) (filter test ys))
    go true is ih (inl a) = inl a
    go true is ih (inr k) = inr (ih k)
    go false is ih (inl a) = let yes : test y ≡ true = subst (λ w. test w ≡ true) a e in absurd cc
    go false is ih (inr k) = ih k

one_level : (level : Level) (files : List MapFile) (f : MapFile) → is_one_of_level level files ≡ true → IsAmong f files → level_number f.image.head.level ≡ level_number level
one_level level [] f e h = absurd h
one_level level (g ∷ []) f e (inl a) =
    let same : level_number g.image.head.level ≡ level_number level = grind (arith, nat_tests) in
    ap (λ (h : MapFile). level_number h.image.head.level) a ∙ same
one_level level (g ∷ []) f e (inr h) = absurd h
one_level level (g ∷ h ∷ hs) f e in_ = absurd cc

pub before_all : (xs : List Entry) (y : Entry) (ys : List Entry) (z : Entry) → AreRising (xs ++ (y ∷ ys)) → IsAmong z xs → number_of z.stamp < number_of y.stamp
before_all [] y ys z rising h = absurd h
before_all (x ∷ xs) y ys z rising (inl e) =
    let lt : number_of x.stamp < number_of y.stamp = less-lt (number_of x.stamp) (number_of y.stamp) (of_all (λ (w : Entry). nat_cmp (number_of x.stamp) (number_of w.stamp) ≡ Less) (xs ++ (y ∷ ys)) y rising.0 (among_right xs (y ∷ ys) y (inl refl))) in
    subst (λ (w : Entry). number_of w.stamp < number_of y.stamp) (sym e) lt
before_all (x ∷ xs) y ys z rising (inr h) = before_all xs y ys z rising.1 h

pub low_level : (history : List Entry) (level : Level) (x : Entry) (xs : List Entry) (a : Entry) → IsRunOf level history (x ∷ xs) → IsAmong a (x ∷ xs) → level_number (settled_level history a.stamp) < 2 → level ≡ Hour
low_level history Base x xs a run among low = absurd run
low_level history Hour x xs a run among low = refl
low_level history Day x xs a run among low =
    let within : stretch Day a.stamp ≡ stretch Day run.hour =
    of_all (λ (e : Entry). stretch Day e.stamp ≡ stretch Day run.hour) (x ∷ xs) a (subst (AreWithin (record { level = Day; hour = run.hour })) (sym run.whole) (period_within (record { level = Day; hour = run.hour }) history)) among in
    let high : 2 ≤ level_number (settled_level history a.stamp) = closed_high history a.stamp Day (omega arith) (closed_same Day history a.stamp run.hour within ∙ run.closed) in
    absurd (omega (arith, low, high))
low_level history Month x xs a run among low =
    let within : stretch Month a.stamp ≡ stretch Month run.hour =
    of_all (λ (e : Entry). stretch Month e.stamp ≡ stretch Month run.hour) (x ∷ xs) a (subst (AreWithin (record { level = Month; hour = run.hour })) (sym run.whole) (period_within (record { level = Month; hour = run.hour }) history)) among in
    let high : 2 ≤ level_number (settled_level history a.stamp) = closed_high history a.stamp Month (omega arith) (closed_same Month history a.stamp run.hour within ∙ run.closed) in
    absurd (omega (arith, low, high))

-- an entry of the period of a run is in the run
in_run : (history : List Entry) (level : Level) (hour : CivilHour) (run : List Entry) (y : Entry) → run ≡ entries_in (record { level = level; hour = hour }) history → IsAmong y history → stretch level y.stamp ≡ stretch level hour → IsAmong y run
in_run history level hour run y whole among e =
    let yes : is_within level hour y.stamp ≡ true = grind (arith, nat_tests) in
    subst (IsAmong y) (sym whole) (among_kept (λ z. is_within level hour z.stamp) history y yes among)

-- what follows a run is not of its stretch
pub stops_at : (history : List Entry) → AreRising history → (level : Level) (x : Entry) (xs : List Entry) (before : List Entry) (y : Entry) (ys : List Entry) → IsRunOf level history (x ∷ xs) → history ≡ before ++ ((x ∷ xs) ++ (y ∷ ys))
    → stretch level x.stamp ≢ stretch level y.stamp
stops_at history rising level x xs before y ys run here e =
    let later : (z : Entry) → IsAmong z (x ∷ xs) → number_of z.stamp < number_of y.stamp = λ z h. before_all (x ∷ xs) y ys z (rising_right before ((x ∷ xs) ++ (y ∷ ys)) (subst AreRising here rising)) h in
    go level run e later
  where
    among : IsAmong y history
    among = subst (IsAmong y) (sym here) (among_right before ((x ∷ xs) ++ (y ∷ ys)) y (among_right (x ∷ xs) (y ∷ ys) y (inl refl)))

    go : (level : Level) → IsRunOf level history (x ∷ xs) → stretch level x.stamp ≡ stretch level y.stamp → ((z : Entry) → IsAmong z (x ∷ xs) → number_of z.stamp < number_of y.stamp) → ⊥
    go Base run e later = run
    go Hour run e later = omega (arith, e, later x (inl refl))
    go Day run e later =
        let here : AreWithin (record { level = Day; hour = run.hour }) (x ∷ xs) = subst (AreWithin (record { level = Day; hour = run.hour })) (sym run.whole) (period_within (record { level = Day; hour = run.hour }) history) in
        omega (arith, later y (in_run history Day run.hour (x ∷ xs) y run.whole among (sym e ∙ here.0)))
    go Month run e later =
        let here : AreWithin (record { level = Month; hour = run.hour }) (x ∷ xs) = subst (AreWithin (record { level = Month; hour = run.hour })) (sym run.whole) (period_within (record { level = Month; hour = run.hour }) history) in
        omega (arith, later y (in_run history Month run.hour (x ∷ xs) y run.whole among (sym e ∙ here.0)))

module _ (rules : List Rule) (history : List Entry) (files : List MapFile) (rising : AreRising history)
    (settled : AllByRecursion (λ p. is_one_of_level p.level (files_in p files) ≡ true) (periods history)) where
  -- the level of a file is that at which its entries are kept
  level_is : (f : MapFile) (x : Entry) (xs : List Entry) → IsAmong f files → f.image.head ≡ run_head f.image.head.level (x ∷ xs) → IsRunOf f.image.head.level history (x ∷ xs)
      → (a : Entry) → IsAmong a (x ∷ xs) → IsAmong a history → 2 ≤ level_number (settled_level history a.stamp) → settled_level history a.stamp ≡ f.image.head.level
  level_is f x xs in_ head run a among here high =
      let q = period_for history a here high in
      let is : IsPeriodOf history q.period = of_all (IsPeriodOf history) (periods history) q.period (periods_are history) q.among in
      let same : is_within q.period.level q.period.hour a.stamp ≡ is_within q.period.level q.period.hour x.stamp =
      of_all (λ (e : Entry). is_within q.period.level q.period.hour e.stamp ≡ is_within q.period.level q.period.hour x.stamp) (x ∷ xs) a (alike history q.period f.image.head.level x xs is run) among in
      let of : is_file_of q.period f ≡ true = ap (λ (h : Head). is_hour_of q.period h.first) head ∙ sym same ∙ q.inside in
      let number : level_number f.image.head.level ≡ level_number q.period.level =
      one_level q.period.level (files_in q.period files) f (of_all (λ p. is_one_of_level p.level (files_in p files) ≡ true) (periods history) q.period settled q.among) (among_kept (is_file_of q.period) files f of in_) in
      sym (number_one f.image.head.level q.period.level number ∙ q.level)

  kept_at : (f : MapFile) (x : Entry) (xs : List Entry) → IsAmong f files → f.image.head ≡ run_head f.image.head.level (x ∷ xs) → IsRunOf f.image.head.level history (x ∷ xs)
      → (a : Entry) → IsAmong a (x ∷ xs) → IsAmong a history → settled_level history a.stamp ≡ f.image.head.level
  kept_at f x xs in_ head run a among here = ⊎_elim
      (λ (high : 2 ≤ level_number (settled_level history a.stamp)). level_is f x xs in_ head run a among here high)
      (λ (low : level_number (settled_level history a.stamp) < 2). low_hour history a.stamp low ∙ sym (low_level history f.image.head.level x xs a run among low))
      (either (level_number (settled_level history a.stamp)))
    where
      either : (n : ℕ) → (2 ≤ n) ⊎ (n < 2)
      either n = grind arith

  all_stretch : (level : Level) (hour : CivilHour) (x : Entry) (es : List Entry) → stretch level x.stamp ≡ stretch level hour → AllByRecursion (λ e. stretch level e.stamp ≡ stretch level hour) es
      → AllByRecursion (λ e. stretch level e.stamp ≡ stretch level x.stamp) es
  all_stretch level hour x [] e all = tt
  all_stretch level hour x (y ∷ ys) e all = (all.0 ∙ sym e, all_stretch level hour x ys e all.1)

  one_stretch : (level : Level) (x : Entry) (xs : List Entry) → IsRunOf level history (x ∷ xs) → AllByRecursion (λ e. stretch level e.stamp ≡ stretch level x.stamp) (x ∷ xs)
  one_stretch Base x xs run = absurd run
  one_stretch Hour x [] run = (refl, tt)
  one_stretch Hour x (y ∷ ys) run = absurd (omega (arith, run))
  one_stretch Day x xs run =
      let here : AreWithin (record { level = Day; hour = run.hour }) (x ∷ xs) = subst (AreWithin (record { level = Day; hour = run.hour })) (sym run.whole) (period_within (record { level = Day; hour = run.hour }) history) in
      all_stretch Day run.hour x (x ∷ xs) here.0 here
  one_stretch Month x xs run =
      let here : AreWithin (record { level = Month; hour = run.hour }) (x ∷ xs) = subst (AreWithin (record { level = Month; hour = run.hour })) (sym run.whole) (period_within (record { level = Month; hour = run.hour }) history) in
      all_stretch Month run.hour x (x ∷ xs) here.0 here

  are_of : (level : Level) (k : ℕ) (es : List Entry) → ((a : Entry) → IsAmong a es → settled_level history a.stamp ≡ level) → AllByRecursion (λ e. stretch level e.stamp ≡ k) es → AreOf history level k es
  are_of level k [] f all = tt
  are_of level k (e ∷ es) f all = ((f e (inl refl), all.0), are_of level k es (λ a h. f a (inr h)) all.1)

  -- the settled runs are the runs of the files, and their images those of the files
  settle : (bs : List MapFile) (rs : List (List Entry)) (store : List Entity) (before : List Entry) → history ≡ before ++ flat_map (λ x. x) rs → AreFilesOf rules history store rs (images_of bs)
      → ((f : MapFile) → IsAmong f bs → IsAmong f files) → (cut_by (goes history) (flat_map (λ x. x) rs) ≡ rs) × (run_images rules history store rs ≡ images_of bs)
  settle [] [] store before here held inside = (refl, refl)
  settle [] (r ∷ rs) store before here held inside = absurd held
  settle (b ∷ bs) [] store before here held inside = absurd held
  settle (b ∷ bs) ([] ∷ rs) store before here held inside = absurd (run_some b.image.head.level history held.0.covers)
  settle (b ∷ bs) ((x ∷ xs) ∷ rs) store before here held inside =
      let rest = settle bs rs (published store (lines_of (x ∷ xs))) (before ++ (x ∷ xs)) (here ∙ sym (append_assoc before (x ∷ xs) (flat_map (λ x. x) rs))) held.1 (λ f h. inside f (inr h)) in
      let head : b.image.head ≡ run_head b.image.head.level (x ∷ xs) = ap (λ (i : Image). i.head) held.0.holds in
      let kept : (a : Entry) → IsAmong a (x ∷ xs) → settled_level history a.stamp ≡ b.image.head.level =
      λ a h. kept_at b x xs (inside b (inl refl)) head held.0.covers a h (subst (IsAmong a) (sym here) (among_right before ((x ∷ xs) ++ flat_map (λ x. x) rs) a (among_append_left (x ∷ xs) (flat_map (λ x. x) rs) a h))) in
      let stops : Stops b.image.head.level (stretch b.image.head.level x.stamp) (flat_map (λ x. x) rs) = stop (flat_map (λ x. x) rs) here held.0.covers in
      let cut : cut_by (goes history) ((x ∷ xs) ++ flat_map (λ x. x) rs) ≡ (x ∷ xs) ∷ cut_by (goes history) (flat_map (λ x. x) rs) =
      cut_run history b.image.head.level (stretch b.image.head.level x.stamp) x xs (flat_map (λ x. x) rs)
      (are_of b.image.head.level (stretch b.image.head.level x.stamp) (x ∷ xs) kept (one_stretch b.image.head.level x xs held.0.covers)) stops in
      let image : run_image rules store (settled_level history x.stamp) (x ∷ xs) ≡ b.image = ap (λ l. run_image rules store l (x ∷ xs)) (kept x (inl refl)) ∙ sym held.0.holds in
      (cut ∙ ap (λ l. (x ∷ xs) ∷ l) rest.0, ap₂ (λ (i : Image) (is : List Image). i ∷ is) image rest.1)
    where
      stop : (ys : List Entry) → history ≡ before ++ ((x ∷ xs) ++ ys) → IsRunOf b.image.head.level history (x ∷ xs) → Stops b.image.head.level (stretch b.image.head.level x.stamp) ys
      stop [] here run = tt
      stop (y ∷ ys) here run = stops_at history rising b.image.head.level x xs before y ys run here

pub settled_law : SettledLaw
settled_law rules base s st none =
    let settled : AllByRecursion (λ p. is_one_of_level p.level (files_in p s.files) ≡ true) (periods s.history) = found_none (λ p. is_one_of_level p.level (files_in p s.files)) (periods s.history) none in
    let both = settle rules s.history s.files st.rising settled st.above st.runs (apply [] base) [] st.parted st.held (λ f h. subst (IsAmong f) (sym st.files) (inr h)) in
    let runs : settled_runs s.history ≡ st.runs = ap (cut_by (goes s.history)) st.parted ∙ both.0 in
    ap images_of st.files ∙ ap (λ is. base_image rules base ∷ is) (sym (ap (run_images rules s.history (apply [] base)) runs ∙ both.1))

-- Where nothing can be shrunk there are as many files as in the settled shape.
use Rattle.std.proofs.Common.{◌≡◌, ◌≢◌, ℕ, ◌<◌, ◌≤◌, ◌⊎◌, Bool, true, false, cond, ◌==◌, nat_le, List, [], ◌∷◌, ◌++◌, length, flat_map, find, filter, Some, None, refl, sym, ap, subst, ◌∙◌, inl, ⊎_elim, append_assoc, length-append, arith}
use Rattle.std.specs.List.{AllByRecursion}
use Rattle.std.proofs.lemmas.Bool.Decides.{nat_tests}
use Rattle.live_model.specs.declared.levels.Level.{Level}
use Rattle.live_model.specs.declared.levels.Level.TheVariants.{Hour}
use Rattle.live_model.specs.declared.objects.Entity.{Entity}
use Rattle.live_model.specs.declared.rules.Rule.{Rule}
use Rattle.live_model.specs.Levels.{level_number}
use Rattle.live_model.specs.Stores.{apply}
use Rattle.live_model.specs.Maps.{published}
use Rattle.stamp_core.specs.Hours.{number_of}
use Rattle.stamp_core.specs.declared.head.Head.{Head}
use Rattle.overlay_set.specs.Sets.{Entry, Image, MapFile, images_of, lines_of, run_head, base_image}
use Rattle.overlay_set.specs.Periods.{Period, stretch, is_within, settled_level, settled_runs, cut_by, periods, is_hour_of, is_file_of, files_in, run_images}
use Rattle.overlay_set.specs.Standing.{IsRunOf, AreFilesOf, AreRising}
use Rattle.overlay_set.specs.Swaps.{IsAmong}
use Rattle.overlay_set.specs.SetLaws.{FullLaw}
use Rattle.overlay_set.proofs.Closing.{filter-append}
use Rattle.overlay_set.proofs.Fitting.{of_all}
use Rattle.overlay_set.proofs.Spans.{rising_right}
use Rattle.overlay_set.proofs.Staying.{run_some, among_right}
use Rattle.overlay_set.proofs.Planning.{IsPeriodOf, periods_are, alike}
use Rattle.overlay_set.proofs.Settling.{goes, AreOf, Stops, cut_run, before_all, low_hour, low_level, period_for, settled_same}

none_found : {A : Type 0} (test : A → Bool) (xs : List A) → find test xs ≡ None → AllByRecursion (λ x. test x ≡ false) xs
none_found test [] e = tt
none_found {A} test (x ∷ xs) e = go (test x) refl (none_found test xs) e
  where
    go : (b : Bool) → test x ≡ b → (find test xs ≡ None → AllByRecursion (λ x. test x ≡ false) xs) → cond b (Some x) (find test xs) ≡ None → (test x ≡ false) × AllByRecursion (λ x. test x ≡ false) xs
    go true is ih e = absurd cc
    go false is ih e = (is, ih e)

-- two neighbours that pass a test are two
two_pass : (test : MapFile → Bool) (front : List MapFile) (a b : MapFile) (back : List MapFile) → test a ≡ true → test b ≡ true → 2 ≤ length (filter test (front ++ (a ∷ b ∷ back)))
two_pass test front a b back ta tb =
    let two : filter test (a ∷ b ∷ back) ≡ a ∷ b ∷ filter test back = pick (test a) ta (test b) tb in
    omega (arith, ap length (filter-append test front (a ∷ b ∷ back)), length-append (filter test front) (filter test (a ∷ b ∷ back)), ap length two)
  where
    pick : (x : Bool) → x ≡ true → (y : Bool) → y ≡ true → cond x (a ∷ cond y (b ∷ filter test back) (filter test back)) (cond y (b ∷ filter test back) (filter test back)) ≡ a ∷ b ∷ filter test back
    pick true ex true ey = refl
    pick true ex false ey = absurd cc
    pick false ex y ey = absurd cc

pub either : (n : ℕ) → (2 ≤ n) ⊎ (n < 2)
either n = grind arith

-- the entries of a run are kept at one level, in one stretch of it
pub one_kept : (history : List Entry) (level : Level) (x : Entry) (xs : List Entry) → IsRunOf level history (x ∷ xs) → IsAmong x history
    → AllByRecursion (λ e. stretch (settled_level history x.stamp) e.stamp ≡ stretch (settled_level history x.stamp) x.stamp) (x ∷ xs)
one_kept history level x xs run here = ⊎_elim
    (λ (high : 2 ≤ level_number (settled_level history x.stamp)).
    let q = period_for history x here high in
    let is : IsPeriodOf history q.period = of_all (IsPeriodOf history) (periods history) q.period (periods_are history) q.among in
    same_all q.period q.level q.inside (x ∷ xs) (alike history q.period level x xs is run))
    (λ (low : level_number (settled_level history x.stamp) < 2). alone level (low_level history level x xs x run (inl refl) low) run) (either (level_number (settled_level history x.stamp)))
  where
    same_all : (p : Period) → p.level ≡ settled_level history x.stamp → is_within p.level p.hour x.stamp ≡ true → (es : List Entry)
        → AllByRecursion (λ e. is_within p.level p.hour e.stamp ≡ is_within p.level p.hour x.stamp) es
        → AllByRecursion (λ e. stretch (settled_level history x.stamp) e.stamp ≡ stretch (settled_level history x.stamp) x.stamp) es
    same_all p lv inside [] all = tt
    same_all p lv inside (e ∷ es) all =
        let yes : is_within p.level p.hour e.stamp ≡ true = all.0 ∙ inside in
        let both : stretch p.level e.stamp ≡ stretch p.level x.stamp = grind (arith, nat_tests) in
        (subst (λ l. stretch l e.stamp ≡ stretch l x.stamp) lv both, same_all p lv inside es all.1)

    alone : (level : Level) → level ≡ Hour → IsRunOf level history (x ∷ xs) → AllByRecursion (λ e. stretch (settled_level history x.stamp) e.stamp ≡ stretch (settled_level history x.stamp) x.stamp) (x ∷ xs)
    alone level lv run = single xs (subst (λ l. IsRunOf l history (x ∷ xs)) lv run)
      where
        single : (xs : List Entry) → length (x ∷ xs) ≡ 1 → AllByRecursion (λ e. stretch (settled_level history x.stamp) e.stamp ≡ stretch (settled_level history x.stamp) x.stamp) (x ∷ xs)
        single [] n = (refl, tt)
        single (y ∷ ys) n = absurd (omega (arith, n))

pub kept_all : (history : List Entry) (x : Entry) (es : List Entry) → AllByRecursion (λ e. stretch (settled_level history x.stamp) e.stamp ≡ stretch (settled_level history x.stamp) x.stamp) es
    → AreOf history (settled_level history x.stamp) (stretch (settled_level history x.stamp) x.stamp) es
kept_all history x [] all = tt
kept_all history x (e ∷ es) all = ((settled_same history x.stamp e.stamp (sym all.0), all.0), kept_all history x es all.1)

module _ (rules : List Rule) (history : List Entry) (files : List MapFile) (rising : AreRising history)
    (few : AllByRecursion (λ p. nat_le 2 (length (files_in p files)) ≡ false) (periods history)) where
  -- two neighbouring files do not begin in one stretch
  parted_at : (front : List MapFile) (a b : MapFile) (back : List MapFile) → files ≡ front ++ (a ∷ b ∷ back) → (x y : Entry) (xs ys : List Entry) → a.image.head ≡ run_head a.image.head.level (x ∷ xs)
      → b.image.head ≡ run_head b.image.head.level (y ∷ ys) → IsAmong x history → number_of x.stamp < number_of y.stamp → stretch (settled_level history x.stamp) x.stamp ≢ stretch (settled_level history x.stamp) y.stamp
  parted_at front a b back all x y xs ys ha hb here lt e = ⊎_elim
      (λ (high : 2 ≤ level_number (settled_level history x.stamp)).
      let q = period_for history x here high in
      let not_two : nat_le 2 (length (files_in q.period files)) ≡ false = of_all (λ p. nat_le 2 (length (files_in p files)) ≡ false) (periods history) q.period few q.among in
      let same : stretch q.period.level x.stamp ≡ stretch q.period.level y.stamp = subst (λ l. stretch l x.stamp ≡ stretch l y.stamp) (sym q.level) e in
      let inside : is_within q.period.level q.period.hour y.stamp ≡ true = ap (λ n. stretch q.period.level q.period.hour == n) (sym same) ∙ q.inside in
      let ta : is_file_of q.period a ≡ true = ap (λ (h : Head). is_hour_of q.period h.first) ha ∙ q.inside in
      let tb : is_file_of q.period b ≡ true = ap (λ (h : Head). is_hour_of q.period h.first) hb ∙ inside in
      let two : 2 ≤ length (files_in q.period files) = subst (λ fs. 2 ≤ length (files_in q.period fs)) (sym all) (two_pass (is_file_of q.period) front a b back ta tb) in
      wrong (length (files_in q.period files)) two not_two)
      (λ (low : level_number (settled_level history x.stamp) < 2).
      let same : number_of x.stamp ≡ number_of y.stamp = subst (λ l. stretch l x.stamp ≡ stretch l y.stamp) (low_hour history x.stamp low) e in
      omega (arith, same, lt)) (either (level_number (settled_level history x.stamp)))
    where
      wrong : (n : ℕ) → 2 ≤ n → nat_le 2 n ≡ false → ⊥
      wrong n le less = grind (arith, nat_tests)

  counts : (front bs : List MapFile) (rs : List (List Entry)) (store : List Entity) (before : List Entry) → files ≡ front ++ bs → history ≡ before ++ flat_map (λ x. x) rs
      → AreFilesOf rules history store rs (images_of bs) → cut_by (goes history) (flat_map (λ x. x) rs) ≡ rs
  counts front [] [] store before all here held = refl
  counts front [] (r ∷ rs) store before all here held = absurd held
  counts front (b ∷ bs) [] store before all here held = absurd held
  counts front (b ∷ bs) ([] ∷ rs) store before all here held = absurd (run_some b.image.head.level history held.0.covers)
  counts front (b ∷ bs) ((x ∷ xs) ∷ rs) store before all here held =
      let rest = counts (front ++ (b ∷ [])) bs rs (published store (lines_of (x ∷ xs))) (before ++ (x ∷ xs)) (all ∙ sym (append_assoc front (b ∷ []) bs)) (here ∙ sym (append_assoc before (x ∷ xs) (flat_map (λ x. x) rs))) held.1 in
      let head : b.image.head ≡ run_head b.image.head.level (x ∷ xs) = ap (λ (i : Image). i.head) held.0.holds in
      let there : IsAmong x history = subst (IsAmong x) (sym here) (among_right before ((x ∷ xs) ++ flat_map (λ x. x) rs) x (inl refl)) in
      let rises : AreRising ((x ∷ xs) ++ flat_map (λ x. x) rs) = rising_right before ((x ∷ xs) ++ flat_map (λ x. x) rs) (subst AreRising here rising) in
      let stops : Stops (settled_level history x.stamp) (stretch (settled_level history x.stamp) x.stamp) (flat_map (λ x. x) rs) = stop bs rs all held.1 rises head there in
      cut_run history (settled_level history x.stamp) (stretch (settled_level history x.stamp) x.stamp) x xs (flat_map (λ x. x) rs) (kept_all history x (x ∷ xs) (one_kept history b.image.head.level x xs held.0.covers there)) stops
      ∙ ap (λ l. (x ∷ xs) ∷ l) rest
    where
      stop : (cs : List MapFile) (qs : List (List Entry)) → files ≡ front ++ (b ∷ cs) → AreFilesOf rules history (published store (lines_of (x ∷ xs))) qs (images_of cs)
          → AreRising ((x ∷ xs) ++ flat_map (λ x. x) qs) → b.image.head ≡ run_head b.image.head.level (x ∷ xs) → IsAmong x history
          → Stops (settled_level history x.stamp) (stretch (settled_level history x.stamp) x.stamp) (flat_map (λ x. x) qs)
      stop [] [] all held rises head there = tt
      stop [] (q ∷ qs) all held rises head there = absurd held
      stop (c ∷ cs) [] all held rises head there = absurd held
      stop (c ∷ cs) ([] ∷ qs) all held rises head there = absurd (run_some c.image.head.level history held.0.covers)
      stop (c ∷ cs) ((y ∷ ys) ∷ qs) all held rises head there =
          parted_at front b c cs all x y xs ys head (ap (λ (i : Image). i.head) held.0.holds) there (before_all (x ∷ xs) y (ys ++ flat_map (λ x. x) qs) x rises (inl refl))

held_length : (rules : List Rule) (history : List Entry) (store : List Entity) (runs : List (List Entry)) (images : List Image) → AreFilesOf rules history store runs images → length images ≡ length runs
held_length rules history store [] [] held = refl
held_length rules history store [] (i ∷ is) held = absurd held
held_length rules history store (r ∷ rs) [] held = absurd held
held_length rules history store (r ∷ rs) (i ∷ is) held = omega (arith, held_length rules history (published store (lines_of r)) rs is held.1)

images_length : (files : List MapFile) → length (images_of files) ≡ length files
images_length [] = refl
images_length (f ∷ fs) = omega (arith, images_length fs)

run_images-length : (rules : List Rule) (history : List Entry) (store : List Entity) (runs : List (List Entry)) → length (run_images rules history store runs) ≡ length runs
run_images-length rules history store [] = refl
run_images-length rules history store (r ∷ rs) = omega (arith, run_images-length rules history (published store (lines_of r)) rs)

pub full_law : FullLaw
full_law rules base s st none =
    let few : AllByRecursion (λ p. nat_le 2 (length (files_in p s.files)) ≡ false) (periods s.history) = none_found (λ p. nat_le 2 (length (files_in p s.files))) (periods s.history) none in
    let bottom : MapFile = record { number = 0; image = base_image rules base } in
    let same : cut_by (goes s.history) (flat_map (λ x. x) st.runs) ≡ st.runs = counts rules s.history s.files st.rising few (bottom ∷ []) st.above st.runs (apply [] base) [] st.files st.parted st.held in
    let runs : settled_runs s.history ≡ st.runs = ap (cut_by (goes s.history)) st.parted ∙ same in
    omega (
      arith,
      ap length st.files,
      images_length st.above,
      held_length rules s.history (apply [] base) st.runs (images_of st.above) st.held,
      run_images-length rules s.history (apply [] base) (settled_runs s.history),
      ap length runs,
    )

-- Heads tell which period is not yet one file.
use Rattle.std.proofs.Common.{◌≡◌, ◌≢◌, ℕ, suc, ◌+◌, ◌<◌, ◌≤◌, Bool, true, false, cond, ◌&&◌, ◌||◌, not, ◌==◌, nat_le, List, [], ◌∷◌, ◌++◌, length, drop, take, flat_map, find, Option, Some, None, slice_get, refl, sym, ap, ap₂, subst, ◌∙◌, inl, append_assoc, length-append, nat_cmp, Less, arith}
use Rattle.std.specs.List.{AllByRecursion, prefix_len, take_while}
use Rattle.std.proofs.lemmas.Bool.Decides.{nat_tests}
use Rattle.std.proofs.lemmas.List.Sums.{take_while-cons}
use Rattle.live_model.specs.declared.levels.Level.{Level}
use Rattle.live_model.specs.declared.levels.Level.TheVariants.{Hour, Day, Month}
use Rattle.live_model.specs.declared.objects.Entity.{Entity}
use Rattle.live_model.specs.declared.rules.Rule.{Rule}
use Rattle.live_model.specs.Levels.{level_number}
use Rattle.live_model.specs.Stores.{apply}
use Rattle.live_model.specs.Maps.{published}
use Rattle.stamp_core.specs.Hours.{CivilHour, number_of}
use Rattle.stamp_core.specs.declared.head.Head.{Head}
use Rattle.overlay_set.specs.Sets.{Entry, Image, MapFile, State, images_of, lines_of, stamps_of, last_in, base_image}
use Rattle.overlay_set.specs.Periods.{Period, stretch, is_within, is_past, is_closed, settled_level, cut_by, period_of, periods, is_hour_of, is_file_of, files_in, is_one_of_level, places_of}
use Rattle.overlay_set.specs.Standing.{AreFilesOf, AreRising}
use Rattle.overlay_set.specs.Swaps.{IsAmong}
use Rattle.overlay_set.specs.Loose.{heads_of, period_before, begins_in, next_begins_in, is_other_level, is_loose_at, is_loose, before_loose, loose_period, HeadsLaw}
use Rattle.overlay_set.proofs.Closing.{less-lt, stretch-mono}
use Rattle.overlay_set.proofs.Spans.{rising_right}
use Rattle.overlay_set.proofs.Staying.{run_some, among_right}
use Rattle.overlay_set.proofs.Settling.{goes, Stops, cut_head, cut_run, before_all, low_hour, settled_same}
use Rattle.overlay_set.proofs.Filling.{kept_all, one_kept}

-- The last hour tells what is closed.

first_to_last : (x : Entry) (xs : List Entry) (last : CivilHour) → AreRising (x ∷ xs) → last_in (stamps_of (x ∷ xs)) ≡ Some last → number_of x.stamp ≤ number_of last
first_to_last x [] last rising e = let same : x.stamp ≡ last = cc e in omega (arith, ap number_of same)
first_to_last x (y ∷ ys) last rising e =
    omega (arith, less-lt (number_of x.stamp) (number_of y.stamp) rising.0.0, first_to_last y ys last rising.1 e)

closed_by_last : (level : Level) (hour : CivilHour) (xs : List Entry) (last : CivilHour) → AreRising xs → last_in (stamps_of xs) ≡ Some last → is_closed level xs hour ≡ is_past level hour last
closed_by_last level hour [] last rising e = absurd cc
closed_by_last level hour (x ∷ []) last rising e = let same : x.stamp ≡ last = cc e in go (is_past level hour x.stamp) (ap (is_past level hour) same)
  where
    go : (b : Bool) → b ≡ is_past level hour last → (b || false) ≡ is_past level hour last
    go true e = e
    go false e = e
closed_by_last level hour (x ∷ y ∷ ys) last rising e = go (is_past level hour x.stamp) refl (closed_by_last level hour (y ∷ ys) last rising.1 e)
  where
    up : number_of x.stamp ≤ number_of last
    up = first_to_last x (y ∷ ys) last rising e

    go : (b : Bool) → is_past level hour x.stamp ≡ b → is_closed level (y ∷ ys) hour ≡ is_past level hour last → (b || is_closed level (y ∷ ys) hour) ≡ is_past level hour last
    go true past ih =
        let lt : stretch level hour < stretch level x.stamp = grind (arith, nat_tests) in
        let lt' : stretch level hour < stretch level last = omega (arith, lt, stretch-mono level x.stamp last up) in
        grind (arith, nat_tests, lt')
    go false past ih = ih

pub settled_before : (history : List Entry) (last hour : CivilHour) → AreRising history → last_in (stamps_of history) ≡ Some last → settled_level history hour ≡ (period_before last hour).level
settled_before history last hour rising e =
    ap₂ (λ (m d : Bool). cond m Month (cond d Day Hour)) (closed_by_last Month hour history last rising e) (closed_by_last Day hour history last rising e)

-- Files in order.

-- the file begins after this number
abbrev Begins : ℕ → MapFile → Type 0
Begins n f = (hour : CivilHour) × (f.image.head.first ≡ Some hour) × (n < number_of hour)

-- each of these files begins after this hour, in a later stretch of the level
later_files : (p : Period) (n : ℕ) (fs : List MapFile) → AllByRecursion (Begins n) fs → ((hour : CivilHour) → n < number_of hour → is_within p.level p.hour hour ≡ false) → files_in p fs ≡ []
later_files p n [] all outside = refl
later_files p n (f ∷ fs) all outside = go (is_file_of p f) (ap (is_hour_of p) all.0.1 ∙ outside all.0.0 all.0.2) (later_files p n fs all.1 outside)
  where
    go : (b : Bool) → b ≡ false → files_in p fs ≡ [] → cond b (f ∷ files_in p fs) (files_in p fs) ≡ []
    go true e ih = absurd cc
    go false e ih = ih

-- each file begins after the one before it
abbrev AreSorted : List MapFile → Type 0
AreSorted [] = Unit {0}
AreSorted (f ∷ fs) = ((hour : CivilHour) × (f.image.head.first ≡ Some hour) × AllByRecursion (Begins (number_of hour)) fs) × AreSorted fs

module _ (rules : List Rule) (history : List Entry) where
  begin_after : (n : ℕ) (store : List Entity) (bs : List MapFile) (rs : List (List Entry)) → AreFilesOf rules history store rs (images_of bs)
      → AllByRecursion (λ (e : Entry). n < number_of e.stamp) (flat_map (λ x. x) rs) → AllByRecursion (Begins n) bs
  begin_after n store [] rs held all = tt
  begin_after n store (b ∷ bs) [] held all = absurd held
  begin_after n store (b ∷ bs) ([] ∷ rs) held all = absurd (run_some b.image.head.level history held.0.covers)
  begin_after n store (b ∷ bs) ((x ∷ xs) ∷ rs) held all =
      ((x.stamp, ap (λ (i : Image). i.head.first) held.0.holds, all.0), begin_after n (published store (lines_of (x ∷ xs))) bs rs held.1 (right xs (flat_map (λ x. x) rs) all.1))
    where
      right : (us vs : List Entry) → AllByRecursion (λ (e : Entry). n < number_of e.stamp) (us ++ vs) → AllByRecursion (λ (e : Entry). n < number_of e.stamp) vs
      right [] vs all = all
      right (u ∷ us) vs all = right us vs all.1

  after_first : (x : Entry) (es : List Entry) → AllByRecursion (λ (y : Entry). nat_cmp (number_of x.stamp) (number_of y.stamp) ≡ Less) es → AllByRecursion (λ (e : Entry). number_of x.stamp < number_of e.stamp) es
  after_first x [] all = tt
  after_first x (e ∷ es) all = (less-lt (number_of x.stamp) (number_of e.stamp) all.0, after_first x es all.1)

  sorted : (store : List Entity) (bs : List MapFile) (rs : List (List Entry)) → AreFilesOf rules history store rs (images_of bs) → AreRising (flat_map (λ x. x) rs) → AreSorted bs
  sorted store [] rs held rising = tt
  sorted store (b ∷ bs) [] held rising = absurd held
  sorted store (b ∷ bs) ([] ∷ rs) held rising = absurd (run_some b.image.head.level history held.0.covers)
  sorted store (b ∷ bs) ((x ∷ xs) ∷ rs) held rising =
      let behind : AllByRecursion (λ (e : Entry). number_of x.stamp < number_of e.stamp) (flat_map (λ x. x) rs) = right xs (flat_map (λ x. x) rs) (after_first x (xs ++ flat_map (λ x. x) rs) rising.0) in (
        (x.stamp, ap (λ (i : Image). i.head.first) held.0.holds, begin_after (number_of x.stamp) (published store (lines_of (x ∷ xs))) bs rs held.1 behind),
        sorted (published store (lines_of (x ∷ xs))) bs rs held.1 (rising_right (x ∷ xs) (flat_map (λ x. x) rs) rising),
      )
    where
      right : (us vs : List Entry) → AllByRecursion (λ (e : Entry). number_of x.stamp < number_of e.stamp) (us ++ vs) → AllByRecursion (λ (e : Entry). number_of x.stamp < number_of e.stamp) vs
      right [] vs all = all
      right (u ∷ us) vs all = right us vs all.1

-- an hour outside a period and not before it has all later hours outside
outside_on : (p : Period) (a b : CivilHour) → number_of p.hour ≤ number_of a → is_within p.level p.hour a ≡ false → number_of a ≤ number_of b → is_within p.level p.hour b ≡ false
outside_on p a b from out up = go (is_within p.level p.hour b) refl
  where
    go : (c : Bool) → is_within p.level p.hour b ≡ c → c ≡ false
    go false e = refl
    go true e =
        let same : stretch p.level p.hour ≡ stretch p.level b = grind (arith, nat_tests) in
        let apart : stretch p.level p.hour ≢ stretch p.level a = grind (arith, nat_tests) in
        absurd (apart (omega (arith, same, stretch-mono p.level p.hour a from, stretch-mono p.level a b up)))

-- the files of a period stand at the front of those that begin at it or later
front_files : (p : Period) (fs : List MapFile) → AreSorted fs → AllByRecursion (λ f. (hour : CivilHour) × (f.image.head.first ≡ Some hour) × (number_of p.hour ≤ number_of hour)) fs
    → length (files_in p fs) ≡ prefix_len (begins_in p) (heads_of fs)
front_files p [] s all = refl
front_files p (f ∷ fs) s all = go (is_file_of p f) refl (front_files p fs s.1 all.1)
  where
    go : (b : Bool) → is_file_of p f ≡ b → length (files_in p fs) ≡ prefix_len (begins_in p) (heads_of fs) → length (cond b (f ∷ files_in p fs) (files_in p fs)) ≡ cond b (1 + prefix_len (begins_in p) (heads_of fs)) 0
    go true e ih = omega (arith, ih)
    go false e ih =
        let hour : is_within p.level p.hour all.0.0 ≡ false = ap (is_hour_of p) (sym all.0.1) ∙ e in
        let same : s.0.0 ≡ all.0.0 = some_is (sym s.0.1 ∙ all.0.1) in
        ap length (later_files p (number_of all.0.0) fs (subst (λ (h : CivilHour). AllByRecursion (Begins (number_of h)) fs) same s.0.2) (λ h lt. outside_on p all.0.0 h all.0.2 hour (omega (arith, lt))))
      where
        some_is : {A : Type 0} {a b : A} → Some a ≡ Some b → a ≡ b
        some_is e = cc

-- and are just those
front_taken : (p : Period) (fs : List MapFile) → AreSorted fs → AllByRecursion (λ f. (hour : CivilHour) × (f.image.head.first ≡ Some hour) × (number_of p.hour ≤ number_of hour)) fs
    → files_in p fs ≡ take (prefix_len (begins_in p) (heads_of fs)) fs
front_taken p [] s all = refl
front_taken p (f ∷ fs) s all = go (is_file_of p f) refl (front_taken p fs s.1 all.1)
  where
    go : (b : Bool) → is_file_of p f ≡ b → files_in p fs ≡ take (prefix_len (begins_in p) (heads_of fs)) fs
        → cond b (f ∷ files_in p fs) (files_in p fs) ≡ take (cond b (1 + prefix_len (begins_in p) (heads_of fs)) 0) (f ∷ fs)
    go true e ih =
        let next : suc (prefix_len (begins_in p) (heads_of fs)) ≡ 1 + prefix_len (begins_in p) (heads_of fs) = omega arith in
        ap (λ l. f ∷ l) ih ∙ ap (λ (n : ℕ). take n (f ∷ fs)) next
    go false e ih =
        let hour : is_within p.level p.hour all.0.0 ≡ false = ap (is_hour_of p) (sym all.0.1) ∙ e in
        let same : s.0.0 ≡ all.0.0 = some_is (sym s.0.1 ∙ all.0.1) in
        later_files p (number_of all.0.0) fs (subst (λ (h : CivilHour). AllByRecursion (Begins (number_of h)) fs) same s.0.2) (λ h lt. outside_on p all.0.0 h all.0.2 hour (omega (arith, lt)))
      where
        some_is : {A : Type 0} {a b : A} → Some a ≡ Some b → a ≡ b
        some_is e = cc

-- The walk along the files.

-- what makes a period loose
abbrev fails : Bool → List MapFile → Period → Bool
fails whole files p = cond whole (not (is_one_of_level p.level (files_in p files))) (nat_le 2 (length (files_in p files)))

one_file : (whole : Bool) (files : List MapFile) (p : Period) (b : MapFile) → files_in p files ≡ b ∷ [] → fails whole files p ≡ is_other_level whole p b.image.head
one_file true files p b e = ap (λ fs. not (is_one_of_level p.level fs)) e
one_file false files p b e = ap (λ fs. nat_le 2 (length fs)) e

two_files : (whole : Bool) (files : List MapFile) (p : Period) (b c : MapFile) (more : List MapFile) → files_in p files ≡ b ∷ c ∷ more → fails whole files p ≡ true
two_files true files p b c more e = ap (λ fs. not (is_one_of_level p.level fs)) e
two_files false files p b c more e = ap (λ fs. nat_le 2 (length fs)) e ∙ two (length (b ∷ c ∷ more)) (omega arith)
  where
    two : (n : ℕ) → 2 ≤ n → nat_le 2 n ≡ true
    two n le = grind (arith, nat_tests)

-- an hour is past the period where a file that begins so is kept
abbrev IsBehindAt : List Entry → CivilHour → Option CivilHour → Type 0
IsBehindAt history hour None = Unit {0}
IsBehindAt history hour (Some h) = stretch (settled_level history h) h < stretch (settled_level history h) hour

-- the first of the entries is, for each of the files
abbrev AreBehind : List Entry → List MapFile → List Entry → Type 0
AreBehind history files [] = Unit {0}
AreBehind history files (e ∷ es) = AllByRecursion (λ f. IsBehindAt history e.stamp f.image.head.first) files

-- the period in which an entry is kept in the end
abbrev kept_in : List Entry → Entry → Period
kept_in history x = record { level = settled_level history x.stamp; hour = x.stamp }

not_in : (history : List Entry) (x : Entry) (first : Option CivilHour) → IsBehindAt history x.stamp first → is_hour_of (kept_in history x) first ≡ false
not_in history x None behind = refl
not_in history x (Some h) behind = go (is_within (settled_level history x.stamp) x.stamp h) refl
  where
    go : (b : Bool) → is_within (settled_level history x.stamp) x.stamp h ≡ b → b ≡ false
    go false e = refl
    go true e =
        let same : stretch (settled_level history x.stamp) x.stamp ≡ stretch (settled_level history x.stamp) h = grind (arith, nat_tests) in
        let less : stretch (settled_level history x.stamp) h < stretch (settled_level history x.stamp) x.stamp = subst (λ l. stretch l h < stretch l x.stamp) (settled_same history x.stamp h same) behind in
        absurd (omega (arith, same, less))

none_behind : (history : List Entry) (x : Entry) (front back : List MapFile) → AllByRecursion (λ f. IsBehindAt history x.stamp f.image.head.first) front
    → (files_in (kept_in history x) (front ++ back) ≡ files_in (kept_in history x) back)
    × (take_while (λ f. not (is_file_of (kept_in history x) f)) (front ++ back) ≡ front ++ take_while (λ f. not (is_file_of (kept_in history x) f)) back)
none_behind history x [] back all = (refl, refl)
none_behind history x (f ∷ fs) back all = go (is_file_of (kept_in history x) f) (not_in history x f.image.head.first all.0) (none_behind history x fs back all.1)
  where
    p : Period
    p = kept_in history x

    go : (b : Bool) → b ≡ false → (files_in p (fs ++ back) ≡ files_in p back) × (take_while (λ g. not (is_file_of p g)) (fs ++ back) ≡ fs ++ take_while (λ g. not (is_file_of p g)) back)
        → (cond b (f ∷ files_in p (fs ++ back)) (files_in p (fs ++ back)) ≡ files_in p back)
        × (take_while (λ g. not (is_file_of p g)) (f ∷ (fs ++ back)) ≡ f ∷ (fs ++ take_while (λ g. not (is_file_of p g)) back))
    go true e ih = absurd cc
    go false e ih = (ih.0, take_while-cons (λ g. not (is_file_of p g)) f (fs ++ back) ∙ pick (is_file_of p f) (not_in history x f.image.head.first all.0) ∙ ap (λ l. f ∷ l) ih.1)
      where
        pick : (b : Bool) → b ≡ false → cond (not b) (f ∷ take_while (λ g. not (is_file_of p g)) (fs ++ back)) [] ≡ f ∷ take_while (λ g. not (is_file_of p g)) (fs ++ back)
        pick true e = absurd cc
        pick false e = refl

-- what is told of the files that are left
record Walk (whole : Bool) (last : CivilHour) (files front bs : List MapFile) (found : Option Period) (k : ℕ) : Type 0 where
  none : k ≡ length bs → found ≡ None
  some : (head : Head) (hour : CivilHour) → slice_get (heads_of bs) k ≡ Some head → head.first ≡ Some hour
      → (found ≡ Some (period_before last hour))
      × (places_of (period_before last hour) files ≡ (length front + k, length front + k + prefix_len (begins_in (period_before last hour)) (drop k (heads_of bs))))
      × (files_in (period_before last hour) files ≡ take (prefix_len (begins_in (period_before last hour)) (drop k (heads_of bs))) (drop k bs))

-- one file further on
step : (whole : Bool) (last : CivilHour) (files front : List MapFile) (b : MapFile) (bs : List MapFile) (found : Option Period) (k : ℕ)
    → Walk whole last files (front ++ b ∷ []) bs found k → Walk whole last files front (b ∷ bs) found (1 + k)
step whole last files front b bs found k w = subst (Walk whole last files front (b ∷ bs) found) one (record {
  none = λ e. w.none (omega (arith, e));
  some = λ head hour e f.
      let rest = w.some head hour e f in (
        rest.0,
        subst (λ (n : ℕ). places_of (period_before last hour) files ≡ (n, n + prefix_len (begins_in (period_before last hour)) (drop k (heads_of bs)))) (omega (arith, length-append front (b ∷ []))) rest.1,
        rest.2,
      );
})
  where
    one : suc k ≡ 1 + k
    one = omega arith

module _ (whole : Bool) (rules : List Rule) (history : List Entry) (files : List MapFile) (rising : AreRising history) (last : CivilHour) (ends : last_in (stamps_of history) ≡ Some last) where
  told : (x : Entry) → kept_in history x ≡ period_before last x.stamp
  told x = ap (λ (l : Level). record { level = l; hour = x.stamp }) (settled_before history last x.stamp rising ends)

  loose_is : (b : MapFile) (x : Entry) (hs : List Head) → b.image.head.first ≡ Some x.stamp
      → is_loose whole last b.image.head hs ≡ (not (level_number (settled_level history x.stamp) == 1) && (next_begins_in (kept_in history x) hs || is_other_level whole (kept_in history x) b.image.head))
  loose_is b x hs first =
      ap (λ (o : Option CivilHour). is_loose_at whole last o b.image.head hs) first
      ∙ ap (λ (p : Period). not (level_number p.level == 1) && (next_begins_in p hs || is_other_level whole p b.image.head)) (sym (told x))

  -- whether a period fails is told by its first file and the next one
  fails_is : (front : List MapFile) (b : MapFile) (bs : List MapFile) (x : Entry) → files ≡ front ++ (b ∷ bs) → AllByRecursion (λ f. IsBehindAt history x.stamp f.image.head.first) front
      → b.image.head.first ≡ Some x.stamp → AreSorted (b ∷ bs)
      → fails whole files (kept_in history x) ≡ (next_begins_in (kept_in history x) (heads_of bs) || is_other_level whole (kept_in history x) b.image.head)
  fails_is front b bs x there behind first s = next bs s (ap (files_in p) there ∙ (none_behind history x front (b ∷ bs) behind).0)
    where
      p : Period
      p = kept_in history x

      own : is_file_of p b ≡ true
      own = ap (is_hour_of p) first ∙ grind (arith, nat_tests)

      with_own : (fs : List MapFile) → files_in p (b ∷ fs) ≡ b ∷ files_in p fs
      with_own fs = pick (is_file_of p b) own
        where
          pick : (t : Bool) → t ≡ true → cond t (b ∷ files_in p fs) (files_in p fs) ≡ b ∷ files_in p fs
          pick true e = refl
          pick false e = absurd cc

      next : (bs : List MapFile) → AreSorted (b ∷ bs) → files_in p files ≡ files_in p (b ∷ bs) → fails whole files p ≡ (next_begins_in p (heads_of bs) || is_other_level whole p b.image.head)
      next [] s e = one_file whole files p b (e ∙ with_own [])
      next (c ∷ cs) s e = go (is_file_of p c) refl
        where
          go : (t : Bool) → is_file_of p c ≡ t → fails whole files p ≡ (t || is_other_level whole p b.image.head)
          go true is = two_files whole files p b c (files_in p cs) (e ∙ with_own (c ∷ cs) ∙ ap (λ l. b ∷ l) (pick (is_file_of p c) is))
            where
              pick : (t : Bool) → t ≡ true → cond t (c ∷ files_in p cs) (files_in p cs) ≡ c ∷ files_in p cs
              pick true e = refl
              pick false e = absurd cc
          go false is = one_file whole files p b (e ∙ with_own (c ∷ cs) ∙ ap (λ l. b ∷ l) (pick (is_file_of p c) is ∙ none))
            where
              pick : (t : Bool) → t ≡ false → cond t (c ∷ files_in p cs) (files_in p cs) ≡ files_in p cs
              pick true e = absurd cc
              pick false e = refl

              c_hour : CivilHour
              c_hour = s.1.0.0

              same : s.0.0 ≡ x.stamp
              same = some_is (sym s.0.1 ∙ first)
                where
                  some_is : {A : Type 0} {a b : A} → Some a ≡ Some b → a ≡ b
                  some_is e = cc

              after : number_of x.stamp ≤ number_of c_hour
              after = at s.0.2.0.1 s.0.2.0.2
                where
                  at : c.image.head.first ≡ Some s.0.2.0.0 → number_of s.0.0 < number_of s.0.2.0.0 → number_of x.stamp ≤ number_of c_hour
                  at f lt =
                      let one : s.0.2.0.0 ≡ c_hour = some_is (sym f ∙ s.1.0.1) in
                      omega (arith, lt, ap number_of one, ap number_of same)
                    where
                      some_is : {A : Type 0} {a b : A} → Some a ≡ Some b → a ≡ b
                      some_is e = cc

              none : files_in p cs ≡ []
              none = later_files p (number_of c_hour) cs s.1.0.2
                  (λ h lt. outside_on p c_hour h after (ap (is_hour_of p) (sym s.1.0.1) ∙ is) (omega (arith, lt)))

  module _ where
    -- the file does not begin in the stretch in which the one before it is kept
    stops_after : (b c : MapFile) (x y : Entry) (hs : List Head) → b.image.head.first ≡ Some x.stamp → c.image.head.first ≡ Some y.stamp → is_loose whole last b.image.head (c.image.head ∷ hs) ≡ false
        → number_of x.stamp < number_of y.stamp → stretch (settled_level history x.stamp) x.stamp ≢ stretch (settled_level history x.stamp) y.stamp
    stops_after b c x y hs first second loose lt e = go (level_number (settled_level history x.stamp) == 1) refl (is_within (settled_level history x.stamp) x.stamp y.stamp) refl
      where
        both : (not (level_number (settled_level history x.stamp) == 1) && (is_within (settled_level history x.stamp) x.stamp y.stamp || is_other_level whole (kept_in history x) b.image.head)) ≡ false
        both =
            ap (λ (o : Option CivilHour). not (level_number (settled_level history x.stamp) == 1) && (is_hour_of (kept_in history x) o || is_other_level whole (kept_in history x) b.image.head)) (sym second)
            ∙ sym (loose_is b x (c.image.head ∷ hs) first) ∙ loose

        go : (low : Bool) → (level_number (settled_level history x.stamp) == 1) ≡ low → (inside : Bool) → is_within (settled_level history x.stamp) x.stamp y.stamp ≡ inside → ⊥
        go low l false i = absurd (grind (arith, nat_tests, e))
        go true l true i =
            let few : level_number (settled_level history x.stamp) < 2 = grind (arith, nat_tests) in
            let same : number_of x.stamp ≡ number_of y.stamp = subst (λ level. stretch level x.stamp ≡ stretch level y.stamp) (low_hour history x.stamp few) e in
            omega (arith, same, lt)
        go false l true i = wrong (level_number (settled_level history x.stamp) == 1) l (is_within (settled_level history x.stamp) x.stamp y.stamp) i both
          where
            wrong : (low : Bool) → low ≡ false → (inside : Bool) → inside ≡ true → (not low && (inside || is_other_level whole (kept_in history x) b.image.head)) ≡ false → ⊥
            wrong true l inside i e = cc
            wrong false l true i e = cc
            wrong false l false i e = cc

    behind_on : (front : List MapFile) (x y : Entry) → number_of x.stamp ≤ number_of y.stamp → AllByRecursion (λ f. IsBehindAt history x.stamp f.image.head.first) front
        → AllByRecursion (λ f. IsBehindAt history y.stamp f.image.head.first) front
    behind_on [] x y le all = tt
    behind_on (f ∷ fs) x y le all = (on f.image.head.first all.0, behind_on fs x y le all.1)
      where
        on : (o : Option CivilHour) → IsBehindAt history x.stamp o → IsBehindAt history y.stamp o
        on None behind = tt
        on (Some h) behind = omega (arith, behind, stretch-mono (settled_level history h) x.stamp y.stamp le)

    with_last : (front : List MapFile) (b : MapFile) (hour : CivilHour) → AllByRecursion (λ f. IsBehindAt history hour f.image.head.first) front → IsBehindAt history hour b.image.head.first
        → AllByRecursion (λ f. IsBehindAt history hour f.image.head.first) (front ++ b ∷ [])
    with_last [] b hour all own = (own, tt)
    with_last (f ∷ fs) b hour all own = (all.0, with_last fs b hour all.1 own)

    -- the first period of entries, where it fails
    found_first : (x : Entry) (es : List Entry) → not (level_number (settled_level history x.stamp) == 1) ≡ true → fails whole files (kept_in history x) ≡ true
        → find (fails whole files) (flat_map (period_of history) (cut_by (goes history) (x ∷ es))) ≡ Some (kept_in history x)
    found_first x es high fail =
        let cut = cut_head (goes history) x es in
        ap (λ runs. find (fails whole files) (flat_map (period_of history) runs)) cut.2 ∙ go (level_number (settled_level history x.stamp) == 1) high (fails whole files (kept_in history x)) fail (flat_map (period_of history) cut.1)
      where
        go : (low : Bool) → not low ≡ true → (fail : Bool) → fail ≡ true → (more : List Period) → find (fails whole files) (cond low [] (kept_in history x ∷ []) ++ more) ≡ Some (kept_in history x)
        go true l fail f more = absurd cc
        go false l fail' f more = pick (fails whole files (kept_in history x)) fail
          where
            pick : (b : Bool) → b ≡ true → cond b (Some (kept_in history x)) (find (fails whole files) more) ≡ Some (kept_in history x)
            pick true e = refl
            pick false e = absurd cc

    -- else the periods behind it are asked
    found_later : (x : Entry) (xs : List Entry) (more : List Period) → (not (level_number (settled_level history x.stamp) == 1) && fails whole files (kept_in history x)) ≡ false
        → find (fails whole files) (period_of history (x ∷ xs) ++ more) ≡ find (fails whole files) more
    found_later x xs more fail = go (level_number (settled_level history x.stamp) == 1) fail
      where
        go : (low : Bool) → (not low && fails whole files (kept_in history x)) ≡ false → find (fails whole files) (cond low [] (kept_in history x ∷ []) ++ more) ≡ find (fails whole files) more
        go true f = refl
        go false f = pick (fails whole files (kept_in history x)) f
          where
            pick : (b : Bool) → b ≡ false → cond b (Some (kept_in history x)) (find (fails whole files) more) ≡ find (fails whole files) more
            pick true e = absurd cc
            pick false e = refl

  -- the files that are left, with the runs that they have
  walk : (front bs : List MapFile) (rs : List (List Entry)) (store : List Entity) (before : List Entry) → files ≡ front ++ bs → history ≡ before ++ flat_map (λ x. x) rs
      → AreFilesOf rules history store rs (images_of bs) → AreBehind history front (flat_map (λ x. x) rs)
      → Walk whole last files front bs (find (fails whole files) (flat_map (period_of history) (cut_by (goes history) (flat_map (λ x. x) rs)))) (before_loose whole last (heads_of bs))
  walk front [] [] store before there here held behind = record { none = λ e. refl; some = λ head hour e f. absurd cc }
  walk front [] (r ∷ rs) store before there here held behind = absurd held
  walk front (b ∷ bs) [] store before there here held behind = absurd held
  walk front (b ∷ bs) ([] ∷ rs) store before there here held behind = absurd (run_some b.image.head.level history held.0.covers)
  walk front (b ∷ bs) ((x ∷ xs) ∷ rs) store before there here held behind =
      go (λ next. walk (front ++ b ∷ []) bs rs (published store (lines_of (x ∷ xs))) (before ++ (x ∷ xs)) (there ∙ sym (append_assoc front (b ∷ []) bs)) (here ∙ sym (append_assoc before (x ∷ xs) (flat_map (λ x. x) rs))) held.1 next)
      (is_loose whole last b.image.head (heads_of bs)) refl
    where
      Rest : Type 0
      Rest = AreBehind history (front ++ b ∷ []) (flat_map (λ x. x) rs)
          → Walk whole last files (front ++ b ∷ []) bs (find (fails whole files) (flat_map (period_of history) (cut_by (goes history) (flat_map (λ x. x) rs)))) (before_loose whole last (heads_of bs))

      first : b.image.head.first ≡ Some x.stamp
      first = ap (λ (i : Image). i.head.first) held.0.holds

      rises : AreRising ((x ∷ xs) ++ flat_map (λ x. x) rs)
      rises = rising_right before ((x ∷ xs) ++ flat_map (λ x. x) rs) (subst AreRising here rising)

      in_order : AreSorted (b ∷ bs)
      in_order = sorted rules history store (b ∷ bs) ((x ∷ xs) ∷ rs) held rises

      among : IsAmong x history
      among = subst (IsAmong x) (sym here) (among_right before ((x ∷ xs) ++ flat_map (λ x. x) rs) x (inl refl))

      fails_so : fails whole files (kept_in history x) ≡ (next_begins_in (kept_in history x) (heads_of bs) || is_other_level whole (kept_in history x) b.image.head)
      fails_so = fails_is front b bs x there behind first in_order

      loose_so : is_loose whole last b.image.head (heads_of bs) ≡ (not (level_number (settled_level history x.stamp) == 1) && fails whole files (kept_in history x))
      loose_so = loose_is b x (heads_of bs) first ∙ ap (λ t. not (level_number (settled_level history x.stamp) == 1) && t) (sym fails_so)

      place : (places_of (kept_in history x) files ≡ (length front, length front + prefix_len (begins_in (kept_in history x)) (heads_of (b ∷ bs))))
          × (files_in (kept_in history x) files ≡ take (prefix_len (begins_in (kept_in history x)) (heads_of (b ∷ bs))) (b ∷ bs))
      place = (
        ap₂ (λ (m n : ℕ). (m, m + n)) (ap length (ap (take_while (λ f. not (is_file_of (kept_in history x) f))) there ∙ (none_behind history x front (b ∷ bs) behind).1 ∙ ap (λ l. front ++ l) stop) ∙ all_front)
            (ap length (ap (files_in (kept_in history x)) there ∙ (none_behind history x front (b ∷ bs) behind).0) ∙ front_files (kept_in history x) (b ∷ bs) in_order from_here),
        ap (files_in (kept_in history x)) there ∙ (none_behind history x front (b ∷ bs) behind).0 ∙ front_taken (kept_in history x) (b ∷ bs) in_order from_here,
      )
        where
          stop : take_while (λ f. not (is_file_of (kept_in history x) f)) (b ∷ bs) ≡ []
          stop = take_while-cons (λ f. not (is_file_of (kept_in history x) f)) b bs ∙ pick (is_file_of (kept_in history x) b) (ap (is_hour_of (kept_in history x)) first ∙ own)
            where
              own : is_within (settled_level history x.stamp) x.stamp x.stamp ≡ true
              own = grind (arith, nat_tests)

              pick : (t : Bool) → t ≡ true → cond (not t) (b ∷ take_while (λ f. not (is_file_of (kept_in history x) f)) bs) [] ≡ []
              pick true e = refl
              pick false e = absurd cc

          all_front : length (front ++ []) ≡ length front
          all_front = let none : List MapFile = [] in omega (arith, length-append front none)

          from_here : AllByRecursion (λ f. (hour : CivilHour) × (f.image.head.first ≡ Some hour) × (number_of x.stamp ≤ number_of hour)) (b ∷ bs)
          from_here = ((x.stamp, first, omega arith), later bs (begin_after rules history (number_of x.stamp) (published store (lines_of (x ∷ xs))) bs rs held.1 (behind_run xs rises.0)))
            where
              behind_run : (us : List Entry) → AllByRecursion (λ (y : Entry). nat_cmp (number_of x.stamp) (number_of y.stamp) ≡ Less) (us ++ flat_map (λ x. x) rs) → AllByRecursion (λ (e : Entry). number_of x.stamp < number_of e.stamp) (flat_map (λ x. x) rs)
              behind_run [] all = after_first rules history x (flat_map (λ x. x) rs) all
              behind_run (u ∷ us) all = behind_run us all.1

              later : (fs : List MapFile) → AllByRecursion (Begins (number_of x.stamp)) fs → AllByRecursion (λ f. (hour : CivilHour) × (f.image.head.first ≡ Some hour) × (number_of x.stamp ≤ number_of hour)) fs
              later [] all = tt
              later (f ∷ fs) all = ((all.0.0, all.0.1, omega (arith, all.0.2)), later fs all.1)

      go : Rest → (t : Bool) → is_loose whole last b.image.head (heads_of bs) ≡ t
          → Walk whole last files front (b ∷ bs) (find (fails whole files) (flat_map (period_of history) (cut_by (goes history) ((x ∷ xs) ++ flat_map (λ x. x) rs)))) (cond t 0 (1 + before_loose whole last (heads_of bs)))
      go more true loose = record {
        none = λ e. absurd (omega (arith, e));
        some = λ head hour e f.
            let same : hour ≡ x.stamp = some_is (sym f ∙ ap (λ (h : Head). h.first) (sym (some_is e)) ∙ first) in
            subst (λ (h : CivilHour). (find (fails whole files) (flat_map (period_of history) (cut_by (goes history) ((x ∷ xs) ++ flat_map (λ x. x) rs))) ≡ Some (period_before last h))
            × (places_of (period_before last h) files ≡ (length front + 0, length front + 0 + prefix_len (begins_in (period_before last h)) (drop 0 (heads_of (b ∷ bs)))))
            × (files_in (period_before last h) files ≡ take (prefix_len (begins_in (period_before last h)) (drop 0 (heads_of (b ∷ bs)))) (drop 0 (b ∷ bs)))) (sym same)
            (subst (λ (p : Period). (find (fails whole files) (flat_map (period_of history) (cut_by (goes history) ((x ∷ xs) ++ flat_map (λ x. x) rs))) ≡ Some p)
            × (places_of p files ≡ (length front + 0, length front + 0 + prefix_len (begins_in p) (drop 0 (heads_of (b ∷ bs)))))
            × (files_in p files ≡ take (prefix_len (begins_in p) (drop 0 (heads_of (b ∷ bs)))) (drop 0 (b ∷ bs)))) (told x) (
              found_first x (xs ++ flat_map (λ x. x) rs) (left (not (level_number (settled_level history x.stamp) == 1)) (sym loose_so ∙ loose)) (right (not (level_number (settled_level history x.stamp) == 1)) (sym loose_so ∙ loose)),
              subst (λ (n : ℕ). places_of (kept_in history x) files ≡ (n, n + prefix_len (begins_in (kept_in history x)) (heads_of (b ∷ bs)))) (omega arith) place.0,
              place.1,
            ));
      }
        where
          some_is : {A : Type 0} {a b : A} → Some a ≡ Some b → a ≡ b
          some_is e = cc

          left : (m : Bool) → (m && fails whole files (kept_in history x)) ≡ true → m ≡ true
          left true e = refl
          left false e = absurd cc

          right : (m : Bool) → (m && fails whole files (kept_in history x)) ≡ true → fails whole files (kept_in history x) ≡ true
          right true e = e
          right false e = absurd cc
      go more false loose =
          let rest = more (behind_next bs rs held.1 rises loose) in
          let cut = cut_run history (settled_level history x.stamp) (stretch (settled_level history x.stamp) x.stamp) x xs (flat_map (λ x. x) rs)
          (kept_all history x (x ∷ xs) (one_kept history b.image.head.level x xs held.0.covers among)) (stops bs rs held.1 rises loose) in
          let asked = ap (λ runs. find (fails whole files) (flat_map (period_of history) runs)) cut ∙ found_later x xs (flat_map (period_of history) (cut_by (goes history) (flat_map (λ x. x) rs))) (sym loose_so ∙ loose) in
          step whole last files front b bs _ (before_loose whole last (heads_of bs)) (subst (λ o. Walk whole last files (front ++ b ∷ []) bs o (before_loose whole last (heads_of bs))) (sym asked) rest)
        where
          stops : (cs : List MapFile) (qs : List (List Entry)) → AreFilesOf rules history (published store (lines_of (x ∷ xs))) qs (images_of cs) → AreRising ((x ∷ xs) ++ flat_map (λ x. x) qs)
              → is_loose whole last b.image.head (heads_of cs) ≡ false → Stops (settled_level history x.stamp) (stretch (settled_level history x.stamp) x.stamp) (flat_map (λ x. x) qs)
          stops [] [] held up loose = tt
          stops [] (q ∷ qs) held up loose = absurd held
          stops (c ∷ cs) [] held up loose = tt
          stops (c ∷ cs) ([] ∷ qs) held up loose = absurd (run_some c.image.head.level history held.0.covers)
          stops (c ∷ cs) ((y ∷ ys) ∷ qs) held up loose =
              stops_after b c x y (heads_of cs) first (ap (λ (i : Image). i.head.first) held.0.holds) loose (before_all (x ∷ xs) y (ys ++ flat_map (λ x. x) qs) x up (inl refl))

          behind_next : (cs : List MapFile) (qs : List (List Entry)) → AreFilesOf rules history (published store (lines_of (x ∷ xs))) qs (images_of cs) → AreRising ((x ∷ xs) ++ flat_map (λ x. x) qs)
              → is_loose whole last b.image.head (heads_of cs) ≡ false → AreBehind history (front ++ b ∷ []) (flat_map (λ x. x) qs)
          behind_next [] [] held up loose = tt
          behind_next [] (q ∷ qs) held up loose = absurd held
          behind_next (c ∷ cs) [] held up loose = tt
          behind_next (c ∷ cs) ([] ∷ qs) held up loose = absurd (run_some c.image.head.level history held.0.covers)
          behind_next (c ∷ cs) ((y ∷ ys) ∷ qs) held up loose =
              let lt : number_of x.stamp < number_of y.stamp = before_all (x ∷ xs) y (ys ++ flat_map (λ x. x) qs) x up (inl refl) in
              let apart = stops (c ∷ cs) ((y ∷ ys) ∷ qs) held up loose in
              let own : stretch (settled_level history x.stamp) x.stamp < stretch (settled_level history x.stamp) y.stamp = omega (arith, apart, stretch-mono (settled_level history x.stamp) x.stamp y.stamp (omega (arith, lt))) in
              with_last front b y.stamp (behind_on front x y (omega (arith, lt)) behind) (subst (IsBehindAt history y.stamp) (sym first) own)

loose_found : (whole : Bool) (s : State) → find (fails whole s.files) (periods s.history) ≡ loose_period whole s
loose_found true s = refl
loose_found false s = refl

pub heads_law : HeadsLaw
heads_law whole rules base s last st ends =
    let bottom : MapFile = record { number = 0; image = base_image rules base } in
    let above = walk whole rules s.history s.files st.rising last ends (bottom ∷ []) st.above st.runs (apply [] base) [] st.files st.parted st.held (clear (flat_map (λ x. x) st.runs)) in
    let all = step whole last s.files [] bottom st.above _ (before_loose whole last (heads_of st.above)) above in
    let here = subst (λ fs. Walk whole last s.files [] fs (find (fails whole s.files) (flat_map (period_of s.history) (cut_by (goes s.history) (flat_map (λ x. x) st.runs)))) (before_loose whole last (heads_of fs))) (sym st.files) all in
    let of_all_entries = subst (λ es. Walk whole last s.files [] s.files (find (fails whole s.files) (flat_map (period_of s.history) (cut_by (goes s.history) es))) (before_loose whole last (heads_of s.files))) (sym st.parted) here in
    let named = subst (λ o. Walk whole last s.files [] s.files o (before_loose whole last (heads_of s.files))) (loose_found whole s) of_all_entries in
    record {
      none = named.none;
      some = λ head hour e f. (
        (named.some head hour e f).0,
        subst (λ (n : ℕ). places_of (period_before last hour) s.files ≡ (n, n + prefix_len (begins_in (period_before last hour)) (drop (before_loose whole last (heads_of s.files)) (heads_of s.files)))) (omega arith) (named.some head hour e f).1,
        (named.some head hour e f).2,
      );
    }
  where
    clear : (es : List Entry) → AreBehind s.history (record { number = 0; image = base_image rules base } ∷ []) es
    clear [] = tt
    clear (e ∷ es) = (tt, tt)

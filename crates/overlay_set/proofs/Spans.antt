-- A part of a rising history is known by its first and its last stamp.
use Rattle.std.proofs.Common.{◌≡◌, ℕ, ◌<◌, ◌≤◌, Bool, true, false, cond, ◌&&◌, nat_le, List, [], ◌∷◌, ◌++◌, filter, Some, refl, sym, ap, subst, ◌∙◌, append-nil, nat_cmp, Less, arith}
use Rattle.std.specs.List.{AllByRecursion, last_or}
use Rattle.std.proofs.lemmas.Bool.Decides.{nat_tests}
use Rattle.stamp_core.specs.Hours.{CivilHour, number_of}
use Rattle.overlay_set.specs.Sets.{Entry, stamps_of}
use Rattle.overlay_set.specs.Periods.{Period, stretch, is_within, entries_in}
use Rattle.overlay_set.specs.Standing.{AreRising}
use Rattle.overlay_set.proofs.Closing.{less-lt, filter-append, stretch-mono}

-- from one number up to another
abbrev pub is_between : ℕ → ℕ → Entry → Bool
is_between low high e = nat_le low (number_of e.stamp) && nat_le (number_of e.stamp) high

abbrev pub span : ℕ → ℕ → List Entry → List Entry
span low high history = filter (is_between low high) history

abbrev pub AllBelow : ℕ → List Entry → Type 0
AllBelow n xs = AllByRecursion (λ e. number_of e.stamp < n) xs

abbrev pub AllAbove : ℕ → List Entry → Type 0
AllAbove n xs = AllByRecursion (λ e. n < number_of e.stamp) xs

-- the number of the last stamp behind one
abbrev pub last_number : ℕ → List Entry → ℕ
last_number n [] = n
last_number n (e ∷ es) = last_number (number_of e.stamp) es

span_none_below : (low high : ℕ) (xs : List Entry) → AllBelow low xs → span low high xs ≡ []
span_none_below low high [] all = refl
span_none_below low high (x ∷ xs) all = go (is_between low high x) refl (span_none_below low high xs all.1)
  where
    go : (b : Bool) → is_between low high x ≡ b → span low high xs ≡ [] → cond b (x ∷ span low high xs) (span low high xs) ≡ []
    go true e ih = absurd (grind (arith, nat_tests))
    go false e ih = ih

span_none_above : (low high : ℕ) (xs : List Entry) → AllAbove high xs → span low high xs ≡ []
span_none_above low high [] all = refl
span_none_above low high (x ∷ xs) all = go (is_between low high x) refl (span_none_above low high xs all.1)
  where
    go : (b : Bool) → is_between low high x ≡ b → span low high xs ≡ [] → cond b (x ∷ span low high xs) (span low high xs) ≡ []
    go true e ih = absurd (grind (arith, nat_tests))
    go false e ih = ih

span_whole : (low high : ℕ) (xs : List Entry) → AllByRecursion (λ e. (low ≤ number_of e.stamp) × (number_of e.stamp ≤ high)) xs → span low high xs ≡ xs
span_whole low high [] all = refl
span_whole low high (x ∷ xs) all = go (is_between low high x) refl (span_whole low high xs all.1)
  where
    go : (b : Bool) → is_between low high x ≡ b → span low high xs ≡ xs → cond b (x ∷ span low high xs) (span low high xs) ≡ x ∷ xs
    go true e ih = ap (λ l. x ∷ l) ih
    go false e ih = absurd (grind (arith, nat_tests))

-- Parts of a rising history.

pub rising_right : (xs ys : List Entry) → AreRising (xs ++ ys) → AreRising ys
rising_right [] ys r = r
rising_right (x ∷ xs) ys r = rising_right xs ys r.1

all_right : (P : Entry → Type 0) (xs ys : List Entry) → AllByRecursion P (xs ++ ys) → AllByRecursion P ys
all_right P [] ys a = a
all_right P (x ∷ xs) ys a = all_right P xs ys a.1

all_left : (P : Entry → Type 0) (xs ys : List Entry) → AllByRecursion P (xs ++ ys) → AllByRecursion P xs
all_left P [] ys a = tt
all_left P (x ∷ xs) ys a = (a.0, all_left P xs ys a.1)

pub rising_left : (xs ys : List Entry) → AreRising (xs ++ ys) → AreRising xs
rising_left [] ys r = tt
rising_left (x ∷ xs) ys r = (all_left (λ (y : Entry). nat_cmp (number_of x.stamp) (number_of y.stamp) ≡ Less) xs ys r.0, rising_left xs ys r.1)

above_of : (x : Entry) (xs : List Entry) → AllByRecursion (λ (y : Entry). nat_cmp (number_of x.stamp) (number_of y.stamp) ≡ Less) xs → AllAbove (number_of x.stamp) xs
above_of x [] a = tt
above_of x (y ∷ ys) a = (less-lt (number_of x.stamp) (number_of y.stamp) a.0, above_of x ys a.1)

-- what stands before an entry is below it
below_of : (xs : List Entry) (y : Entry) (ys : List Entry) → AreRising (xs ++ y ∷ ys) → AllBelow (number_of y.stamp) xs
below_of [] y ys r = tt
below_of (x ∷ xs) y ys r =
    (less-lt (number_of x.stamp) (number_of y.stamp) (all_right (λ (z : Entry). nat_cmp (number_of x.stamp) (number_of z.stamp) ≡ Less) xs (y ∷ ys) r.0).0, below_of xs y ys r.1)

-- a rising list lies from its first number to its last, and what is behind it above that
within_last : (x : Entry) (xs ys : List Entry) → AreRising ((x ∷ xs) ++ ys)
    → AllByRecursion (λ e. (number_of x.stamp ≤ number_of e.stamp) × (number_of e.stamp ≤ last_number (number_of x.stamp) xs)) (x ∷ xs)
    × AllAbove (last_number (number_of x.stamp) xs) ys × (number_of x.stamp ≤ last_number (number_of x.stamp) xs)
within_last x [] ys r = (((omega arith, omega arith), tt), above_of x ys r.0, omega arith)
within_last x (z ∷ zs) ys r =
    let rest = within_last z zs ys r.1 in
    let lt : number_of x.stamp < number_of z.stamp = less-lt (number_of x.stamp) (number_of z.stamp) r.0.0 in
    (((omega arith, omega (arith, rest.2)), lower (number_of z.stamp) (z ∷ zs) (omega arith) rest.0), rest.1, omega (arith, rest.2))
  where
    lower : (m : ℕ) (es : List Entry) → number_of x.stamp ≤ m → AllByRecursion (λ e. (m ≤ number_of e.stamp) × (number_of e.stamp ≤ last_number (number_of z.stamp) zs)) es
        → AllByRecursion (λ e. (number_of x.stamp ≤ number_of e.stamp) × (number_of e.stamp ≤ last_number (number_of z.stamp) zs)) es
    lower m [] le a = tt
    lower m (e ∷ es) le a = ((omega (arith, a.0.0), a.0.1), lower m es le a.1)

-- the part between the first and the last number of a part is the part
pub span_part : (before : List Entry) (x : Entry) (xs after : List Entry) → AreRising (before ++ ((x ∷ xs) ++ after))
    → span (number_of x.stamp) (last_number (number_of x.stamp) xs) (before ++ ((x ∷ xs) ++ after)) ≡ x ∷ xs
span_part before x xs after rising =
    let low : ℕ = number_of x.stamp in
    let high : ℕ = last_number (number_of x.stamp) xs in
    let facts = within_last x xs after (rising_right before ((x ∷ xs) ++ after) rising) in
    filter-append (is_between low high) before ((x ∷ xs) ++ after)
    ∙ ap (λ l. l ++ span low high ((x ∷ xs) ++ after)) (span_none_below low high before (below_of before x (xs ++ after) rising))
    ∙ filter-append (is_between low high) (x ∷ xs) after
    ∙ ap (λ l. span low high (x ∷ xs) ++ l) (span_none_above low high after facts.1)
    ∙ append-nil (span low high (x ∷ xs)) ∙ span_whole low high (x ∷ xs) facts.0

-- Parts of a period.

abbrev pub last_hour : CivilHour → List Entry → CivilHour
last_hour h [] = h
last_hour h (e ∷ es) = last_hour e.stamp es

pub last_number-hour : (h : CivilHour) (es : List Entry) → last_number (number_of h) es ≡ number_of (last_hour h es)
last_number-hour h [] = refl
last_number-hour h (e ∷ es) = last_number-hour e.stamp es

pub last_in-hour : (h : CivilHour) (es : List Entry) → last_or (Some h) (stamps_of es) ≡ Some (last_hour h es)
last_in-hour h [] = refl
last_in-hour h (e ∷ es) = last_in-hour e.stamp es

abbrev pub AreWithin : Period → List Entry → Type 0
AreWithin p es = AllByRecursion (λ e. stretch p.level e.stamp ≡ stretch p.level p.hour) es

pub period_within : (p : Period) (history : List Entry) → AreWithin p (entries_in p history)
period_within p [] = tt
period_within p (e ∷ es) = go (is_within p.level p.hour e.stamp) refl (period_within p es)
  where
    go : (b : Bool) → is_within p.level p.hour e.stamp ≡ b → AreWithin p (entries_in p es) → AreWithin p (cond b (e ∷ entries_in p es) (entries_in p es))
    go true is ih = (grind (arith, nat_tests), ih)
    go false is ih = ih

last_within : (p : Period) (h : CivilHour) (es : List Entry) → stretch p.level h ≡ stretch p.level p.hour → AreWithin p es → stretch p.level (last_hour h es) ≡ stretch p.level p.hour
last_within p h [] is all = is
last_within p h (e ∷ es) is all = last_within p e.stamp es all.0 all.1

all_filter : (P : Entry → Type 0) (test : Entry → Bool) (xs : List Entry) → AllByRecursion P xs → AllByRecursion P (filter test xs)
all_filter P test [] a = tt
all_filter P test (x ∷ xs) a = go (test x) (all_filter P test xs a.1)
  where
    go : (b : Bool) → AllByRecursion P (filter test xs) → AllByRecursion P (cond b (x ∷ filter test xs) (filter test xs))
    go true ih = (a.0, ih)
    go false ih = ih

pub rising_filter : (test : Entry → Bool) (xs : List Entry) → AreRising xs → AreRising (filter test xs)
rising_filter test [] r = tt
rising_filter test (x ∷ xs) r = go (test x) (rising_filter test xs r.1)
  where
    go : (b : Bool) → AreRising (filter test xs) → AreRising (cond b (x ∷ filter test xs) (filter test xs))
    go true ih = (all_filter (λ (y : Entry). nat_cmp (number_of x.stamp) (number_of y.stamp) ≡ Less) test xs r.0, ih)
    go false ih = ih

-- an entry between two hours of a period is in it
between_within : (p : Period) (low high : CivilHour) (e : Entry) → stretch p.level low ≡ stretch p.level p.hour → stretch p.level high ≡ stretch p.level p.hour
    → is_between (number_of low) (number_of high) e ≡ true → is_within p.level p.hour e.stamp ≡ true
between_within p low high e l h is =
    let a : number_of low ≤ number_of e.stamp = grind (arith, nat_tests) in
    let b : number_of e.stamp ≤ number_of high = grind (arith, nat_tests) in
    let c : stretch p.level low ≤ stretch p.level e.stamp = stretch-mono p.level low e.stamp a in
    let d : stretch p.level e.stamp ≤ stretch p.level high = stretch-mono p.level e.stamp high b in
    grind (arith, nat_tests)

span_period : (p : Period) (low high : CivilHour) (history : List Entry) → stretch p.level low ≡ stretch p.level p.hour → stretch p.level high ≡ stretch p.level p.hour
    → span (number_of low) (number_of high) (entries_in p history) ≡ span (number_of low) (number_of high) history
span_period p low high [] l h = refl
span_period p low high (e ∷ es) l h = go (is_within p.level p.hour e.stamp) refl (is_between (number_of low) (number_of high) e) refl (span_period p low high es l h)
  where
    test : Entry → Bool
    test = is_between (number_of low) (number_of high)

    go : (b : Bool) → is_within p.level p.hour e.stamp ≡ b → (c : Bool) → is_between (number_of low) (number_of high) e ≡ c
        → span (number_of low) (number_of high) (entries_in p es) ≡ span (number_of low) (number_of high) es
        → span (number_of low) (number_of high) (cond b (e ∷ entries_in p es) (entries_in p es)) ≡ cond c (e ∷ span (number_of low) (number_of high) es) (span (number_of low) (number_of high) es)
    go true is true bt ih = rw bt (ap (λ l. e ∷ l) ih)
    go true is false bt ih = rw bt ih
    go false is true bt ih = absurd (apart (sym is ∙ between_within p low high e l h bt))
      where
        apart : false ≡ true → ⊥
        apart x = cc
    go false is false bt ih = ih

-- a run of the history, and a run of a period of it, that have one first and one last stamp, are one run
pub one_run : (p : Period) (history before after front back : List Entry) (x y : Entry) (xs ys : List Entry) → AreRising history
    → history ≡ before ++ ((x ∷ xs) ++ after) → entries_in p history ≡ front ++ ((y ∷ ys) ++ back)
    → x.stamp ≡ y.stamp → last_hour x.stamp xs ≡ last_hour y.stamp ys → x ∷ xs ≡ y ∷ ys
one_run p history before after front back x y xs ys rising here there first last =
    let within : AreWithin p (front ++ ((y ∷ ys) ++ back)) = subst (AreWithin p) there (period_within p history) in
    let within' : AreWithin p (y ∷ ys) = all_left (λ (e : Entry). stretch p.level e.stamp ≡ stretch p.level p.hour) (y ∷ ys) back (all_right (λ (e : Entry). stretch p.level e.stamp ≡ stretch p.level p.hour) front ((y ∷ ys) ++ back) within) in
    let mine : span (number_of x.stamp) (last_number (number_of x.stamp) xs) history ≡ x ∷ xs =
    ap (span (number_of x.stamp) (last_number (number_of x.stamp) xs)) here ∙ span_part before x xs after (subst AreRising here rising) in
    let yours : span (number_of y.stamp) (last_number (number_of y.stamp) ys) (entries_in p history) ≡ y ∷ ys =
    ap (span (number_of y.stamp) (last_number (number_of y.stamp) ys)) there ∙ span_part front y ys back (subst AreRising there (rising_filter (λ e. is_within p.level p.hour e.stamp) history rising)) in
    let lasts : last_number (number_of x.stamp) xs ≡ last_number (number_of y.stamp) ys = last_number-hour x.stamp xs ∙ ap number_of last ∙ sym (last_number-hour y.stamp ys) in
    let whole : span (number_of y.stamp) (last_number (number_of y.stamp) ys) (entries_in p history) ≡ span (number_of y.stamp) (last_number (number_of y.stamp) ys) history =
    subst (λ n. span (number_of y.stamp) n (entries_in p history) ≡ span (number_of y.stamp) n history) (sym (last_number-hour y.stamp ys))
    (span_period p y.stamp (last_hour y.stamp ys) history within'.0 (last_within p y.stamp ys within'.0 within'.1)) in
    sym mine ∙ ap (λ h. span (number_of h) (last_number (number_of x.stamp) xs) history) first ∙ ap (λ n. span (number_of y.stamp) n history) lasts ∙ sym whole ∙ yours

-- What comes first of breaks: the order of breaks is total, so that facts may be asked in any order.
use Rattle.std.proofs.Common.{◌≡◌, ◌≢◌, ℕ, ◌<◌, ◌≤◌, Bool, true, false, List, [], ◌∷◌, ◌++◌, Option, Some, None, refl, sym, ap, subst, ◌∙◌, ◌⊎◌, inl, inr, arith}
use Rattle.std.specs.Prelude.{◌==◌, ◌&&◌, nat_lt, nat_le, if◌then◌else◌}
use Rattle.std.specs.List.{AllByRecursion}
use Rattle.std.proofs.lemmas.Bool.{ltb-true, ltb-false, leb-true, leb-false, eqb-true, eqb-false, lt-ltb, le-leb, eq-eqb, or_cases, and_parts, or_parts, and_cases, or_left, or_right, and_from, cases_Bool, cases_lt, false_from_ne_true, both_ways, cond-true, cond-false}
use Rattle.obf_wire.specs.declared.file.FileBreak.{FileBreak}
use Rattle.obf_wire.specs.declared.file.FileKind.{FileKind}
use Rattle.obf_wire.specs.declared.file.FileKind.TheVariants as kinds
use Rattle.obf_wire.specs.Kinds.{file_number}
use Rattle.file_grammar.specs.Facts.{Fact, fact, break_of, comes_first, IsAmong, AllHold, IsFirstFailing, earlier, failing, first_failing, IsFirstBreakLaw}

-- a smaller place, or the same and no greater kind
abbrev Before : FileBreak → FileBreak → Type 0
Before a b = (a.at < b.at) ⊎ ((a.at ≡ b.at) × (file_number a.kind ≤ file_number b.kind))

before : (a b : FileBreak) → comes_first a b ≡ true → Before a b
before a b e =
    elim (or_cases (nat_lt a.at b.at) ((a.at == b.at) && nat_le (file_number a.kind) (file_number b.kind)) e) [
      | inl h ↦ inl (ltb-true _ _ h)
      | inr h ↦ let p = and_parts (a.at == b.at) (nat_le (file_number a.kind) (file_number b.kind)) h in inr (eqb-true _ _ p.0, leb-true _ _ p.1)
    ]

is_before : (a b : FileBreak) → Before a b → comes_first a b ≡ true
is_before a b (inl h) = or_left (nat_lt a.at b.at) _ (lt-ltb _ _ h)
is_before a b (inr h) = or_right (nat_lt a.at b.at) _ (and_from (a.at == b.at) (nat_le (file_number a.kind) (file_number b.kind)) (eq-eqb _ _ h.0) (le-leb _ _ h.1))

total : (a b : FileBreak) → comes_first a b ≡ false → comes_first b a ≡ true
total a b e =
    let p = or_parts (nat_lt a.at b.at) ((a.at == b.at) && nat_le (file_number a.kind) (file_number b.kind)) e in
    let far : b.at ≤ a.at = ltb-false _ _ p.0 in
    elim (and_cases (a.at == b.at) (nat_le (file_number a.kind) (file_number b.kind)) p.1) [
      | inl h ↦ let ne : a.at ≢ b.at = eqb-false _ _ h in is_before b a (inl (omega arith))
      | inr h ↦
          let more : file_number b.kind < file_number a.kind = leb-false _ _ h in
          elim (cases_lt b.at a.at) [ inl s ↦ is_before b a (inl s) | inr s ↦ is_before b a (inr (omega arith, omega arith)) ]
    ]

before_all : (a b c : FileBreak) → Before a b → Before b c → Before a c
before_all a b c (inl h) (inl i) = inl (omega arith)
before_all a b c (inl h) (inr i) = inl (omega (arith, i.0))
before_all a b c (inr h) (inl i) = inl (omega (arith, h.0))
before_all a b c (inr h) (inr i) = inr (h.0 ∙ i.0, omega (arith, h.1, i.1))

first_all : (a b c : FileBreak) → comes_first a b ≡ true → comes_first b c ≡ true → comes_first a c ≡ true
first_all a b c h i = is_before a c (before_all a b c (before a b h) (before b c i))

abbrev break_at : ℕ → FileKind → FileBreak
break_at at kind = record { at = at; kind = kind }

-- a kind by its number
kind_of : ℕ → FileKind
kind_of n =
    if n == 1 then kinds.Short else if n == 2 then kinds.LongVarint else if n == 3 then kinds.BadKey else if n == 4 then kinds.OverEnd
    else if n == 5 then kinds.BadVersion else if n == 6 then kinds.BadHead else if n == 7 then kinds.BadRules else if n == 8 then kinds.BadText
    else if n == 9 then kinds.BadOrder else if n == 10 then kinds.BadId else if n == 11 then kinds.BadRef else if n == 12 then kinds.BadPoint
    else if n == 13 then kinds.BadBox else if n == 14 then kinds.BadPlace else if n == 15 then kinds.BadMark else if n == 16 then kinds.BadConfirm else kinds.BadCount

kind_again : (k : FileKind) → kind_of (file_number k) ≡ k
unfolding kind_of
kind_again kinds.Short = refl
kind_again kinds.LongVarint = refl
kind_again kinds.BadKey = refl
kind_again kinds.OverEnd = refl
kind_again kinds.BadVersion = refl
kind_again kinds.BadHead = refl
kind_again kinds.BadRules = refl
kind_again kinds.BadText = refl
kind_again kinds.BadOrder = refl
kind_again kinds.BadId = refl
kind_again kinds.BadRef = refl
kind_again kinds.BadPoint = refl
kind_again kinds.BadBox = refl
kind_again kinds.BadPlace = refl
kind_again kinds.BadMark = refl
kind_again kinds.BadConfirm = refl
kind_again kinds.BadCount = refl

same_break : (a b : FileBreak) → a.at ≡ b.at → file_number a.kind ≡ file_number b.kind → a ≡ b
same_break a b at number =
    let kind : a.kind ≡ b.kind = sym (kind_again a.kind) ∙ ap kind_of number ∙ kind_again b.kind in
    ap (λ (n : ℕ). break_at n a.kind) at ∙ ap (λ (k : FileKind). break_at b.at k) kind

both_before : (a b : FileBreak) → Before a b → Before b a → a ≡ b
both_before a b (inl h) (inl i) = absurd (omega arith)
both_before a b (inl h) (inr i) = absurd (omega (arith, i.0))
both_before a b (inr h) (inl i) = absurd (omega (arith, h.0))
both_before a b (inr h) (inr i) = same_break a b h.0 (omega (arith, h.1, i.1))

both_first : (a b : FileBreak) → comes_first a b ≡ true → comes_first b a ≡ true → a ≡ b
both_first a b h i = both_before a b (before a b h) (before b a i)

-- of three, the last comes before the first
last_of : (a b c : FileBreak) → comes_first a b ≡ false → comes_first b c ≡ false → comes_first a c ≡ false
last_of a b c h i =
    false_from_ne_true (comes_first a c) λ e.
    let same = both_first a c e (first_all c b a (total b c i) (total a b h)) in
    both_ways (comes_first b c) i (subst (λ (x : FileBreak). comes_first b x ≡ true) same (total a b h))

-- ---- the earlier of two

abbrev found : FileBreak → Option FileBreak
found b = Some b

takes_first : (a b : FileBreak) → comes_first a b ≡ true → earlier (found a) (found b) ≡ found a
takes_first a b h = cond-true (comes_first a b) (found a) (found b) h

takes_second : (a b : FileBreak) → comes_first a b ≡ false → earlier (found a) (found b) ≡ found b
takes_second a b h = cond-false (comes_first a b) (found a) (found b) h

pub earlier_none : (a : Option FileBreak) → earlier a None ≡ a
earlier_none None = refl
earlier_none (Some a) = refl

pub earlier_swap : (a b : Option FileBreak) → earlier a b ≡ earlier b a
earlier_swap None None = refl
earlier_swap None (Some b) = refl
earlier_swap (Some a) None = refl
earlier_swap (Some a) (Some b) =
    elim (cases_Bool (comes_first a b)) [
      | inl h ↦ elim (cases_Bool (comes_first b a)) [
        | inl i ↦ takes_first a b h ∙ ap found (both_first a b h i) ∙ sym (takes_first b a i)
        | inr i ↦ takes_first a b h ∙ sym (takes_second b a i)
      ]
      | inr h ↦ takes_second a b h ∙ sym (takes_first b a (total a b h))
    ]

pub earlier_joined : (a b c : Option FileBreak) → earlier (earlier a b) c ≡ earlier a (earlier b c)
earlier_joined None b c = refl
earlier_joined (Some a) None c = refl
earlier_joined (Some a) (Some b) None = earlier_none (earlier (Some a) (Some b))
earlier_joined (Some a) (Some b) (Some c) =
    elim (cases_Bool (comes_first a b)) [
      | inl h ↦ elim (cases_Bool (comes_first b c)) [
        | inl i ↦ rw (takes_first a b h, takes_first b c i, takes_first a b h) (takes_first a c (first_all a b c h i))
        | inr i ↦ rw (takes_first a b h, takes_second b c i) refl
      ]
      | inr h ↦ elim (cases_Bool (comes_first b c)) [
        | inl i ↦ rw (takes_second a b h, takes_first b c i, takes_second a b h) refl
        | inr i ↦ rw (takes_second a b h, takes_second b c i) (sym (takes_second a c (last_of a b c h i)))
      ]
    ]

-- ---- facts

pub first_joined : (xs ys : List Fact) → first_failing (xs ++ ys) ≡ earlier (first_failing xs) (first_failing ys)
first_joined [] ys = refl
first_joined (x ∷ xs) ys = ap (earlier (failing x)) (first_joined xs ys) ∙ sym (earlier_joined (failing x) (first_failing xs) (first_failing ys))

each : {P Q : Fact → Type 0} (facts : List Fact) → ((f : Fact) → P f → Q f) → AllByRecursion P facts → AllByRecursion Q facts
each [] more all = tt
each (f ∷ fs) more all = (more f all.0, each fs more all.1)

of_one : (P : Fact → Type 0) (f : Fact) (facts : List Fact) → AllByRecursion P facts → IsAmong f facts → P f
of_one P f [] all among = absurd among
of_one P f (g ∷ gs) all (inl same) = subst P (sym same) all.0
of_one P f (g ∷ gs) all (inr among) = of_one P f gs all.1 among

-- what the first break of facts says of them
Tells : Option FileBreak → List Fact → Type 0
Tells None facts = AllHold facts
Tells (Some b) facts = IsFirstFailing facts b

first_self : (a : FileBreak) → comes_first a a ≡ true
first_self a = is_before a a (inr (refl, omega arith))

abbrev failed : Fact → Bool → Fact
failed f holds = fact f.at f.kind holds

tells_held : (f : Fact) (fs : List Fact) (r : Option FileBreak) → f.holds ≡ true → Tells r fs → Tells r (f ∷ fs)
unfolding Tells
tells_held f fs None h d = (h, d)
tells_held f fs (Some b) h d = record { fails = inr d.fails; first = (λ no. absurd (both_ways f.holds no h), d.first) }

tells_failed : (f : Fact) (fs : List Fact) (r : Option FileBreak) → f.holds ≡ false → Tells r fs → Tells (earlier (found (break_of f)) r) (f ∷ fs)
unfolding Tells
tells_failed f fs None h d =
    record { fails = inl (ap (failed f) (sym h)); first = (λ no. first_self (break_of f), each fs (λ g held no. absurd (both_ways g.holds no held)) d) }
tells_failed f fs (Some b) h d =
    elim (cases_Bool (comes_first (break_of f) b)) [
      | inl i ↦ subst (λ (r : Option FileBreak). Tells r (f ∷ fs)) (sym (takes_first (break_of f) b i))
          (record { fails = inl (ap (failed f) (sym h)); first = (λ no. first_self (break_of f), each fs (λ g later no. first_all (break_of f) b (break_of g) i (later no)) d.first) })
      | inr i ↦ subst (λ (r : Option FileBreak). Tells r (f ∷ fs)) (sym (takes_second (break_of f) b i))
          (record { fails = inr d.fails; first = (λ no. total (break_of f) b i, d.first) })
    ]

tells : (facts : List Fact) → Tells (first_failing facts) facts
unfolding Tells
tells [] = tt
tells (f ∷ fs) =
    elim (cases_Bool f.holds) [
      | inl h ↦ subst (λ (r : Option FileBreak). Tells (earlier r (first_failing fs)) (f ∷ fs)) (sym (cond-true f.holds None (found (break_of f)) h)) (tells_held f fs (first_failing fs) h (tells fs))
      | inr h ↦ subst (λ (r : Option FileBreak). Tells (earlier r (first_failing fs)) (f ∷ fs)) (sym (cond-false f.holds None (found (break_of f)) h)) (tells_failed f fs (first_failing fs) h (tells fs))
    ]

never_both : (facts : List Fact) (b : FileBreak) → AllHold facts → IsFirstFailing facts b → ⊥
never_both facts b all first = both_ways false refl (of_one (λ f. f.holds ≡ true) (fact b.at b.kind false) facts all first.fails)

one_first : (facts : List Fact) (a b : FileBreak) → IsFirstFailing facts a → IsFirstFailing facts b → a ≡ b
one_first facts a b first second =
    both_first a b
    (of_one (λ f. f.holds ≡ false → comes_first a (break_of f) ≡ true) (fact b.at b.kind false) facts first.first second.fails refl)
    (of_one (λ f. f.holds ≡ false → comes_first b (break_of f) ≡ true) (fact a.at a.kind false) facts second.first first.fails refl)

none_where : (facts : List Fact) (r : Option FileBreak) → Tells r facts → AllHold facts → r ≡ None
unfolding Tells
none_where facts None d all = refl
none_where facts (Some b) d all = absurd (never_both facts b all d)

some_where : (facts : List Fact) (r : Option FileBreak) (b : FileBreak) → Tells r facts → IsFirstFailing facts b → r ≡ found b
unfolding Tells
some_where facts None b d first = absurd (never_both facts b d first)
some_where facts (Some a) b d first = ap found (one_first facts a b d first)

pub one_first_break_law : (facts : List Fact) → IsFirstBreakLaw facts
unfolding Tells
one_first_break_law facts =
    record {
      none = (λ e. subst (λ (r : Option FileBreak). Tells r facts) e (tells facts), λ all. none_where facts (first_failing facts) (tells facts) all);
      some = λ b. (λ e. subst (λ (r : Option FileBreak). Tells r facts) e (tells facts), λ first. some_where facts (first_failing facts) b (tells facts) first);
    }

-- what was asked one after another

pub and_one : (start mid new : Option FileBreak) (f : Fact) (fs : List Fact) → mid ≡ earlier start (failing f) → new ≡ earlier mid (first_failing fs) → new ≡ earlier start (first_failing (f ∷ fs))
and_one start mid new f fs one more = more ∙ ap (λ (m : Option FileBreak). earlier m (first_failing fs)) one ∙ earlier_joined start (failing f) (first_failing fs)

pub and_last : (start new : Option FileBreak) (f : Fact) → new ≡ earlier start (failing f) → new ≡ earlier start (first_failing (f ∷ []))
and_last start new f one = one ∙ ap (earlier start) (sym (earlier_none (failing f)))

pub and_more : (start mid new : Option FileBreak) (fs gs : List Fact) → mid ≡ earlier start (first_failing fs) → new ≡ earlier mid (first_failing gs) → new ≡ earlier start (first_failing (fs ++ gs))
and_more start mid new fs gs one more =
    more ∙ ap (λ (m : Option FileBreak). earlier m (first_failing gs)) one ∙ earlier_joined start (first_failing fs) (first_failing gs) ∙ ap (earlier start) (sym (first_joined fs gs))

-- asked the other way round
pub and_before : (start mid new : Option FileBreak) (fs gs : List Fact) → mid ≡ earlier start (first_failing gs) → new ≡ earlier mid (first_failing fs) → new ≡ earlier start (first_failing (fs ++ gs))
and_before start mid new fs gs one more =
    and_more start mid new gs fs one more ∙ ap (earlier start) (first_joined gs fs ∙ earlier_swap (first_failing gs) (first_failing fs) ∙ sym (first_joined fs gs))

-- What heads tell of a set that stands.
use Rattle.std.proofs.Common.{◌≡◌, ℕ, suc, ◌+◌, ◌-◌, ◌≤◌, Bool, true, false, cond, IsTrue, is_some, not, List, [], ◌∷◌, length, drop, take, Option, Some, None, slice_get, refl, sym, inl, inr, ap, ap₂, subst, ◌∙◌, arith}
use Rattle.std.specs.List.{last_or, prefix_len, slice_range}
use Rattle.std.proofs.lemmas.List.{length-drop}
use Rattle.std.proofs.lemmas.List.Sums.{prefix_len-le-length}
use Rattle.std.proofs.lemmas.Option.{slice_get_within}
use Rattle.std.specs.Option.{option_and_then}
use Rattle.live_model.specs.declared.levels.Level.{Level}
use Rattle.live_model.specs.declared.objects.Line.{Line}
use Rattle.live_model.specs.declared.rules.Rule.{Rule}
use Rattle.stamp_core.specs.Hours.{CivilHour}
use Rattle.stamp_core.specs.declared.head.Head.{Head}
use Rattle.overlay_set.specs.Sets.{Entry, MapFile, State, images_of, last_in, stamps_of}
use Rattle.overlay_set.specs.Standing.{Stands}
use Rattle.overlay_set.specs.Loose.{before_loose, begins_in, heads_of, is_loose, is_loose_at, loose_period, period_before}
use Rattle.std.specs.Prelude.{MatchOption}
use Rattle.obf_reader.specs.Images.{Seen}
use Rattle.published_set.proofs.Files.{files_length, heads_are}
use Rattle.overlay_set.specs.Swaps.{FoldPlan, Fits}
use Rattle.overlay_set.proofs.Planning.{plan_law, shrink_law}
use Rattle.overlay_set.proofs.Walking.{heads_law}
use Rattle.overlay_set.proofs.Settling.{settled_law}
use Rattle.overlay_set.proofs.Shapes.{shaped_law}
use Rattle.overlay_set.specs.Periods.{Period, foldable, shape}
use Rattle.published_set.specs.Sets.{IsFoundAt, IsLooseAt, IsLoosePeriod, IsStanding, PublishedSet, files_of, heads_in, hour_at, images_in, rules_of}

-- the plan of a loose period fits
pub loose_fits : (rules : List Rule) (base : List Line) (s : State) (from to : ℕ) (level : Level) → Stands rules base s → IsLoosePeriod s from to level → Fits (record { files = slice_range s.files from to; level = level }) s
loose_fits rules base s from to level st (inl f) = subst (λ (plan : FoldPlan). Fits plan s) (ap₂ (λ fs l. record { files = fs; level = l }) f.whole f.level_is) (plan_law rules base s f.period st f.is)
loose_fits rules base s from to level st (inr f) = subst (λ (plan : FoldPlan). Fits plan s) (ap₂ (λ fs l. record { files = fs; level = l }) f.whole f.level_is) (shrink_law rules base s f.period st f.is)

-- where no file with an hour stands at the place of the first loose file, there is none
pub no_loose : (whole : Bool) (last : CivilHour) (heads : List Head) → hour_at heads (before_loose whole last heads) ≡ None → before_loose whole last heads ≡ length heads
no_loose whole last [] e = refl
no_loose whole last (h ∷ hs) e = go (is_loose whole last h hs) refl (no_loose whole last hs) e
  where
    none : h.first ≡ None → is_loose whole last h hs ≡ false
    none f = ap (λ (o : Option CivilHour). is_loose_at whole last o h hs) f

    go : (b : Bool) → is_loose whole last h hs ≡ b → (hour_at hs (before_loose whole last hs) ≡ None → before_loose whole last hs ≡ length hs)
        → hour_at (h ∷ hs) (cond b 0 (1 + before_loose whole last hs)) ≡ None → cond b 0 (1 + before_loose whole last hs) ≡ length (h ∷ hs)
    go true is ih e = let not_loose : is_loose whole last h hs ≡ false = none e in absurd cc
    go false is ih e =
        let next : 1 + before_loose whole last hs ≡ suc (before_loose whole last hs) = omega arith in
        omega (arith, ih (subst (λ (k : ℕ). hour_at (h ∷ hs) k ≡ None) next e))

-- the head of an hour at a place
head_at : (heads : List Head) (n : ℕ) (hour : CivilHour) → hour_at heads n ≡ Some hour → (head : Head) × (slice_get heads n ≡ Some head) × (head.first ≡ Some hour)
head_at heads n hour e = go (slice_get heads n) refl e
  where
    go : (o : Option Head) → slice_get heads n ≡ o → option_and_then (λ (head : Head). head.first) o ≡ Some hour → (head : Head) × (slice_get heads n ≡ Some head) × (head.first ≡ Some hour)
    go None is e = absurd cc
    go (Some head) is e = (head, is, e)

pub found_none : (whole : Bool) (rules : List Rule) (base : List Line) (s : State) (last : CivilHour) → Stands rules base s → last_in (stamps_of s.history) ≡ Some last
    → before_loose whole last (heads_of s.files) ≡ length s.files → loose_period whole s ≡ None
found_none whole rules base s last st ends none = (heads_law whole rules base s last st ends).none none

heads_count : (files : List MapFile) → length (heads_of files) ≡ length files
heads_count [] = refl
heads_count (f ∷ fs) = omega (arith, heads_count fs)

-- the places of a loose period are places of files
pub within : (s : State) (from to : ℕ) (level : Level) → IsLoosePeriod s from to level → (from ≤ to) × (to ≤ length s.files)
within s from to level (inl f) = (f.order, f.inside)
within s from to level (inr f) = (f.order, f.inside)

pub found_at : (whole : Bool) (rules : List Rule) (base : List Line) (s : State) (last : CivilHour) (from to : ℕ) (level : Level) → Stands rules base s → last_in (stamps_of s.history) ≡ Some last
    → IsLooseAt whole last (heads_of s.files) from to level → IsFoundAt (loose_period whole s) s.files from to level
found_at whole rules base s last from to level st ends at =
    let found = head_at (heads_of s.files) from at.hour at.begins in
    let told = (heads_law whole rules base s last st ends).some found.0 at.hour (subst (λ (n : ℕ). slice_get (heads_of s.files) n ≡ Some found.0) at.from_is found.1) found.2 in
    let count : ℕ → ℕ = λ n. prefix_len (begins_in (period_before last at.hour)) (drop n (heads_of s.files)) in
    let room : from + count from ≤ length s.files = omega (
      arith,
      prefix_len-le-length (begins_in (period_before last at.hour)) (drop from (heads_of s.files)),
      length-drop from (heads_of s.files),
      slice_get_within (heads_of s.files) from found.0 found.1,
      heads_count s.files,
    ) in
    let size : count from ≡ to - from = omega (arith, at.to_is) in record {
      period = period_before last at.hour;
      is = told.0;
      places = told.1 ∙ sym (ap₂ (λ (m n : ℕ). (m, n)) at.from_is (at.to_is ∙ ap (λ (n : ℕ). n + count n) at.from_is));
      level_is = sym at.level_is;
      order = omega (arith, at.to_is);
      inside = omega (arith, at.to_is, room);
      whole = told.2 ∙ ap (λ (n : ℕ). take (count n) (drop n s.files)) (sym at.from_is) ∙ ap (λ (n : ℕ). take n (drop from s.files)) size;
    }

some_in : (xs : List Entry) (x : Entry) → last_or (Some x.stamp) (stamps_of xs) ≡ None → ⊥
some_in [] x e = cc e
some_in (y ∷ ys) x e = some_in ys y e

-- without publications there are no periods
pub none_in_none : (whole : Bool) (s : State) → last_in (stamps_of s.history) ≡ None → loose_period whole s ≡ None
none_in_none whole s e = subst (λ (history : List Entry). loose_period whole (record { history = history; files = s.files }) ≡ None) (sym (empty s.history e)) (none whole)
  where
    empty : (xs : List Entry) → last_in (stamps_of xs) ≡ None → xs ≡ []
    empty [] e = refl
    empty (x ∷ xs) e = absurd (some_in xs x e)

    none : (whole : Bool) → loose_period whole (record { history = []; files = s.files }) ≡ None
    none true = refl
    none false = refl

-- an answer by heads is one of the set
pub set_told : (whole : Bool) (base : List Line) (s : State) (last : CivilHour) (ns : List ℕ) (images : List Seen) (o : Option (ℕ × ℕ × Level)) (n : ℕ) → s.files ≡ files_of ns (images_in images)
    → length ns ≡ length images → n ≡ length images → last_in (stamps_of s.history) ≡ Some last
    → MatchOption o (before_loose whole last (heads_in images) ≡ n) (λ r. IsLooseAt whole last (heads_in images) r.0 r.1 r.2)
    → IsStanding (record { base = base; state = s }) → MatchOption o (loose_period whole s ≡ None) (λ r. IsFoundAt (loose_period whole s) s.files r.0 r.1 r.2)
set_told whole base s last ns images o n files even many ends told st = go o told
  where
    heads : heads_of s.files ≡ heads_in images
    heads = ap heads_of files ∙ heads_are ns images even

    count : length s.files ≡ n
    count = ap length files ∙ files_length ns images even ∙ sym many

    go : (o : Option (ℕ × ℕ × Level)) → MatchOption o (before_loose whole last (heads_in images) ≡ n) (λ r. IsLooseAt whole last (heads_in images) r.0 r.1 r.2)
        → MatchOption o (loose_period whole s ≡ None) (λ r. IsFoundAt (loose_period whole s) s.files r.0 r.1 r.2)
    go None none = found_none whole _ base s last st.stands ends (ap (before_loose whole last) heads ∙ none ∙ sym count)
    go (Some r) at = found_at whole _ base s last r.0 r.1 r.2 st.stands ends (subst (λ (hs : List Head). IsLooseAt whole last hs r.0 r.1 r.2) (sym heads) at)

-- nothing is foldable exactly where the files have the settled shape
pub settled_told : (set : PublishedSet) (o : Option (ℕ × ℕ × Level)) (b : Bool) → is_some o ≡ not b → IsStanding set
    → MatchOption o (foldable set.state ≡ None) (λ r. IsFoundAt (foldable set.state) set.state.files r.0 r.1 r.2)
    → (IsTrue b → images_of set.state.files ≡ shape (rules_of set) set.base set.state.history) × (images_of set.state.files ≡ shape (rules_of set) set.base set.state.history → IsTrue b)
settled_told set None true is st none = (λ _. settled_law (rules_of set) set.base set.state st.stands none, λ _. refl)
settled_told set None false is st none = absurd cc
settled_told set (Some r) true is st found = absurd cc
settled_told set (Some r) false is st found = (
  λ t. absurd (true_false (sym t)),
  λ shaped. absurd (some_none found.period (sym found.is ∙ shaped_law (rules_of set) set.base set.state st.stands shaped)),
)
  where
    true_false : true ≡ false → ⊥
    true_false e = absurd cc

    some_none : (p : Period) → Some p ≡ None → ⊥
    some_none p e = absurd cc

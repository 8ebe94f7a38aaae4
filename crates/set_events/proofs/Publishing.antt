-- A publication that is not refused: what it needs, and what it leaves.
use Rattle.std.proofs.Common.{◌≡◌, ◌≢◌, ℕ, ◌+◌, ◌<◌, ◌≤◌, Bool, true, false, cond, ◌&&◌, ◌||◌, not, ◌==◌, nat_le, nat_lt, List, [], ◌∷◌, ◌++◌, length, find, Option, Some, None, is_none, option_map, refl, sym, ap, ap₂, subst, ◌∙◌, inl, inr, arith}
use Rattle.std.specs.List.{AllByRecursion, list_any, last_or}
use Rattle.std.specs.Option.{option_or}
use Rattle.std.proofs.lemmas.Bool.Decides.{nat_tests}
use Rattle.std.proofs.lemmas.List.{length-append}
use Rattle.live_model.specs.declared.levels.Level.TheVariants.{Hour}
use Rattle.live_model.specs.declared.objects.Entity.{Entity}
use Rattle.live_model.specs.declared.objects.Line.{Line}
use Rattle.live_model.specs.declared.rules.Rule.{Rule}
use Rattle.live_model.specs.Objects.{IsGoodLine}
use Rattle.live_model.specs.Stores.{IsStore, apply}
use Rattle.live_model.specs.Maps.{Overlay, overlay, published}
use Rattle.map_laws.proofs.MoreLaws.{one_fold}
use Rattle.map_laws.proofs.OverlayProof.{overlay_law}
use Rattle.stamp_core.specs.Hours.{CivilHour, number_of}
use Rattle.overlay_set.specs.Sets.{Entry, Image, MapFile, State, age, base_image, last_in, lines_of, numbers_of, run_image, stamps_of}
use Rattle.overlay_set.specs.Periods.{Period, files_in, is_file_of, shrinkable}
use Rattle.overlay_set.specs.Standing.{AreApart, AreRising, Stands}
use Rattle.overlay_set.specs.Swaps.{FoldPlan, Fits, IsAmong, Add, Takes, has_number, missing, plan_of, replaced}
use Rattle.overlay_set.specs.Machines.{Reply, Late, HistoryFull, FilesFull, Accepted, commit, commit_over, is_full, late_after, limits_of_a_board, published_in, publish, refused, shrink, with_entry, with_fold, with_fold_in, with_room}
use Rattle.overlay_set.proofs.Closing.{less-lt}
use Rattle.overlay_set.proofs.Places.{replaced_at}
use Rattle.overlay_set.proofs.Planning.{among_filter, find_some, shrink_law}
use Rattle.overlay_set.proofs.Staying.{plan_stands}

-- The fold that makes room leaves the history.
pub room_keeps : (rules : List Rule) (base : List Line) (s : State) → (with_room limits_of_a_board rules base s).history ≡ s.history
room_keeps rules base s = go (is_full limits_of_a_board rules base s)
  where
    shrunk : (o : Option Period) → (with_fold_in o s).history ≡ s.history
    shrunk None = refl
    shrunk (Some p) = refl

    go : (b : Bool) → (cond b (with_fold_in (shrinkable s) s) s).history ≡ s.history
    go true = shrunk (shrinkable s)
    go false = refl

-- No file of a plan of the present files is missing.

any_number : (files : List MapFile) (f : MapFile) → IsAmong f files → list_any (λ g. g.number == f.number) files ≡ true
any_number [] f h = absurd h
any_number (g ∷ gs) f (inl e) = go (g.number == f.number) (ap (λ (x : MapFile). x.number == f.number) (sym e) ∙ grind (arith, nat_tests))
  where
    go : (b : Bool) → b ≡ true → (b || list_any (λ g. g.number == f.number) gs) ≡ true
    go true e = refl
    go false e = absurd cc
any_number (g ∷ gs) f (inr h) = go (g.number == f.number) (any_number gs f h)
  where
    go : (b : Bool) → list_any (λ g. g.number == f.number) gs ≡ true → (b || list_any (λ g. g.number == f.number) gs) ≡ true
    go true e = refl
    go false e = e

none_missing : (s : State) (fs : List MapFile) → ((f : MapFile) → IsAmong f fs → IsAmong f s.files) → find (λ n. not (has_number s n)) (numbers_of fs) ≡ None
none_missing s [] inside = refl
none_missing s (f ∷ fs) inside = go (has_number s f.number) (any_number s.files f (inside f (inl refl))) (none_missing s fs (λ g h. inside g (inr h)))
  where
    go : (b : Bool) → b ≡ true → find (λ n. not (has_number s n)) (numbers_of fs) ≡ None → cond (not b) (Some f.number) (find (λ n. not (has_number s n)) (numbers_of fs)) ≡ None
    go true e ih = ih
    go false e ih = absurd cc

pub period_there : (s : State) (p : Period) → missing (plan_of p s.files) s ≡ None
period_there s p = none_missing s (files_in p s.files) (λ f h. among_filter (is_file_of p) s.files f h)

-- Refusals.

-- why a publication was not refused
pub record IsWanted (s : State) (stamp : CivilHour) : Type 0 where
  pub later : AllByRecursion (λ e. number_of e.stamp < number_of stamp) s.history
  pub entries : length s.history < 65536
  pub files : (1024 ≤ length s.files) → shrinkable s ≢ None

last_before : (xs : List Entry) (found : Option CivilHour) (stamp : CivilHour) → AreRising xs
    → ((last : CivilHour) → last_or found (stamps_of xs) ≡ Some last → number_of last < number_of stamp) → AllByRecursion (λ e. number_of e.stamp < number_of stamp) xs
last_before [] found stamp rising f = tt
last_before (x ∷ []) found stamp rising f = (f x.stamp refl, tt)
last_before (x ∷ y ∷ ys) found stamp rising f =
    let rest = last_before (y ∷ ys) (Some x.stamp) stamp rising.1 f in
    (omega (arith, less-lt (number_of x.stamp) (number_of y.stamp) rising.0.0, rest.0), rest)

not_late : (found : Option CivilHour) (front : ℕ) (stamp : CivilHour) (other : Option Reply) → option_or (late_after found front stamp) other ≡ None
    → (other ≡ None) × ((last : CivilHour) → found ≡ Some last → number_of last < number_of stamp)
not_late None front stamp other e = (e, λ last is. absurd cc)
not_late (Some h) front stamp other e = go (nat_le (number_of stamp) (number_of h)) refl e
  where
    go : (b : Bool) → nat_le (number_of stamp) (number_of h) ≡ b → option_or (cond b (Some (Late front h)) None) other ≡ None
        → (other ≡ None) × ((last : CivilHour) → Some h ≡ Some last → number_of last < number_of stamp)
    go true w e = absurd cc
    go false w e =
        let lt : number_of h < number_of stamp = grind (arith, nat_tests) in
        (e, λ last is. let same : h ≡ last = cc in subst (λ h. number_of h < number_of stamp) same lt)

not_crowded : (entries files : ℕ) (o : Option Period) (a b : Reply) → cond (nat_le 65536 entries) (Some a) (cond (nat_le 1024 files && is_none o) (Some b) None) ≡ None
    → (entries < 65536) × (1024 ≤ files → o ≢ None)
not_crowded entries files o a b e = go (nat_le 65536 entries) refl (nat_le 1024 files) refl o e
  where
    go : (p : Bool) → nat_le 65536 entries ≡ p → (q : Bool) → nat_le 1024 files ≡ q → (o : Option Period) → cond p (Some a) (cond (q && is_none o) (Some b) None) ≡ None
        → (entries < 65536) × (1024 ≤ files → o ≢ None)
    go true is q js o e = absurd cc
    go false is true js None e = absurd cc
    go false is true js (Some x) e = (grind (arith, nat_tests), λ le none. cc)
    go false is false js o e = (grind (arith, nat_tests), λ le none. absurd (grind (arith, nat_tests)))

pub wanted : (rules : List Rule) (base : List Line) (s : State) (stamp : CivilHour) → Stands rules base s → refused limits_of_a_board rules base s stamp ≡ None → IsWanted s stamp
wanted rules base s stamp st e =
    let late = not_late (last_in (stamps_of s.history)) (length s.history) stamp _ e in
    let room = not_crowded (length s.history) (length s.files) (shrinkable s) (HistoryFull (length s.history)) (FilesFull (length s.history)) late.0 in
    record { later = last_before s.history None stamp st.rising late.1; entries = room.0; files = room.1 }

-- Room.

-- what the fold that makes room leaves
pub record LeavesRoom (s next : State) : Type 0 where
  pub history : next.history ≡ s.history
  pub files : length next.files < 1024

replaced_length : (front back : List MapFile) (run : List MapFile) (new : MapFile) → AreApart (numbers_of (front ++ (run ++ back))) → 2 ≤ length run
    → length (replaced (numbers_of run) new (front ++ (run ++ back))) < length (front ++ (run ++ back))
replaced_length front back [] new apart two = absurd (omega arith)
replaced_length front back (r ∷ rs) new apart two =
    omega (arith, ap length (replaced_at front r rs back new apart), length-append front (new ∷ back), length-append front ((r ∷ rs) ++ back), length-append (r ∷ rs) back)

pub shrunk_length : (rules : List Rule) (base : List Line) (s : State) (p : Period) → Stands rules base s → shrinkable s ≡ Some p → length (with_fold (plan_of p s.files) s).files < length s.files
shrunk_length rules base s p st e =
    let found = find_some (λ q. Unit {0}) (λ q. nat_le 2 (length (files_in q s.files))) _ p e (all_unit _) in
    let two : 2 ≤ length (files_in p s.files) = grind (arith, nat_tests, found.1) in
    let stand = plan_stands rules base s (plan_of p s.files) st (shrink_law rules base s p st e) (period_there s p) in
    let whole : s.files ≡ (record { number = 0; image = base_image rules base } ∷ stand.front) ++ (files_in p s.files ++ stand.back) = st.files ∙ ap (λ (fs : List MapFile). record { number = 0; image = base_image rules base } ∷ fs) stand.joined in
    let new : MapFile = record { number = age s + 1; image = _ } in
    subst (λ (fs : List MapFile). length (replaced (numbers_of (files_in p s.files)) new fs) < length fs) (sym whole)
    (replaced_length (record { number = 0; image = base_image rules base } ∷ stand.front) stand.back (files_in p s.files) new (subst (λ (fs : List MapFile). AreApart (numbers_of fs)) whole st.apart) two)
  where
    all_unit : (ps : List Period) → AllByRecursion (λ q. Unit {0}) ps
    all_unit [] = tt
    all_unit (q ∷ qs) = (tt, all_unit qs)

pub room_left : (rules : List Rule) (base : List Line) (s : State) (stamp : CivilHour) → Stands rules base s → IsWanted s stamp → length s.files ≤ 1024 → length (with_room limits_of_a_board rules base s).files < 1024
room_left rules base s stamp st want few = go (nat_le 1024 (length s.files)) refl
  where
    shrunk : (o : Option Period) → shrinkable s ≡ o → 1024 ≤ length s.files → length (with_fold_in o s).files < 1024
    shrunk None e le = absurd (want.files le e)
    shrunk (Some p) e le = let less = shrunk_length rules base s p st e in omega (arith, less, few)

    go : (b : Bool) → nat_le 1024 (length s.files) ≡ b → length (cond b (with_fold_in (shrinkable s) s) s).files < 1024
    go true e = shrunk (shrinkable s) refl (grind (arith, nat_tests))
    go false e = grind (arith, nat_tests)

-- the plan whose fold makes room, where there is one
pub record MakesRoom (rules : List Rule) (base : List Line) (s : State) (plan : FoldPlan) : Type 0 where
  pub fits : Fits plan s
  pub there : missing plan s ≡ None
  pub made : with_room limits_of_a_board rules base s ≡ with_fold plan s

module _ (rules : List Rule) (base : List Line) (s : State) (st : Stands rules base s) where
  abbrev pub plan_in : Bool → Option Period → Option FoldPlan
  plan_in b o = cond b (option_map (λ p. plan_of p s.files) o) None

  pub room_made : (plan : FoldPlan) → Some plan ≡ plan_in (is_full limits_of_a_board rules base s) (shrinkable s) → MakesRoom rules base s plan
  room_made plan e = go (is_full limits_of_a_board rules base s) refl (shrinkable s) refl e
    where
      go : (b : Bool) → is_full limits_of_a_board rules base s ≡ b → (o : Option Period) → shrinkable s ≡ o → Some plan ≡ plan_in b o → MakesRoom rules base s plan
      go true is None js e = absurd cc
      go true is (Some p) js e =
          let same : plan ≡ plan_of p s.files = cc in
          let made : with_room limits_of_a_board rules base s ≡ with_fold (plan_of p s.files) s = ap₂ (λ (b : Bool) (o : Option Period). cond b (with_fold_in o s) s) is js in
          subst (λ (plan : FoldPlan). MakesRoom rules base s plan) (sym same) (record { fits = shrink_law rules base s p st js; there = period_there s p; made = made })
      go false is o js e = absurd cc

  pub room_kept : None ≡ plan_in (is_full limits_of_a_board rules base s) (shrinkable s) → with_room limits_of_a_board rules base s ≡ s
  room_kept e = go (is_full limits_of_a_board rules base s) refl (shrinkable s) refl e
    where
      go : (b : Bool) → is_full limits_of_a_board rules base s ≡ b → (o : Option Period) → shrinkable s ≡ o → None ≡ plan_in b o → with_room limits_of_a_board rules base s ≡ s
      go true is None js e = ap₂ (λ (b : Bool) (o : Option Period). cond b (with_fold_in o s) s) is js
      go true is (Some p) js e = absurd cc
      go false is o js e = ap₂ (λ (b : Bool) (o : Option Period). cond b (with_fold_in o s) s) is js

-- a fold of a plan that makes room, brought in, does
pub room_brought : (rules : List Rule) (base : List Line) (s : State) (plan : FoldPlan) → MakesRoom rules base s plan
    → (commit limits_of_a_board rules base (Some plan) s).0 ≡ with_room limits_of_a_board rules base s
room_brought rules base s plan m = ap (λ (o : Option ℕ). (commit_over limits_of_a_board rules base o plan s).0) m.there ∙ sym m.made

-- What comes in.

pub accepted : (rules : List Rule) (base : List Line) (s : State) (entry : Entry) → refused limits_of_a_board rules base s entry.stamp ≡ None
    → publish limits_of_a_board rules base s entry ≡ (with_entry limits_of_a_board rules base (with_room limits_of_a_board rules base s) entry, Accepted (length s.history + 1))
accepted rules base s entry e = ap (λ (o : Option Reply). published_in limits_of_a_board rules base o s entry) e

pub refused_so : (rules : List Rule) (base : List Line) (s : State) (entry : Entry) (reply : Reply) → refused limits_of_a_board rules base s entry.stamp ≡ Some reply
    → publish limits_of_a_board rules base s entry ≡ (s, reply)
refused_so rules base s entry reply e = ap (λ (o : Option Reply). published_in limits_of_a_board rules base o s entry) e

-- the overlay of one publication, folded alone, is itself; so its image is that of the run
pub one_entry : (rules : List Rule) (store : List Entity) (entry : Entry) → IsStore store → AllByRecursion IsGoodLine entry.lines
    → record { head = record { level = Hour; first = Some entry.stamp; last = Some entry.stamp }; rules = rules; overlay = overlay rules store entry.lines } ≡ run_image rules store Hour (entry ∷ [])
one_entry rules store entry is good =
    ap (λ (o : Overlay). record { head = record { level = Hour; first = Some entry.stamp; last = Some entry.stamp }; rules = rules; overlay = o }) (sym (one_fold (overlay rules store entry.lines) (overlay_law rules store entry.lines is good).0))

-- a plan of what can be shrunk, with its fold
pub record Shrinks (rules : List Rule) (base : List Line) (s : State) (plan : FoldPlan) : Type 0 where
  pub fits : Fits plan s
  pub same : commit limits_of_a_board rules base (Some plan) s ≡ shrink limits_of_a_board rules base (shrinkable s) s

pub shrinks : (rules : List Rule) (base : List Line) (s : State) → Stands rules base s → (plan : FoldPlan) → Some plan ≡ option_map (λ p. plan_of p s.files) (shrinkable s) → Shrinks rules base s plan
shrinks rules base s st plan e = go (shrinkable s) refl e
  where
    go : (o : Option Period) → shrinkable s ≡ o → Some plan ≡ option_map (λ p. plan_of p s.files) o → Shrinks rules base s plan
    go None js e = absurd cc
    go (Some p) js e =
        let is : plan ≡ plan_of p s.files = cc in
        let folded_ : commit limits_of_a_board rules base (Some (plan_of p s.files)) s ≡ shrink limits_of_a_board rules base (shrinkable s) s =
        ap (λ (o : Option ℕ). commit_over limits_of_a_board rules base o (plan_of p s.files) s) (period_there s p) ∙ sym (ap (λ (o : Option Period). shrink limits_of_a_board rules base o s) js) in
        subst (λ (plan : FoldPlan). Shrinks rules base s plan) (sym is) (record { fits = shrink_law rules base s p st js; same = folded_ })

-- where a publication is not refused, there is room for it after the fold that makes room
pub has_room_for : (rules : List Rule) (base : List Line) (s : State) (stamp : CivilHour) → Stands rules base s → IsWanted s stamp → length s.files ≤ 1024
    → (nat_lt (length (with_room limits_of_a_board rules base s).history) 65536 && nat_lt (length (with_room limits_of_a_board rules base s).files) 1024) ≡ true
has_room_for rules base s stamp st want few =
    let files : nat_lt (length (with_room limits_of_a_board rules base s).files) 1024 ≡ true = let less = room_left rules base s stamp st want few in grind (arith, nat_tests) in
    let entries : nat_lt (length (with_room limits_of_a_board rules base s).history) 65536 ≡ true = ap (λ (h : List Entry). nat_lt (length h) 65536) (room_keeps rules base s) ∙ (let less = want.entries in grind (arith, nat_tests)) in
    ap₂ (λ (a b : Bool). a && b) entries files

-- and it may come in then, with the image of its run
pub may_come : (rules : List Rule) (base : List Line) (s : State) (entry : Entry) (image : Image) → IsWanted s entry.stamp
    → image ≡ run_image rules (published (apply [] base) (lines_of s.history)) Hour (entry ∷ []) → Takes rules base (with_room limits_of_a_board rules base s) (Add entry image)
may_come rules base s entry image want same = (
  subst (λ (h : List Entry). AllByRecursion (λ e. number_of e.stamp < number_of entry.stamp) h) (sym (room_keeps rules base s)) want.later,
  same ∙ ap (λ (h : List Entry). run_image rules (published (apply [] base) (lines_of h)) Hour (entry ∷ [])) (sym (room_keeps rules base s)),
)

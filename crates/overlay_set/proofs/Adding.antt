-- A set stands after a publication has come in.
use Rattle.std.proofs.Common.{◌≡◌, ◌≢◌, ℕ, ◌+◌, ◌<◌, List, [], ◌∷◌, ◌++◌, flat_map, refl, sym, ap, subst, ◌∙◌, length-append, nat_cmp, Less, arith}
use Rattle.std.specs.List.{AllByRecursion}
use Rattle.std.proofs.lemmas.Bool.Decides.{nat_tests}
use Rattle.std.proofs.lemmas.List.Sums.{sum_by-append}
use Rattle.live_model.specs.declared.levels.Level.{Level}
use Rattle.live_model.specs.declared.levels.Level.TheVariants.{Base, Hour, Day, Month}
use Rattle.live_model.specs.declared.objects.Entity.{Entity}
use Rattle.live_model.specs.declared.objects.Line.{Line}
use Rattle.live_model.specs.declared.rules.Rule.{Rule}
use Rattle.live_model.specs.Stores.{apply}
use Rattle.live_model.specs.Maps.{published}
use Rattle.stamp_core.specs.Hours.{number_of}
use Rattle.overlay_set.specs.Sets.{Entry, Image, MapFile, State, numbers_of, images_of, lines_of, greatest, age, run_image}
use Rattle.overlay_set.specs.Standing.{level_weight, IsRunOf, AreFilesOf, AreRising, AreApart, Stands}
use Rattle.overlay_set.specs.Swaps.{Add, applied, Takes}
use Rattle.overlay_set.proofs.Lists.{map-append, flat-append, published_runs, all-append}
use Rattle.overlay_set.proofs.Closing.{period_run_stays}
use Rattle.overlay_set.proofs.Later.{greatest-add}

run_stays : (level : Level) (xs ys run : List Entry) → AreRising (xs ++ ys) → IsRunOf level xs run → IsRunOf level (xs ++ ys) run
run_stays Base xs ys run rising h = h
run_stays Hour xs ys run rising h = h
run_stays Day xs ys run rising h = period_run_stays Day xs ys run rising h
run_stays Month xs ys run rising h = period_run_stays Month xs ys run rising h

-- the files hold their runs in a longer history too
pub held_longer : (rules : List Rule) (xs ys : List Entry) (store : List Entity) (runs : List (List Entry)) (images : List Image) → AreRising (xs ++ ys)
    → AreFilesOf rules xs store runs images → AreFilesOf rules (xs ++ ys) store runs images
held_longer rules xs ys store [] [] rising h = tt
held_longer rules xs ys store [] (i ∷ is) rising h = absurd h
held_longer rules xs ys store (r ∷ rs) [] rising h = absurd h
held_longer rules xs ys store (r ∷ rs) (i ∷ is) rising h = (
  record { covers = run_stays i.head.level xs ys r rising h.0.covers; holds = h.0.holds },
  held_longer rules xs ys (published store (lines_of r)) rs is rising h.1,
)

-- files of runs, and behind them files of further runs
pub held_append : (rules : List Rule) (history : List Entry) (store : List Entity) (runs more : List (List Entry)) (images others : List Image)
    → AreFilesOf rules history store runs images → AreFilesOf rules history (published store (lines_of (flat_map (λ run. run) runs))) more others
    → AreFilesOf rules history store (runs ++ more) (images ++ others)
held_append rules history store [] more [] others h k = k
held_append rules history store [] more (i ∷ is) others h k = absurd h
held_append rules history store (r ∷ rs) more [] others h k = absurd h
held_append rules history store (r ∷ rs) more (i ∷ is) others h k = (
  h.0,
  held_append rules history (published store (lines_of r)) rs more is others h.1
      (subst (λ s. AreFilesOf rules history s more others) (published_runs store r (flat_map (λ run. run) rs)) k),
)

rising_add : (xs : List Entry) (e : Entry) → AreRising xs → AllByRecursion (λ x. number_of x.stamp < number_of e.stamp) xs → AreRising (xs ++ e ∷ [])
rising_add [] e rising all = (tt, tt)
rising_add (x ∷ xs) e rising all = (
  all-append (λ (y : Entry). nat_cmp (number_of x.stamp) (number_of y.stamp) ≡ Less) xs (e ∷ []) rising.0 (before x all.0, tt),
  rising_add xs e rising.1 all.1,
)
  where
    before : (x : Entry) → number_of x.stamp < number_of e.stamp → nat_cmp (number_of x.stamp) (number_of e.stamp) ≡ Less
    before x lt = grind (arith, nat_tests)

other_than : (n k : ℕ) → n < k → n ≢ k
other_than n k lt = omega arith

pub apart_add : (ns : List ℕ) (k : ℕ) → greatest ns < k → AreApart ns → AreApart (ns ++ k ∷ [])
apart_add [] k lt apart = (tt, tt)
apart_add (n ∷ ns) k lt apart = (all-append (λ m. n ≢ m) ns (k ∷ []) apart.0 (other_than n k (omega arith), tt), apart_add ns k (omega arith) apart.1)

pub stands_add : (rules : List Rule) (base : List Line) (s : State) (entry : Entry) (image : Image) → Stands rules base s → Takes rules base s (Add entry image)
    → Stands rules base (applied s (Add entry image))
stands_add rules base s entry image st takes =
    let new : MapFile = record { number = age s + 1; image = image } in
    let rising : AreRising (s.history ++ entry ∷ []) = rising_add s.history entry st.rising takes.0 in
    let level : image.head.level ≡ Hour = ap (λ (i : Image). i.head.level) takes.1 in
    let last : AreFilesOf rules (s.history ++ entry ∷ []) (published (apply [] base) (lines_of (flat_map (λ run. run) st.runs))) ((entry ∷ []) ∷ []) (image ∷ []) = (
      record {
        covers = subst (λ l. IsRunOf l (s.history ++ entry ∷ []) (entry ∷ [])) (sym level) refl;
        holds = takes.1 ∙ ap (λ h. run_image rules (published (apply [] base) (lines_of h)) Hour (entry ∷ [])) st.parted
            ∙ ap (λ l. run_image rules (published (apply [] base) (lines_of (flat_map (λ run. run) st.runs))) l (entry ∷ [])) (sym level);
      },
      tt,
    ) in record {
      above = st.above ++ new ∷ [];
      runs = st.runs ++ (entry ∷ []) ∷ [];
      files = ap (λ l. l ++ new ∷ []) st.files;
      parted = ap (λ l. l ++ entry ∷ []) st.parted ∙ sym (flat-append st.runs ((entry ∷ []) ∷ []));
      held = subst (λ is. AreFilesOf rules (s.history ++ entry ∷ []) (apply [] base) (st.runs ++ (entry ∷ []) ∷ []) is) (sym (map-append (λ (f : MapFile). f.image) st.above (new ∷ [])))
          (held_append rules (s.history ++ entry ∷ []) (apply [] base) st.runs ((entry ∷ []) ∷ []) (images_of st.above) (image ∷ [])
          (held_longer rules s.history (entry ∷ []) (apply [] base) st.runs (images_of st.above) rising st.held) last);
      rising = rising;
      apart = subst AreApart (sym (map-append (λ (f : MapFile). f.number) s.files (new ∷ []))) (apart_add (numbers_of s.files) (age s + 1) (omega arith) st.apart);
      light = omega (arith, greatest-add s.files new, sum_by-append (λ (f : MapFile). level_weight f.image.head.level) s.files (new ∷ []), length-append s.history (entry ∷ []), ap level_weight level, st.light);
    }

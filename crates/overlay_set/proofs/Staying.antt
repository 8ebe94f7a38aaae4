-- The files of a plan that fits, where all are there still, stand one after another.
use Rattle.std.proofs.Common.{◌≡◌, ◌≢◌, ℕ, ◌<◌, ◌≤◌, ◌⊎◌, Bool, true, false, cond, ◌||◌, not, ◌==◌, List, [], ◌∷◌, ◌++◌, flat_map, find, Some, None, refl, sym, ap, ap₂, subst, ◌∙◌, inl, inr, ⊎_elim, append_assoc, append-nil, nat_cmp, Less, arith}
use Rattle.std.specs.List.{AllByRecursion, AllZip, list_any}
use Rattle.std.proofs.lemmas.Bool.Decides.{nat_tests}
use Rattle.live_model.specs.declared.levels.Level.{Level}
use Rattle.live_model.specs.declared.levels.Level.TheVariants.{Base, Hour, Day, Month}
use Rattle.live_model.specs.declared.objects.Entity.{Entity}
use Rattle.live_model.specs.declared.objects.Line.{Line}
use Rattle.live_model.specs.declared.rules.Rule.{Rule}
use Rattle.live_model.specs.Stores.{apply}
use Rattle.live_model.specs.Maps.{published}
use Rattle.stamp_core.specs.Hours.{number_of}
use Rattle.stamp_core.specs.declared.head.Head.{Head}
use Rattle.overlay_set.specs.Sets.{Entry, Image, MapFile, State, numbers_of, images_of, lines_of, age, run_head, base_image}
use Rattle.overlay_set.specs.Periods.{Period, stretch, is_within, entries_in}
use Rattle.overlay_set.specs.Standing.{IsRunOf, AreFilesOf, AreRising, Stands}
use Rattle.overlay_set.specs.Swaps.{FoldPlan, IsAmong, IsHeadOf, has_number, missing, Fits}
use Rattle.overlay_set.proofs.Closing.{less-lt, stretch-mono, ArePast}
use Rattle.overlay_set.proofs.Fitting.{of_all}
use Rattle.overlay_set.proofs.Spans.{last_hour, last_in-hour, one_run, rising_right}
use Rattle.overlay_set.proofs.Replacing.{some_inj, none_some, shift}
use Rattle.overlay_set.proofs.Folding.{PlanStands}

-- Places in a rising list.

pub head_inj : {A : Type 0} (x y : A) (xs ys : List A) → x ∷ xs ≡ y ∷ ys → x ≡ y
head_inj x y xs ys e = cc

pub tail_inj : {A : Type 0} (x y : A) (xs ys : List A) → x ∷ xs ≡ y ∷ ys → xs ≡ ys
tail_inj x y xs ys e = cc

pub cancel : {A : Type 0} (xs a b : List A) → xs ++ a ≡ xs ++ b → a ≡ b
cancel [] a b e = e
cancel (x ∷ xs) a b e = cancel xs a b (tail_inj x x (xs ++ a) (xs ++ b) e)

first_less : (z y : Entry) (a c : List Entry) → AreRising (z ∷ (a ++ (y ∷ c))) → number_of z.stamp < number_of y.stamp
first_less z y a c rising = go a rising.0
  where
    go : (a : List Entry) → AllByRecursion (λ (e : Entry). nat_cmp (number_of z.stamp) (number_of e.stamp) ≡ Less) (a ++ (y ∷ c)) → number_of z.stamp < number_of y.stamp
    go [] all = less-lt (number_of z.stamp) (number_of y.stamp) all.0
    go (b ∷ bs) all = go bs all.1

-- an entry stands at one place of a rising list
one_place : (a b : List Entry) (y : Entry) (c d : List Entry) → AreRising (a ++ (y ∷ c)) → a ++ (y ∷ c) ≡ b ++ (y ∷ d) → c ≡ d
one_place [] [] y c d rising e = tail_inj y y c d e
one_place [] (z ∷ b) y c d rising e =
    let lt : number_of z.stamp < number_of y.stamp = first_less z y b d (subst AreRising e rising) in
    absurd (omega (arith, lt, ap (λ (x : Entry). number_of x.stamp) (head_inj y z c (b ++ (y ∷ d)) e)))
one_place (z ∷ a) [] y c d rising e =
    let lt : number_of z.stamp < number_of y.stamp = first_less z y a c rising in
    absurd (omega (arith, lt, ap (λ (x : Entry). number_of x.stamp) (head_inj z y (a ++ (y ∷ c)) d e)))
one_place (z ∷ a) (w ∷ b) y c d rising e = one_place a b y c d rising.1 (tail_inj z w (a ++ (y ∷ c)) (b ++ (y ∷ d)) e)

-- The entries of a period stand one after another.

none_within : (p : Period) (es : List Entry) → ArePast p.level p.hour es → entries_in p es ≡ []
none_within p [] past = refl
none_within p (e ∷ es) past = go (is_within p.level p.hour e.stamp) refl (none_within p es past.1)
  where
    go : (b : Bool) → is_within p.level p.hour e.stamp ≡ b → entries_in p es ≡ [] → cond b (e ∷ entries_in p es) (entries_in p es) ≡ []
    go true is ih = absurd (grind (arith, nat_tests))
    go false is ih = ih

past_behind : (p : Period) (e : Entry) (es : List Entry) → stretch p.level p.hour < stretch p.level e.stamp
    → AllByRecursion (λ (y : Entry). nat_cmp (number_of e.stamp) (number_of y.stamp) ≡ Less) es → ArePast p.level p.hour es
past_behind p e [] lt all = tt
past_behind p e (y ∷ ys) lt all =
    (omega (arith, lt, stretch-mono p.level e.stamp y.stamp (omega (arith, less-lt (number_of e.stamp) (number_of y.stamp) all.0))), past_behind p e ys lt all.1)

-- from the period on, its entries come first
first_part : (p : Period) (es : List Entry) → AreRising es → AllByRecursion (λ (e : Entry). stretch p.level p.hour ≤ stretch p.level e.stamp) es → (post : List Entry) × (es ≡ entries_in p es ++ post)
first_part p [] rising all = ([], refl)
first_part p (e ∷ es) rising all = go (is_within p.level p.hour e.stamp) refl (first_part p es rising.1 all.1)
  where
    go : (b : Bool) → is_within p.level p.hour e.stamp ≡ b → (post : List Entry) × (es ≡ entries_in p es ++ post)
        → (post : List Entry) × (e ∷ es ≡ cond b (e ∷ entries_in p es) (entries_in p es) ++ post)
    go true is rest = (rest.0, ap (λ l. e ∷ l) rest.1)
    go false is rest =
        let lt : stretch p.level p.hour < stretch p.level e.stamp = grind (arith, nat_tests, all.0) in
        (e ∷ es, ap (λ l. l ++ (e ∷ es)) (sym (none_within p es (past_behind p e es lt rising.0))))

from_on : (p : Period) (e : Entry) (es : List Entry) → stretch p.level p.hour ≤ stretch p.level e.stamp → AllByRecursion (λ (y : Entry). nat_cmp (number_of e.stamp) (number_of y.stamp) ≡ Less) es
    → AllByRecursion (λ (y : Entry). stretch p.level p.hour ≤ stretch p.level y.stamp) es
from_on p e [] le all = tt
from_on p e (y ∷ ys) le all =
    (omega (arith, le, stretch-mono p.level e.stamp y.stamp (omega (arith, less-lt (number_of e.stamp) (number_of y.stamp) all.0))), from_on p e ys le all.1)

pub one_part : (p : Period) (es : List Entry) → AreRising es → (pre post : List Entry) × (es ≡ pre ++ (entries_in p es ++ post))
one_part p [] rising = ([], [], refl)
one_part p (e ∷ es) rising = go (is_within p.level p.hour e.stamp) refl (one_part p es rising.1)
  where
    go : (b : Bool) → is_within p.level p.hour e.stamp ≡ b → (pre post : List Entry) × (es ≡ pre ++ (entries_in p es ++ post))
        → (pre post : List Entry) × (e ∷ es ≡ pre ++ (cond b (e ∷ entries_in p es) (entries_in p es) ++ post))
    go true is rest =
        let part : (post : List Entry) × (es ≡ entries_in p es ++ post) = first_part p es rising.1 (from_on p e es (grind (arith, nat_tests)) rising.0) in
        ([], part.0, ap (λ l. e ∷ l) part.1)
    go false is rest = (e ∷ rest.0, rest.1, ap (λ l. e ∷ l) rest.2)

-- The run of a file of the set.

-- the file with its run comes in two lists that match one to one
abbrev pub HasRun : List MapFile → List (List Entry) → MapFile → List Entry → Type 0
HasRun (f ∷ fs) (r ∷ rs) g q = ((g ≡ f) × (q ≡ r)) ⊎ HasRun fs rs g q
HasRun files runs g q = ⊥

pub record RunOf (files : List MapFile) (runs : List (List Entry)) (f : MapFile) : Type 0 where
  pub run : List Entry
  pub before : List Entry
  pub after : List Entry
  pub where_ : flat_map (λ x. x) runs ≡ before ++ (run ++ after)
  pub head : f.image.head ≡ run_head f.image.head.level run
  pub has : HasRun files runs f run

pub run_of : (rules : List Rule) (history : List Entry) (store : List Entity) (files : List MapFile) (runs : List (List Entry)) (f : MapFile)
    → AreFilesOf rules history store runs (images_of files) → IsAmong f files → RunOf files runs f
run_of rules history store [] runs f held among = absurd among
run_of rules history store (g ∷ gs) [] f held among = absurd held
run_of rules history store (g ∷ gs) (r ∷ rs) f held (inl e) = record {
  run = r;
  before = [];
  after = flat_map (λ x. x) rs;
  where_ = refl;
  head = subst (λ (h : MapFile). h.image.head ≡ run_head h.image.head.level r) (sym e) (ap (λ (i : Image). i.head) held.0.holds);
  has = inl (e, refl);
}
run_of rules history store (g ∷ gs) (r ∷ rs) f held (inr among) =
    let rest = run_of rules history (published store (lines_of r)) gs rs f held.1 among in record {
      run = rest.run;
      before = r ++ rest.before;
      after = rest.after;
      where_ = ap (λ l. r ++ l) rest.where_ ∙ sym (append_assoc r rest.before (rest.run ++ rest.after));
      head = rest.head;
      has = inr rest.has;
    }

-- an entry of a run is one of the runs together
pub among_right : {A : Type 0} (xs ys : List A) (x : A) → IsAmong x ys → IsAmong x (xs ++ ys)
among_right [] ys x h = h
among_right (z ∷ zs) ys x h = inr (among_right zs ys x h)

has_entry : (files : List MapFile) (runs : List (List Entry)) (f : MapFile) (x : Entry) (xs : List Entry) → HasRun files runs f (x ∷ xs) → IsAmong x (flat_map (λ r. r) runs)
has_entry [] runs f x xs h = absurd h
has_entry (g ∷ gs) [] f x xs h = absurd h
has_entry (g ∷ gs) (r ∷ rs) f x xs (inl e) = subst (λ q. IsAmong x (q ++ flat_map (λ r. r) rs)) e.1 (inl refl)
has_entry (g ∷ gs) (r ∷ rs) f x xs (inr h) = among_right r (flat_map (λ r. r) rs) x (has_entry gs rs f x xs h)

all_among : (x : Entry) (ys : List Entry) (z : Entry) → AllByRecursion (λ (y : Entry). nat_cmp (number_of x.stamp) (number_of y.stamp) ≡ Less) ys → IsAmong z ys → number_of x.stamp < number_of z.stamp
all_among x ys z all among = less-lt (number_of x.stamp) (number_of z.stamp) (of_all (λ (y : Entry). nat_cmp (number_of x.stamp) (number_of y.stamp) ≡ Less) ys z all among)

-- a later run does not begin with the first entry of an earlier one
not_later : (files : List MapFile) (runs : List (List Entry)) (f : MapFile) (x : Entry) (xs ys : List Entry) → AreRising ((x ∷ xs) ++ flat_map (λ r. r) runs) → HasRun files runs f (x ∷ ys) → ⊥
not_later files runs f x xs ys rising h =
    let lt : number_of x.stamp < number_of x.stamp = all_among x (xs ++ flat_map (λ r. r) runs) x rising.0 (among_right xs (flat_map (λ r. r) runs) x (has_entry files runs f x ys h)) in
    omega (arith, lt)

-- files whose runs begin with one entry are one file, with one run
pub one_file : (files : List MapFile) (runs : List (List Entry)) (f g : MapFile) (x : Entry) (xs ys : List Entry) → AreRising (flat_map (λ r. r) runs)
    → HasRun files runs f (x ∷ xs) → HasRun files runs g (x ∷ ys) → (f ≡ g) × (x ∷ xs ≡ x ∷ ys)
one_file [] runs f g x xs ys rising hf hg = absurd hf
one_file (h ∷ hs) [] f g x xs ys rising hf hg = absurd hf
one_file (h ∷ hs) (r ∷ rs) f g x xs ys rising (inl a) (inl b) = (a.0 ∙ sym b.0, a.1 ∙ sym b.1)
one_file (h ∷ hs) (r ∷ rs) f g x xs ys rising (inl a) (inr b) = absurd (not_later hs rs g x xs ys (subst (λ q. AreRising (q ++ flat_map (λ r. r) rs)) (sym a.1) rising) b)
one_file (h ∷ hs) (r ∷ rs) f g x xs ys rising (inr a) (inl b) = absurd (not_later hs rs f x ys xs (subst (λ q. AreRising (q ++ flat_map (λ r. r) rs)) (sym b.1) rising) a)
one_file (h ∷ hs) (r ∷ rs) f g x xs ys rising (inr a) (inr b) = one_file hs rs f g x xs ys (rising_right r (flat_map (λ r. r) rs) rising) a b

pub run_some : (level : Level) (history : List Entry) → IsRunOf level history [] → ⊥
run_some Base history h = h
run_some Hour history h = omega arith
run_some Day history h = h.some refl
run_some Month history h = h.some refl

-- The walk along the files.

pub head_of_run : (level : Level) (run : List Entry) (y : Entry) (ys : List Entry) → run_head level run ≡ run_head level (y ∷ ys)
    → (x : Entry) × (xs : List Entry) × (run ≡ x ∷ xs) × (x.stamp ≡ y.stamp) × (last_hour x.stamp xs ≡ last_hour y.stamp ys)
head_of_run level [] y ys e = absurd (none_some y.stamp (ap (λ (h : Head). h.first) e))
head_of_run level (x ∷ xs) y ys e = (
  x,
  xs,
  refl,
  some_inj x.stamp y.stamp (ap (λ (h : Head). h.first) e),
  some_inj (last_hour x.stamp xs) (last_hour y.stamp ys) (sym (last_in-hour x.stamp xs) ∙ ap (λ (h : Head). h.last) e ∙ last_in-hour y.stamp ys),
)

module _ (p : Period) (rules : List Rule) (history : List Entry) (store : List Entity) (files : List MapFile) (runs : List (List Entry))
    (rising : AreRising history) (parted : history ≡ flat_map (λ r. r) runs) (held : AreFilesOf rules history store runs (images_of files)) where
  -- the run of a file of the set is the one that its head names in the period
  named_run : (f : MapFile) (y : Entry) (ys front back : List Entry) → IsAmong f files → f.image.head ≡ run_head f.image.head.level (y ∷ ys)
      → entries_in p history ≡ front ++ ((y ∷ ys) ++ back) → HasRun files runs f (y ∷ ys)
  named_run f y ys front back among head there =
      let found : RunOf files runs f = run_of rules history store files runs f held among in
      let x = head_of_run f.image.head.level found.run y ys (sym found.head ∙ head) in
      let same : x.0 ∷ x.1 ≡ y ∷ ys =
      one_run p history found.before found.after front back x.0 y x.1 ys rising (parted ∙ found.where_ ∙ ap (λ r. found.before ++ (r ++ found.after)) x.2) there x.3 x.4 in
      subst (λ r. HasRun files runs f r) (x.2 ∙ same) found.has

  -- from where the first run of a plan begins, its files follow
  walk : (plan : List MapFile) (others : List (List Entry)) (front back : List Entry) → entries_in p history ≡ front ++ (flat_map (λ x. x) others ++ back)
      → AllZip IsHeadOf others plan → AllByRecursion (λ f. IsAmong f files) plan
      → (bs : List MapFile) (rs : List (List Entry)) (here : List Entity) (post : List Entry) → ((f : MapFile) (r : List Entry) → HasRun bs rs f r → HasRun files runs f r)
      → AreFilesOf rules history here rs (images_of bs) → flat_map (λ x. x) rs ≡ flat_map (λ x. x) others ++ post
      → (tail : List MapFile) × (bs ≡ plan ++ tail)
  walk [] others front back there heads among bs rs here post suffix held' flat = (bs, refl)
  walk (f ∷ fs) [] front back there heads among bs rs here post suffix held' flat = absurd heads
  walk (f ∷ fs) ([] ∷ os) front back there heads among bs rs here post suffix held' flat = absurd (heads.0.0 refl)
  walk (f ∷ fs) ((y ∷ ys) ∷ os) front back there heads among bs [] here post suffix held' flat = absurd cc
  walk (f ∷ fs) ((y ∷ ys) ∷ os) front back there heads among [] (r ∷ rs) here post suffix held' flat = absurd held'
  walk (f ∷ fs) ((y ∷ ys) ∷ os) front back there heads among (b ∷ bs) ([] ∷ rs) here post suffix held' flat = absurd (run_some b.image.head.level history held'.0.covers)
  walk (f ∷ fs) ((y ∷ ys) ∷ os) front back there heads among (b ∷ bs) ((x ∷ xs) ∷ rs) here post suffix held' flat =
      let there' : entries_in p history ≡ front ++ ((y ∷ ys) ++ (flat_map (λ x. x) os ++ back)) = there ∙ ap (λ l. front ++ l) (append_assoc (y ∷ ys) (flat_map (λ x. x) os) back) in
      let mine : HasRun files runs f (y ∷ ys) = named_run f y ys front (flat_map (λ x. x) os ++ back) among.0 heads.0.1 there' in
      let first : x ≡ y = head_inj x y (xs ++ flat_map (λ x. x) rs) ((ys ++ flat_map (λ x. x) os) ++ post) flat in
      let yours : HasRun files runs b (y ∷ xs) = subst (λ (z : Entry). HasRun files runs b (z ∷ xs)) first (suffix b (x ∷ xs) (inl (refl, refl))) in
      let same : (b ≡ f) × (y ∷ xs ≡ y ∷ ys) = one_file files runs b f y xs ys (subst AreRising parted rising) yours mine in
      let run : x ∷ xs ≡ y ∷ ys = ap (λ (z : Entry). z ∷ xs) first ∙ same.1 in
      let rest : flat_map (λ x. x) rs ≡ flat_map (λ x. x) os ++ post =
      cancel (y ∷ ys) (flat_map (λ x. x) rs) (flat_map (λ x. x) os ++ post) (ap (λ r. r ++ flat_map (λ x. x) rs) (sym run) ∙ flat ∙ append_assoc (y ∷ ys) (flat_map (λ x. x) os) post) in
      let more : (tail : List MapFile) × (bs ≡ fs ++ tail) =
      walk fs os (front ++ (y ∷ ys)) back (there ∙ shift front (y ∷ ys) (flat_map (λ x. x) os) back) heads.1 among.1 bs rs (published here (lines_of (x ∷ xs))) post
      (λ g r h. suffix g r (inr h)) held'.1 rest in
      (more.0, ap₂ (λ (g : MapFile) (gs : List MapFile). g ∷ gs) same.0 more.1)

  -- the walk to where the plan begins
  find_plan : (f : MapFile) (fs : List MapFile) (y : Entry) (ys : List Entry) (os : List (List Entry)) → entries_in p history ≡ flat_map (λ x. x) ((y ∷ ys) ∷ os) ++ []
      → AllZip IsHeadOf ((y ∷ ys) ∷ os) (f ∷ fs) → AllByRecursion (λ f. IsAmong f files) (f ∷ fs)
      → (bs : List MapFile) (rs : List (List Entry)) (here : List Entity) (before : List Entry) → ((f : MapFile) (r : List Entry) → HasRun bs rs f r → HasRun files runs f r)
      → AreFilesOf rules history here rs (images_of bs) → history ≡ before ++ flat_map (λ x. x) rs → IsAmong f bs
      → (front back : List MapFile) × (bs ≡ front ++ ((f ∷ fs) ++ back))
  find_plan f fs y ys os there heads among [] rs here before suffix held' flat in_ = absurd in_
  find_plan f fs y ys os there heads among (b ∷ bs) [] here before suffix held' flat in_ = absurd held'
  find_plan f fs y ys os there heads among (b ∷ bs) (r ∷ rs) here before suffix held' flat (inr in_) =
      let rest = find_plan f fs y ys os there heads among bs rs (published here (lines_of r)) (before ++ r) (λ g q h. suffix g q (inr h)) held'.1
      (flat ∙ sym (append_assoc before r (flat_map (λ x. x) rs))) in_ in
      (b ∷ rest.0, rest.1, ap (λ l. b ∷ l) rest.2)
  find_plan f fs y ys os there heads among (b ∷ bs) ([] ∷ rs) here before suffix held' flat (inl e) = absurd (run_some b.image.head.level history held'.0.covers)
  find_plan f fs y ys os there heads among (b ∷ bs) ((x ∷ xs) ∷ rs) here before suffix held' flat (inl e) =
      let whole = one_part p history rising in
      let pos : before ++ ((x ∷ xs) ++ flat_map (λ x. x) rs) ≡ whole.0 ++ (((y ∷ ys) ++ flat_map (λ x. x) os) ++ whole.1) =
      sym flat ∙ whole.2 ∙ ap (λ l. whole.0 ++ (l ++ whole.1)) (there ∙ append-nil ((y ∷ ys) ++ flat_map (λ x. x) os)) in
      let mine : HasRun files runs f (y ∷ ys) =
      named_run f y ys [] (flat_map (λ x. x) os ++ []) among.0 heads.0.1 (there ∙ append_assoc (y ∷ ys) (flat_map (λ x. x) os) []) in
      let head_is : run_head b.image.head.level (x ∷ xs) ≡ run_head b.image.head.level (y ∷ ys) =
      sym (ap (λ (i : Image). i.head) held'.0.holds) ∙ subst (λ (g : MapFile). g.image.head ≡ run_head g.image.head.level (y ∷ ys)) e heads.0.1 in
      let run : x ∷ xs ≡ y ∷ ys =
      one_run p history before (flat_map (λ x. x) rs) [] (flat_map (λ x. x) os ++ []) x y xs ys rising flat (there ∙ append_assoc (y ∷ ys) (flat_map (λ x. x) os) [])
      (some_inj x.stamp y.stamp (ap (λ (h : Head). h.first) head_is))
      (some_inj (last_hour x.stamp xs) (last_hour y.stamp ys) (sym (last_in-hour x.stamp xs) ∙ ap (λ (h : Head). h.last) head_is ∙ last_in-hour y.stamp ys)) in
      let pos' : before ++ (y ∷ (ys ++ flat_map (λ x. x) rs)) ≡ whole.0 ++ (y ∷ ((ys ++ flat_map (λ x. x) os) ++ whole.1)) =
      ap (λ r. before ++ (r ++ flat_map (λ x. x) rs)) (sym run) ∙ pos in
      let tails : ys ++ flat_map (λ x. x) rs ≡ (ys ++ flat_map (λ x. x) os) ++ whole.1 =
      one_place before whole.0 y (ys ++ flat_map (λ x. x) rs) ((ys ++ flat_map (λ x. x) os) ++ whole.1)
      (subst AreRising (flat ∙ ap (λ r. before ++ (r ++ flat_map (λ x. x) rs)) run) rising) pos' in
      let all : flat_map (λ x. x) ((x ∷ xs) ∷ rs) ≡ flat_map (λ x. x) ((y ∷ ys) ∷ os) ++ whole.1 =
      ap (λ r. r ++ flat_map (λ x. x) rs) run ∙ ap (λ l. y ∷ l) tails in
      let rest = walk (f ∷ fs) ((y ∷ ys) ∷ os) [] [] there heads among (b ∷ bs) ((x ∷ xs) ∷ rs) here whole.1 suffix held' all in
      ([], rest.0, rest.1)

-- What is not missing is there.

found_all : (test : ℕ → Bool) (ns : List ℕ) → find (λ n. not (test n)) ns ≡ None → AllByRecursion (λ n. test n ≡ true) ns
found_all test [] e = tt
found_all test (n ∷ ns) e = go (test n) refl (found_all test ns) e
  where
    go : (b : Bool) → test n ≡ b → (find (λ n. not (test n)) ns ≡ None → AllByRecursion (λ n. test n ≡ true) ns)
        → cond (not b) (Some n) (find (λ n. not (test n)) ns) ≡ None → (test n ≡ true) × AllByRecursion (λ n. test n ≡ true) ns
    go true is ih e = (is, ih e)
    go false is ih e = absurd (none_some n (sym e))

with_number : (files : List MapFile) (n : ℕ) → list_any (λ f. f.number == n) files ≡ true → (g : MapFile) × IsAmong g files × (g.number ≡ n)
with_number [] n e = absurd cc
with_number (f ∷ fs) n e = go (f.number == n) refl (with_number fs n) e
  where
    go : (b : Bool) → (f.number == n) ≡ b → (list_any (λ f. f.number == n) fs ≡ true → (g : MapFile) × IsAmong g fs × (g.number ≡ n))
        → (b || list_any (λ f. f.number == n) fs) ≡ true → (g : MapFile) × IsAmong g (f ∷ fs) × (g.number ≡ n)
    go true is ih e = (f, inl refl, grind (arith, nat_tests))
    go false is ih e = let rest = ih e in (rest.0, inr rest.1, rest.2)

still_there : (s : State) (above : List MapFile) (bottom : MapFile) → bottom.number ≡ 0 → s.files ≡ bottom ∷ above → (plan all : List MapFile)
    → ((f g : MapFile) → IsAmong f all → IsAmong g s.files → f.number ≡ g.number → f ≡ g) → ((f : MapFile) → IsAmong f plan → IsAmong f all)
    → AllByRecursion (λ f. 0 < f.number) plan → AllByRecursion (λ n. has_number s n ≡ true) (numbers_of plan) → AllByRecursion (λ f. IsAmong f above) plan
still_there s above bottom zero_ files [] all same inside given found = tt
still_there s above bottom zero_ files (f ∷ fs) all same inside given found =
    let g = with_number s.files f.number found.0 in
    let is : f ≡ g.0 = same f g.0 (inside f (inl refl)) g.1 (sym g.2) in
    let here : IsAmong f (bottom ∷ above) = subst (λ l. IsAmong f l) files (subst (λ (h : MapFile). IsAmong h s.files) (sym is) g.1) in (
      ⊎_elim (λ (e : f ≡ bottom). absurd (omega (arith, given.0, zero_, ap (λ (h : MapFile). h.number) e))) (λ k. k) here,
      still_there s above bottom zero_ files fs all same (λ h k. inside h (inr k)) given.1 found.1,
    )

above_zero : (s : State) (fs : List MapFile) → AllByRecursion (λ f. (0 < f.number) × (f.number ≤ age s)) fs → AllByRecursion (λ f. 0 < f.number) fs
above_zero s [] all = tt
above_zero s (f ∷ fs) all = (all.0.0, above_zero s fs all.1)

-- a plan that fits, of which no file is missing, stands among the files
pub plan_stands : (rules : List Rule) (base : List Line) (s : State) (plan : FoldPlan) (st : Stands rules base s) → Fits plan s → missing plan s ≡ None → PlanStands plan st.above
plan_stands rules base s plan st fits here = go plan.files fits.covers.runs fits.some fits.covers.heads (still_there s st.above (record { number = 0; image = base_image rules base }) refl st.files plan.files plan.files fits.same (λ f h. h) (above_zero s plan.files fits.given) (found_all (has_number s) (numbers_of plan.files) here))
    (sym fits.covers.whole)
  where
    go : (files : List MapFile) (others : List (List Entry)) → files ≢ [] → AllZip IsHeadOf others files → AllByRecursion (λ f. IsAmong f st.above) files
        → entries_in (record { level = plan.level; hour = fits.covers.hour }) s.history ≡ flat_map (λ x. x) others → PlanStands (record { files = files; level = plan.level }) st.above
    go [] others some heads among there = absurd (some refl)
    go (f ∷ fs) [] some heads among there = absurd heads
    go (f ∷ fs) ([] ∷ os) some heads among there = absurd (heads.0.0 refl)
    go (f ∷ fs) ((y ∷ ys) ∷ os) some heads among there =
        let found = find_plan (record { level = plan.level; hour = fits.covers.hour }) rules s.history (apply [] base) st.above st.runs st.rising st.parted st.held f fs y ys os
        (there ∙ sym (append-nil (flat_map (λ x. x) ((y ∷ ys) ∷ os)))) heads among st.above st.runs (apply [] base) [] (λ g r h. h) st.held st.parted among.0 in
        record { front = found.0; back = found.1; joined = found.2 }

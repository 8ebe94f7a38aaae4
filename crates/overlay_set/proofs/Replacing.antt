-- A set stands after files of it were replaced by their fold.
use Rattle.std.proofs.Common.{◌≡◌, ◌≢◌, List, [], ◌∷◌, ◌++◌, map, flat_map, Option, Some, None, refl, sym, ap, ap₂, subst, ◌∙◌, append_assoc}
use Rattle.std.specs.List.{AllByRecursion, AllZip, last_or}
use Rattle.live_model.specs.declared.levels.Level.{Level}
use Rattle.live_model.specs.declared.objects.Entity.{Entity}
use Rattle.live_model.specs.declared.objects.Line.{Line}
use Rattle.live_model.specs.declared.rules.Rule.{Rule}
use Rattle.live_model.specs.Stores.{apply}
use Rattle.live_model.specs.Maps.{Overlay, published, overlay, folded}
use Rattle.live_model.specs.MapLaws.{IsOverlay, overlays, FoldsLaw}
use Rattle.stamp_core.specs.Hours.{CivilHour}
use Rattle.stamp_core.specs.declared.head.Head.{Head}
use Rattle.overlay_set.specs.Sets.{Entry, Image, MapFile, images_of, overlays_of, lines_of, stamps_of, first_in, last_in, run_head, run_image}
use Rattle.overlay_set.specs.Periods.{Period, entries_in}
use Rattle.overlay_set.specs.Standing.{AreFilesOf, AreRising}
use Rattle.overlay_set.specs.Swaps.{first_stamp, last_stamp, common_rules, fold_image, IsHeadOf}
use Rattle.overlay_set.proofs.Lists.{map-append, published_runs}
use Rattle.overlay_set.proofs.Spans.{last_hour, last_in-hour, one_run}

-- The runs that heads name.

pub some_inj : {A : Type 0} (x y : A) → Some x ≡ Some y → x ≡ y
some_inj x y e = cc

pub none_some : {A : Type 0} (x : A) → None ≡ Some x → ⊥
none_some x e = cc

pub shift : (a r q z : List Entry) → a ++ ((r ++ q) ++ z) ≡ (a ++ r) ++ (q ++ z)
shift a r q z = ap (λ l. a ++ l) (append_assoc r q z) ∙ sym (append_assoc a r (q ++ z))

-- the runs of files are those whose first and last stamps their heads have
pub same_runs : (p : Period) (rules : List Rule) (history : List Entry) (store : List Entity) (files : List MapFile) (runs others : List (List Entry)) (before after front back : List Entry)
    → AreRising history → history ≡ before ++ (flat_map (λ x. x) runs ++ after) → entries_in p history ≡ front ++ (flat_map (λ x. x) others ++ back)
    → AreFilesOf rules history store runs (images_of files) → AllZip IsHeadOf others files → runs ≡ others
same_runs p rules history store [] [] [] before after front back rising here there held heads = refl
same_runs p rules history store [] (r ∷ rs) others before after front back rising here there held heads = absurd held
same_runs p rules history store [] [] (o ∷ os) before after front back rising here there held heads = absurd heads
same_runs p rules history store (f ∷ fs) [] others before after front back rising here there held heads = absurd held
same_runs p rules history store (f ∷ fs) (r ∷ rs) [] before after front back rising here there held heads = absurd heads
same_runs p rules history store (f ∷ fs) (r ∷ rs) ([] ∷ os) before after front back rising here there held heads = absurd (heads.0.0 refl)
same_runs p rules history store (f ∷ fs) ([] ∷ rs) ((y ∷ ys) ∷ os) before after front back rising here there held heads =
    absurd (none_some y.stamp (ap (λ (h : Head). h.first) (sym (ap (λ (i : Image). i.head) held.0.holds) ∙ heads.0.1)))
same_runs p rules history store (f ∷ fs) ((x ∷ xs) ∷ rs) ((y ∷ ys) ∷ os) before after front back rising here there held heads =
    let same : run_head f.image.head.level (x ∷ xs) ≡ run_head f.image.head.level (y ∷ ys) = sym (ap (λ (i : Image). i.head) held.0.holds) ∙ heads.0.1 in
    let first : x.stamp ≡ y.stamp = some_inj x.stamp y.stamp (ap (λ (h : Head). h.first) same) in
    let last : last_hour x.stamp xs ≡ last_hour y.stamp ys =
    some_inj (last_hour x.stamp xs) (last_hour y.stamp ys) (sym (last_in-hour x.stamp xs) ∙ ap (λ (h : Head). h.last) same ∙ last_in-hour y.stamp ys) in
    ap₂ (λ r rs. r ∷ rs)
    (one_run p history before (flat_map (λ x. x) rs ++ after) front (flat_map (λ x. x) os ++ back) x y xs ys rising
    (here ∙ ap (λ l. before ++ l) (append_assoc (x ∷ xs) (flat_map (λ x. x) rs) after)) (there ∙ ap (λ l. front ++ l) (append_assoc (y ∷ ys) (flat_map (λ x. x) os) back)) first last)
    (same_runs p rules history (published store (lines_of (x ∷ xs))) fs rs os (before ++ x ∷ xs) after (front ++ y ∷ ys) back rising
    (here ∙ shift before (x ∷ xs) (flat_map (λ x. x) rs) after) (there ∙ shift front (y ∷ ys) (flat_map (λ x. x) os) back) held.1 heads.1)

-- Files in two parts.

pub record Parted (rules : List Rule) (history : List Entry) (store : List Entity) (runs : List (List Entry)) (xs ys : List Image) : Type 0 where
  pub left : List (List Entry)
  pub right : List (List Entry)
  pub joined : runs ≡ left ++ right
  pub first : AreFilesOf rules history store left xs
  pub second : AreFilesOf rules history (published store (lines_of (flat_map (λ x. x) left))) right ys

pub held_parted : (rules : List Rule) (history : List Entry) (store : List Entity) (runs : List (List Entry)) (xs ys : List Image)
    → AreFilesOf rules history store runs (xs ++ ys) → Parted rules history store runs xs ys
held_parted rules history store runs [] ys held = record { left = []; right = runs; joined = refl; first = tt; second = held }
held_parted rules history store [] (x ∷ xs) ys held = absurd held
held_parted rules history store (r ∷ rs) (x ∷ xs) ys held =
    let rest = held_parted rules history (published store (lines_of r)) rs xs ys held.1 in record {
      left = r ∷ rest.left;
      right = rest.right;
      joined = ap (λ l. r ∷ l) rest.joined;
      first = (held.0, rest.first);
      second = subst (λ s. AreFilesOf rules history s rest.right ys) (sym (published_runs store r (flat_map (λ x. x) rest.left))) rest.second;
    }

-- The fold of files is the file of their runs together.

parts_of : List Rule → List Entity → List (List Entry) → List (List Overlay)
parts_of rules store [] = []
parts_of rules store (r ∷ rs) = overlays rules store (lines_of r) ∷ parts_of rules (published store (lines_of r)) rs

overlays-append : (rules : List Rule) (store : List Entity) (a b : List (List Line)) → overlays rules store (a ++ b) ≡ overlays rules store a ++ overlays rules (published store a) b
overlays-append rules store [] b = refl
overlays-append rules store (x ∷ xs) b = ap (λ l. overlay rules store x ∷ l) (overlays-append rules (apply store x) xs b)

pub overlays_runs : (rules : List Rule) (store : List Entity) (a b : List Entry)
    → overlays rules store (lines_of (a ++ b)) ≡ overlays rules store (lines_of a) ++ overlays rules (published store (lines_of a)) (lines_of b)
overlays_runs rules store a b = ap (overlays rules store) (map-append (λ (e : Entry). e.lines) a b) ∙ overlays-append rules store (lines_of a) (lines_of b)

overlays_are : (rules : List Rule) (history : List Entry) (store : List Entity) (runs : List (List Entry)) (images : List Image)
    → AreFilesOf rules history store runs images → overlays_of images ≡ map folded (parts_of rules store runs)
unfolding parts_of
overlays_are rules history store [] [] held = refl
overlays_are rules history store [] (i ∷ is) held = absurd held
overlays_are rules history store (r ∷ rs) [] held = absurd held
overlays_are rules history store (r ∷ rs) (i ∷ is) held =
    ap₂ (λ o os. o ∷ os) (ap (λ (i : Image). i.overlay) held.0.holds) (overlays_are rules history (published store (lines_of r)) rs is held.1)

flat_parts : (rules : List Rule) (store : List Entity) (runs : List (List Entry)) → flat_map (λ part. part) (parts_of rules store runs) ≡ overlays rules store (lines_of (flat_map (λ x. x) runs))
unfolding parts_of
flat_parts rules store [] = refl
flat_parts rules store (r ∷ rs) =
    ap (λ l. overlays rules store (lines_of r) ++ l) (flat_parts rules (published store (lines_of r)) rs) ∙ sym (overlays_runs rules store r (flat_map (λ x. x) rs))

pub all_left : {A : Type 0} (P : A → Type 0) (xs ys : List A) → AllByRecursion P (xs ++ ys) → AllByRecursion P xs
all_left P [] ys a = tt
all_left P (x ∷ xs) ys a = (a.0, all_left P xs ys a.1)

pub all_right : {A : Type 0} (P : A → Type 0) (xs ys : List A) → AllByRecursion P (xs ++ ys) → AllByRecursion P ys
all_right P [] ys a = a
all_right P (x ∷ xs) ys a = all_right P xs ys a.1

parts_good : (rules : List Rule) (store : List Entity) (runs : List (List Entry)) → AllByRecursion IsOverlay (overlays rules store (lines_of (flat_map (λ x. x) runs)))
    → AllByRecursion (AllByRecursion IsOverlay) (parts_of rules store runs)
unfolding parts_of
parts_good rules store [] all = tt
parts_good rules store (r ∷ rs) all =
    let both : AllByRecursion IsOverlay (overlays rules store (lines_of r) ++ overlays rules (published store (lines_of r)) (lines_of (flat_map (λ x. x) rs))) =
    subst (AllByRecursion IsOverlay) (overlays_runs rules store r (flat_map (λ x. x) rs)) all in (
      all_left IsOverlay (overlays rules store (lines_of r)) (overlays rules (published store (lines_of r)) (lines_of (flat_map (λ x. x) rs))) both,
      parts_good rules (published store (lines_of r)) rs (all_right IsOverlay (overlays rules store (lines_of r)) (overlays rules (published store (lines_of r)) (lines_of (flat_map (λ x. x) rs))) both),
    )

firsts : (runs : List (List Entry)) (files : List MapFile) → AllZip IsHeadOf runs files → files ≢ [] → first_stamp (images_of files) ≡ first_in (stamps_of (flat_map (λ x. x) runs))
firsts [] [] heads some = absurd (some refl)
firsts [] (f ∷ fs) heads some = absurd heads
firsts (r ∷ rs) [] heads some = absurd heads
firsts ([] ∷ rs) (f ∷ fs) heads some = absurd (heads.0.0 refl)
firsts ((x ∷ xs) ∷ rs) (f ∷ fs) heads some = ap (λ (h : Head). h.first) heads.0.1

last_or-append : (o : Option CivilHour) (xs ys : List CivilHour) → last_or o (xs ++ ys) ≡ last_or (last_or o xs) ys
last_or-append o [] ys = refl
last_or-append o (x ∷ xs) ys = last_or-append (Some x) xs ys

lasts : (found : Option CivilHour) (runs : List (List Entry)) (files : List MapFile) → AllZip IsHeadOf runs files → last_stamp found (images_of files) ≡ last_or found (stamps_of (flat_map (λ x. x) runs))
lasts found [] [] heads = refl
lasts found [] (f ∷ fs) heads = absurd heads
lasts found (r ∷ rs) [] heads = absurd heads
lasts found ([] ∷ rs) (f ∷ fs) heads = absurd (heads.0.0 refl)
lasts found ((x ∷ xs) ∷ rs) (f ∷ fs) heads =
    lasts f.image.head.last rs fs heads.1 ∙ ap (λ (h : Head). last_or h.last (stamps_of (flat_map (λ x. x) rs))) heads.0.1
    ∙ sym (ap (last_or found) (map-append (λ (e : Entry). e.stamp) (x ∷ xs) (flat_map (λ x. x) rs)) ∙ last_or-append found (stamps_of (x ∷ xs)) (stamps_of (flat_map (λ x. x) rs)))

commons : (rules : List Rule) (history : List Entry) (store : List Entity) (runs : List (List Entry)) (files : List MapFile) → AreFilesOf rules history store runs (images_of files) → files ≢ []
    → common_rules (images_of files) ≡ rules
commons rules history store runs [] held some = absurd (some refl)
commons rules history store [] (f ∷ fs) held some = absurd held
commons rules history store (r ∷ rs) (f ∷ fs) held some = ap (λ (i : Image). i.rules) held.0.holds

-- where a fold of folds is the fold of the whole
pub fold_of_runs : FoldsLaw → (rules : List Rule) (history : List Entry) (store : List Entity) (level : Level) (runs : List (List Entry)) (files : List MapFile)
    → AllByRecursion IsOverlay (overlays rules store (lines_of (flat_map (λ x. x) runs))) → AreFilesOf rules history store runs (images_of files) → AllZip IsHeadOf runs files → files ≢ []
    → fold_image level (images_of files) ≡ run_image rules store level (flat_map (λ x. x) runs)
fold_of_runs law rules history store level runs files good held heads some =
    let first : first_stamp (images_of files) ≡ first_in (stamps_of (flat_map (λ x. x) runs)) = firsts runs files heads some in
    let last : last_stamp None (images_of files) ≡ last_in (stamps_of (flat_map (λ x. x) runs)) = lasts None runs files heads in
    let common : common_rules (images_of files) ≡ rules = commons rules history store runs files held some in
    let overlay : folded (overlays_of (images_of files)) ≡ folded (overlays rules store (lines_of (flat_map (λ x. x) runs))) =
    ap folded (overlays_are rules history store runs (images_of files) held) ∙ law (parts_of rules store runs) (parts_good rules store runs good) ∙ ap folded (flat_parts rules store runs) in
    λ i. record { head = record { level = level; first = first i; last = last i }; rules = common i; overlay = overlay i }

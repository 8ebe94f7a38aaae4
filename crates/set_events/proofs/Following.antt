-- The files of a set that stands follow one another.
use Rattle.std.proofs.Common.{◌≡◌, ◌+◌, ◌<◌, ℕ, Bool, true, false, cond, not, ◌==◌, nat_cmp, Less, List, [], ◌∷◌, ◌++◌, flat_map, map, Option, Some, None, Result, Ok, Err, OnOk, refl, sym, ap, ap₂, subst, ◌∙◌, arith}
use Rattle.std.specs.Prelude.{bytes_eq}
use Rattle.std.specs.List.{AllByRecursion, last_or}
use Rattle.std.proofs.lemmas.Bool.Decides.{nat_tests}
use Rattle.std.proofs.lemmas.Slice.Eq.{bytes_eq-Decides}
use Rattle.live_model.specs.declared.levels.Level.{Level}
use Rattle.live_model.specs.declared.levels.Level.TheVariants.{Base, Hour, Day, Month}
use Rattle.live_model.specs.declared.objects.Entity.{Entity}
use Rattle.live_model.specs.declared.objects.Line.{Line}
use Rattle.live_model.specs.declared.rules.Rule.{Rule}
use Rattle.live_model.specs.Levels.{level_number}
use Rattle.live_model.specs.declared.queries.Query.{Query}
use Rattle.live_model.specs.Maps.{Overlay, answer, laid, published}
use Rattle.live_model.specs.Rules.{rules_text}
use Rattle.live_model.specs.Stores.{apply}
use Rattle.stamp_core.specs.Hours.{CivilHour, number_of}
use Rattle.stamp_core.specs.declared.head.Head.{Head}
use Rattle.file_order.specs.declared.kinds.NotRun.{NotRun}
use Rattle.file_order.specs.Runs.{Placed, all_asked, first_failing, has_rules_of, is_after, is_base, not_run}
use Rattle.obf_reader.specs.Images.{Seen}
use Rattle.obf_reader.specs.Overlays.{overlay_of}
use Rattle.overlay_set.specs.Sets.{Entry, Image, MapFile, State, base_image, images_of, lines_of, overlays_of, run_head, shown, stamps_of}
use Rattle.overlay_set.specs.Swaps.{common_rules}
use Rattle.published_set.specs.Images.{image_of}
use Rattle.published_set.specs.Sets.{images_in}
use Rattle.query_merge.specs.Questions.{answer_over}
use Rattle.overlay_set.specs.Standing.{AreFilesOf, AreRising, IsRunOf, Stands}
use Rattle.overlay_set.proofs.Closing.{less-lt}
use Rattle.overlay_set.proofs.Spans.{rising_right}
use Rattle.overlay_set.proofs.Staying.{head_inj, run_some, tail_inj}

-- what the place of an image among others depends on
abbrev pub placed_in : Image → Placed
placed_in i = record { head = i.head; rules = i.rules }

-- the entries come after the hour, if there is one
abbrev AreAfter : Option CivilHour → List Entry → Type 0
AreAfter last es = AllByRecursion (λ e. is_after last (Some e.stamp) ≡ true) es

after_none : (es : List Entry) → AreAfter None es
after_none [] = tt
after_none (e ∷ es) = (refl, after_none es)

after_first : (x : Entry) (ys : List Entry) → AllByRecursion (λ (y : Entry). nat_cmp (number_of x.stamp) (number_of y.stamp) ≡ Less) ys → AreAfter (Some x.stamp) ys
after_first x [] rising = tt
after_first x (y ∷ ys) rising =
    let lt : number_of x.stamp < number_of y.stamp = less-lt (number_of x.stamp) (number_of y.stamp) rising.0 in
    (grind (arith, nat_tests), after_first x ys rising.1)

-- what follows a run comes after its last hour
after_run : (x : Entry) (xs ys : List Entry) → AreRising ((x ∷ xs) ++ ys) → AreAfter (last_or (Some x.stamp) (stamps_of xs)) ys
after_run x [] ys rising = after_first x ys rising.0
after_run x (z ∷ zs) ys rising = after_run z zs ys rising.1

above_base : (level : Level) (history run : List Entry) → IsRunOf level history run → not (level_number level == 0) ≡ true
above_base Base history run covers = absurd covers
above_base Hour history run covers = refl
above_base Day history run covers = refl
above_base Month history run covers = refl

same_text : (a b : List Rule) → a ≡ b → bytes_eq (rules_text a) (rules_text b) ≡ true
same_text a b e = (bytes_eq-Decides (rules_text a) (rules_text b)).1 (ap rules_text e)

-- one more that holds
holds : (b : Bool) (r : Option NotRun) (told : NotRun) → b ≡ true → r ≡ None → cond b r (Some told) ≡ None
holds true r told is none = none
holds false r told is none = absurd cc

all_follow : (rules : List Rule) (history : List Entry) (first : Placed) → first.rules ≡ rules → (runs : List (List Entry)) (images : List Image) (store : List Entity) (before : Placed) (index : ℕ)
    → AreFilesOf rules history store runs images → AreRising (flat_map (λ run. run) runs) → AreAfter before.head.last (flat_map (λ run. run) runs)
    → first_failing (all_asked index first before (map placed_in images)) ≡ None
all_follow rules history first same [] [] store before index files rising after = refl
all_follow rules history first same [] (i ∷ is) store before index files rising after = absurd files
all_follow rules history first same (run ∷ runs) [] store before index files rising after = absurd files
all_follow rules history first same ([] ∷ runs) (i ∷ is) store before index files rising after = absurd (run_some i.head.level history files.0.covers)
all_follow rules history first same ((x ∷ xs) ∷ runs) (i ∷ is) store before index files rising after =
    let head : i.head ≡ run_head i.head.level (x ∷ xs) = ap (λ (i : Image). i.head) files.0.holds in
    let table : i.rules ≡ rules = ap (λ (i : Image). i.rules) files.0.holds in
    let begins : i.head.first ≡ Some x.stamp = ap (λ (h : Head). h.first) head in
    let ends : i.head.last ≡ last_or (Some x.stamp) (stamps_of xs) = ap (λ (h : Head). h.last) head in
    holds (not (is_base (placed_in i))) _ _ (above_base i.head.level history (x ∷ xs) files.0.covers)
    (holds (has_rules_of (placed_in i) first) _ _ (same_text i.rules first.rules (table ∙ sym same))
    (holds (is_after before.head.last i.head.first) _ _ (ap (is_after before.head.last) begins ∙ after.0)
    (all_follow rules history first same runs is (published store (lines_of (x ∷ xs))) (placed_in i) (index + 1) files.1 (rising_right (x ∷ xs) (flat_map (λ run. run) runs) rising)
    (subst (λ (last : Option CivilHour). AreAfter last (flat_map (λ run. run) runs)) (sym ends) (after_run x xs (flat_map (λ run. run) runs) rising)))))

pub stands_follow : (rules : List Rule) (base : List Line) (s : State) → Stands rules base s → not_run (map placed_in (images_of s.files)) ≡ None
stands_follow rules base s st =
    let first : Placed = placed_in (base_image rules base) in
    ap (λ fs. not_run (map placed_in (images_of fs))) st.files
    ∙ all_follow rules s.history first refl st.runs (images_of st.above) (apply [] base) first 1 st.held (subst AreRising st.parted st.rising) (after_none (flat_map (λ run. run) st.runs))

-- Images that are shared.

placed_each : {X : Type 0} (of : X → Seen) (xs : List X) → map placed_in (images_in (map of xs)) ≡ map (λ (x : X). record { head = (of x).head; rules = (of x).rules }) xs
placed_each of [] = refl
placed_each of (x ∷ xs) = ap (λ (ps : List Placed). record { head = (of x).head; rules = (of x).rules } ∷ ps) (placed_each of xs)

pub images_follow : {X : Type 0} (of : X → Seen) (xs : List X) (rules : List Rule) (base : List Line) (s : State) → Stands rules base s → images_in (map of xs) ≡ images_of s.files
    → not_run (map (λ (x : X). record { head = (of x).head; rules = (of x).rules }) xs) ≡ None
images_follow of xs rules base s st e = ap not_run (sym (placed_each of xs) ∙ ap (λ (is : List Image). map placed_in is) e) ∙ stands_follow rules base s st

overlays_each : (is : List Seen) → map overlay_of is ≡ overlays_of (images_in is)
overlays_each [] = refl
overlays_each (i ∷ is) = ap (λ (os : List Overlay). overlay_of i ∷ os) (overlays_each is)

-- the answer over images is that over what they stand for
pub over_shown : (query : Query) (images : List Seen) (files : List MapFile) → images_in images ≡ images_of files → answer_over query images ≡ answer (common_rules (images_of files)) query (shown files)
over_shown query [] [] e = refl
over_shown query [] (f ∷ fs) e = absurd cc
over_shown query (i ∷ is) [] e = absurd cc
over_shown query (i ∷ is) (f ∷ fs) e =
    let first : image_of i ≡ f.image = head_inj (image_of i) f.image (images_in is) (images_of fs) e in
    let rest : images_in is ≡ images_of fs = tail_inj (image_of i) f.image (images_in is) (images_of fs) e in
    ap₂ (λ (j : Image) (os : List Overlay). answer j.rules query (laid j.overlay.records os)) first (overlays_each is ∙ ap overlays_of rest)

-- what follows from what holds of a result holds of it
pub each_ok : {T E : Type 0} {P Q : Type 0} (r : Result T E) → (P → Q) → OnOk r P → OnOk r Q
each_ok (Ok x) f p = f p
each_ok (Err e) f p = p

-- A set of the settled shape has nothing foldable.
use Rattle.std.proofs.Common.{◌≡◌, ◌+◌, Bool, true, false, ◌&&◌, ◌||◌, not, ◌==◌, cond, List, [], ◌∷◌, ◌++◌, length, flat_map, Some, None, refl, sym, ap, ap₂, subst, ◌∙◌, append_assoc, arith}
use Rattle.std.specs.List.{AllByRecursion, last_or}
use Rattle.std.proofs.lemmas.Bool.Decides.{nat_tests}
use Rattle.live_model.specs.declared.levels.Level.{Level}
use Rattle.live_model.specs.declared.objects.Entity.{Entity}
use Rattle.live_model.specs.declared.rules.Rule.{Rule}
use Rattle.live_model.specs.Levels.{level_number}
use Rattle.live_model.specs.Stores.{apply}
use Rattle.live_model.specs.Maps.{published}
use Rattle.stamp_core.specs.Hours.{CivilHour}
use Rattle.stamp_core.specs.declared.head.Head.{Head}
use Rattle.overlay_set.specs.Sets.{Entry, Image, MapFile, images_of, lines_of, last_in, run_head, stamps_of}
use Rattle.overlay_set.specs.Periods.{foldable, is_hour_of, is_within, run_images, settled_level, settled_runs, stretch}
use Rattle.overlay_set.specs.Standing.{AreFilesOf, AreRising}
use Rattle.overlay_set.specs.Loose.{before_loose, heads_of, is_loose, is_loose_at, is_other_level, next_begins_in, period_before}
use Rattle.overlay_set.specs.SetLaws.{ShapedLaw}
use Rattle.overlay_set.proofs.Settling.{stops_at}
use Rattle.overlay_set.proofs.Staying.{run_some, tail_inj}
use Rattle.overlay_set.proofs.Walking.{heads_law, settled_before}

-- the level of an image is that at which its first hour is kept in the end
abbrev IsSettled : List Entry → Image → Type 0
IsSettled history image = (hour : CivilHour) → image.head.first ≡ Some hour → image.head.level ≡ settled_level history hour

-- the images of runs at their settled levels are so
settled_images : (rules : List Rule) (history : List Entry) (store : List Entity) (runs : List (List Entry)) → AllByRecursion (IsSettled history) (run_images rules history store runs)
settled_images rules history store [] = tt
settled_images rules history store ([] ∷ runs) = (λ hour e. absurd cc, settled_images rules history (published store []) runs)
settled_images rules history store ((x ∷ run) ∷ runs) =
    (λ hour e. ap (settled_level history) (cc e), settled_images rules history (published store (lines_of (x ∷ run))) runs)

neither : (a b c : Bool) → b ≡ false → c ≡ false → (a && (b || c)) ≡ false
neither true b c e f = ap₂ (λ b c. b || c) e f
neither false b c e f = refl

same_level : (a b : Level) → a ≡ b → not (level_number a == level_number b) ≡ false
same_level a b e =
    let same : level_number a ≡ level_number b = ap level_number e in
    let told : (level_number a == level_number b) ≡ true = grind (arith, nat_tests, same) in
    ap not told

module _ (rules : List Rule) (history : List Entry) (rising : AreRising history) (last : CivilHour) (ends : last_in (stamps_of history) ≡ Some last) where
  -- the file after one that covers its whole period begins in another
  begins_later : (level : Level) (x : Entry) (xs : List Entry) (before : List Entry) (store : List Entity) (bs : List MapFile) (rs : List (List Entry))
      → ((y : Entry) (ys : List Entry) → flat_map (λ r. r) rs ≡ y ∷ ys → stretch level x.stamp ≡ stretch level y.stamp → ⊥)
      → level ≡ (period_before last x.stamp).level → AreFilesOf rules history store rs (images_of bs) → next_begins_in (period_before last x.stamp) (heads_of bs) ≡ false
  begins_later level x xs before store [] rs stops e held = refl
  begins_later level x xs before store (b ∷ bs) [] stops e held = absurd held
  begins_later level x xs before store (b ∷ bs) ([] ∷ rs) stops e held = absurd (run_some b.image.head.level history held.0.covers)
  begins_later level x xs before store (b ∷ bs) ((y ∷ ys) ∷ rs) stops e held =
      let head : b.image.head ≡ run_head b.image.head.level (y ∷ ys) = ap (λ (i : Image). i.head) held.0.holds in
      ap (λ (h : Head). is_hour_of (period_before last x.stamp) h.first) head ∙ ap (λ l. is_within l x.stamp y.stamp) (sym e) ∙ apart (is_within level x.stamp y.stamp) refl
    where
      apart : (b : Bool) → is_within level x.stamp y.stamp ≡ b → is_within level x.stamp y.stamp ≡ false
      apart false is = is
      apart true is = absurd (stops y (ys ++ flat_map (λ r. r) rs) refl (grind (arith, nat_tests)))

  -- no file of the settled shape is loose
  none_loose : (bs : List MapFile) (rs : List (List Entry)) (store : List Entity) (before : List Entry) → history ≡ before ++ flat_map (λ r. r) rs → AreFilesOf rules history store rs (images_of bs)
      → AllByRecursion (IsSettled history) (images_of bs) → before_loose true last (heads_of bs) ≡ length bs
  none_loose [] rs store before here held settled = refl
  none_loose (b ∷ bs) [] store before here held settled = absurd held
  none_loose (b ∷ bs) ([] ∷ rs) store before here held settled = absurd (run_some b.image.head.level history held.0.covers)
  none_loose (b ∷ bs) ((x ∷ xs) ∷ rs) store before here held settled =
      let head : b.image.head ≡ run_head b.image.head.level (x ∷ xs) = ap (λ (i : Image). i.head) held.0.holds in
      let first : b.image.head.first ≡ Some x.stamp = ap (λ (h : Head). h.first) head in
      let level : b.image.head.level ≡ (period_before last x.stamp).level = settled.0 x.stamp first ∙ settled_before history last x.stamp rising ends in
      let stops : (y : Entry) (ys : List Entry) → flat_map (λ r. r) rs ≡ y ∷ ys → stretch b.image.head.level x.stamp ≡ stretch b.image.head.level y.stamp → ⊥ =
      λ y ys e. stops_at history rising b.image.head.level x xs before y ys held.0.covers (here ∙ ap (λ l. before ++ ((x ∷ xs) ++ l)) e) in
      let not_loose : is_loose true last b.image.head (heads_of bs) ≡ false =
      ap (λ o. is_loose_at true last o b.image.head (heads_of bs)) first
      ∙ neither (not (level_number (period_before last x.stamp).level == 1)) (next_begins_in (period_before last x.stamp) (heads_of bs)) (is_other_level true (period_before last x.stamp) b.image.head)
      (begins_later b.image.head.level x xs before (published store (lines_of (x ∷ xs))) bs rs stops level held.1) (same_level b.image.head.level (period_before last x.stamp).level level) in
      ap (λ t. cond t 0 (1 + before_loose true last (heads_of bs))) not_loose
      ∙ ap (λ n. 1 + n) (none_loose bs rs (published store (lines_of (x ∷ xs))) (before ++ (x ∷ xs)) (here ∙ sym (append_assoc before (x ∷ xs) (flat_map (λ r. r) rs))) held.1 settled.1) ∙ omega arith

last_some : (hour : CivilHour) (hours : List CivilHour) → (last : CivilHour) × (last_or (Some hour) hours ≡ Some last)
last_some hour [] = (hour, refl)
last_some hour (h ∷ hs) = last_some h hs

pub shaped_law : ShapedLaw
shaped_law rules base s st shaped = go s.history refl
  where
    settled : AllByRecursion (IsSettled s.history) (images_of st.above)
    settled = subst (AllByRecursion (IsSettled s.history)) (sym (tail_inj _ _ _ _ (sym (ap images_of st.files) ∙ shaped))) (settled_images rules s.history (apply [] base) (settled_runs s.history))

    go : (history : List Entry) → s.history ≡ history → foldable s ≡ None
    go [] e = ap (λ (h : List Entry). foldable (record { history = h; files = s.files })) e
    go (x ∷ xs) e =
        let found = last_some x.stamp (stamps_of xs) in
        let ends : last_in (stamps_of s.history) ≡ Some found.0 = ap (λ (h : List Entry). last_in (stamps_of h)) e ∙ found.1 in
        let above : before_loose true found.0 (heads_of st.above) ≡ length st.above = none_loose rules s.history st.rising found.0 ends st.above st.runs (apply [] base) [] st.parted st.held settled in
        (heads_law true rules base s found.0 st ends).none (ap (λ (fs : List MapFile). before_loose true found.0 (heads_of fs)) st.files ∙ ap (λ n. 1 + n) above ∙ omega arith ∙ sym (ap length st.files))

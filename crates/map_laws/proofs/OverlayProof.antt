-- The overlay of a change: whom it marks, that it is an overlay, and that it leads from map to map.
use Rattle.std.proofs.Common.{◌≡◌, List, [], ◌∷◌, ◌++◌, Bool, true, false, cond, ◌||◌, not, refl, sym, ap, ◌∙◌}
use Rattle.std.specs.Prelude.{filter, flat_map, map, ◌≢◌}
use Rattle.std.specs.List.{AllByRecursion, list_any}
use Rattle.std.specs.Ordering.{nat_cmp, is_ne}
use Rattle.std.specs.Cmp.Lexicographic.{slice_cmp}
use Rattle.std.specs.declared.cmp.Ordering.{Ordering}
use Rattle.std.specs.declared.cmp.Ordering.TheVariants.{Less, Equal, Greater}
use Rattle.std.proofs.lemmas.Bool.{eqb-true}
use Rattle.std.proofs.lemmas.Cmp.{nat_cmp_total, lists_total, tied_itself}
use Rattle.live_model.specs.declared.objects.Entity.{Entity}
use Rattle.live_model.specs.declared.objects.Line.{Line}
use Rattle.live_model.specs.declared.objects.Line.TheVariants.{Live, Gone}
use Rattle.live_model.specs.declared.rules.Rule.{Rule}
use Rattle.live_model.specs.declared.records.Rec.{Rec}
use Rattle.live_model.specs.Ids.{Id, IsId, ordinal}
use Rattle.live_model.specs.Objects.{IsGood, IsGoodLine}
use Rattle.ordered_lists.specs.Ordered.{IsRisingBy, below, above}
use Rattle.live_model.specs.Stores.{key, IsRising, IsStore, apply, apply_line}
use Rattle.live_model.specs.Closures.{same_id}
use Rattle.live_model.specs.Records.{records, record_id, record_cmp}
use Rattle.live_model.specs.Maps.{map_of, Overlay, is_mark, ids_of_both, differs, changed, overlay_between, over, laid, last_for, all_marks, folded}
use Rattle.live_model.specs.MapLaws.{IsOverlay, OverlayLaw, HistoryLaw, FoldIsOverlayLaw, SameRecordLaw, overlays}
use Rattle.ordered_lists.proofs.PutAll.{all_filter, all_append, rising_filter, rising-put_all, rising-put_by, rising-without_by}
use Rattle.map_laws.specs.Laws.{MarkLaw}
use Rattle.map_laws.proofs.Turns.{all_put, all_mapped, all_weaker}
use Rattle.map_laws.proofs.Picks.{picked}
use Rattle.map_laws.proofs.RecordOrder.{record_total, first_equal, then_equal, same_record}
use Rattle.map_laws.proofs.InOrder.{ranked, of_one, keeps, alike, order_of_up, all_ordered, ordered_twice}
use Rattle.map_laws.proofs.Folds.{any_append, any_rising, over_same, rising_marks, last_own}
use Rattle.map_laws.proofs.Untouched.{or_false}
use Rattle.map_laws.proofs.StoreMaps.{turn_flat, each_in, flat_in, records_tied, of_object, in_turn, good_ids, none_there, map_ranked, order_law}

-- ---- lists

any_map : {A B : Type 0} (p : B → Bool) (f : A → B) (xs : List A) → list_any p (map f xs) ≡ list_any (λ x. p (f x)) xs
any_map p f [] = refl
any_map p f (x ∷ xs) = ap (λ b. p (f x) || b) (any_map p f xs)

module _ {A : Type 0} (p q : A → Bool) (b : Bool) (alike : (x : A) → p x ≡ true → q x ≡ b) where
  -- where none of those that pass p is kept by q, but there are some, q fails of these
  none_kept : (xs : List A) → list_any p (filter q xs) ≡ false → list_any p xs ≡ true → b ≡ false
  none_kept [] none some = absurd (cc)
  none_kept (x ∷ xs) none some = one (p x) (q x) refl refl none some (none_kept xs)
    where
      one : (s t : Bool) → p x ≡ s → q x ≡ t → list_any p (cond t (x ∷ filter q xs) (filter q xs)) ≡ false → (s || list_any p xs) ≡ true
          → (list_any p (filter q xs) ≡ false → list_any p xs ≡ true → b ≡ false) → b ≡ false
      one true true e f none some again = let g = (or_false (p x) (list_any p (filter q xs)) none).0 in absurd (cc)
      one true false e f none some again = sym (alike x e) ∙ f
      one false true e f none some again = again (or_false (p x) (list_any p (filter q xs)) none).1 some
      one false false e f none some again = again none some

  -- where some of those that pass p are kept by q, q passes them
  some_kept : (xs : List A) → list_any p (filter q xs) ≡ true → b ≡ true
  some_kept [] some = absurd (cc)
  some_kept (x ∷ xs) some = one (p x) (q x) refl refl some (some_kept xs)
    where
      one : (s t : Bool) → p x ≡ s → q x ≡ t → list_any p (cond t (x ∷ filter q xs) (filter q xs)) ≡ true → (list_any p (filter q xs) ≡ true → b ≡ true) → b ≡ true
      one true true e f some again = sym (alike x e) ∙ f
      one true false e f some again = again some
      one false true e f some again = again (ap (λ s. s || list_any p (filter q xs)) (sym e) ∙ some)
      one false false e f some again = again some

-- lists of records that tie are one
one_list : (xs ys : List Rec) → AllByRecursion (λ r. IsId (record_id r)) xs → AllByRecursion (λ r. IsId (record_id r)) ys → slice_cmp record_cmp xs ys ≡ Equal → xs ≡ ys
one_list [] [] gx gy e = refl
one_list [] (y ∷ ys) gx gy e = absurd (cc)
one_list (x ∷ xs) [] gx gy e = absurd (cc)
one_list (x ∷ xs) (y ∷ ys) gx gy e =
    let here : x ≡ y = same_record x y gx.0 gy.0 (first_equal (record_cmp x y) (slice_cmp record_cmp xs ys) e) in
    let rest : xs ≡ ys = one_list xs ys gx.1 gy.1 (then_equal (record_cmp x y) (slice_cmp record_cmp xs ys) e) in
    cc

equal_of : (r : Ordering) → is_ne r ≡ false → r ≡ Equal
equal_of Less e = absurd (cc)
equal_of Equal e = refl
equal_of Greater e = absurd (cc)

-- ---- between two stores

module _ (rules : List Rule) (before after : List Entity) (is_before : IsStore before) (is_after : IsStore after) where
  abbrev between : Overlay
  between = overlay_between rules before after

  rising_changed : IsRisingBy nat_cmp ordinal (changed rules before after)
  rising_changed = rising_filter nat_cmp ordinal nat_cmp_total (differs rules before after) (ids_of_both before after) (rising-put_all nat_cmp ordinal nat_cmp_total [] (map (λ e. e.id) before ++ map (λ e. e.id) after) tt)

  differs_tied : (i x : Id) → same_id x i ≡ true → differs rules before after x ≡ differs rules before after i
  differs_tied i x e =
      let k = eqb-true (ordinal x) (ordinal i) e in
      ap (λ rs. is_ne (slice_cmp record_cmp rs (records rules after x))) (records_tied rules before x i k) ∙ ap (λ rs. is_ne (slice_cmp record_cmp (records rules before i) rs)) (records_tied rules after x i k)

  -- an object that stands in neither store has no records
  in_neither : (i : Id) → list_any (λ id. same_id id i) (ids_of_both before after) ≡ false → records rules before i ≡ records rules after i
  in_neither i none =
      let all = sym (any_append (λ id. same_id id i) (map (λ e. e.id) before) (map (λ e. e.id) after)) ∙ sym (any_rising i (map (λ e. e.id) before ++ map (λ e. e.id) after)) ∙ none in
      let parts = or_false (list_any (λ id. same_id id i) (map (λ e. e.id) before)) (list_any (λ id. same_id id i) (map (λ e. e.id) after)) all in
      none_there rules before i (sym (any_map (λ id. same_id id i) (λ e. e.id) before) ∙ parts.0)
      ∙ sym (none_there rules after i (sym (any_map (λ id. same_id id i) (λ e. e.id) after) ∙ parts.1))

  pub unmarked : (i : Id) → is_mark between i ≡ false → records rules before i ≡ records rules after i
  unmarked i none = one (list_any (λ id. same_id id i) (ids_of_both before after)) refl
    where
      one : (b : Bool) → list_any (λ id. same_id id i) (ids_of_both before after) ≡ b → records rules before i ≡ records rules after i
      one false e = in_neither i e
      one true e =
          one_list (records rules before i) (records rules after i) (good_ids rules before is_before.good i) (good_ids rules after is_after.good i)
          (equal_of (slice_cmp record_cmp (records rules before i) (records rules after i))
          (none_kept (λ id. same_id id i) (differs rules before after) (differs rules before after i) (differs_tied i) (ids_of_both before after) none e))

  pub marked : (i : Id) → is_mark between i ≡ true → records rules before i ≢ records rules after i
  marked i some = λ e.
      let d : differs rules before after i ≡ true = some_kept (λ id. same_id id i) (differs rules before after) (differs rules before after i) (differs_tied i) (ids_of_both before after) some in
      let f : differs rules before after i ≡ false = ap (λ rs. is_ne (slice_cmp record_cmp (records rules before i) rs)) (sym e) ∙ ap is_ne (tied_itself (lists_total record_total) (records rules before i)) in
      cc

  records_ranked : (z : Rec) → filter (ranked z) between.records ≡ cond (is_mark between (record_id z)) (filter (ranked z) (records rules after (record_id z))) []
  records_ranked z = picked ranked of_one (λ id. id) (records rules after) (records_tied rules after) (of_object rules after) z (changed rules before after) rising_changed

  pub over_between : over (map_of rules before) between ≡ map_of rules after
  over_between =
      sym (ordered_twice (filter (λ r. not (is_mark between (record_id r))) (map_of rules before) ++ between.records)) ∙ alike (over (map_of rules before) between) (map_of rules after) each ∙ order_law rules after is_after
    where
      each : (z : Rec) → filter (ranked z) (over (map_of rules before) between) ≡ filter (ranked z) (map_of rules after)
      each z =
          over_same ranked of_one keeps alike (map_of rules before) between z (λ e. records_ranked z ∙ ap (λ b. cond b (filter (ranked z) (records rules after (record_id z))) []) e)
          ∙ one (is_mark between (record_id z)) refl
          ∙ sym (map_ranked rules after is_after.rising z)
        where
          one : (b : Bool) → is_mark between (record_id z) ≡ b → cond b (filter (ranked z) between.records) (filter (ranked z) (map_of rules before)) ≡ filter (ranked z) (records rules after (record_id z))
          one true e = records_ranked z ∙ ap (λ b. cond b (filter (ranked z) (records rules after (record_id z))) []) e
          one false e = map_ranked rules before is_before.rising z ∙ ap (filter (ranked z)) (unmarked (record_id z) e)

  pub is_overlay : IsOverlay between
  is_overlay = record {
    ids = all_filter IsId (differs rules before after) (ids_of_both before after) (all_put IsId nat_cmp ordinal (map (λ e. e.id) before ++ map (λ e. e.id) after) [] tt
        (all_append IsId (map (λ e. e.id) before) (map (λ e. e.id) after) (ids_good before is_before.good) (ids_good after is_after.good)));
    rising = rising_changed;
    ordered = order_of_up between.records (turn_flat (λ id. id) (records rules after) (of_object rules after) (in_turn rules after is_after.good) (changed rules before after) rising_changed);
    marked = flat_in (records rules after) (of_object rules after) (changed rules before after) (changed rules before after) (each_in (changed rules before after));
  }
    where
      ids_good : (es : List Entity) → AllByRecursion IsGood es → AllByRecursion IsId (map (λ e. e.id) es)
      ids_good es good = all_mapped IsId (λ (e : Entity). e.id) es (all_weaker IsGood (λ e. IsId e.id) (λ e g. g.id) es good)

-- ---- of lines

line_store : (store : List Entity) (line : Line) → AllByRecursion IsGood store → IsGoodLine line → AllByRecursion IsGood (apply_line store line)
line_store store (Live e) good one = all_append IsGood (below nat_cmp key (key e) store) (e ∷ above nat_cmp key (key e) store) (all_filter IsGood _ store good) (one, all_filter IsGood _ store good)
line_store store (Gone o version) good one = all_append IsGood (below nat_cmp key (ordinal o) store) (above nat_cmp key (ordinal o) store) (all_filter IsGood _ store good) (all_filter IsGood _ store good)

line_rising : (store : List Entity) (line : Line) → IsRising store → IsRising (apply_line store line)
line_rising store (Live e) rising = rising-put_by nat_cmp key nat_cmp_total e store rising
line_rising store (Gone o version) rising = rising-without_by nat_cmp key nat_cmp_total (ordinal o) store rising

pub applied_store : (store : List Entity) (lines : List Line) → IsStore store → AllByRecursion IsGoodLine lines → IsStore (apply store lines)
applied_store store lines is good = record { good = go store lines is.good good; rising = up store lines is.rising }
  where
    up : (store : List Entity) (lines : List Line) → IsRising store → IsRising (apply store lines)
    up store [] r = r
    up store (line ∷ lines) r = up (apply_line store line) lines (line_rising store line r)

    go : (store : List Entity) (lines : List Line) → AllByRecursion IsGood store → AllByRecursion IsGoodLine lines → AllByRecursion IsGood (apply store lines)
    go store [] a b = a
    go store (line ∷ lines) a b = go (apply_line store line) lines (line_store store line a b.0) b.1

pub overlay_law : OverlayLaw
overlay_law = λ rules store lines is good.
    (is_overlay rules store (apply store lines) is (applied_store store lines is good), over_between rules store (apply store lines) is (applied_store store lines is good))

pub history : HistoryLaw
history rules store [] is good = refl
history rules store (lines ∷ later) is good =
    ap (λ rs. laid rs (overlays rules (apply store lines) later)) (overlay_law rules store lines is good.0).1
    ∙ history rules (apply store lines) later (applied_store store lines is good.0) good.1

pub marks : MarkLaw
marks = λ rules store lines id is good.
    (marked rules store (apply store lines) is (applied_store store lines is good) id, unmarked rules store (apply store lines) is (applied_store store lines is good) id)

pub same_record_law : SameRecordLaw
same_record_law = same_record

pub fold_is_overlay : FoldIsOverlayLaw
fold_is_overlay = λ os are. record {
  ids = all_put IsId nat_cmp ordinal (flat_map (λ o. o.marks) os) [] tt (all_marks_good os are);
  rising = rising_marks os;
  ordered = ordered_twice (flat_map (λ mark. last_for mark [] os) (all_marks os));
  marked = all_ordered (λ r. is_mark (folded os) (record_id r) ≡ true) (flat_map (λ mark. last_for mark [] os) (all_marks os))
      (flat_in (λ mark. last_for mark [] os) (λ id. last_own id [] os tt) (all_marks os) (all_marks os) (each_in (all_marks os)));
}
  where
    all_marks_good : (os : List Overlay) → AllByRecursion IsOverlay os → AllByRecursion IsId (flat_map (λ o. o.marks) os)
    all_marks_good [] are = tt
    all_marks_good (o ∷ os) are = all_append IsId o.marks (flat_map (λ p. p.marks) os) are.0.ids (all_marks_good os are.1)

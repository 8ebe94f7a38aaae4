-- Of two states of one age the later is the same.
use Rattle.std.proofs.Common.{◌≡◌, ◌≢◌, ◌≤◌, ◌⊎◌, List, [], ◌∷◌, ◌++◌, flat_map, refl, sym, ap, ap₂, subst, ◌∙◌, inl, inr, ⊎_elim, append_assoc, append-nil, arith}
use Rattle.live_model.specs.declared.objects.Entity.{Entity}
use Rattle.live_model.specs.declared.objects.Line.{Line}
use Rattle.live_model.specs.declared.rules.Rule.{Rule}
use Rattle.live_model.specs.Stores.{apply}
use Rattle.live_model.specs.Maps.{published}
use Rattle.stamp_core.specs.Hours.{number_of}
use Rattle.overlay_set.specs.Sets.{Entry, Image, MapFile, State, numbers_of, images_of, lines_of, greatest, age, run_head, base_image}
use Rattle.overlay_set.specs.Standing.{AreFilesOf, AreRising, AreApart, Stands}
use Rattle.overlay_set.specs.Swaps.{IsAmong, IsLater}
use Rattle.overlay_set.specs.SetLaws.{SameAgeLaw}
use Rattle.overlay_set.proofs.Spans.{span, span_part, last_number, last_hour, last_number-hour}
use Rattle.overlay_set.proofs.Staying.{head_of_run, one_file, head_inj, cancel, HasRun, RunOf, run_of, run_some, among_right}
use Rattle.overlay_set.proofs.Planning.{number_among}
use Rattle.overlay_set.proofs.Settling.{before_all, among_append_left}

two_parts : (history before after front back : List Entry) (x y : Entry) (xs ys : List Entry) → AreRising history → history ≡ before ++ ((x ∷ xs) ++ after) → history ≡ front ++ ((y ∷ ys) ++ back)
    → x.stamp ≡ y.stamp → last_hour x.stamp xs ≡ last_hour y.stamp ys → x ∷ xs ≡ y ∷ ys
two_parts history before after front back x y xs ys rising here there first last =
    let mine : span (number_of x.stamp) (last_number (number_of x.stamp) xs) history ≡ x ∷ xs =
    ap (span (number_of x.stamp) (last_number (number_of x.stamp) xs)) here ∙ span_part before x xs after (subst AreRising here rising) in
    let yours : span (number_of y.stamp) (last_number (number_of y.stamp) ys) history ≡ y ∷ ys =
    ap (span (number_of y.stamp) (last_number (number_of y.stamp) ys)) there ∙ span_part front y ys back (subst AreRising there rising) in
    let lasts : last_number (number_of x.stamp) xs ≡ last_number (number_of y.stamp) ys = last_number-hour x.stamp xs ∙ ap number_of last ∙ sym (last_number-hour y.stamp ys) in
    sym mine ∙ ap (λ h. span (number_of h) (last_number (number_of x.stamp) xs) history) first ∙ ap (λ n. span (number_of y.stamp) n history) lasts ∙ yours

among_greatest : (files : List MapFile) (f : MapFile) → IsAmong f files → f.number ≤ greatest (numbers_of files)
among_greatest [] f h = absurd h
among_greatest (g ∷ gs) f (inl e) = omega (arith, ap (λ (x : MapFile). x.number) e)
among_greatest (g ∷ gs) f (inr h) = omega (arith, among_greatest gs f h)

module _ (rules : List Rule) (base : List Line) (a b : State) (sa : Stands rules base a) (sb : Stands rules base b) (later : IsLater a b) (same : age a ≡ age b) where
  -- the files above the base of b are files of a
  above_in : (f : MapFile) → IsAmong f sb.above → IsAmong f sa.above
  above_in f h =
      let mine : IsAmong f b.files = subst (IsAmong f) (sym sb.files) (inr h) in
      let yours : IsAmong f a.files = later.old f mine (omega (arith, same, among_greatest b.files f mine)) in
      let apart : AreApart (0 ∷ numbers_of sb.above) = subst (λ fs. AreApart (numbers_of fs)) sb.files sb.apart in
      let other : 0 ≢ f.number = number_among (λ m. 0 ≢ m) sb.above f apart.0 h in
      ⊎_elim (λ (e : f ≡ record { number = 0; image = base_image rules base }). absurd (other (sym (ap (λ (x : MapFile). x.number) e)))) (λ k. k) (subst (IsAmong f) sa.files yours)

  -- with the same run
  same_run : (f : MapFile) (y : Entry) (ys front back : List Entry) → IsAmong f sb.above → f.image.head ≡ run_head f.image.head.level (y ∷ ys) → b.history ≡ front ++ ((y ∷ ys) ++ back)
      → HasRun sa.above sa.runs f (y ∷ ys)
  same_run f y ys front back among head there =
      let found : RunOf sa.above sa.runs f = run_of rules a.history (apply [] base) sa.above sa.runs f sa.held (above_in f among) in
      let x = head_of_run f.image.head.level found.run y ys (sym found.head ∙ head) in
      let here : b.history ≡ found.before ++ ((x.0 ∷ x.1) ++ (found.after ++ later.history.0)) =
      sym later.history.1 ∙ ap (λ h. h ++ later.history.0) (sa.parted ∙ found.where_) ∙ append_assoc found.before (found.run ++ found.after) later.history.0
      ∙ ap (λ l. found.before ++ l) (append_assoc found.run found.after later.history.0) ∙ ap (λ r. found.before ++ (r ++ (found.after ++ later.history.0))) x.2 in
      let one : x.0 ∷ x.1 ≡ y ∷ ys = two_parts b.history found.before (found.after ++ later.history.0) front back x.0 y x.1 ys sb.rising here there x.3 x.4 in
      subst (λ r. HasRun sa.above sa.runs f r) (x.2 ∙ one) found.has

  -- entries of a run that a file of a has are in the history of a
  has_all : (files : List MapFile) (runs : List (List Entry)) (f : MapFile) (r : List Entry) (y : Entry) → HasRun files runs f r → IsAmong y r → IsAmong y (flat_map (λ x. x) runs)
  has_all [] runs f r y h k = absurd h
  has_all (g ∷ gs) [] f r y h k = absurd h
  has_all (g ∷ gs) (q ∷ qs) f r y (inl e) k = among_append_left q (flat_map (λ x. x) qs) y (subst (IsAmong y) e.1 k)
  has_all (g ∷ gs) (q ∷ qs) f r y (inr h) k = among_right q (flat_map (λ x. x) qs) y (has_all gs qs f r y h k)

  split_among : {A : Type 0} (xs ys : List A) (x : A) → IsAmong x (xs ++ ys) → IsAmong x xs ⊎ IsAmong x ys
  split_among [] ys x h = inr h
  split_among (z ∷ zs) ys x (inl e) = inl (inl e)
  split_among (z ∷ zs) ys x (inr h) = ⊎_elim (λ k. inl (inr k)) (λ k. inr k) (split_among zs ys x h)

  all_old : (bs : List MapFile) (rs : List (List Entry)) (store : List Entity) (before : List Entry) → b.history ≡ before ++ flat_map (λ x. x) rs → AreFilesOf rules b.history store rs (images_of bs)
      → ((f : MapFile) → IsAmong f bs → IsAmong f sb.above) → (y : Entry) → IsAmong y (flat_map (λ x. x) rs) → IsAmong y a.history
  all_old [] [] store before here held inside y among = absurd among
  all_old [] (r ∷ rs) store before here held inside y among = absurd held
  all_old (f ∷ fs) [] store before here held inside y among = absurd held
  all_old (f ∷ fs) ([] ∷ rs) store before here held inside y among = absurd (run_some f.image.head.level b.history held.0.covers)
  all_old (f ∷ fs) ((x ∷ xs) ∷ rs) store before here held inside y among = ⊎_elim
      (λ (k : IsAmong y (x ∷ xs)). subst (IsAmong y) (sym sa.parted)
      (has_all sa.above sa.runs f (x ∷ xs) y (same_run f x xs before (flat_map (λ x. x) rs) (inside f (inl refl)) (ap (λ (i : Image). i.head) held.0.holds) here) k))
      (λ (k : IsAmong y (flat_map (λ x. x) rs)).
      all_old fs rs (published store (lines_of (x ∷ xs))) (before ++ (x ∷ xs)) (here ∙ sym (append_assoc before (x ∷ xs) (flat_map (λ x. x) rs))) held.1 (λ f h. inside f (inr h)) y k)
      (split_among (x ∷ xs) (flat_map (λ x. x) rs) y among)

  no_more : (t : List Entry) → a.history ++ t ≡ b.history → t ≡ []
  no_more [] e = refl
  no_more (y ∷ ys) e =
      let new : IsAmong y b.history = subst (IsAmong y) e (among_right a.history (y ∷ ys) y (inl refl)) in
      let old : IsAmong y a.history = all_old sb.above sb.runs (apply [] base) [] sb.parted sb.held (λ f h. h) y (subst (IsAmong y) sb.parted new) in
      absurd (omega (arith, before_all a.history y ys y (subst AreRising (sym e) sb.rising) old))

  one_history : a.history ≡ b.history
  one_history = sym (append-nil a.history) ∙ ap (λ l. a.history ++ l) (sym (no_more later.history.0 later.history.1)) ∙ later.history.1

  files_walk : (gs : List MapFile) (qs : List (List Entry)) (bs : List MapFile) (rs : List (List Entry)) (sq sr : List Entity) (before : List Entry)
      → ((f : MapFile) (r : List Entry) → HasRun gs qs f r → HasRun sa.above sa.runs f r) → AreFilesOf rules a.history sq qs (images_of gs) → AreFilesOf rules b.history sr rs (images_of bs)
      → ((f : MapFile) → IsAmong f bs → IsAmong f sb.above) → b.history ≡ before ++ flat_map (λ x. x) rs → flat_map (λ x. x) qs ≡ flat_map (λ x. x) rs → gs ≡ bs
  files_walk [] [] [] [] sq sr before suffix ha hb inside here flat = refl
  files_walk [] (q ∷ qs) bs rs sq sr before suffix ha hb inside here flat = absurd ha
  files_walk (g ∷ gs) [] bs rs sq sr before suffix ha hb inside here flat = absurd ha
  files_walk (g ∷ gs) ([] ∷ qs) bs rs sq sr before suffix ha hb inside here flat = absurd (run_some g.image.head.level a.history ha.0.covers)
  files_walk [] [] [] (r ∷ rs) sq sr before suffix ha hb inside here flat = absurd hb
  files_walk [] [] (b' ∷ bs) [] sq sr before suffix ha hb inside here flat = absurd hb
  files_walk [] [] (b' ∷ bs) ([] ∷ rs) sq sr before suffix ha hb inside here flat = absurd (run_some b'.image.head.level b.history hb.0.covers)
  files_walk [] [] (b' ∷ bs) ((y ∷ ys) ∷ rs) sq sr before suffix ha hb inside here flat = absurd cc
  files_walk (g ∷ gs) ((x ∷ xs) ∷ qs) [] [] sq sr before suffix ha hb inside here flat = absurd cc
  files_walk (g ∷ gs) ((x ∷ xs) ∷ qs) [] (r ∷ rs) sq sr before suffix ha hb inside here flat = absurd hb
  files_walk (g ∷ gs) ((x ∷ xs) ∷ qs) (b' ∷ bs) [] sq sr before suffix ha hb inside here flat = absurd hb
  files_walk (g ∷ gs) ((x ∷ xs) ∷ qs) (b' ∷ bs) ([] ∷ rs) sq sr before suffix ha hb inside here flat = absurd (run_some b'.image.head.level b.history hb.0.covers)
  files_walk (g ∷ gs) ((x ∷ xs) ∷ qs) (b' ∷ bs) ((y ∷ ys) ∷ rs) sq sr before suffix ha hb inside here flat =
      let first : x ≡ y = head_inj x y (xs ++ flat_map (λ x. x) qs) (ys ++ flat_map (λ x. x) rs) flat in
      let yours : HasRun sa.above sa.runs b' (y ∷ ys) = same_run b' y ys before (flat_map (λ x. x) rs) (inside b' (inl refl)) (ap (λ (i : Image). i.head) hb.0.holds) here in
      let mine : HasRun sa.above sa.runs g (y ∷ xs) = subst (λ (z : Entry). HasRun sa.above sa.runs g (z ∷ xs)) first (suffix g (x ∷ xs) (inl (refl, refl))) in
      let one : (g ≡ b') × (y ∷ xs ≡ y ∷ ys) = one_file sa.above sa.runs g b' y xs ys (subst AreRising sa.parted sa.rising) mine yours in
      let run : x ∷ xs ≡ y ∷ ys = ap (λ (z : Entry). z ∷ xs) first ∙ one.1 in
      let rest : flat_map (λ x. x) qs ≡ flat_map (λ x. x) rs = cancel (y ∷ ys) (flat_map (λ x. x) qs) (flat_map (λ x. x) rs) (ap (λ r. r ++ flat_map (λ x. x) qs) (sym run) ∙ flat) in
      ap₂ (λ (g : MapFile) (gs : List MapFile). g ∷ gs) one.0
      (files_walk gs qs bs rs (published sq (lines_of (x ∷ xs))) (published sr (lines_of (y ∷ ys))) (before ++ (y ∷ ys)) (λ f r h. suffix f r (inr h)) ha.1 hb.1 (λ f h. inside f (inr h))
      (here ∙ sym (append_assoc before (y ∷ ys) (flat_map (λ x. x) rs))) rest)

  one_state : a ≡ b
  one_state =
      let above : sa.above ≡ sb.above = files_walk sa.above sa.runs sb.above sb.runs (apply [] base) (apply [] base) [] (λ f r h. h) sa.held sb.held (λ f h. h) sb.parted (sym sa.parted ∙ one_history ∙ sb.parted) in
      let files : a.files ≡ b.files = sa.files ∙ ap (λ (fs : List MapFile). record { number = 0; image = base_image rules base } ∷ fs) above ∙ sym sb.files in
      λ i. record { history = one_history i; files = files i }

pub same_age_law : SameAgeLaw
same_age_law rules base a b sa sb later same = one_state rules base a b sa sb later same

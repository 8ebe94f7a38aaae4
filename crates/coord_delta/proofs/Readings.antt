-- What is read of the bytes of a range is one.
use Rattle.std.proofs.Common.{◌≡◌, ℕ, ◌-◌, ◌%◌, ◌≤◌, List, ◌++◌, length, Result, Ok, Err, sym, ap, subst, ◌∙◌, arith}
use Rattle.std.specs.Prelude.{slice_range, IfOk, IfErr}
use Rattle.std.specs.Global.{Vec}
use Rattle.std.proofs.lemmas.List.{length-append}
use Rattle.live_model.specs.declared.points.Point.{Point}
use Rattle.obf_wire.specs.declared.breaks.WireBreak.{WireBreak}
use Rattle.coord_delta.specs.Steps.{number_list, ArePairs, places, IsFirstOff, ArePoints, IsFirstOffGrid, IsFirstBreak, IsNone}
use Rattle.coord_delta.specs.declared.error.CoordError.{CoordError}
use Rattle.coord_delta.specs.declared.error.CoordError.TheVariants as errors
use Rattle.coord_delta.specs.Answers.{Explains, Answers}
use Rattle.coord_delta.proofs.NumberLists.{range-join, length-range, none_of, kind_one, one_split, one_pairs, pairs_end, all_append, numbers_append}
use Rattle.coord_delta.proofs.PlaceLists.{none_off, one_off, same_points}

pub points_one : (bytes : List ℕ) (ps qs : List Point) → ArePoints bytes ps → ArePoints bytes qs → ps ≡ qs
points_one bytes ps qs a b =
    let same = one_pairs bytes a.numbers b.numbers a.pairs b.pairs in
    same_points ps qs (sym a.there ∙ ap places same ∙ b.there)

pub points_or_off : (bytes : List ℕ) (ps : List Point) (index : ℕ) → ArePoints bytes ps → IsFirstOffGrid bytes index → ⊥
points_or_off bytes ps index a b =
    let same = one_pairs bytes b.numbers a.numbers b.pairs a.pairs in
    none_off index ps a.in_grid (subst (IsFirstOff index) (ap places same ∙ a.there) b.first)

pub off_one : (bytes : List ℕ) (i j : ℕ) → IsFirstOffGrid bytes i → IsFirstOffGrid bytes j → i ≡ j
off_one bytes i j a b =
    let same = one_pairs bytes a.numbers b.numbers a.pairs b.pairs in
    one_off i j (places b.numbers) (subst (IsFirstOff i) (ap places same) a.first) b.first

break_parts : (bytes : List ℕ) (from to : ℕ) (b : WireBreak) (x : IsFirstBreak bytes from to b) → slice_range bytes from to ≡ number_list x.numbers ++ slice_range bytes b.at to
break_parts bytes from to b x = range-join bytes from b.at to x.ordered x.within ∙ ap (λ (t : List ℕ). t ++ slice_range bytes b.at to) x.spelled

pub pairs_or_break : (bytes : List ℕ) (from to : ℕ) (ns : List ℕ) (b : WireBreak) → to ≤ length bytes → ArePairs (slice_range bytes from to) ns → IsFirstBreak bytes from to b → ⊥
pairs_or_break bytes from to ns b inside a x =
    let parts = pairs_end (slice_range bytes from to) ns x.numbers (slice_range bytes b.at to) a x.fit (none_of b.kind (slice_range bytes b.at to) x.none) (break_parts bytes from to b x) in
    let left : to - b.at ≡ 0 = sym (length-range bytes b.at to x.within inside) ∙ sym (ap length parts.1) in
    let within = x.within in
    let odd : length x.numbers % 2 ≡ 1 = x.owed (omega arith) in
    omega (arith, a.whole, odd, ap length parts.0)

pub break_one : (bytes : List ℕ) (from to : ℕ) (b c : WireBreak) → to ≤ length bytes → IsFirstBreak bytes from to b → IsFirstBreak bytes from to c → b ≡ c
break_one bytes from to b c inside x y =
    let rest = slice_range bytes b.at to in
    let other = slice_range bytes c.at to in
    let parts = one_split x.numbers y.numbers rest other x.fit y.fit (none_of b.kind rest x.none) (none_of c.kind other y.none) (sym (break_parts bytes from to b x) ∙ break_parts bytes from to c y) in
    let size : to - b.at ≡ to - c.at = sym (length-range bytes b.at to x.within inside) ∙ ap length parts.1 ∙ length-range bytes c.at to y.within inside in
    let x_in = x.within in
    let y_in = y.within in
    let at : b.at ≡ c.at = omega arith in
    let kind : b.kind ≡ c.kind = kind_one b.kind c.kind other (subst (IsNone b.kind) parts.1 x.none) y.none in
    let first : b ≡ record { at = c.at; kind = b.kind } = ap (λ (n : ℕ). record { at = n; kind = b.kind }) at in
    first ∙ ap (λ k. record { at = c.at; kind = k }) kind

-- a break behind pairs is one of the whole
pub later_break : (bytes : List ℕ) (from mid to : ℕ) (ns : List ℕ) (b : WireBreak) → from ≤ mid → ArePairs (slice_range bytes from mid) ns → IsFirstBreak bytes mid to b → IsFirstBreak bytes from to b
later_break bytes from mid to ns b ordered a x = record {
  numbers = ns ++ x.numbers;
  fit = all_append ns x.numbers a.fit x.fit;
  ordered = omega (arith, x.ordered);
  within = x.within;
  spelled = range-join bytes from mid b.at ordered x.ordered ∙ numbers_append (slice_range bytes from mid) (slice_range bytes mid b.at) ns x.numbers a.spelled x.spelled;
  none = x.none;
  owed = λ e. omega (arith, length-append ns x.numbers, a.whole, x.owed e);
}

-- ---- no other answer

module _ (bytes : List ℕ) (from to : ℕ) (inside : to ≤ length bytes) where
  abbrev Found : Result (Vec Point) CoordError → Type 0
  Found r = IfOk r (λ points. ArePoints (slice_range bytes from to) points.items)

  pub only_points : (r : Result (Vec Point) CoordError) → Found r → IfErr r (Explains bytes from to) → (ps : List Point) → ArePoints (slice_range bytes from to) ps → Answers r (Ok ps)
  only_points (Ok v) found told ps a = let same = points_one (slice_range bytes from to) ps v.items a found in ap (λ (xs : List Point). answer xs) same
    where
      answer : List Point → Result (List Point) CoordError
      answer xs = Ok xs
  only_points (Err errors.NoMemory) found told ps a = tt
  only_points (Err (errors.Wire b)) found told ps a = absurd (pairs_or_break bytes from to a.numbers b inside a.pairs told)
  only_points (Err (errors.OffGrid index)) found told ps a = absurd (points_or_off (slice_range bytes from to) ps index a told)

  pub only_wire : (r : Result (Vec Point) CoordError) → Found r → IfErr r (Explains bytes from to) → (b : WireBreak) → IsFirstBreak bytes from to b → Answers r (Err (errors.Wire b))
  only_wire (Ok v) found told b x = absurd (pairs_or_break bytes from to found.numbers b inside found.pairs x)
  only_wire (Err errors.NoMemory) found told b x = tt
  only_wire (Err (errors.Wire c)) found told b x = ap (λ (k : WireBreak). answer k) (break_one bytes from to b c inside x told)
    where
      answer : WireBreak → Result (List Point) CoordError
      answer k = Err (errors.Wire k)
  only_wire (Err (errors.OffGrid index)) found told b x = absurd (pairs_or_break bytes from to told.numbers b inside told.pairs x)

  pub only_off_grid : (r : Result (Vec Point) CoordError) → Found r → IfErr r (Explains bytes from to) → (index : ℕ) → IsFirstOffGrid (slice_range bytes from to) index → Answers r (Err (errors.OffGrid index))
  only_off_grid (Ok v) found told index off = absurd (points_or_off (slice_range bytes from to) v.items index found off)
  only_off_grid (Err errors.NoMemory) found told index off = tt
  only_off_grid (Err (errors.Wire b)) found told index off = absurd (pairs_or_break bytes from to off.numbers b inside off.pairs told)
  only_off_grid (Err (errors.OffGrid other)) found told index off = ap (λ (k : ℕ). answer k) (off_one (slice_range bytes from to) index other off told)
    where
      answer : ℕ → Result (List Point) CoordError
      answer k = Err (errors.OffGrid k)

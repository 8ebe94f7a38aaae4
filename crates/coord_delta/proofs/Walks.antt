-- What has been read as a reader goes over the bytes.
use Rattle.std.proofs.Common.{◌≡◌, ℕ, ◌-◌, ◌%◌, ◌<◌, ◌≤◌, List, [], ◌∷◌, ◌++◌, length, drop, map, Result, Ok, Err, refl, sym, ap, subst, ◌∙◌, append_assoc, arith}
use Rattle.std.specs.Prelude.{slice_range, ℤ}
use Rattle.std.specs.List.{AllByRecursion}
use Rattle.std.proofs.lemmas.List.{append-nil, length-take}
use Rattle.live_model.specs.declared.points.Point.{Point}
use Rattle.live_model.specs.Points.{IsInGrid}
use Rattle.obf_wire.specs.declared.breaks.WireBreak.{WireBreak}
use Rattle.obf_wire.specs.declared.breaks.WireKind.{WireKind}
use Rattle.obf_wire.specs.declared.breaks.WireKind.TheVariants.{Short, LongVarint, BadKey, OverEnd}
use Rattle.obf_wire.specs.Varint.{varint, varint_in, varint_at, placed_at, IsSpelledAt}
use Rattle.obf_wire.specs.Zigzag.{unzigzag}
use Rattle.obf_wire.proofs.Spellings.{is_cut, is_overlong, refusals}
use Rattle.obf_wire.proofs.Places.{IsVarint-length}
use Rattle.obf_wire.proofs.Writing.{varint_only}
use Rattle.coord_delta.specs.declared.step.Step.{Step}
use Rattle.coord_delta.specs.Steps.{IsNumber, number_list, ArePairs, Place, place_of, moved, places, places_from, IsOnGrid, IsFirstOff, ArePoints, IsFirstOffGrid, IsFirstBreak, IsNone, IsStepAt}
use Rattle.coord_delta.specs.Answers.{ArePairsOfSome}
use Rattle.coord_delta.proofs.NumberLists.{range-join, range-none, no_pairs, pairs_append}
use Rattle.coord_delta.proofs.PlaceLists.{off_behind}
use Rattle.coord_delta.proofs.Readings.{later_break}

-- ---- one step

abbrev wire_err : WireBreak → Result (ℕ × ℕ) WireBreak
wire_err b = Err b

placed_break : (bytes : List ℕ) (at : ℕ) (read : Result (ℕ × ℕ) WireKind) (b : WireBreak) → varint_in bytes ≡ read → placed_at at read ≡ wire_err b → (b.at ≡ at) × IsNone b.kind bytes
unfolding varint_in
placed_break bytes at (Ok x) b e p = absurd cc
placed_break bytes at (Err Short) b e p =
    let same : ◌≡◌ {A = WireBreak} (record { at = at; kind = Short }) b = cc in
    (sym (ap (λ (k : WireBreak). k.at) same), subst (λ (k : WireBreak). IsNone k.kind bytes) same (is_cut bytes e))
placed_break bytes at (Err LongVarint) b e p =
    let same : ◌≡◌ {A = WireBreak} (record { at = at; kind = LongVarint }) b = cc in
    (sym (ap (λ (k : WireBreak). k.at) same), subst (λ (k : WireBreak). IsNone k.kind bytes) same (is_overlong bytes e))
placed_break bytes at (Err BadKey) b e p = absurd (refusals 9 bytes BadKey e)
placed_break bytes at (Err OverEnd) b e p = absurd (refusals 9 bytes OverEnd e)

-- behind numbers no number stands here, and the end is near only behind an x
pub break_at : (bytes : List ℕ) (from at to : ℕ) (ns : List ℕ) (b : WireBreak) → from ≤ at → at ≤ to → AllByRecursion IsNumber ns → slice_range bytes from at ≡ number_list ns → (at ≡ to → length ns % 2 ≡ 1) → varint_at bytes at to ≡ wire_err b → IsFirstBreak bytes from to b
break_at bytes from at to ns b ordered inside fit spelled owed e =
    let p = placed_break (slice_range bytes at to) at (varint_in (slice_range bytes at to)) b refl e in
    let there : at ≡ b.at = sym p.0 in
    record {
      numbers = ns;
      fit = fit;
      ordered = omega arith;
      within = omega arith;
      spelled = subst (λ (k : ℕ). slice_range bytes from k ≡ number_list ns) there spelled;
      none = subst (λ (k : ℕ). IsNone b.kind (slice_range bytes k to)) there p.1;
      owed = λ h. owed (there ∙ h);
    }

pub break_at_x : (bytes : List ℕ) (at to : ℕ) (b : WireBreak) → at < to → varint_at bytes at to ≡ wire_err b → IsFirstBreak bytes at to b
break_at_x bytes at to b inside e = break_at bytes at at to [] b (omega arith) (omega arith) tt (range-none bytes at) (λ h. absurd (omega arith)) e

spelled_is : (bytes : List ℕ) (at to n next : ℕ) → IsSpelledAt bytes at to n next → slice_range bytes at next ≡ varint n
spelled_is bytes at to n next s = varint_only (slice_range bytes at next) n s.0 s.2

spelled_some : (bytes : List ℕ) (at to n next : ℕ) → IsSpelledAt bytes at to n next → at < next
spelled_some bytes at to n next s = omega (arith, IsVarint-length (slice_range bytes at next) n s.2, length-take (next - at) (drop at bytes))

pub break_at_y : (bytes : List ℕ) (at to n mid : ℕ) (b : WireBreak) → IsSpelledAt bytes at to n mid → varint_at bytes mid to ≡ wire_err b → IsFirstBreak bytes at to b
break_at_y bytes at to n mid b s e =
    let some = spelled_some bytes at to n mid s in
    break_at bytes at mid to (n ∷ []) b (omega arith) s.1 (s.0, tt) (spelled_is bytes at to n mid s ∙ sym (append-nil (varint n))) (λ h. refl) e

pub step_at : (bytes : List ℕ) (at to n mid m : ℕ) (step : Step) → IsSpelledAt bytes at to n mid → IsSpelledAt bytes mid to m step.next → step.x ≡ unzigzag n → step.y ≡ unzigzag m → IsStepAt bytes at to step
step_at bytes at to n mid m step a b east south =
    let first = spelled_some bytes at to n mid a in
    let second = spelled_some bytes mid to m step.next b in
    record {
      x = n;
      y = m;
      x_fits = a.0;
      y_fits = b.0;
      east = east;
      south = south;
      starts = omega arith;
      ends = b.1;
      spelled = range-join bytes at mid step.next (omega arith) (omega arith) ∙ ap (λ (t : List ℕ). t ++ slice_range bytes mid step.next) (spelled_is bytes at to n mid a) ∙ ap (λ (t : List ℕ). varint n ++ t) (spelled_is bytes mid to m step.next b);
    }

pub step_pairs : (bytes : List ℕ) (at to : ℕ) (step : Step) (s : IsStepAt bytes at to step) → ArePairs (slice_range bytes at step.next) (s.x ∷ s.y ∷ [])
step_pairs bytes at to step s = record {
  fit = (s.x_fits, (s.y_fits, tt));
  spelled = s.spelled ∙ ap (λ (t : List ℕ). varint s.x ++ t) (sym (append-nil (varint s.y)));
  whole = refl;
}

-- ---- pairs

-- pairs up to a place
pub record PairsUpTo (bytes : List ℕ) (from at to : ℕ) : Type 0 where
  pub ordered : from ≤ at
  pub inside : at ≤ to
  pub numbers : List ℕ
  pub pairs : ArePairs (slice_range bytes from at) numbers

pub pairs_none : (bytes : List ℕ) (from to : ℕ) → from ≤ to → PairsUpTo bytes from from to
pairs_none bytes from to ordered = record { ordered = omega arith; inside = ordered; numbers = []; pairs = subst (λ (t : List ℕ). ArePairs t []) (sym (range-none bytes from)) no_pairs }

joined : (bytes : List ℕ) (from mid end : ℕ) (ns ms : List ℕ) → from ≤ mid → mid ≤ end → ArePairs (slice_range bytes from mid) ns → ArePairs (slice_range bytes mid end) ms → ArePairs (slice_range bytes from end) (ns ++ ms)
joined bytes from mid end ns ms first second a b =
    subst (λ (t : List ℕ). ArePairs t (ns ++ ms)) (sym (range-join bytes from mid end first second)) (pairs_append (slice_range bytes from mid) (slice_range bytes mid end) ns ms a b)

pub pairs_more : (bytes : List ℕ) (from at to : ℕ) (step : Step) → PairsUpTo bytes from at to → IsStepAt bytes at to step → PairsUpTo bytes from step.next to
pairs_more bytes from at to step p s =
    let starts = s.starts in
    record {
      ordered = omega (arith, p.ordered);
      inside = s.ends;
      numbers = p.numbers ++ s.x ∷ s.y ∷ [];
      pairs = joined bytes from at step.next p.numbers (s.x ∷ s.y ∷ []) p.ordered (omega arith) p.pairs (step_pairs bytes at to step s);
    }

pub pairs_all : (bytes : List ℕ) (from at to : ℕ) → PairsUpTo bytes from at to → to ≤ at → ArePairsOfSome (slice_range bytes from to)
pairs_all bytes from at to p end =
    let there : at ≡ to = omega (arith, p.inside) in
    (p.numbers, subst (λ (k : ℕ). ArePairs (slice_range bytes from k) p.numbers) there p.pairs)

pub pairs_break : (bytes : List ℕ) (from at to : ℕ) (b : WireBreak) → PairsUpTo bytes from at to → IsFirstBreak bytes at to b → IsFirstBreak bytes from to b
pairs_break bytes from at to b p x = later_break bytes from at to p.numbers b p.ordered p.pairs x

-- ---- points

-- points up to a place, and the last of them
pub record PointsUpTo (bytes : List ℕ) (from at to : ℕ) (points : List Point) (last : Point) : Type 0 where
  pub ordered : from ≤ at
  pub inside : at ≤ to
  pub numbers : List ℕ
  pub pairs : ArePairs (slice_range bytes from at) numbers
  pub there : (more : List ℕ) → places (numbers ++ more) ≡ map place_of points ++ places_from (place_of last) more
  pub in_grid : AllByRecursion IsInGrid points
  pub last_in : IsInGrid last

pub points_none : (bytes : List ℕ) (from to : ℕ) → from ≤ to → PointsUpTo bytes from from to [] (record { x = 0; y = 0 })
points_none bytes from to ordered = record {
  ordered = omega arith;
  inside = ordered;
  numbers = [];
  pairs = subst (λ (t : List ℕ). ArePairs t []) (sym (range-none bytes from)) no_pairs;
  there = λ more. refl;
  in_grid = tt;
  last_in = (omega arith, omega arith);
}

in_grid_more : (ps : List Point) (p : Point) → AllByRecursion IsInGrid ps → IsInGrid p → AllByRecursion IsInGrid (ps ++ p ∷ [])
in_grid_more [] p inside here = (here, tt)
in_grid_more (q ∷ ps) p inside here = (inside.0, in_grid_more ps p inside.1 here)

map_more : (ps : List Point) (p : Point) (rest : List Place) → map place_of ps ++ place_of p ∷ rest ≡ map place_of (ps ++ p ∷ []) ++ rest
map_more [] p rest = refl
map_more (q ∷ ps) p rest = ap (λ (ts : List Place). place_of q ∷ ts) (map_more ps p rest)

-- where the next step leads
led : (bytes : List ℕ) (from at to : ℕ) (points : List Point) (last : Point) (step : Step) (p : PointsUpTo bytes from at to points last) (s : IsStepAt bytes at to step) (more : List ℕ)
    → places ((p.numbers ++ s.x ∷ s.y ∷ []) ++ more) ≡ map place_of points ++ moved (place_of last) step.x step.y ∷ places_from (moved (place_of last) step.x step.y) more
led bytes from at to points last step p s more =
    ap places (append_assoc p.numbers (s.x ∷ s.y ∷ []) more)
    ∙ p.there (s.x ∷ s.y ∷ more)
    ∙ ap (λ (v : ℤ). map place_of points ++ places_behind v (unzigzag s.y)) (sym s.east)
    ∙ ap (λ (v : ℤ). map place_of points ++ places_behind step.x v) (sym s.south)
  where
    places_behind : ℤ → ℤ → List Place
    places_behind east south = moved (place_of last) east south ∷ places_from (moved (place_of last) east south) more

pub points_more : (bytes : List ℕ) (from at to : ℕ) (points : List Point) (last : Point) (step : Step) (point : Point) → PointsUpTo bytes from at to points last → IsStepAt bytes at to step → IsInGrid point → place_of point ≡ moved (place_of last) step.x step.y → PointsUpTo bytes from step.next to (points ++ point ∷ []) point
points_more bytes from at to points last step point p s inside there =
    let starts = s.starts in
    record {
      ordered = omega (arith, p.ordered);
      inside = s.ends;
      numbers = p.numbers ++ s.x ∷ s.y ∷ [];
      pairs = joined bytes from at step.next p.numbers (s.x ∷ s.y ∷ []) p.ordered (omega arith) p.pairs (step_pairs bytes at to step s);
      there = λ more. led bytes from at to points last step p s more ∙ ap (λ (t : Place). map place_of points ++ t ∷ places_from t more) (sym there) ∙ map_more points point (places_from (place_of point) more);
      in_grid = in_grid_more points point p.in_grid inside;
      last_in = inside;
    }

pub points_all : (bytes : List ℕ) (from at to : ℕ) (points : List Point) (last : Point) → PointsUpTo bytes from at to points last → to ≤ at → ArePoints (slice_range bytes from to) points
points_all bytes from at to points last p end =
    let there : at ≡ to = omega (arith, p.inside) in
    record {
      numbers = p.numbers;
      pairs = subst (λ (k : ℕ). ArePairs (slice_range bytes from k) p.numbers) there p.pairs;
      there = ap places (sym (append-nil p.numbers)) ∙ p.there [] ∙ append-nil (map place_of points);
      in_grid = p.in_grid;
    }

pub points_off : (bytes : List ℕ) (from at to : ℕ) (points : List Point) (last : Point) (step : Step) → PointsUpTo bytes from at to points last → IsStepAt bytes at to step → (IsOnGrid (moved (place_of last) step.x step.y) → ⊥) → ArePairsOfSome (slice_range bytes step.next to) → IsFirstOffGrid (slice_range bytes from to) (length points)
points_off bytes from at to points last step p s off rest =
    let starts = s.starts in
    let up : ArePairs (slice_range bytes from step.next) (p.numbers ++ s.x ∷ s.y ∷ []) = joined bytes from at step.next p.numbers (s.x ∷ s.y ∷ []) p.ordered (omega arith) p.pairs (step_pairs bytes at to step s) in
    let to_there = moved (place_of last) step.x step.y in
    record {
      numbers = (p.numbers ++ s.x ∷ s.y ∷ []) ++ rest.0;
      pairs = joined bytes from step.next to (p.numbers ++ s.x ∷ s.y ∷ []) rest.0 (omega (arith, p.ordered)) s.ends up rest.1;
      first = subst (IsFirstOff (length points)) (sym (led bytes from at to points last step p s rest.0)) (off_behind points to_there (places_from to_there rest.0) p.in_grid off);
    }

pub points_break : (bytes : List ℕ) (from at to : ℕ) (points : List Point) (last : Point) (b : WireBreak) → PointsUpTo bytes from at to points last → IsFirstBreak bytes at to b → IsFirstBreak bytes from to b
points_break bytes from at to points last b p x = later_break bytes from at to p.numbers b p.ordered p.pairs x

pub points_break_behind : (bytes : List ℕ) (from at to : ℕ) (points : List Point) (last : Point) (step : Step) (b : WireBreak) → PointsUpTo bytes from at to points last → IsStepAt bytes at to step → IsFirstBreak bytes step.next to b → IsFirstBreak bytes from to b
points_break_behind bytes from at to points last step b p s x =
    let starts = s.starts in
    later_break bytes from at to p.numbers b p.ordered p.pairs (later_break bytes at step.next to (s.x ∷ s.y ∷ []) b (omega arith) (step_pairs bytes at to step s) x)

-- A list of numbers is read exactly where its spelling stands.
use Rattle.std.proofs.Common.{◌≡◌, ℕ, zero, suc, ◌+◌, ◌-◌, ◌%◌, ◌^◌, ◌<◌, ◌≤◌, false, List, [], ◌∷◌, ◌++◌, length, Result, Ok, Err, refl, sym, ap, subst, ◌∙◌, inl, inr, arith}
use Rattle.std.specs.Prelude.{◌==◌, slice_range, flat_map}
use Rattle.std.specs.List.{AllByRecursion}
use Rattle.std.proofs.lemmas.Bool.{eqb-true, eq-eqb, ne_eqb}
use Rattle.obf_wire.specs.declared.breaks.WireBreak.{WireBreak}
use Rattle.obf_wire.specs.declared.file.FileBreak.{FileBreak}
use Rattle.obf_wire.specs.Varint.{IsSpelledAt, IsVarint, varint, varint_at}
use Rattle.obf_wire.specs.Fields.{Window, IsWindow, left_of}
use Rattle.obf_wire.proofs.Places.{Found, IsVarint-length, found_at, only_at}
use Rattle.obf_wire.proofs.Writing.{varint_spelled, varint_only}
use Rattle.coord_delta.proofs.NumberLists.{range-join, length-range, range-none}
use Rattle.file_grammar.specs.declared.parts.Group.{Group}
use Rattle.file_grammar.specs.Tables.{group_size}
use Rattle.file_grammar.specs.Readings.{◌>>=◌, of_file, numbers_up_to, numbers_at, in_groups, groups_at}
use Rattle.file_grammar.proofs.Inside.{chosen, number_inside}
use Rattle.file_grammar.proofs.Ranges.{range-parts}

pub parted : {A B : Type 0} (r : Result A FileBreak) (f : A → Result B FileBreak) (y : B) → (r >>= f) ≡ Ok y → (x : A) × (r ≡ Ok x) × (f x ≡ Ok y)
parted (Ok x) f y e = (x, refl, e)
parted (Err b) f y e = absurd cc

wire_parted : {A : Type 0} (r : Result A WireBreak) (x : A) → of_file r ≡ Ok x → r ≡ Ok x
wire_parted {A = A} (Ok y) x e = let f : Result A FileBreak → A = λ r. elim r [ Ok z ↦ z | Err k ↦ y ] in ap (λ (z : A). Ok z) (ap f e)
wire_parted (Err b) x e = absurd cc

abbrev room : Window → ℕ
room w = w.end - w.place

abbrev at_place : Window → ℕ → Window
at_place w next = record w { place = next }

abbrev numbers_ok : List ℕ → Result (List ℕ) FileBreak
numbers_ok ns = Ok ns

same_numbers : (a b : List ℕ) → numbers_ok a ≡ numbers_ok b → a ≡ b
same_numbers a b e = cc

-- numbers of 64 bits, and their spellings one after another
pub record AreSpelled (bytes : List ℕ) (ns : List ℕ) : Type 0 where
  pub fit : AllByRecursion (λ n. n < 2 ^ 64) ns
  pub spelled : bytes ≡ flat_map varint ns

none_spelled : (w : Window) (ns : List ℕ) → w.place ≡ w.end → numbers_ok [] ≡ numbers_ok ns → AreSpelled (left_of w) ns
none_spelled w ns here e =
    subst (AreSpelled (left_of w)) (same_numbers [] ns e) (record { fit = tt; spelled = ap (λ (k : ℕ). slice_range w.bytes w.place k) (sym here) ∙ range-none w.bytes w.place })

-- one number stands before others
one_spelled : (w : Window) (n next : ℕ) (ns : List ℕ) → IsWindow w → varint_at w.bytes w.place w.end ≡ Ok (n, next) → AreSpelled (slice_range w.bytes next w.end) ns → AreSpelled (left_of w) (n ∷ ns)
one_spelled w n next ns window e others =
    let found : IsSpelledAt w.bytes w.place w.end n next = subst (Found w.bytes w.place w.end) e (found_at w.bytes w.place w.end window.ordered window.within) in
    let i = number_inside w.bytes w.place w.end n next window.ordered window.within e in
    record {
      fit = (found.0, others.fit);
      spelled = range-join w.bytes w.place next w.end (omega (arith, i.0)) i.1
          ∙ ap (λ (t : List ℕ). t ++ slice_range w.bytes next w.end) (varint_only (slice_range w.bytes w.place next) n found.0 found.2)
          ∙ ap (λ (t : List ℕ). varint n ++ t) others.spelled;
    }

run_spelled : (fuel : ℕ) (w : Window) (ns : List ℕ) → IsWindow w → room w ≤ fuel → numbers_up_to fuel w ≡ Ok ns → AreSpelled (left_of w) ns
run_spelled zero w ns window enough e = none_spelled w ns (omega (arith, window.ordered, enough)) e
run_spelled (suc fuel) w ns window enough e =
    elim (chosen (w.place == w.end) _ _ (numbers_ok ns) e) [
      | inl c ↦ none_spelled w ns (eqb-true w.place w.end c.0) c.1
      | inr c ↦
          let one = parted (of_file (varint_at w.bytes w.place w.end)) _ ns c.1 in
          let read = wire_parted (varint_at w.bytes w.place w.end) one.0 one.1 in
          let others = parted (numbers_up_to fuel (at_place w one.0.1)) _ ns one.2 in
          let i = number_inside w.bytes w.place w.end one.0.0 one.0.1 window.ordered window.within read in
          let behind = run_spelled fuel (at_place w one.0.1) others.0 (record { ordered = i.1; within = window.within }) (omega (arith, i.0, i.1, enough)) others.1 in
          subst (AreSpelled (left_of w)) (same_numbers (one.0.0 ∷ others.0) ns others.2) (one_spelled w one.0.0 one.0.1 others.0 window read behind)
    ]

-- the first number is read, and the others stand behind it
record FirstRead (w : Window) (n : ℕ) (ns : List ℕ) : Type 0 where
  pub read : varint_at w.bytes w.place w.end ≡ Ok (n, w.place + length (varint n))
  pub starts : 0 < length (varint n)
  pub ends : w.place + length (varint n) ≤ w.end
  pub behind : AreSpelled (slice_range w.bytes (w.place + length (varint n)) w.end) ns

first_read : (w : Window) (n : ℕ) (ns : List ℕ) → IsWindow w → AreSpelled (left_of w) (n ∷ ns) → FirstRead w n ns
first_read w n ns window s =
    let parts = range-parts w.bytes w.place w.end (varint n) (flat_map varint ns) window.ordered window.within s.spelled in
    let spelled = varint_spelled n s.fit.0 in
    record {
      read = only_at w.bytes w.place w.end n (w.place + length (varint n)) window.ordered window.within (s.fit.0, parts.0, subst (λ (t : List ℕ). IsVarint t n) (sym parts.1) spelled);
      starts = IsVarint-length (varint n) n spelled;
      ends = parts.0;
      behind = record { fit = s.fit.1; spelled = parts.2 };
    }

run_read : (ns : List ℕ) (fuel : ℕ) (w : Window) → IsWindow w → room w ≤ fuel → AreSpelled (left_of w) ns → numbers_up_to fuel w ≡ Ok ns
run_read [] zero w window enough s = refl
run_read [] (suc fuel) w window enough s =
    let size : w.end - w.place ≡ 0 = sym (length-range w.bytes w.place w.end window.ordered window.within) ∙ ap length s.spelled in
    rw (eq-eqb w.place w.end (omega (arith, size, window.ordered))) refl
run_read (n ∷ ns) zero w window enough s = let first = first_read w n ns window s in absurd (omega (arith, first.starts, first.ends, enough))
run_read (n ∷ ns) (suc fuel) w window enough s =
    let first = first_read w n ns window s in
    let apart : (w.place == w.end) ≡ false = ne_eqb w.place w.end (λ same. absurd (omega (arith, same, first.starts, first.ends))) in
    let window_behind : IsWindow (at_place w (w.place + length (varint n))) = record { ordered = first.ends; within = window.within } in
    let others = run_read ns fuel (at_place w (w.place + length (varint n))) window_behind (omega (arith, first.starts, first.ends, enough)) first.behind in
    rw (apart, first.read, others) refl

-- a list is read exactly where it stands in whole groups
pub list_spelled : (group : Group) (w : Window) (ns : List ℕ) → IsWindow w → groups_at group w ≡ Ok ns → (length ns % group_size group ≡ 0) × AreSpelled (left_of w) ns
list_spelled group w ns window e =
    let all = parted (numbers_at w) (in_groups group w) ns e in
    elim (chosen (length all.0 % group_size group == 0) _ _ (numbers_ok ns) all.2) [
      | inl c ↦
          let same = same_numbers all.0 ns c.1 in
          let spelled = run_spelled (room w) w all.0 window (omega arith) all.1 in
          (subst (λ (t : List ℕ). length t % group_size group ≡ 0) same (eqb-true (length all.0 % group_size group) 0 c.0), subst (AreSpelled (left_of w)) same spelled)
      | inr c ↦ absurd cc
    ]

pub list_read : (group : Group) (w : Window) (ns : List ℕ) → IsWindow w → length ns % group_size group ≡ 0 → AreSpelled (left_of w) ns → groups_at group w ≡ Ok ns
list_read group w ns window whole s =
    ap (λ (r : Result (List ℕ) FileBreak). r >>= in_groups group w) (run_read ns (room w) w window (omega arith) s)
    ∙ rw (eq-eqb (length ns % group_size group) 0 whole) refl

-- The field that is read is the next one, and the next one is read.
use Rattle.std.proofs.Common.{◌≡◌, ℕ, ◌+◌, ◌-◌, ◌*◌, ◌%◌, ◌^◌, ◌<◌, ◌≤◌, Bool, true, false, cond, List, [], ◌∷◌, ◌++◌, length, get_or, take, drop, Option, Some, None, Result, Ok, Err, refl, sym, ap, subst, ◌∙◌, ◌⊎◌, inl, inr, append_assoc, le_of_lt, arith}
use Rattle.std.specs.Prelude.{IsTrue, IfOk, IfSome, ◌↔◌, slice_range, nat_lt, ◌==◌}
use Rattle.std.specs.Int.{w64, to_be_bytes, from_be_bytes}
use Rattle.std.proofs.lemmas.Bool.{cases_lt, ltb-false, le-ltb, eqb-true, eq-eqb, ne_eqb}
use Rattle.std.proofs.lemmas.List.{length-append, length-take, get_or-drop, get_or-take, get_or_past, take_at, drop_at, drop-drop}
use Rattle.std.proofs.lemmas.Nat.{be_bytes_8, from_be_bytes-to_be_bytes_8}
use Rattle.std.proofs.Math.Seq.{take-add}
use Rattle.obf_wire.specs.declared.breaks.WireBreak.{WireBreak}
use Rattle.obf_wire.specs.declared.field.Field.{Field}
use Rattle.obf_wire.specs.Varint.{IsVarint, IsSpelledAt, varint, varint_at, short_at}
use Rattle.obf_wire.specs.Fields.{Window, IsWindow, IsNextField, is_among, content, payload_len, field_spelling, section, left_of, field_of, bad_key_at, over_end_at, ◌>>=◌, length_at, content_at, filled, keyed, field_at}
use Rattle.obf_wire.proofs.Places.{Found, IsVarint-length, found_at, only_at, length-range}
use Rattle.obf_wire.proofs.Writing.{varint_spelled, varint_only}

abbrev pub IsBytes : List ℕ → Type 0
IsBytes bytes = (i : ℕ) → get_or bytes i 0 < 256

IsBytes-range : (bytes : List ℕ) (at end : ℕ) → IsBytes bytes → IsBytes (slice_range bytes at end)
IsBytes-range bytes at end fits i =
    elim (cases_lt i (end - at)) [
      | inl lt ↦ rw (get_or-take (end - at) (drop at bytes) i 0 lt, get_or-drop) (fits (at + i))
      | inr le ↦ rw (get_or_past (slice_range bytes at end) i 0 (omega (arith, length-take (end - at) (drop at bytes)))) (omega arith)
    ]

-- ---- answers by cases

abbrev ok : ℕ × ℕ → Result (ℕ × ℕ) WireBreak
ok x = Ok x

abbrev some : Field → Result (Option Field) WireBreak
some f = Ok (Some f)

bind_ok : {A B : Type 0} (read : Result A WireBreak) (f : A → Result B WireBreak) (y : B) → (read >>= f) ≡ Ok y → (x : A) × (read ≡ Ok x) × (f x ≡ Ok y)
bind_ok (Ok x) f y e = (x, refl, e)
bind_ok (Err b) f y e = absurd cc

chosen : {A : Type 0} (test : Bool) (x y z : A) → cond test x y ≡ z → ((test ≡ true) × (x ≡ z)) ⊎ ((test ≡ false) × (y ≡ z))
chosen true x y z e = inl (refl, e)
chosen false x y z e = inr (refl, e)

ok_is : (a b c d : ℕ) → ok (a, b) ≡ ok (c, d) → (a ≡ c) × (b ≡ d)
ok_is a b c d e = let f : Result (ℕ × ℕ) WireBreak → ℕ × ℕ = λ r. elim r [ Ok x ↦ x | Err k ↦ (0, 0) ] in (ap (λ r. (f r).0) e, ap (λ r. (f r).1) e)

below_64 : (bytes : List ℕ) → IsBytes bytes → from_be_bytes w64 bytes < 2 ^ 64
below_64 bytes fits = omega (arith, fits 0, fits 1, fits 2, fits 3, fits 4, fits 5, fits 6, fits 7)

-- ---- parts of the bytes

range-join : (bytes : List ℕ) (at mid end : ℕ) → at ≤ mid → mid ≤ end → slice_range bytes at end ≡ slice_range bytes at mid ++ slice_range bytes mid end
range-join bytes at mid end first second =
    let parts : end - at ≡ (mid - at) + (end - mid) = omega arith in
    let there : at + (mid - at) ≡ mid = omega arith in
    ap (λ (k : ℕ). take k (drop at bytes)) parts ∙ take-add (mid - at) (end - mid) (drop at bytes) ∙ ap (λ (t : List ℕ). take (mid - at) (drop at bytes) ++ take (end - mid) t) (drop-drop (mid - at) at bytes ∙ ap (λ (k : ℕ). drop k bytes) there)

-- what is spelled first, and what behind it
range-front : (bytes : List ℕ) (at end : ℕ) (front rest : List ℕ) → at ≤ end → end ≤ length bytes → slice_range bytes at end ≡ front ++ rest → (at + length front ≤ end) × (slice_range bytes at (at + length front) ≡ front) × (slice_range bytes (at + length front) end ≡ rest)
range-front bytes at end front rest from_in end_in e =
    let size : end - at ≡ length front + length rest = sym (length-range bytes at end from_in end_in) ∙ ap length e ∙ length-append front rest in
    let inside : at + length front ≤ end = omega arith in
    let join = range-join bytes at (at + length front) end (omega arith) inside in
    let len : length (slice_range bytes at (at + length front)) ≡ length front = omega (arith, length-range bytes at (at + length front) (omega arith) (omega arith)) in
    let both : slice_range bytes at (at + length front) ++ slice_range bytes (at + length front) end ≡ front ++ rest = sym join ∙ e in (
      inside,
      sym (take_at (slice_range bytes at (at + length front)) (slice_range bytes (at + length front) end) (length front) len) ∙ ap (take (length front)) both ∙ take_at front rest (length front) refl,
      sym (drop_at (slice_range bytes at (at + length front)) (slice_range bytes (at + length front) end) (length front) len) ∙ ap (drop (length front)) both ∙ drop_at front rest (length front) refl,
    )

-- ---- what is read

-- a number or a length stands from one place up to the next, before the end
pub record Stands (bytes : List ℕ) (at end : ℕ) (spelled : List ℕ) (n next : ℕ) : Type 0 where
  pub fits : n < 2 ^ 64
  pub starts : at < next
  pub ends : next ≤ end
  pub there : slice_range bytes at next ≡ spelled

varint_stands : (bytes : List ℕ) (at end n next : ℕ) → at ≤ end → end ≤ length bytes → varint_at bytes at end ≡ ok (n, next) → Stands bytes at end (varint n) n next
varint_stands bytes at end n next from_in end_in e =
    let found : IsSpelledAt bytes at end n next = subst (λ (r : Result (ℕ × ℕ) WireBreak). Found bytes at end r) e (found_at bytes at end from_in end_in) in
    let there = varint_only (slice_range bytes at next) n found.0 found.2 in
    record { fits = found.0; starts = omega (arith, IsVarint-length (slice_range bytes at next) n found.2, length-take (next - at) (drop at bytes)); ends = found.1; there = there }

length_stands : (bytes : List ℕ) (at end n next : ℕ) → IsBytes bytes → at ≤ end → end ≤ length bytes → length_at bytes at end ≡ ok (n, next) → Stands bytes at end (to_be_bytes w64 n) n next
length_stands bytes at end n next fits from_in end_in e =
    elim (chosen (nat_lt (end - at) 8) (Err (short_at at)) (ok (from_be_bytes w64 (slice_range bytes at (at + 8)), at + 8)) (ok (n, next)) e) [
      | inl c ↦ absurd cc
      | inr c ↦
          let long : 8 ≤ end - at = ltb-false _ _ c.0 in
          let same = ok_is _ _ n next c.1 in
          let front = slice_range bytes at (at + 8) in
          let len : length front ≡ 8 = omega (arith, length-range bytes at (at + 8) (omega arith) (omega arith)) in
          let in_bytes = IsBytes-range bytes at (at + 8) fits in
          let here : Stands bytes at end (to_be_bytes w64 (from_be_bytes w64 front)) (from_be_bytes w64 front) (at + 8) = record {
            fits = below_64 front in_bytes;
            starts = omega arith;
            ends = omega arith;
            there = sym (be_bytes_8 front (from_be_bytes w64 front) len in_bytes refl);
          } in
          subst (λ (k : ℕ). Stands bytes at end (to_be_bytes w64 n) n k) same.1 (subst (λ (k : ℕ). Stands bytes at end (to_be_bytes w64 k) k (at + 8)) same.0 here)
    ]

content_stands : (bytes : List ℕ) (key at end n next : ℕ) → IsBytes bytes → at ≤ end → end ≤ length bytes → content_at bytes key at end ≡ ok (n, next) → Stands bytes at end (content key n) n next
content_stands bytes key at end n next fits from_in end_in e = by_type (key % 8 == 6) e
  where
    by_type : (test : Bool) → cond test (length_at bytes at end) (varint_at bytes at end) ≡ ok (n, next) → Stands bytes at end (cond test (to_be_bytes w64 n) (varint n)) n next
    by_type true e = length_stands bytes at end n next fits from_in end_in e
    by_type false e = varint_stands bytes at end n next from_in end_in e

some_is : (f g : Field) → some f ≡ some g → f ≡ g
some_is f g e = cc

filled_is : (bytes : List ℕ) (at key end value from : ℕ) (f : Field) → filled at key end (value, from) ≡ some f → (payload_len key value ≤ end - from) × (record { key = key; at = at; value = value; from = from; to = from + payload_len key value } ≡ f)
filled_is bytes at key end value from f e =
    elim (chosen (nat_lt (end - from) (payload_len key value)) (Err (over_end_at at)) (some (record { key = key; at = at; value = value; from = from; to = from + payload_len key value })) (some f) e) [
      | inl c ↦ absurd cc
      | inr c ↦ (ltb-false _ _ c.0, some_is _ f c.1)
    ]

-- the key is read, then what stands behind it, then there is room for the payload
read_keyed : (w : Window) (allowed : List ℕ) (f : Field) → IsWindow w → IsBytes w.bytes → (varint_at w.bytes w.place w.end >>= keyed w.bytes w.place w.end allowed) ≡ some f → IsNextField w allowed f
read_keyed w allowed f window fits e =
    let k = bind_ok (varint_at w.bytes w.place w.end) (keyed w.bytes w.place w.end allowed) (Some f) e in
    let key = k.0.0 in
    let next = k.0.1 in
    let ks = varint_stands w.bytes w.place w.end key next window.ordered window.within k.1 in
    elim (chosen (is_among allowed key) (content_at w.bytes key next w.end >>= filled w.place key w.end) (Err (bad_key_at w.place)) (some f) k.2) [
      | inl c ↦
          let v = bind_ok (content_at w.bytes key next w.end) (filled w.place key w.end) (Some f) c.1 in
          let value = v.0.0 in
          let from = v.0.1 in
          let vs = content_stands w.bytes key next w.end value from fits ks.ends window.within v.1 in
          let r = filled_is w.bytes w.place key w.end value from f v.2 in
          let here : IsNextField w allowed (record { key = key; at = w.place; value = value; from = from; to = from + payload_len key value }) = record {
            place = refl;
            among = c.0;
            key_fits = ks.fits;
            value_fits = vs.fits;
            spelled = range-join w.bytes w.place next from (le_of_lt ks.starts) (le_of_lt vs.starts) ∙ ap (λ (t : List ℕ). t ++ slice_range w.bytes next from) ks.there ∙ ap (λ (t : List ℕ). varint key ++ t) vs.there;
            payload = refl;
            inside = (omega (arith, ks.starts, vs.starts), omega (arith, r.0, vs.ends));
          } in
          subst (IsNextField w allowed) r.1 here
      | inr c ↦ absurd cc
    ]

pub field_found : (w : Window) (allowed : List ℕ) (may_end : Bool) (f : Field) → IsWindow w → IsBytes w.bytes → field_at w allowed may_end ≡ some f → IsNextField w allowed f
unfolding field_at
field_found w allowed may_end f window fits e =
    elim (chosen (w.place == w.end) _ _ (some f) e) [
      | inl c ↦ elim (chosen may_end (Ok None) (Err (short_at w.end)) (some f) c.1) [ inl d ↦ absurd cc | inr d ↦ absurd cc ]
      | inr c ↦ elim (chosen (length allowed == 0) (Err (bad_key_at w.place)) (varint_at w.bytes w.place w.end >>= keyed w.bytes w.place w.end allowed) (some f) c.1) [
        | inl d ↦ absurd cc
        | inr d ↦ read_keyed w allowed f window fits d.1
      ]
    ]

-- ---- what stands there

varint_again_at : (bytes : List ℕ) (at end n next : ℕ) → at ≤ end → end ≤ length bytes → next ≤ end → n < 2 ^ 64 → slice_range bytes at next ≡ varint n → varint_at bytes at end ≡ ok (n, next)
varint_again_at bytes at end n next from_in end_in inside fits e =
    only_at bytes at end n next from_in end_in (fits, inside, subst (λ (t : List ℕ). IsVarint t n) (sym e) (varint_spelled n fits))

length_again_at : (bytes : List ℕ) (at end n next : ℕ) → at ≤ next → next ≤ end → end ≤ length bytes → n < 2 ^ 64 → slice_range bytes at next ≡ to_be_bytes w64 n → length_at bytes at end ≡ ok (n, next)
length_again_at bytes at end n next from_in inside end_in fits e =
    let size : next - at ≡ 8 = sym (length-range bytes at next from_in (omega arith)) ∙ ap length e in
    let there : at + 8 ≡ next = omega arith in
    let room : nat_lt (end - at) 8 ≡ false = le-ltb _ _ (omega arith) in
    let value : from_be_bytes w64 (slice_range bytes at next) ≡ n = ap (from_be_bytes w64) e ∙ from_be_bytes-to_be_bytes_8 n fits in
    rw (room, there, value) refl

content_again_at : (bytes : List ℕ) (key at end n next : ℕ) → at ≤ next → next ≤ end → end ≤ length bytes → n < 2 ^ 64 → slice_range bytes at next ≡ content key n → content_at bytes key at end ≡ ok (n, next)
content_again_at bytes key at end n next from_in inside end_in fits e = by_type (key % 8 == 6) e
  where
    by_type : (test : Bool) → slice_range bytes at next ≡ cond test (to_be_bytes w64 n) (varint n) → cond test (length_at bytes at end) (varint_at bytes at end) ≡ ok (n, next)
    by_type true e = length_again_at bytes at end n next from_in inside end_in fits e
    by_type false e = varint_again_at bytes at end n next (omega arith) end_in inside fits e

is_among-some : (allowed : List ℕ) (key : ℕ) → is_among allowed key ≡ true → (length allowed == 0) ≡ false
is_among-some [] key e = absurd cc
is_among-some (k ∷ allowed) key e = ne_eqb _ _ (λ h. absurd (omega arith))

read_again_keyed : (w : Window) (allowed : List ℕ) (f : Field) → IsWindow w → IsNextField w allowed f → (varint_at w.bytes w.place w.end >>= keyed w.bytes w.place w.end allowed) ≡ some f
read_again_keyed w allowed f window next =
    let spelled : slice_range w.bytes w.place f.from ≡ varint f.key ++ content f.key f.value = subst (λ (k : ℕ). slice_range w.bytes k f.from ≡ varint f.key ++ content f.key f.value) next.place next.spelled in
    let from_in : w.place ≤ f.from = omega (arith, next.place, next.inside.0) in
    let from_end : f.from ≤ w.end = omega (arith, next.payload, next.inside.1) in
    let parts = range-front w.bytes w.place f.from (varint f.key) (content f.key f.value) from_in (omega (arith, window.within)) spelled in
    let mid : ℕ = w.place + length (varint f.key) in
    let key_read : varint_at w.bytes w.place w.end ≡ ok (f.key, mid) = varint_again_at w.bytes w.place w.end f.key mid window.ordered window.within (omega (arith, parts.0)) next.key_fits parts.1 in
    let value_read : content_at w.bytes f.key mid w.end ≡ ok (f.value, f.from) = content_again_at w.bytes f.key mid w.end f.value f.from parts.0 from_end window.within next.value_fits parts.2 in
    let room : nat_lt (w.end - f.from) (payload_len f.key f.value) ≡ false = le-ltb _ _ (omega (arith, next.payload, next.inside.1)) in
    let whole : filled w.place f.key w.end (f.value, f.from) ≡ some f = rw (room, ← next.place, ← next.payload) refl in
    ap (λ (r : Result (ℕ × ℕ) WireBreak). r >>= keyed w.bytes w.place w.end allowed) key_read
    ∙ ap (λ (t : Bool). cond t (content_at w.bytes f.key mid w.end >>= filled w.place f.key w.end) (Err (bad_key_at w.place))) next.among
    ∙ ap (λ (r : Result (ℕ × ℕ) WireBreak). r >>= filled w.place f.key w.end) value_read
    ∙ whole

pub field_only : (w : Window) (allowed : List ℕ) (may_end : Bool) (f : Field) → IsWindow w → IsNextField w allowed f → field_at w allowed may_end ≡ some f
unfolding field_at
field_only w allowed may_end f window next =
    let apart : (w.place == w.end) ≡ false = ne_eqb _ _ (λ e. omega (arith, next.place, next.inside.0, next.inside.1, next.payload)) in
    rw (apart, is_among-some allowed f.key next.among) (read_again_keyed w allowed f window next)

-- ---- the end

filled_some : (at key end : ℕ) (value : ℕ × ℕ) → filled at key end value ≡ Ok None → ⊥
filled_some at key end (value, from) e =
    elim (chosen (nat_lt (end - from) (payload_len key value)) _ _ (Ok None) e) [ inl c ↦ absurd cc | inr c ↦ absurd cc ]

keyed_some : (bytes : List ℕ) (at end : ℕ) (allowed : List ℕ) (key : ℕ × ℕ) → keyed bytes at end allowed key ≡ Ok None → ⊥
keyed_some bytes at end allowed (key, next) e =
    elim (chosen (is_among allowed key) (content_at bytes key next end >>= filled at key end) (Err (bad_key_at at)) (Ok None) e) [
      | inl c ↦ let v = bind_ok (content_at bytes key next end) (filled at key end) None c.1 in filled_some at key end v.0 v.2
      | inr c ↦ absurd cc
    ]

at_end : (w : Window) (allowed : List ℕ) (may_end : Bool) → field_at w allowed may_end ≡ Ok None → (w.place ≡ w.end) × IsTrue may_end
unfolding field_at
at_end w allowed may_end e =
    elim (chosen (w.place == w.end) _ _ (Ok None) e) [
      | inl c ↦ elim (chosen may_end (Ok None) (Err (short_at w.end)) (Ok None) c.1) [ inl d ↦ (eqb-true _ _ c.0, d.0) | inr d ↦ absurd cc ]
      | inr c ↦ elim (chosen (length allowed == 0) (Err (bad_key_at w.place)) (varint_at w.bytes w.place w.end >>= keyed w.bytes w.place w.end allowed) (Ok None) c.1) [
        | inl d ↦ absurd cc
        | inr d ↦ let k = bind_ok (varint_at w.bytes w.place w.end) (keyed w.bytes w.place w.end allowed) None d.1 in absurd (keyed_some w.bytes w.place w.end allowed k.0 k.2)
      ]
    ]

end_only : (w : Window) (allowed : List ℕ) (may_end : Bool) → (w.place ≡ w.end) × IsTrue may_end → field_at w allowed may_end ≡ Ok None
unfolding field_at
end_only w allowed may_end h =
    let here : (w.place == w.end) ≡ true = eq-eqb _ _ h.0 in
    let may : may_end ≡ true = h.1 in
    rw (here, may) refl

pub field_end : (w : Window) (allowed : List ℕ) (may_end : Bool) → (field_at w allowed may_end ≡ Ok None) ↔ ((w.place ≡ w.end) × IsTrue may_end)
field_end w allowed may_end = (at_end w allowed may_end, end_only w allowed may_end)

pub found_of : (w : Window) (allowed : List ℕ) (may_end : Bool) (read : Result (Option Field) WireBreak) → IsWindow w → IsBytes w.bytes → read ≡ field_at w allowed may_end → IfOk read (λ found. IfSome found (IsNextField w allowed))
found_of w allowed may_end (Err b) window fits e = tt
found_of w allowed may_end (Ok None) window fits e = tt
found_of w allowed may_end (Ok (Some f)) window fits e = field_found w allowed may_end f window fits (sym e)

-- ---- spellings

pub next_of_spelled : (w : Window) (allowed : List ℕ) (key value : ℕ) (payload rest : List ℕ) → IsWindow w → is_among allowed key ≡ true → key < 2 ^ 64 → value < 2 ^ 64 → length payload ≡ payload_len key value
    → left_of w ≡ field_spelling key value payload ++ rest → IsNextField w allowed (field_of w.place key value)
next_of_spelled w allowed key value payload rest window among key_fits value_fits size e =
    let head : List ℕ = varint key ++ content key value in
    let grouped : left_of w ≡ head ++ (payload ++ rest) = e ∙ append_assoc head payload rest in
    let front = range-front w.bytes w.place w.end head (payload ++ rest) window.ordered window.within grouped in
    let behind = range-front w.bytes (w.place + length head) w.end payload rest front.0 window.within front.2 in
    let some : 0 < length head = omega (arith, IsVarint-length (varint key) key (varint_spelled key key_fits), length-append (varint key) (content key value)) in
    record {
      place = refl;
      among = among;
      key_fits = key_fits;
      value_fits = value_fits;
      spelled = front.1;
      payload = refl;
      inside = (omega arith, omega (arith, behind.0, size));
    }

pub spelled_of_next : (w : Window) (allowed : List ℕ) (f : Field) → IsWindow w → IsNextField w allowed f → left_of w ≡ field_spelling f.key f.value (slice_range w.bytes f.from f.to) ++ slice_range w.bytes f.to w.end
spelled_of_next w allowed f window next =
    let first : slice_range w.bytes w.place f.from ≡ varint f.key ++ content f.key f.value = subst (λ (k : ℕ). slice_range w.bytes k f.from ≡ varint f.key ++ content f.key f.value) next.place next.spelled in
    range-join w.bytes w.place f.to w.end (omega (arith, next.place, next.inside.0, next.payload)) next.inside.1
    ∙ ap (λ (t : List ℕ). t ++ slice_range w.bytes f.to w.end) (range-join w.bytes w.place f.from f.to (omega (arith, next.place, next.inside.0)) (omega (arith, next.payload)) ∙ ap (λ (t : List ℕ). t ++ slice_range w.bytes f.from f.to) first)

pub section_is : (number : ℕ) (payload : List ℕ) → section number payload ≡ field_spelling (number * 8 + 6) (length payload) payload
section_is number payload =
    let six : ((number * 8 + 6) % 8 == 6) ≡ true = eq-eqb _ _ (omega arith) in
    rw six refl

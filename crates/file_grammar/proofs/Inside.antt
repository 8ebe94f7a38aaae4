-- A field lies within its window, and takes a byte at least.
use Rattle.std.proofs.Common.{◌≡◌, ℕ, ◌+◌, ◌-◌, ◌%◌, ◌<◌, ◌≤◌, Bool, true, false, cond, List, length, drop, Option, Some, Result, Ok, Err, refl, ap, subst, ◌⊎◌, inl, inr, arith}
use Rattle.std.specs.Prelude.{slice_range, nat_lt, ◌==◌}
use Rattle.std.proofs.lemmas.Bool.{ltb-false}
use Rattle.std.proofs.lemmas.List.{length-take}
use Rattle.obf_wire.specs.declared.breaks.WireBreak.{WireBreak}
use Rattle.obf_wire.specs.declared.field.Field.{Field}
use Rattle.obf_wire.specs.Varint.{IsSpelledAt, varint_at}
use Rattle.obf_wire.specs.Fields.{Window, IsWindow, is_among, payload_len, ◌>>=◌, length_at, content_at, filled, keyed, field_at}
use Rattle.file_grammar.specs.Walks.{IsInside}
use Rattle.obf_wire.proofs.Places.{Found, IsVarint-length, found_at}

abbrev read_to : Option Field → Result (Option Field) WireBreak
read_to x = Ok x

abbrev got : ℕ → ℕ → Result (ℕ × ℕ) WireBreak
got n next = Ok (n, next)

pub chosen : {A : Type 0} (test : Bool) (x y z : A) → cond test x y ≡ z → ((test ≡ true) × (x ≡ z)) ⊎ ((test ≡ false) × (y ≡ z))
chosen true x y z e = inl (refl, e)
chosen false x y z e = inr (refl, e)

parted : {A B : Type 0} (r : Result A WireBreak) (f : A → Result B WireBreak) (y : B) → (r >>= f) ≡ Ok y → (x : A) × (r ≡ Ok x) × (f x ≡ Ok y)
parted (Ok x) f y e = (x, refl, e)
parted (Err b) f y e = absurd cc

same_pair : (a b c d : ℕ) → got a b ≡ got c d → (a ≡ c) × (b ≡ d)
same_pair a b c d e = let f : Result (ℕ × ℕ) WireBreak → ℕ × ℕ = λ r. elim r [ Ok x ↦ x | Err k ↦ (0, 0) ] in (ap (λ r. (f r).0) e, ap (λ r. (f r).1) e)

same_field : (f g : Field) → read_to (Some f) ≡ read_to (Some g) → f ≡ g
same_field f g e = cc

pub number_inside : (bytes : List ℕ) (at end n next : ℕ) → at ≤ end → end ≤ length bytes → varint_at bytes at end ≡ got n next → (at < next) × (next ≤ end)
number_inside bytes at end n next ordered within e =
    let spelled : IsSpelledAt bytes at end n next = subst (Found bytes at end) e (found_at bytes at end ordered within) in
    let some = IsVarint-length (slice_range bytes at next) n spelled.2 in
    (omega (arith, some, length-take (next - at) (drop at bytes)), spelled.1)

length_inside : (bytes : List ℕ) (at end n next : ℕ) → at ≤ end → length_at bytes at end ≡ got n next → (at < next) × (next ≤ end)
length_inside bytes at end n next ordered e =
    elim (chosen (nat_lt (end - at) 8) _ _ (got n next) e) [
      | inl c ↦ absurd cc
      | inr c ↦
          let room = ltb-false _ _ c.0 in
          let same = (same_pair _ _ n next c.1).1 in
          (omega (arith, same), omega (arith, room, same, ordered))
    ]

content_inside : (bytes : List ℕ) (key at end n next : ℕ) → at ≤ end → end ≤ length bytes → content_at bytes key at end ≡ got n next → (at < next) × (next ≤ end)
content_inside bytes key at end n next ordered within e =
    elim (chosen (key % 8 == 6) _ _ (got n next) e) [
      | inl c ↦ length_inside bytes at end n next ordered c.1
      | inr c ↦ number_inside bytes at end n next ordered within c.1
    ]

filled_inside : (w : Window) (key value from : ℕ) (f : Field) → w.place < from → from ≤ w.end → filled w.place key w.end (value, from) ≡ read_to (Some f) → IsInside w f
filled_inside w key value from f starts ends e =
    elim (chosen (nat_lt (w.end - from) (payload_len key value)) _ _ (read_to (Some f)) e) [
      | inl c ↦ absurd cc
      | inr c ↦
          let room = ltb-false _ _ c.0 in
          let here : IsInside w (record { key = key; at = w.place; value = value; from = from; to = from + payload_len key value }) =
          record { place = refl; starts = starts; ordered = omega arith; ends = omega (arith, room, ends) } in
          subst (IsInside w) (same_field _ f c.1) here
    ]

keyed_inside : (w : Window) (allowed : List ℕ) (f : Field) → IsWindow w → (varint_at w.bytes w.place w.end >>= keyed w.bytes w.place w.end allowed) ≡ read_to (Some f) → IsInside w f
keyed_inside w allowed f window e =
    let k = parted (varint_at w.bytes w.place w.end) (keyed w.bytes w.place w.end allowed) (Some f) e in
    let one = number_inside w.bytes w.place w.end k.0.0 k.0.1 window.ordered window.within k.1 in
    elim (chosen (is_among allowed k.0.0) _ _ (read_to (Some f)) k.2) [
      | inl c ↦
          let v = parted (content_at w.bytes k.0.0 k.0.1 w.end) (filled w.place k.0.0 w.end) (Some f) c.1 in
          let two = content_inside w.bytes k.0.0 k.0.1 w.end v.0.0 v.0.1 one.1 window.within v.1 in
          filled_inside w k.0.0 v.0.0 v.0.1 f (omega (arith, one, two)) two.1 v.2
      | inr c ↦ absurd cc
    ]

pub field_inside : (w : Window) (allowed : List ℕ) (may_end : Bool) (f : Field) → IsWindow w → field_at w allowed may_end ≡ read_to (Some f) → IsInside w f
unfolding field_at
field_inside w allowed may_end f window e =
    elim (chosen (w.place == w.end) _ _ (read_to (Some f)) e) [
      | inl c ↦ elim (chosen may_end _ _ (read_to (Some f)) c.1) [ inl d ↦ absurd cc | inr d ↦ absurd cc ]
      | inr c ↦ elim (chosen (length allowed == 0) _ _ (read_to (Some f)) c.1) [
        | inl d ↦ absurd cc
        | inr d ↦ keyed_inside w allowed f window d.1
      ]
    ]

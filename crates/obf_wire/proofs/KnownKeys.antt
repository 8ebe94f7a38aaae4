-- A number, and a field of a known key, that are read in a straight line.
use Rattle.std.proofs.Common.{◌≡◌, ℕ, suc, ◌+◌, ◌-◌, ◌*◌, ◌/◌, ◌%◌, ◌<◌, ◌≤◌, true, false, List, [], ◌∷◌, length, drop, get_or, Result, Ok, refl, sym, ap, subst, ◌∙◌, arith}
use Rattle.std.specs.Prelude.{◌==◌, slice_range, nat_lt}
use Rattle.std.proofs.Math.Seq.{drop-cons}
use Rattle.std.proofs.lemmas.Bool.Decides.{nat_tests}
use Rattle.std.proofs.lemmas.Bool.{eqb-true}
use Rattle.obf_wire.specs.declared.breaks.WireBreak.{WireBreak}
use Rattle.obf_wire.specs.declared.field.Field.{Field}
use Rattle.obf_wire.specs.Varint.{varint_at, IsVarint}
use Rattle.obf_wire.specs.Fields.{Window, field_at, is_among, payload_len, length_at}
use Rattle.obf_wire.specs.KnownKeys.{IsExpected, StandsFirst}
use Rattle.obf_wire.proofs.Places.{one_byte_at, only_at}

abbrev ok : ℕ × ℕ → Result (ℕ × ℕ) WireBreak
ok x = Ok x

-- ---- numbers of a few bytes

-- the bytes of a range are its first, and those of the range behind that
range_cons : (bytes : List ℕ) (at next to : ℕ) → next ≡ at + 1 → next ≤ to → to ≤ length bytes → slice_range bytes at to ≡ get_or bytes at 0 ∷ slice_range bytes next to
range_cons bytes at next to is inside within =
    let more : to - at ≡ suc (to - next) = omega arith in
    let same : next ≡ suc at = omega arith in
    let cons : drop at bytes ≡ get_or bytes at 0 ∷ drop (suc at) bytes = drop-cons bytes at 0 (omega arith) in
    rw (more, cons, same) refl

-- a byte with the top bit before a spelling spells a number more of 128
longer : (b m : ℕ) (bs : List ℕ) → IsVarint bs m → 128 ≤ b → b < 256 → 0 < m → IsVarint (b ∷ bs) (128 * m + (b - 128))
longer b m [] s l h some = absurd s
longer b m (c ∷ bs) s l h some =
    let up : (128 * m + (b - 128)) / 128 ≡ m = omega arith in
    (omega arith, omega arith, subst (λ (n : ℕ). IsVarint (c ∷ bs) n) (sym up) s)

-- the byte at a place below 128 is a spelling
ends_spelling : (bytes : List ℕ) (at to b : ℕ) → to ≡ at + 1 → to ≤ length bytes → b ≡ get_or bytes at 0 → b < 128 → IsVarint (slice_range bytes at to) b
ends_spelling bytes at to b is within same low =
    let none : to - to ≡ 0 = omega arith in
    let empty : slice_range bytes to to ≡ [] = rw none refl in
    let one : slice_range bytes at to ≡ b ∷ [] = range_cons bytes at to to is (omega arith) within ∙ ap (λ (bs : List ℕ). get_or bytes at 0 ∷ bs) empty ∙ ap (λ (x : ℕ). x ∷ []) (sym same) in
    subst (λ (bs : List ℕ). IsVarint bs b) (sym one) (refl, low)

-- a byte with the top bit stands before a spelling
begins_spelling : (bytes : List ℕ) (at next to b m : ℕ) → next ≡ at + 1 → next ≤ to → to ≤ length bytes → b ≡ get_or bytes at 0 → 128 ≤ b → b < 256 → 0 < m → IsVarint (slice_range bytes next to) m
    → IsVarint (slice_range bytes at to) (128 * m + (b - 128))
begins_spelling bytes at next to b m is inside within same l h some s =
    let cons : slice_range bytes at to ≡ b ∷ slice_range bytes next to = range_cons bytes at next to is inside within ∙ ap (λ (x : ℕ). x ∷ slice_range bytes next to) (sym same) in
    subst (λ (bs : List ℕ). IsVarint bs (128 * m + (b - 128))) (sym cons) (longer b m (slice_range bytes next to) s l h some)

pub two_bytes_at : (bytes : List ℕ) (at end a b : ℕ) → at + 2 ≤ end → end ≤ length bytes → a ≡ get_or bytes at 0 → b ≡ get_or bytes (at + 1) 0 → 128 ≤ a → a < 256 → 0 < b → b < 128
    → varint_at bytes at end ≡ ok (128 * b + (a - 128), at + 2)
two_bytes_at bytes at end a b inside within is_a is_b a1 a2 b1 b2 =
    only_at bytes at end (128 * b + (a - 128)) (at + 2) (omega arith) within
    (omega arith, inside, begins_spelling bytes at (at + 1) (at + 2) a b refl (omega arith) (omega arith) is_a a1 a2 b1 (ends_spelling bytes (at + 1) (at + 2) b (omega arith) (omega arith) is_b b2))

pub three_bytes_at : (bytes : List ℕ) (at end a b c : ℕ) → at + 3 ≤ end → end ≤ length bytes → a ≡ get_or bytes at 0 → b ≡ get_or bytes (at + 1) 0 → c ≡ get_or bytes (at + 2) 0
    → 128 ≤ a → a < 256 → 128 ≤ b → b < 256 → 0 < c → c < 128 → varint_at bytes at end ≡ ok (128 * (128 * c + (b - 128)) + (a - 128), at + 3)
three_bytes_at bytes at end a b c inside within is_a is_b is_c a1 a2 b1 b2 c1 c2 =
    let last = ends_spelling bytes (at + 2) (at + 3) c (omega arith) (omega arith) is_c c2 in
    let two = begins_spelling bytes (at + 1) (at + 2) (at + 3) b c (omega arith) (omega arith) (omega arith) is_b b1 b2 c1 last in
    only_at bytes at end (128 * (128 * c + (b - 128)) + (a - 128)) (at + 3) (omega arith) within
    (omega arith, inside, begins_spelling bytes at (at + 1) (at + 3) a (128 * c + (b - 128)) refl (omega arith) (omega arith) is_a a1 a2 (omega arith) two)

pub four_bytes_at : (bytes : List ℕ) (at end a b c d : ℕ) → at + 4 ≤ end → end ≤ length bytes → a ≡ get_or bytes at 0 → b ≡ get_or bytes (at + 1) 0 → c ≡ get_or bytes (at + 2) 0 → d ≡ get_or bytes (at + 3) 0
    → 128 ≤ a → a < 256 → 128 ≤ b → b < 256 → 128 ≤ c → c < 256 → 0 < d → d < 128
    → varint_at bytes at end ≡ ok (128 * (128 * (128 * d + (c - 128)) + (b - 128)) + (a - 128), at + 4)
four_bytes_at bytes at end a b c d inside within is_a is_b is_c is_d a1 a2 b1 b2 c1 c2 d1 d2 =
    let last = ends_spelling bytes (at + 3) (at + 4) d (omega arith) (omega arith) is_d d2 in
    let two = begins_spelling bytes (at + 2) (at + 3) (at + 4) c d (omega arith) (omega arith) (omega arith) is_c c1 c2 d1 last in
    let three = begins_spelling bytes (at + 1) (at + 2) (at + 4) b (128 * d + (c - 128)) (omega arith) (omega arith) (omega arith) is_b b1 b2 (omega arith) two in
    only_at bytes at end (128 * (128 * (128 * d + (c - 128)) + (b - 128)) + (a - 128)) (at + 4) (omega arith) within
    (omega arith, inside, begins_spelling bytes at (at + 1) (at + 4) a (128 * (128 * d + (c - 128)) + (b - 128)) refl (omega arith) (omega arith) is_a a1 a2 (omega arith) three)

-- ---- fields

has_some : (keys : List ℕ) (key : ℕ) → is_among keys key ≡ true → (length keys == 0) ≡ false
has_some [] key e = absurd cc
has_some (k ∷ keys) key e = grind (arith, nat_tests)

read_so : (w : Window) (key next value from : ℕ) → w.place < w.end → varint_at w.bytes w.place w.end ≡ ok (key, next) → (key % 8 == 6) ≡ false → varint_at w.bytes next w.end ≡ ok (value, from) → from + payload_len key value ≤ w.end
    → IsExpected w key (record { key = key; at = w.place; value = value; from = from; to = from + payload_len key value })
unfolding field_at
read_so w key next value from some is_key short is_value room allowed may_end among =
    let place : (w.place == w.end) ≡ false = grind (arith, nat_tests) in
    let keys : (length allowed == 0) ≡ false = has_some allowed key among in
    let enough : nat_lt (w.end - from) (payload_len key value) ≡ false = grind (arith, nat_tests) in
    rw (place, keys, is_key, among, short, is_value, enough) refl

-- a key of one byte, then a number that is a value or the length of the payload
pub expected_is : (w : Window) (key same value from len : ℕ) → w.place < w.end → w.end ≤ length w.bytes → get_or w.bytes w.place 0 ≡ key → key < 128 → (key % 8 == 6) ≡ false → varint_at w.bytes (w.place + 1) w.end ≡ ok (value, from) → w.place + 1 < from → len ≡ payload_len key value → from + len ≤ w.end → same ≡ key
    → StandsFirst w key (record { key = same; at = w.place; value = value; from = from; to = from + len })
expected_is w key same value from len some within is low short is_value forward is_len room is_same =
    let read : varint_at w.bytes w.place w.end ≡ ok (key, w.place + 1) = one_byte_at w.bytes w.place w.end some within (omega arith) ∙ ap (λ (k : ℕ). ok (k, w.place + 1)) is in
    let made : ℕ → ℕ → Field = λ k l. record { key = k; at = w.place; value = value; from = from; to = from + l } in
    let there : made key (payload_len key value) ≡ made same len = ap (λ (k : ℕ). made k (payload_len key value)) (sym is_same) ∙ ap (made same) (sym is_len) in
    record {
      read = subst (IsExpected w key) there (read_so w key (w.place + 1) value from some read short is_value (omega (arith, is_len, room)));
      inside = record { starts = omega arith; ordered = omega arith; ends = room };
      key_is = is_same;
      at_is = refl;
    }

wide_so : (w : Window) (key same value from len : ℕ) → w.place < w.end → w.end ≤ length w.bytes → get_or w.bytes w.place 0 ≡ key → key < 128 → (key % 8 == 6) ≡ true → length_at w.bytes (w.place + 1) w.end ≡ ok (value, from) → len ≡ payload_len key value → from + len ≤ w.end → same ≡ key
    → IsExpected w key (record { key = same; at = w.place; value = value; from = from; to = from + len })
unfolding field_at
wide_so w key same value from len some within is low wide is_value is_len room is_same allowed may_end among =
    let read : varint_at w.bytes w.place w.end ≡ ok (key, w.place + 1) = one_byte_at w.bytes w.place w.end some within (omega arith) ∙ ap (λ (k : ℕ). ok (k, w.place + 1)) is in
    let place : (w.place == w.end) ≡ false = grind (arith, nat_tests) in
    let keys : (length allowed == 0) ≡ false = has_some allowed key among in
    let enough : nat_lt (w.end - from) (payload_len key value) ≡ false = let l = is_len in grind (arith, nat_tests) in
    rw (place, keys, read, among, wide, is_value, enough, is_same, is_len) refl

wide_len : (key value : ℕ) → (key % 8 == 6) ≡ true → value ≡ payload_len key value
wide_len key value wide =
    let six : key % 8 ≡ 6 = eqb-true (key % 8) 6 wide in
    rw six refl

-- a key of one byte, then the length of the payload in eight bytes
pub wide_is : (w : Window) (key same value from : ℕ) → w.place < w.end → w.end ≤ length w.bytes → get_or w.bytes w.place 0 ≡ key → key < 128 → (key % 8 == 6) ≡ true → length_at w.bytes (w.place + 1) w.end ≡ ok (value, from) → w.place + 1 < from → from + value ≤ w.end → same ≡ key
    → StandsFirst w key (record { key = same; at = w.place; value = value; from = from; to = from + value })
wide_is w key same value from some within is low wide is_value forward room is_same = record {
  read = wide_so w key same value from value some within is low wide is_value (wide_len key value wide) room is_same;
  inside = record { starts = omega arith; ordered = omega arith; ends = room };
  key_is = is_same;
  at_is = refl;
}

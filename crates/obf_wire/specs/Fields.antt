-- Fields of a message: a key, then a number, or a length and a payload.
use Rattle.std.specs.Prelude.{◌≡◌, ℕ, ◌+◌, ◌-◌, ◌*◌, ◌%◌, ◌^◌, ◌<◌, ◌≤◌, Bool, true, ◌||◌, List, [], ◌∷◌, ◌++◌, length, slice_range, nat_lt, ◌==◌, Option, Some, None, Result, Ok, Err, if◌then◌else◌}
use Rattle.std.specs.List.{list_any, list_all}
use Rattle.std.specs.Int.{w64, to_be_bytes, from_be_bytes}
use Rattle.obf_wire.specs.declared.breaks.WireBreak.{WireBreak}
use Rattle.obf_wire.specs.declared.breaks.WireKind.TheVariants.{BadKey, OverEnd}
use Rattle.obf_wire.specs.declared.field.Field.{Field}
use Rattle.obf_wire.specs.Varint.{varint, varint_at, short_at}

-- ---- the form

-- A key is eight times a field's number, plus a wire type: 0 is a number, 2 a payload behind its length as a
-- number, 6 a payload behind its length in eight bytes, the highest first.
abbrev pub has_wire_type : ℕ → Bool
has_wire_type key = (key % 8 == 0) || (key % 8 == 2) || (key % 8 == 6)

abbrev pub are_keys : List ℕ → Bool
are_keys keys = list_all has_wire_type keys

abbrev pub is_among : List ℕ → ℕ → Bool
is_among keys key = list_any (λ k. k == key) keys

-- what is spelled behind a key: a number, or the length of a payload
abbrev pub content : ℕ → ℕ → List ℕ
content key value = if key % 8 == 6 then to_be_bytes w64 value else varint value

-- how long the payload is
abbrev pub payload_len : ℕ → ℕ → ℕ
payload_len key value = if key % 8 == 0 then 0 else value

-- the whole field
abbrev pub field_spelling : ℕ → ℕ → List ℕ → List ℕ
field_spelling key value payload = varint key ++ content key value ++ payload

-- a field of wire type 6
abbrev pub section : ℕ → List ℕ → List ℕ
section number payload = varint (number * 8 + 6) ++ to_be_bytes w64 (length payload) ++ payload

-- a field that holds a number
abbrev pub number_field : ℕ → ℕ → List ℕ
number_field number value = field_spelling (number * 8) value []

-- a field whose payload stands after its length as a number
abbrev pub short_field : ℕ → List ℕ → List ℕ
short_field number payload = field_spelling (number * 8 + 2) (length payload) payload

-- the key of such a field, and a byte of room for the length
abbrev pub begun_short : ℕ → List ℕ
begun_short number = varint (number * 8 + 2) ++ 0 ∷ []

-- the key of a field of wire type 6, and the length 0, as room for the length
abbrev pub begun_section : ℕ → List ℕ
begun_section number = varint (number * 8 + 6) ++ to_be_bytes w64 0

-- ---- reading

-- the part of the bytes that is still to be read
pub record Window : Type 0 where
  pub bytes : List ℕ
  pub place : ℕ
  pub end : ℕ

-- the bytes from one place up to another
abbrev pub part_of : List ℕ → ℕ → ℕ → Window
part_of bytes place end = record { bytes = bytes; place = place; end = end }

pub record IsWindow (w : Window) : Type 0 where
  pub ordered : w.place ≤ w.end
  pub within : w.end ≤ length w.bytes

-- the bytes of the part
abbrev pub left_of : Window → List ℕ
left_of w = slice_range w.bytes w.place w.end

-- The next field: one of these keys at the place, then its number or length, then its payload, all before the end.
pub record IsNextField (w : Window) (allowed : List ℕ) (f : Field) : Type 0 where
  pub place : f.at ≡ w.place
  pub among : is_among allowed f.key ≡ true
  pub key_fits : f.key < 2 ^ 64
  pub value_fits : f.value < 2 ^ 64
  pub spelled : slice_range w.bytes f.at f.from ≡ varint f.key ++ content f.key f.value
  pub payload : f.to ≡ f.from + payload_len f.key f.value
  pub inside : (f.at < f.from) × (f.to ≤ w.end)

-- the field that is spelled at a place
abbrev pub field_of : ℕ → ℕ → ℕ → Field
field_of at key value = let from = at + length (varint key ++ content key value) in record { key = key; at = at; value = value; from = from; to = from + payload_len key value }

-- behind the field, where there was one
abbrev pub behind : Window → Option Field → Window
behind w None = w
behind w (Some f) = record w { place = f.to }

abbrev pub bad_key_at : ℕ → WireBreak
bad_key_at at = record { at = at; kind = BadKey }

abbrev pub over_end_at : ℕ → WireBreak
over_end_at at = record { at = at; kind = OverEnd }

infixl 10 ◌>>=◌
abbrev pub ◌>>=◌ : {A B : Type 0} → Result A WireBreak → (A → Result B WireBreak) → Result B WireBreak
(Err b) >>= f = Err b
(Ok x) >>= f = f x

-- a length in eight bytes, and the place behind it
abbrev pub length_at : List ℕ → ℕ → ℕ → Result (ℕ × ℕ) WireBreak
length_at bytes at end = if nat_lt (end - at) 8 then Err (short_at at) else Ok (from_be_bytes w64 (slice_range bytes at (at + 8)), at + 8)

-- what stands behind a key, and the place behind that
abbrev pub content_at : List ℕ → ℕ → ℕ → ℕ → Result (ℕ × ℕ) WireBreak
content_at bytes key at end = if key % 8 == 6 then length_at bytes at end else varint_at bytes at end

-- the field whose payload begins here, where enough is left for it
abbrev pub filled : ℕ → ℕ → ℕ → ℕ × ℕ → Result (Option Field) WireBreak
filled at key end (value, from) =
    if nat_lt (end - from) (payload_len key value) then Err (over_end_at at) else Ok (Some (record { key = key; at = at; value = value; from = from; to = from + payload_len key value }))

-- the field behind a key that was read
abbrev pub keyed : List ℕ → ℕ → ℕ → List ℕ → ℕ × ℕ → Result (Option Field) WireBreak
keyed bytes at end allowed (key, next) =
    if is_among allowed key then (content_at bytes key next end >>= filled at key end) else Err (bad_key_at at)

-- The field at a place where one of these keys may come, or the end, where the message may end, or the first
-- of the breaks: no end yet; no field may come; a key that is none; a key that may not come; a number or length that is
-- none; a payload past the end.
unfoldable pub field_at : Window → List ℕ → Bool → Result (Option Field) WireBreak
field_at w allowed may_end =
    if w.place == w.end then (if may_end then Ok None else Err (short_at w.end))
    else if length allowed == 0 then Err (bad_key_at w.place)
    else (varint_at w.bytes w.place w.end >>= keyed w.bytes w.place w.end allowed)

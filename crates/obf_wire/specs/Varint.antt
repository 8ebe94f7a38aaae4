-- The spelling of a number: seven bits a byte, the lowest first, the top bit set on all bytes but the last.
use Rattle.std.specs.Prelude.{◌≡◌, ◌≢◌, ℕ, zero, suc, ◌+◌, ◌-◌, ◌*◌, ◌/◌, ◌%◌, ◌^◌, ◌<◌, ◌≤◌, List, [], ◌∷◌, ◌++◌, length, take, slice_range, nat_lt, ◌==◌, Result, Ok, Err, if◌then◌else◌, ◌⊎◌}
use Rattle.obf_wire.specs.declared.breaks.WireBreak.{WireBreak}
use Rattle.obf_wire.specs.declared.breaks.WireKind.{WireKind}
use Rattle.obf_wire.specs.declared.breaks.WireKind.TheVariants.{Short, LongVarint}

-- ---- the grammar

-- One byte spells a number below 128. A greater number has its low seven bits and the top bit in the first
-- byte, and the bytes behind it spell the number without those bits.
abbrev pub IsVarint : List ℕ → ℕ → Type 0
IsVarint [] n = ⊥
IsVarint (b ∷ []) n = (b ≡ n) × (n < 128)
IsVarint (b ∷ c ∷ bs) n = (b ≡ 128 + n % 128) × (128 ≤ n) × IsVarint (c ∷ bs) (n / 128)

-- the spelling of a number of 64 bits stands at the front: the number, and how many bytes spell it
pub record BeginsWith (bytes : List ℕ) (n len : ℕ) : Type 0 where
  pub fits : n < 2 ^ 64
  pub within : len ≤ length bytes
  pub spelled : IsVarint (take len bytes) n

-- the bytes are the front of a spelling, and not the whole of it
pub record IsCut (bytes : List ℕ) : Type 0 where
  pub more : List ℕ
  pub n : ℕ
  pub misses : more ≢ []
  pub fits : n < 2 ^ 64
  pub spelled : IsVarint (bytes ++ more) n

-- whatever follows, no spelling stands at the front: it is longer than needed, or the number has more than 64 bits
abbrev pub IsOverlong : List ℕ → Type 0
IsOverlong bytes = (more : List ℕ) (n len : ℕ) → BeginsWith (bytes ++ more) n len → ⊥

abbrev pub IsSpelled : List ℕ → Type 0
IsSpelled bytes = (n : ℕ) × (len : ℕ) × BeginsWith bytes n len

-- one of three facts holds, and the other two do not
abbrev pub IsOneOfThree : Type 0 → Type 0 → Type 0 → Type 0
IsOneOfThree p q r = (p × ¬ q × ¬ r) ⊎ (¬ p × q × ¬ r) ⊎ (¬ p × ¬ q × r)

-- of the bytes up to an end, the spelling of a number stands from one place up to the next
abbrev pub IsSpelledAt : List ℕ → ℕ → ℕ → ℕ → ℕ → Type 0
IsSpelledAt bytes at end n next = (n < 2 ^ 64) × (next ≤ end) × IsVarint (slice_range bytes at next) n

-- ---- spellings of any length

-- the top bit is set
abbrev pub IsTop : ℕ → Type 0
IsTop b = (128 ≤ b) × (b < 256)

-- bytes with the top bit set on all but the last spell a number, though it may be longer than needed
abbrev pub IsGroups : List ℕ → Type 0
IsGroups [] = ⊥
IsGroups (b ∷ []) = b < 128
IsGroups (b ∷ c ∷ bs) = IsTop b × IsGroups (c ∷ bs)

-- the number: seven bits of each byte, the lowest first
abbrev pub number_of : List ℕ → ℕ
number_of [] = 0
number_of (b ∷ bs) = b % 128 + 128 * number_of bs

-- ---- the same as functions

-- the spelling of a number that has at most so many bytes before its last
unfoldable pub groups : ℕ → ℕ → List ℕ
groups zero n = n ∷ []
groups (suc more) n = if nat_lt n 128 then n ∷ [] else (128 + n % 128) ∷ groups more (n / 128)

-- the spelling of a number of 64 bits: at most nine bytes before the last
unfoldable pub varint : ℕ → List ℕ
varint n = groups 9 n

-- a byte with the top bit, before a number that is not 0
abbrev pub with_low : ℕ → Result (ℕ × ℕ) WireKind → Result (ℕ × ℕ) WireKind
with_low b (Err kind) = Err kind
with_low b (Ok (high, len)) = if high == 0 then Err LongVarint else Ok (128 * high + (b - 128), len + 1)

-- the number at the front and how many bytes spell it, where at most so many may come before the last.
-- Behind nine bytes one bit is left. What is over 255 is no byte, and part of no spelling.
abbrev pub groups_in : ℕ → List ℕ → Result (ℕ × ℕ) WireKind
groups_in more [] = Err Short
groups_in zero (b ∷ bytes) = if nat_lt b 2 then Ok (b, 1) else Err LongVarint
groups_in (suc more) (b ∷ bytes) = if nat_lt b 128 then Ok (b, 1) else if nat_lt b 256 then with_low b (groups_in more bytes) else Err LongVarint

-- the number at the front and how many bytes spell it, or what is wrong
unfoldable pub varint_in : List ℕ → Result (ℕ × ℕ) WireKind
varint_in bytes = groups_in 9 bytes

-- the same at a place: the number and the place behind it, or the break at the place
abbrev pub placed_at : ℕ → Result (ℕ × ℕ) WireKind → Result (ℕ × ℕ) WireBreak
placed_at at (Ok (n, len)) = Ok (n, at + len)
placed_at at (Err kind) = Err (record { at = at; kind = kind })

abbrev pub varint_at : List ℕ → ℕ → ℕ → Result (ℕ × ℕ) WireBreak
varint_at bytes at end = placed_at at (varint_in (slice_range bytes at end))

abbrev pub short_at : ℕ → WireBreak
short_at at = record { at = at; kind = Short }

abbrev pub long_at : ℕ → WireBreak
long_at at = record { at = at; kind = LongVarint }

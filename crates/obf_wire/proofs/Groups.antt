-- Groups of seven bits, read one after the other.
use Rattle.std.proofs.Common.{◌≡◌, ℕ, zero, suc, ◌+◌, ◌-◌, ◌*◌, ◌^◌, ◌<◌, ◌≤◌, ◌&&◌, List, ◌∷◌, length, get_or, drop, Result, Ok, Err, refl, sym, ap, ◌∙◌, inl, inr, arith, lit<}
use Rattle.std.specs.Prelude.{nat_lt, ◌==◌, if◌then◌else◌}
use Rattle.std.proofs.lemmas.Bool.{cases_lt, le-ltb, lt-ltb}
use Rattle.std.proofs.Math.Dec.{eqb-suc-zero}
use Rattle.std.proofs.Math.Seq.{drop-cons}
use Rattle.std.proofs.Math.Nat.{pow-le-pow_right, pow-suc, mul-le-mul_left}
use Rattle.obf_wire.specs.declared.breaks.WireKind.{WireKind}
use Rattle.obf_wire.specs.declared.breaks.WireKind.TheVariants.{LongVarint}
use Rattle.obf_wire.specs.Varint.{with_low, groups_in}

-- the value of the groups that were passed, and the number that is still read behind them
abbrev pub above : ℕ → ℕ → ℕ → Result (ℕ × ℕ) WireKind → Result (ℕ × ℕ) WireKind
above value weight passed (Err kind) = Err kind
above value weight passed (Ok (n, len)) = if nat_lt 0 passed && (n == 0) then Err LongVarint else Ok (value + weight * n, passed + len)

abbrev ok : ℕ × ℕ → Result (ℕ × ℕ) WireKind
ok x = Ok x

same_pair : (a b c d : ℕ) → a ≡ c → b ≡ d → ok (a, b) ≡ ok (c, d)
same_pair a b c d e f = cc

-- a number that is not 0 is handed on, and 0 is refused behind a byte
above-ok : (value weight passed n len : ℕ) → (n ≡ 0 → passed ≡ 0) → above value weight passed (Ok (n, len)) ≡ Ok (value + weight * n, passed + len)
above-ok value weight zero n len h = refl
above-ok value weight (suc passed) zero len h = absurd (omega (arith, h refl))
above-ok value weight (suc passed) (suc n) len h = rw (lt-ltb 0 (suc passed) (omega arith), eqb-suc-zero n) refl

above-zero : (value weight passed len : ℕ) → 0 < passed → above value weight passed (Ok (0, len)) ≡ Err LongVarint
above-zero value weight passed len p = rw (lt-ltb 0 passed p) refl

with_low-ok : (b n len : ℕ) → with_low b (Ok (suc n, len)) ≡ Ok (128 * suc n + (b - 128), len + 1)
with_low-ok b n len = rw (eqb-suc-zero n) refl

-- nothing was passed yet
pub above-none : (read : Result (ℕ × ℕ) WireKind) → above 0 1 0 read ≡ read
above-none (Err kind) = refl
above-none (Ok (n, len)) = same_pair (0 + 1 * n) (0 + len) n len (omega arith) (omega arith)

-- a byte with the top bit goes to what was passed
above-with_low : (value weight passed b : ℕ) (read : Result (ℕ × ℕ) WireKind) → above value weight passed (with_low b read) ≡ above (value + weight * (b - 128)) (weight * 128) (passed + 1) read
above-with_low value weight passed b (Err kind) = refl
above-with_low value weight passed b (Ok (zero, len)) = sym (above-zero (value + weight * (b - 128)) (weight * 128) (passed + 1) len (omega arith))
above-with_low value weight passed b (Ok (suc n, len)) =
    ap (above value weight passed) (with_low-ok b n len)
    ∙ above-ok value weight passed (128 * suc n + (b - 128)) (len + 1) (λ e. absurd (omega arith))
    ∙ same_pair (value + weight * (128 * suc n + (b - 128))) (passed + (len + 1)) (value + weight * (b - 128) + weight * 128 * suc n) (passed + 1 + len) (omega arith) (omega arith)
    ∙ sym (above-ok (value + weight * (b - 128)) (weight * 128) (passed + 1) (suc n) len (λ e. absurd (omega arith)))

-- the byte in front says how reading goes on
pub groups_in-top : (more b : ℕ) (bytes : List ℕ) → 128 ≤ b → b < 256 → groups_in (suc more) (b ∷ bytes) ≡ with_low b (groups_in more bytes)
groups_in-top more b bytes low high = rw (le-ltb b 128 low, lt-ltb b 256 high) refl

pub groups_in-last : (more b : ℕ) (bytes : List ℕ) → b < 128 → (more ≡ 0 → b < 2) → groups_in more (b ∷ bytes) ≡ Ok (b, 1)
groups_in-last zero b bytes low h = rw (lt-ltb b 2 (h refl)) refl
groups_in-last (suc more) b bytes low h = rw (lt-ltb b 128 low) refl

pub groups_in-over : (b : ℕ) (bytes : List ℕ) → 1 < b → groups_in 0 (b ∷ bytes) ≡ Err LongVarint
groups_in-over b bytes h = rw (le-ltb b 2 (omega arith)) refl

-- the next byte goes to what was passed
pub above-next : (value weight passed b : ℕ) (bytes : List ℕ) → passed < length bytes → get_or bytes passed 0 ≡ b → 128 ≤ b → b < 256 → passed < 9
    → above value weight passed (groups_in (9 - passed) (drop passed bytes)) ≡ above (value + weight * (b - 128)) (weight * 128) (passed + 1) (groups_in (9 - (passed + 1)) (drop (passed + 1) bytes))
above-next value weight passed b bytes lt at low high few =
    let more : 9 - passed ≡ suc (9 - (passed + 1)) = omega arith in
    let next : passed + 1 ≡ suc passed = omega arith in
    let cons : drop passed bytes ≡ b ∷ drop (passed + 1) bytes = rw (next, ← at) (drop-cons bytes passed 0 lt) in
    ap (λ (k : ℕ). above value weight passed (groups_in k (drop passed bytes))) more
    ∙ ap (λ (bs : List ℕ). above value weight passed (groups_in (suc (9 - (passed + 1))) bs)) cons
    ∙ ap (above value weight passed) (groups_in-top (9 - (passed + 1)) b (drop (passed + 1) bytes) low high)
    ∙ above-with_low value weight passed b (groups_in (9 - (passed + 1)) (drop (passed + 1) bytes))

-- ---- the values fit

pub last_fits : (value weight passed b : ℕ) → passed ≤ 9 → weight ≡ 128 ^ passed → value < weight → b < 128 → (passed ≡ 9 → b < 2) → value + weight * b < 2 ^ 64
last_fits value weight passed b few scale low lt last =
    elim (cases_lt passed 9) [
      | inl less ↦
          let eight : passed ≤ 8 = omega arith in let small : 128 ^ passed ≤ 128 ^ 8 = pow-le-pow_right (lit< tt) eight in
          omega (arith, mul-le-mul_left {m = b} {n = 127} weight (omega arith))
      | inr more ↦
          let nine : passed ≡ 9 = omega arith in
          let big : 128 ^ passed ≤ 128 ^ 9 = pow-le-pow_right (lit< tt) few in
          omega (arith, mul-le-mul_left {m = b} {n = 1} weight (omega (arith, last nine)))
    ]

pub next_fits : (weight passed : ℕ) → passed < 9 → weight ≡ 128 ^ passed → weight * 128 < 2 ^ 64
next_fits weight passed few scale =
    let eight : passed ≤ 8 = omega arith in let small : 128 ^ passed ≤ 128 ^ 8 = pow-le-pow_right (lit< tt) eight in
    omega arith

pub group_fits : (value weight b : ℕ) → value < weight → b < 256 → value + weight * (b - 128) < weight * 128
group_fits value weight b low lt = omega (arith, mul-le-mul_left {m = b - 128} {n = 127} weight (omega arith))

-- the weight of the next group
pub next_scale : (weight passed : ℕ) → weight ≡ 128 ^ passed → weight * 128 ≡ 128 ^ (passed + 1)
next_scale weight passed scale = ap (λ (k : ℕ). k * 128) scale ∙ sym (pow-suc 128 passed) ∙ ap (λ (k : ℕ). 128 ^ k) (let e : suc passed ≡ passed + 1 = omega arith in e)

-- The spelling that is written is the one in the grammar.
use Rattle.std.proofs.Common.{◌≡◌, ℕ, zero, suc, ◌+◌, ◌-◌, ◌*◌, ◌/◌, ◌%◌, ◌^◌, ◌<◌, ◌≤◌, List, [], ◌∷◌, ◌++◌, length, take, set, refl, sym, ap, subst, ◌∙◌, inl, inr, append_assoc, add-one, arith}
use Rattle.std.proofs.lemmas.Bool.{cases_lt, le-ltb, lt-ltb}
use Rattle.std.proofs.Math.Seq.{take-suc-set}
use Rattle.obf_wire.specs.Varint.{IsVarint, groups, varint, varint_in}
use Rattle.obf_wire.proofs.Spellings.{limit, IsVarint-cases, IsVarint-cons, read_again, ok}

pub groups-small : (more n : ℕ) → n < 128 → groups more n ≡ n ∷ []
unfolding groups
groups-small zero n low = refl
groups-small (suc more) n low = rw (lt-ltb n 128 low) refl

pub groups-top : (more n : ℕ) → 128 ≤ n → groups (suc more) n ≡ (128 + n % 128) ∷ groups more (n / 128)
unfolding groups
groups-top more n top = rw (le-ltb n 128 top) refl

pub varint-small : (n : ℕ) → n < 128 → varint n ≡ n ∷ []
unfolding varint
varint-small n low = groups-small 9 n low

-- one more group is put behind those that are there
pub groups-next : (buffer : List ℕ) (len left : ℕ) (whole : List ℕ) → len < 9 → len < length buffer → 128 ≤ left → take len buffer ++ groups (9 - len) left ≡ whole
    → take (len + 1) (set buffer len (left % 128 + 128)) ++ groups (9 - (len + 1)) (left / 128) ≡ whole
groups-next buffer len left whole few lt top same =
    let more : 9 - len ≡ suc (9 - (len + 1)) = omega arith in
    let byte : left % 128 + 128 ≡ 128 + left % 128 = omega arith in
    let front : take (len + 1) (set buffer len (left % 128 + 128)) ≡ take len buffer ++ (128 + left % 128) ∷ [] = rw (add-one, byte) (take-suc-set buffer len (128 + left % 128) lt) in
    ap (λ (t : List ℕ). t ++ groups (9 - (len + 1)) (left / 128)) front
    ∙ append_assoc (take len buffer) ((128 + left % 128) ∷ []) (groups (9 - (len + 1)) (left / 128))
    ∙ ap (λ (t : List ℕ). take len buffer ++ t) (sym (groups-top (9 - (len + 1)) left top))
    ∙ ap (λ (k : ℕ). take len buffer ++ groups k left) (sym more)
    ∙ same

-- the last group is put behind them
pub groups-end : (buffer : List ℕ) (len left : ℕ) (whole : List ℕ) → len < length buffer → left < 128 → take len buffer ++ groups (9 - len) left ≡ whole → take (len + 1) (set buffer len left) ≡ whole
groups-end buffer len left whole lt low same =
    let front : take (len + 1) (set buffer len left) ≡ take len buffer ++ left ∷ [] = rw add-one (take-suc-set buffer len left lt) in
    front ∙ ap (λ (t : List ℕ). take len buffer ++ t) (sym (groups-small (9 - len) left low)) ∙ same

-- a number that still has groups is below the limit of what may come behind it
pub limit-next : (len left : ℕ) → len ≤ 9 → 128 ≤ left → left < limit (9 - len) → (len < 9) × (left / 128 < limit (9 - (len + 1)))
limit-next len left few top low =
    elim (cases_lt len 9) [
      | inl lt ↦
          let more : 9 - len ≡ suc (9 - (len + 1)) = omega arith in
          let wide : left < 128 * limit (9 - (len + 1)) = subst (λ (k : ℕ). left < limit k) more low in
          (lt, omega arith)
      | inr ge ↦
          let none : 9 - len ≡ 0 = omega arith in
          let small : left < 2 = subst (λ (k : ℕ). left < limit k) none low in
          absurd (omega arith)
    ]

-- ---- the grammar

pub groups_spelled : (more n : ℕ) → n < limit more → IsVarint (groups more n) n
groups_spelled zero n fits = rw (groups-small zero n (omega arith)) (refl, omega arith)
groups_spelled (suc more) n fits =
    elim (cases_lt n 128) [
      | inl lt ↦ rw (groups-small (suc more) n lt) (refl, lt)
      | inr top ↦ rw (groups-top more n top) (IsVarint-cons (128 + n % 128) (groups more (n / 128)) n refl top (groups_spelled more (n / 128) (omega arith)))
    ]

pub groups_only : (more : ℕ) (bytes : List ℕ) (n : ℕ) → n < limit more → IsVarint bytes n → bytes ≡ groups more n
groups_only more [] n fits h = absurd h
groups_only zero (b ∷ bytes) n fits h =
    elim (IsVarint-cases b bytes n h) [
      | inl one ↦ ap (λ (t : List ℕ). b ∷ t) one.0 ∙ ap (λ (k : ℕ). k ∷ []) one.1 ∙ sym (groups-small zero n one.2)
      | inr top ↦ absurd (omega arith)
    ]
groups_only (suc more) (b ∷ bytes) n fits h =
    elim (IsVarint-cases b bytes n h) [
      | inl one ↦ ap (λ (t : List ℕ). b ∷ t) one.0 ∙ ap (λ (k : ℕ). k ∷ []) one.1 ∙ sym (groups-small (suc more) n one.2)
      | inr top ↦ ap (λ (t : List ℕ). b ∷ t) (groups_only more bytes (n / 128) (omega arith) top.2) ∙ ap (λ (k : ℕ). k ∷ groups more (n / 128)) top.0 ∙ sym (groups-top more n top.1)
    ]

length-groups : (more n : ℕ) → length (groups more n) ≤ more + 1
unfolding groups
length-groups zero n = omega arith
length-groups (suc more) n =
    elim (cases_lt n 128) [
      | inl lt ↦ rw (groups-small (suc more) n lt) (omega arith)
      | inr top ↦ rw (groups-top more n top) (omega (arith, length-groups more (n / 128)))
    ]

pub varint_spelled : (n : ℕ) → n < 2 ^ 64 → IsVarint (varint n) n
unfolding varint
varint_spelled n fits = groups_spelled 9 n fits

pub varint_only : (bytes : List ℕ) (n : ℕ) → n < 2 ^ 64 → IsVarint bytes n → bytes ≡ varint n
unfolding varint
varint_only bytes n fits h = groups_only 9 bytes n fits h

pub length-varint : (n : ℕ) → length (varint n) ≤ 10
unfolding varint
length-varint n = length-groups 9 n

-- what was written is read again, whatever follows
pub varint_again : (n : ℕ) (rest : List ℕ) → n < 2 ^ 64 → varint_in (varint n ++ rest) ≡ ok (n, length (varint n))
unfolding varint_in
varint_again n rest fits = read_again 9 (varint n) rest n fits (varint_spelled n fits)

-- ---- one spelling

pub begins_no_other : (front rest : List ℕ) (m n : ℕ) → IsVarint front m → IsVarint (front ++ rest) n → (rest ≡ []) × (m ≡ n)
begins_no_other [] rest m n h k = absurd h
begins_no_other (b ∷ front) rest m n h k =
    elim (IsVarint-cases b front m h) [
      | inl one ↦ elim (IsVarint-cases b (front ++ rest) n k) [
        | inl same ↦ (sym (ap (λ (t : List ℕ). t ++ rest) one.0) ∙ same.0, omega arith)
        | inr top ↦ absurd (omega arith)
      ]
      | inr more ↦ elim (IsVarint-cases b (front ++ rest) n k) [
        | inl same ↦ absurd (omega arith)
        | inr top ↦
            let behind = begins_no_other front rest (m / 128) (n / 128) more.2 top.2 in
            (behind.0, omega (arith, behind.1))
      ]
    ]

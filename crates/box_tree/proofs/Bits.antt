-- Bits that are parted.
use Rattle.std.proofs.Common.{◌≡◌, ℕ, zero, suc, ◌+◌, ◌-◌, ◌*◌, ◌/◌, ◌%◌, ◌^◌, ◌<◌, ◌≤◌, Bool, true, false, cond, eqb, map, sum, refl, sym, ap, subst, ◌∙◌, arith, bit_and, bit_or, mul-le-mul_right, min, max, ◌⊎◌, inl, inr}
use Rattle.std.specs.List.{range_with_len}
use Rattle.std.specs.Int.{bit_at}
use Rattle.std.proofs.lemmas.List.FromFn.{sum_by-map-range_with_len_more}
use Rattle.std.proofs.lemmas.Nat.{pow_pos, and_le_r}
use Rattle.std.proofs.Math.Nat.{pow-suc}
use Rattle.std.proofs.lemmas.Nat.Bits.{bit_at_and, bit_at_or, bit_at_cat_low, bit_at_cat_high, bit_at_above, bit_at-lt, bit_at_lowest, bit_at-zero, same_from_bits_below}
use Rattle.std.proofs.lemmas.Bool.{cases_lt}
use Rattle.std.proofs.lemmas.Bool.Decides.{nat_tests}
use Rattle.live_model.specs.declared.points.Point.{Point}
use Rattle.box_tree.specs.Packing.{interleave, code}

-- the groups of w bits of n stand in x with gaps of w bits between them
pub record AreParted (w n x : ℕ) : Type 0 where
  pub group : (q r i : ℕ) → i ≡ 2 * (w * q) + r → r < w → i < 64 → bit_at x i ≡ bit_at n (w * q + r)
  pub gap : (q r i : ℕ) → i ≡ 2 * (w * q) + w + r → r < w → i < 64 → bit_at x i ≡ 0

-- a mask of groups of s bits
pub record IsMask (s m : ℕ) : Type 0 where
  pub group : (q r i : ℕ) → i ≡ 2 * (s * q) + r → r < s → i < 64 → bit_at m i ≡ 1
  pub gap : (q r i : ℕ) → i ≡ 2 * (s * q) + s + r → r < s → i < 64 → bit_at m i ≡ 0

-- a bit of a number moved up
low_of : (x i : ℕ) → i < 64 → bit_at (x % 2 ^ 64) i ≡ bit_at x i
low_of x i lt =
    let e : x / 2 ^ 64 * 2 ^ 64 + x % 2 ^ 64 ≡ x = omega arith in
    sym (bit_at_cat_low (x / 2 ^ 64) 64 (x % 2 ^ 64) i lt) ∙ ap (λ (n : ℕ). bit_at n i) e

moved_high : (x s i j : ℕ) → i < 64 → i ≡ j + s → bit_at (x * 2 ^ s % 2 ^ 64) i ≡ bit_at x j
moved_high x s i j lt e =
    let zero_added : x * 2 ^ s ≡ x * 2 ^ s + 0 = omega arith in
    let back : i - s ≡ j = omega arith in
    low_of (x * 2 ^ s) i lt
    ∙ ap (λ (n : ℕ). bit_at n i) zero_added
    ∙ bit_at_cat_high x s 0 i (pow_pos s) (omega arith)
    ∙ ap (λ (n : ℕ). bit_at x n) back

moved_low : (x s i : ℕ) → i < 64 → i < s → bit_at (x * 2 ^ s % 2 ^ 64) i ≡ 0
moved_low x s i lt below =
    let zero_added : x * 2 ^ s ≡ x * 2 ^ s + 0 = omega arith in
    low_of (x * 2 ^ s) i lt
    ∙ ap (λ (n : ℕ). bit_at n i) zero_added
    ∙ bit_at_cat_low x s 0 i below
    ∙ bit_at-zero i

halved : (q : ℕ) → ((p : ℕ) × (q ≡ 2 * p)) ⊎ ((p : ℕ) × (q ≡ 2 * p + 1))
halved zero = inl (0, refl)
halved (suc q) = elim (halved q) [
  | inl half ↦ inr (half.0, omega (arith, half.1))
  | inr half ↦ inl (half.0 + 1, omega (arith, half.1))
]

-- one line of the program
parted_bit : (x s m i : ℕ) → bit_at (bit_and (bit_or x (x * 2 ^ s % 2 ^ 64)) m) i ≡ min (max (bit_at x i) (bit_at (x * 2 ^ s % 2 ^ 64) i)) (bit_at m i)
parted_bit x s m i = bit_at_and (bit_or x (x * 2 ^ s % 2 ^ 64)) m i ∙ ap (λ (b : ℕ). min b (bit_at m i)) (bit_at_or x (x * 2 ^ s % 2 ^ 64) i)

module _ (s n x m : ℕ) (some : 0 < s) (before : AreParted (2 * s) n x) (mask : IsMask s m) where
  after : ℕ
  after = bit_and (bit_or x (x * 2 ^ s % 2 ^ 64)) m

  group_even : (p r i : ℕ) → i ≡ 4 * (s * p) + r → r < s → i < 64 → bit_at after i ≡ bit_at n (2 * (s * p) + r)
  unfolding after
  group_even zero r i e lt small =
      let whole = parted_bit x s m i in
      let own : bit_at x i ≡ bit_at n (2 * s * 0 + r) = before.group 0 r i (omega arith) (omega arith) small in
      let same : 2 * s * 0 + r ≡ 2 * (s * 0) + r = omega arith in
      let own' = ap (λ (k : ℕ). bit_at n k) same in
      let moved = moved_low x s i small (omega arith) in
      let shown = mask.group 0 r i (omega arith) lt small in
      let bit = bit_at-lt n (2 * (s * 0) + r) in
      omega (arith, whole, own, own', moved, shown, bit)
  group_even (suc p) r i e lt small =
      let whole = parted_bit x s m i in
      let own : bit_at x i ≡ bit_at n (2 * s * suc p + r) = before.group (suc p) r i (omega arith) (omega arith) small in
      let same : 2 * s * suc p + r ≡ 2 * (s * suc p) + r = omega arith in
      let own' = ap (λ (k : ℕ). bit_at n k) same in
      let j : ℕ = i - s in
      let moved = moved_high x s i j small (omega arith) in
      let other = before.gap p (s + r) j (omega arith) (omega arith) (omega arith) in
      let shown = mask.group (2 * suc p) r i (omega arith) lt small in
      let bit = bit_at-lt n (2 * (s * suc p) + r) in
      omega (arith, whole, own, own', moved, other, shown, bit)

  group_odd : (p r i : ℕ) → i ≡ 4 * (s * p) + 2 * s + r → r < s → i < 64 → bit_at after i ≡ bit_at n (2 * (s * p) + s + r)
  unfolding after
  group_odd p r i e lt small =
      let whole = parted_bit x s m i in
      let own = before.gap p r i (omega arith) (omega arith) small in
      let j : ℕ = i - s in
      let moved = moved_high x s i j small (omega arith) in
      let other : bit_at x j ≡ bit_at n (2 * s * p + (s + r)) = before.group p (s + r) j (omega arith) (omega arith) (omega arith) in
      let same : 2 * s * p + (s + r) ≡ 2 * (s * p) + s + r = omega arith in
      let other' = ap (λ (k : ℕ). bit_at n k) same in
      let shown = mask.group (2 * p + 1) r i (omega arith) lt small in
      let bit = bit_at-lt n (2 * (s * p) + s + r) in
      omega (arith, whole, own, moved, other, other', shown, bit)

  group : (q r i : ℕ) → i ≡ 2 * (s * q) + r → r < s → i < 64 → bit_at after i ≡ bit_at n (s * q + r)
  group q r i e lt small = elim (halved q) [
    | inl half ↦
        let scaled : s * q ≡ 2 * (s * half.0) = ap (λ (k : ℕ). s * k) half.1 ∙ omega arith in
        group_even half.0 r i (omega (arith, scaled)) lt small ∙ ap (λ (k : ℕ). bit_at n (k + r)) (sym scaled)
    | inr half ↦
        let scaled : s * q ≡ 2 * (s * half.0) + s = ap (λ (k : ℕ). s * k) half.1 ∙ omega arith in
        group_odd half.0 r i (omega (arith, scaled)) lt small ∙ ap (λ (k : ℕ). bit_at n (k + r)) (sym scaled)
  ]

  gap : (q r i : ℕ) → i ≡ 2 * (s * q) + s + r → r < s → i < 64 → bit_at after i ≡ 0
  unfolding after
  gap q r i e lt small =
      let whole = parted_bit x s m i in
      let hidden = mask.gap q r i e lt small in
      omega (arith, whole, hidden)

  -- a line of the program parts each group in two
  pub parted_more : AreParted s n (bit_and (bit_or x (x * 2 ^ s % 2 ^ 64)) m)
  unfolding after
  parted_more = record { group = group; gap = gap }

-- ---- masks

-- the bits of a mask, one by one
shows : ℕ → ℕ → ℕ → Bool
shows s m i = eqb (bit_at m i) (cond (eqb (i / s % 2) 0) 1 0)

all_below : (ℕ → Bool) → ℕ → Bool
all_below p zero = true
all_below p (suc n) = cond (p n) (all_below p n) false

below_all : (p : ℕ → Bool) (n i : ℕ) → all_below p n ≡ true → i < n → p i ≡ true
unfolding all_below
below_all p zero i all lt = absurd (omega arith)
below_all p (suc n) i all lt =
    elim (p n) as (λ b. p n ≡ b → p i ≡ true) [
      | true ↦ λ t.
          let rest : all_below p n ≡ true = sym (ap (λ (b : Bool). cond b (all_below p n) false) t) ∙ all in
          elim (eqb i n) as (λ b. eqb i n ≡ b → p i ≡ true) [
            | true ↦ λ same. let e : i ≡ n = grind (arith, nat_tests) in ap p e ∙ t
            | false ↦ λ other. let ne : i < n = grind (arith, nat_tests) in below_all p n i rest ne
          ] refl
      | false ↦ λ f. let no : false ≡ true = sym (ap (λ (b : Bool). cond b (all_below p n) false) f) ∙ all in cc
    ] refl

shown_group : (s m i : ℕ) → all_below (shows s m) 64 ≡ true → i < 64 → i / s % 2 ≡ 0 → bit_at m i ≡ 1
unfolding shows
shown_group s m i all lt even =
    let t : eqb (bit_at m i) (cond (eqb (i / s % 2) 0) 1 0) ≡ true = below_all (shows s m) 64 i all lt in
    grind (arith, nat_tests)

shown_gap : (s m i : ℕ) → all_below (shows s m) 64 ≡ true → i < 64 → i / s % 2 ≡ 1 → bit_at m i ≡ 0
unfolding shows
shown_gap s m i all lt odd =
    let t : eqb (bit_at m i) (cond (eqb (i / s % 2) 0) 1 0) ≡ true = below_all (shows s m) 64 i all lt in
    grind (arith, nat_tests)

pub mask_16 : IsMask 16 0x0000_ffff_0000_ffff
unfolding shows all_below
mask_16 = record {
  group = λ q r i e lt small. shown_group 16 0x0000_ffff_0000_ffff i refl small (omega arith);
  gap = λ q r i e lt small. shown_gap 16 0x0000_ffff_0000_ffff i refl small (omega arith);
}

pub mask_8 : IsMask 8 0x00ff_00ff_00ff_00ff
unfolding shows all_below
mask_8 = record {
  group = λ q r i e lt small. shown_group 8 0x00ff_00ff_00ff_00ff i refl small (omega arith);
  gap = λ q r i e lt small. shown_gap 8 0x00ff_00ff_00ff_00ff i refl small (omega arith);
}

pub mask_4 : IsMask 4 0x0f0f_0f0f_0f0f_0f0f
unfolding shows all_below
mask_4 = record {
  group = λ q r i e lt small. shown_group 4 0x0f0f_0f0f_0f0f_0f0f i refl small (omega arith);
  gap = λ q r i e lt small. shown_gap 4 0x0f0f_0f0f_0f0f_0f0f i refl small (omega arith);
}

pub mask_2 : IsMask 2 0x3333_3333_3333_3333
unfolding shows all_below
mask_2 = record {
  group = λ q r i e lt small. shown_group 2 0x3333_3333_3333_3333 i refl small (omega arith);
  gap = λ q r i e lt small. shown_gap 2 0x3333_3333_3333_3333 i refl small (omega arith);
}

pub mask_1 : IsMask 1 0x5555_5555_5555_5555
unfolding shows all_below
mask_1 = record {
  group = λ q r i e lt small. shown_group 1 0x5555_5555_5555_5555 i refl small (omega arith);
  gap = λ q r i e lt small. shown_gap 1 0x5555_5555_5555_5555 i refl small (omega arith);
}

-- ---- the number itself, and what it is parted to

pub whole : (n : ℕ) → n < 2 ^ 32 → AreParted 32 n n
whole n fits = record {
  group = λ q r i e lt small. let none : q ≡ 0 = omega arith in ap (λ (k : ℕ). bit_at n k) (omega arith);
  gap = λ q r i e lt small. bit_at_above n 32 i fits (omega arith);
}

-- the first bits, interleaved
interleaved_to : ℕ → ℕ → ℕ
interleaved_to k n = sum (map (λ j. bit_at n j * 2 ^ (2 * j)) (range_with_len 0 k))

interleave_more : (k n : ℕ) → interleaved_to (k + 1) n ≡ bit_at n k * 2 ^ (2 * k) + interleaved_to k n
unfolding interleaved_to
interleave_more k n = sum_by-map-range_with_len_more (λ x. x) (λ j. bit_at n j * 2 ^ (2 * j)) 0 k k (omega arith) ∙ omega arith

four_times : (k : ℕ) → 2 ^ (2 * (k + 1)) ≡ 4 * 2 ^ (2 * k)
four_times k =
    let e : 2 * (k + 1) ≡ suc (suc (2 * k)) = omega arith in
    ap (λ (j : ℕ). 2 ^ j) e ∙ omega (arith, pow-suc 2 (2 * k), pow-suc 2 (suc (2 * k)))

interleave_small : (k n : ℕ) → interleaved_to k n < 2 ^ (2 * k)
unfolding interleaved_to
interleave_small zero n = omega arith
interleave_small (suc k) n =
    let e : suc k ≡ k + 1 = omega arith in
    let more = interleave_more k n in
    let bit = bit_at-lt n k in
    let small = interleave_small k n in
    let wide = four_times k in
    subst (λ (j : ℕ). interleaved_to j n < 2 ^ (2 * j)) (sym e) (bounded (bit_at n k) (2 ^ (2 * k)) bit more small wide)
  where
    bounded : (b p : ℕ) {s t q : ℕ} → b < 2 → s ≡ b * p + t → t < p → q ≡ 4 * p → s < q
    bounded zero p bit more small wide = omega arith
    bounded (suc zero) p bit more small wide = omega arith
    bounded (suc (suc b)) p bit more small wide = absurd (omega arith)

-- bit 2j of what is interleaved is bit j
interleave_even : (k n j : ℕ) → j < k → bit_at (interleaved_to k n) (2 * j) ≡ bit_at n j
interleave_even zero n j lt = absurd (omega arith)
interleave_even (suc k) n j lt =
    let e : suc k ≡ k + 1 = omega arith in
    let start = ap (λ (m : ℕ). bit_at m (2 * j)) (ap (λ (m : ℕ). interleaved_to m n) e ∙ interleave_more k n) in
    let small = interleave_small k n in
    elim (cases_lt j k) [
      | inl less ↦ start ∙ bit_at_cat_low (bit_at n k) (2 * k) (interleaved_to k n) (2 * j) (omega arith) ∙ interleave_even k n j less
      | inr more ↦
          let same : j ≡ k = omega arith in
          let none : 2 * j - 2 * k ≡ 0 = omega arith in
          let bit = bit_at-lt n k in
          let one : bit_at n k % 2 ≡ bit_at n k = omega arith in
          start
          ∙ bit_at_cat_high (bit_at n k) (2 * k) (interleaved_to k n) (2 * j) small (omega arith)
          ∙ ap (λ (m : ℕ). bit_at (bit_at n k) m) none
          ∙ bit_at_lowest (bit_at n k)
          ∙ one
          ∙ ap (λ (m : ℕ). bit_at n m) (sym same)
    ]

-- and the bits between are 0
interleave_odd : (k n j : ℕ) → bit_at (interleaved_to k n) (2 * j + 1) ≡ 0
unfolding interleaved_to
interleave_odd zero n j = bit_at-zero (2 * j + 1)
interleave_odd (suc k) n j =
    let e : suc k ≡ k + 1 = omega arith in
    let start = ap (λ (m : ℕ). bit_at m (2 * j + 1)) (ap (λ (m : ℕ). interleaved_to m n) e ∙ interleave_more k n) in
    let small = interleave_small k n in
    elim (cases_lt j k) [
      | inl less ↦ start ∙ bit_at_cat_low (bit_at n k) (2 * k) (interleaved_to k n) (2 * j + 1) (omega arith) ∙ interleave_odd k n j
      | inr more ↦
          let bit : bit_at n k < 2 ^ 1 = bit_at-lt n k in
          start
          ∙ bit_at_cat_high (bit_at n k) (2 * k) (interleaved_to k n) (2 * j + 1) small (omega arith)
          ∙ bit_at_above (bit_at n k) 1 (2 * j + 1 - 2 * k) bit (omega arith)
    ]

-- what is parted to single bits is what is interleavedd
pub interleave_parted : (n x : ℕ) → n < 2 ^ 32 → x < 2 ^ 64 → AreParted 1 n x → x ≡ interleave n
unfolding interleave interleaved_to
interleave_parted n x fits small parts =
    same_from_bits_below 64 x (interleaved_to 32 n) small (interleave_small 32 n)
    (λ i lt. elim (halved i) [
      | inl half ↦
          let is = parts.group half.0 0 i (omega (arith, half.1)) (omega arith) lt in
          let same : 1 * half.0 + 0 ≡ half.0 = omega arith in
          is ∙ ap (λ (k : ℕ). bit_at n k) same ∙ sym (interleave_even 32 n half.0 (omega (arith, half.1))) ∙ ap (λ (k : ℕ). bit_at (interleaved_to 32 n) k) (sym half.1)
      | inr half ↦
          let is = parts.gap half.0 0 i (omega (arith, half.1)) (omega arith) lt in
          is ∙ sym (interleave_odd 32 n half.0) ∙ ap (λ (k : ℕ). bit_at (interleaved_to 32 n) k) (sym half.1)
    ])

pub interleave_lines : (n : ℕ) (a b c d e : ℕ) → n < 2 ^ 32
    → a ≡ bit_and (bit_or n (n * 2 ^ 16 % 2 ^ 64)) 0x0000_ffff_0000_ffff
    → b ≡ bit_and (bit_or a (a * 2 ^ 8 % 2 ^ 64)) 0x00ff_00ff_00ff_00ff
    → c ≡ bit_and (bit_or b (b * 2 ^ 4 % 2 ^ 64)) 0x0f0f_0f0f_0f0f_0f0f
    → d ≡ bit_and (bit_or c (c * 2 ^ 2 % 2 ^ 64)) 0x3333_3333_3333_3333
    → e ≡ bit_and (bit_or d (d * 2 ^ 1 % 2 ^ 64)) 0x5555_5555_5555_5555
    → e ≡ interleave n
interleave_lines n a b c d e fits ea eb ec ed ee =
    let small : e < 2 ^ 64 = omega (arith, ee, and_le_r (bit_or d (d * 2 ^ 1 % 2 ^ 64)) 0x5555_5555_5555_5555) in
    let pa : AreParted 16 n a = subst (AreParted 16 n) (sym ea) (parted_more 16 n n 0x0000_ffff_0000_ffff (omega arith) (whole n fits) mask_16) in
    let pb : AreParted 8 n b = subst (AreParted 8 n) (sym eb) (parted_more 8 n a 0x00ff_00ff_00ff_00ff (omega arith) pa mask_8) in
    let pc : AreParted 4 n c = subst (AreParted 4 n) (sym ec) (parted_more 4 n b 0x0f0f_0f0f_0f0f_0f0f (omega arith) pb mask_4) in
    let pd : AreParted 2 n d = subst (AreParted 2 n) (sym ed) (parted_more 2 n c 0x3333_3333_3333_3333 (omega arith) pc mask_2) in
    let pe : AreParted 1 n e = subst (AreParted 1 n) (sym ee) (parted_more 1 n d 0x5555_5555_5555_5555 (omega arith) pd mask_1) in
    interleave_parted n e fits small pe

-- ---- codes

-- the code of the first bits
code_to : ℕ → ℕ → ℕ → ℕ
code_to k x y = interleaved_to k x + 2 * interleaved_to k y

code_more : (k x y : ℕ) → code_to (k + 1) x y ≡ (bit_at x k + 2 * bit_at y k) * 2 ^ (2 * k) + code_to k x y
unfolding code_to
code_more k x y = omega (arith, interleave_more k x, interleave_more k y)

code_small : (k x y : ℕ) → code_to k x y < 2 ^ (2 * k)
unfolding code_to interleaved_to
code_small zero x y = omega arith
code_small (suc k) x y =
    let e : suc k ≡ k + 1 = omega arith in
    let more = code_more k x y in
    let small = code_small k x y in
    let wide = four_times k in
    let few : bit_at x k + 2 * bit_at y k ≤ 3 = omega (arith, bit_at-lt x k, bit_at-lt y k) in
    let most = mul-le-mul_right (2 ^ (2 * k)) few in
    let less : code_to (k + 1) x y < 2 ^ (2 * (k + 1)) = omega (arith, more, small, wide, most) in
    subst (λ (j : ℕ). code_to j x y < 2 ^ (2 * j)) (sym e) less

-- a bit of a code, below the last pair or in it
code_bit_low : (k x y i : ℕ) → i < 2 * k → bit_at (code_to (k + 1) x y) i ≡ bit_at (code_to k x y) i
code_bit_low k x y i lt = ap (λ (m : ℕ). bit_at m i) (code_more k x y) ∙ bit_at_cat_low (bit_at x k + 2 * bit_at y k) (2 * k) (code_to k x y) i lt

code_bit_high : (k x y i j : ℕ) → i ≡ 2 * k + j → bit_at (code_to (k + 1) x y) i ≡ bit_at (bit_at x k + 2 * bit_at y k) j
code_bit_high k x y i j e =
    let back : i - 2 * k ≡ j = omega arith in
    ap (λ (m : ℕ). bit_at m i) (code_more k x y)
    ∙ bit_at_cat_high (bit_at x k + 2 * bit_at y k) (2 * k) (code_to k x y) i (code_small k x y) (omega arith)
    ∙ ap (λ (m : ℕ). bit_at (bit_at x k + 2 * bit_at y k) m) back

code_even : (k x y j : ℕ) → j < k → bit_at (code_to k x y) (2 * j) ≡ bit_at x j
code_even zero x y j lt = absurd (omega arith)
code_even (suc k) x y j lt =
    let e : suc k ≡ k + 1 = omega arith in
    ap (λ (n : ℕ). bit_at (code_to n x y) (2 * j)) e
    ∙ elim (cases_lt j k) as (λ _. bit_at (code_to (k + 1) x y) (2 * j) ≡ bit_at x j) [
      | inl less ↦ code_bit_low k x y (2 * j) (omega arith) ∙ code_even k x y j less
      | inr more ↦
          let same : j ≡ k = omega arith in
          let first : bit_at (bit_at x k + 2 * bit_at y k) 0 ≡ bit_at x k = omega (arith, bit_at-lt x k, bit_at_lowest (bit_at x k + 2 * bit_at y k)) in
          code_bit_high k x y (2 * j) 0 (omega arith) ∙ first ∙ ap (λ (m : ℕ). bit_at x m) (sym same)
    ]

code_odd : (k x y j : ℕ) → j < k → bit_at (code_to k x y) (2 * j + 1) ≡ bit_at y j
code_odd zero x y j lt = absurd (omega arith)
code_odd (suc k) x y j lt =
    let e : suc k ≡ k + 1 = omega arith in
    ap (λ (n : ℕ). bit_at (code_to n x y) (2 * j + 1)) e
    ∙ elim (cases_lt j k) as (λ _. bit_at (code_to (k + 1) x y) (2 * j + 1) ≡ bit_at y j) [
      | inl less ↦ code_bit_low k x y (2 * j + 1) (omega arith) ∙ code_odd k x y j less
      | inr more ↦
          let same : j ≡ k = omega arith in
          let second : bit_at (bit_at x k + 2 * bit_at y k) 1 ≡ bit_at y k = omega (arith, bit_at-lt x k, bit_at-lt y k) in
          code_bit_high k x y (2 * j + 1) 1 (omega arith) ∙ second ∙ ap (λ (m : ℕ). bit_at y m) (sym same)
    ]

pub even_bits : (p : Point) (k : ℕ) → k < 32 → bit_at (code p) (2 * k) ≡ bit_at p.x k
unfolding code interleave interleaved_to code_to
even_bits p k lt = code_even 32 p.x p.y k lt

pub odd_bits : (p : Point) (k : ℕ) → k < 32 → bit_at (code p) (2 * k + 1) ≡ bit_at p.y k
unfolding code interleave interleaved_to code_to
odd_bits p k lt = code_odd 32 p.x p.y k lt

pub all_bits : (p : Point) → code p < 2 ^ 64
unfolding code interleave interleaved_to code_to
all_bits p = code_small 32 p.x p.y

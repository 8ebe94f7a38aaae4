-- What is read is spelled so, what is spelled so is read, and the three cases at a place.
use Rattle.std.proofs.Common.{◌≡◌, ◌≢◌, ℕ, zero, suc, ◌+◌, ◌-◌, ◌*◌, ◌/◌, ◌%◌, ◌^◌, ◌<◌, ◌≤◌, List, [], ◌∷◌, ◌++◌, length, take, drop, Result, Ok, Err, refl, sym, ap, subst, ◌∙◌, inl, inr, ◌⊎◌, append_assoc, add-one, arith, lit<}
use Rattle.std.proofs.lemmas.Bool.{cases_lt, le-ltb, lt-ltb}
use Rattle.std.proofs.lemmas.List.{append-nil, length-take, take-append-drop}
use Rattle.std.proofs.Math.Dec.{eqb-suc-zero}
use Rattle.std.proofs.Math.Seq.{take-length}
use Rattle.obf_wire.specs.declared.breaks.WireKind.{WireKind}
use Rattle.obf_wire.specs.declared.breaks.WireKind.TheVariants.{Short, LongVarint, BadKey, OverEnd}
use Rattle.obf_wire.specs.Varint.{IsVarint, BeginsWith, IsSpelled, IsCut, IsOverlong, IsOneOfThree, with_low, groups_in, varint_in}
use Rattle.obf_wire.proofs.Groups.{groups_in-top, groups_in-last}

-- one more than the greatest number with at most so many bytes before its last, behind nine bytes less those
abbrev pub limit : ℕ → ℕ
limit zero = 2
limit (suc more) = 128 * limit more

pub limit-pos : (more : ℕ) → 2 ≤ limit more
limit-pos zero = omega arith
limit-pos (suc more) = omega (arith, limit-pos more)

-- ---- cases of a spelling

-- a byte before others
pub IsVarint-cons : (b : ℕ) (bs : List ℕ) (n : ℕ) → b ≡ 128 + n % 128 → 128 ≤ n → IsVarint bs (n / 128) → IsVarint (b ∷ bs) n
IsVarint-cons b [] n low top h = absurd h
IsVarint-cons b (c ∷ bs) n low top h = (low, top, h)

-- a byte and the number behind it
record Top (b n high : ℕ) : Type 0 where
  low : b ≡ 128 + n % 128
  top : 128 ≤ n
  over : n / 128 ≡ high

top_of : (b high : ℕ) → 128 ≤ b → b < 256 → 0 < high → Top b (128 * high + (b - 128)) high
top_of b high low lt pos = record { low = omega arith; top = omega arith; over = omega arith }

IsVarint-top : (b high : ℕ) (bs : List ℕ) → 128 ≤ b → b < 256 → 0 < high → IsVarint bs high → IsVarint (b ∷ bs) (128 * high + (b - 128))
IsVarint-top b high bs low lt pos h =
    let t = top_of b high low lt pos in
    IsVarint-cons b bs (128 * high + (b - 128)) t.low t.top (subst (IsVarint bs) (sym t.over) h)

-- a spelling is one byte, or a byte and the spelling of what is left
pub IsVarint-cases : (b : ℕ) (bs : List ℕ) (n : ℕ) → IsVarint (b ∷ bs) n → ((bs ≡ []) × (b ≡ n) × (n < 128)) ⊎ ((b ≡ 128 + n % 128) × (128 ≤ n) × IsVarint bs (n / 128))
IsVarint-cases b [] n h = inl (refl, h.0, h.1)
IsVarint-cases b (c ∷ bs) n h = inr (h.0, h.1, h.2)

-- ---- what is read

-- a number below the limit is spelled by the first bytes
pub record Reads (more : ℕ) (bytes : List ℕ) (n len : ℕ) : Type 0 where
  pub fits : n < limit more
  pub within : len ≤ length bytes
  pub spelled : IsVarint (take len bytes) n

abbrev pub ok : ℕ × ℕ → Result (ℕ × ℕ) WireKind
ok x = Ok x

abbrev pub err : WireKind → Result (ℕ × ℕ) WireKind
err kind = Err kind

ok_is : (a b c d : ℕ) → ok (a, b) ≡ ok (c, d) → (a ≡ c) × (b ≡ d)
ok_is a b c d e = let f : Result (ℕ × ℕ) WireKind → ℕ × ℕ = λ r. elim r [ Ok x ↦ x | Err k ↦ (0, 0) ] in (ap (λ r. (f r).0) e, ap (λ r. (f r).1) e)

take-cons : (len b : ℕ) (bytes : List ℕ) → take (len + 1) (b ∷ bytes) ≡ b ∷ take len bytes
take-cons len b bytes = rw add-one refl

-- the byte in front took a number that is not 0 from behind it
record Joins (b : ℕ) (read : Result (ℕ × ℕ) WireKind) (n len : ℕ) : Type 0 where
  high : ℕ
  size : ℕ
  read_is : read ≡ ok (high, size)
  pos : 0 < high
  n_is : 128 * high + (b - 128) ≡ n
  len_is : size + 1 ≡ len

joins : (b : ℕ) (read : Result (ℕ × ℕ) WireKind) (n len : ℕ) → with_low b read ≡ ok (n, len) → Joins b read n len
joins b (Err kind) n len e = absurd cc
joins b (Ok (zero, size)) n len e = absurd cc
joins b (Ok (suc high, size)) n len e =
    let whole : ok (128 * suc high + (b - 128), size + 1) ≡ ok (n, len) = rw eqb-suc-zero at e in
    let same = ok_is (128 * suc high + (b - 128)) (size + 1) n len whole in
    record { high = suc high; size = size; read_is = refl; pos = omega arith; n_is = same.0; len_is = same.1 }

one_byte : (more b : ℕ) (bytes : List ℕ) (n len : ℕ) → b < 128 → b < limit more → ok (b, 1) ≡ ok (n, len) → Reads more (b ∷ bytes) n len
one_byte more b bytes n len low fits e =
    let same = ok_is b 1 n len e in
    let here : Reads more (b ∷ bytes) b 1 = record { fits = fits; within = omega arith; spelled = (refl, low) } in
    subst (λ (k : ℕ). Reads more (b ∷ bytes) k len) same.0 (subst (λ (k : ℕ). Reads more (b ∷ bytes) b k) same.1 here)

more_bytes : (more b : ℕ) (bytes : List ℕ) (high size : ℕ) → 128 ≤ b → b < 256 → 0 < high → Reads more bytes high size → Reads (suc more) (b ∷ bytes) (128 * high + (b - 128)) (size + 1)
more_bytes more b bytes high size low lt pos read = record {
  fits = omega (arith, read.fits);
  within = omega (arith, read.within);
  spelled = rw take-cons (IsVarint-top b high (take size bytes) low lt pos read.spelled);
}

pub read_found : (more : ℕ) (bytes : List ℕ) (n len : ℕ) → groups_in more bytes ≡ ok (n, len) → Reads more bytes n len
read_found more [] n len e = absurd cc
read_found zero (b ∷ bytes) n len e =
    elim (cases_lt b 2) [
      | inl lt ↦ one_byte zero b bytes n len (omega arith) lt (rw (lt-ltb b 2 lt) at e)
      | inr le ↦ let bad : err LongVarint ≡ ok (n, len) = rw (le-ltb b 2 le) at e in absurd cc
    ]
read_found (suc more) (b ∷ bytes) n len e =
    elim (cases_lt b 128) [
      | inl lt ↦ one_byte (suc more) b bytes n len lt (omega (arith, limit-pos more)) (rw (lt-ltb b 128 lt) at e)
      | inr le ↦ elim (cases_lt b 256) [
        | inl lt ↦
            let top : with_low b (groups_in more bytes) ≡ ok (n, len) = sym (groups_in-top more b bytes le lt) ∙ e in
            let j = joins b (groups_in more bytes) n len top in
            let whole = more_bytes more b bytes j.high j.size le lt j.pos (read_found more bytes j.high j.size j.read_is) in
            subst (λ (k : ℕ). Reads (suc more) (b ∷ bytes) k len) j.n_is (subst (λ (k : ℕ). Reads (suc more) (b ∷ bytes) (128 * j.high + (b - 128)) k) j.len_is whole)
        | inr over ↦ let bad : err LongVarint ≡ ok (n, len) = rw (le-ltb b 128 le, le-ltb b 256 over) at e in absurd cc
      ]
    ]

-- ---- what is spelled

with_low-ok : (b high size : ℕ) → 0 < high → with_low b (ok (high, size)) ≡ ok (128 * high + (b - 128), size + 1)
with_low-ok b zero size pos = absurd (omega arith)
with_low-ok b (suc high) size pos = rw (eqb-suc-zero high) refl

same_ok : (a b c d : ℕ) → a ≡ c → b ≡ d → ok (a, b) ≡ ok (c, d)
same_ok a b c d e f = cc

pub read_again : (more : ℕ) (front rest : List ℕ) (n : ℕ) → n < limit more → IsVarint front n → groups_in more (front ++ rest) ≡ ok (n, length front)
read_again more [] rest n fits h = absurd h
read_again zero (b ∷ front) rest n fits h =
    elim (IsVarint-cases b front n h) [
      | inl one ↦ groups_in-last zero b (front ++ rest) (omega arith) (λ _. omega arith) ∙ same_ok b 1 n (length (b ∷ front)) one.1 (omega (arith, ap length one.0))
      | inr top ↦ absurd (omega arith)
    ]
read_again (suc more) (b ∷ front) rest n fits h =
    elim (IsVarint-cases b front n h) [
      | inl one ↦ groups_in-last (suc more) b (front ++ rest) (omega arith) (λ e. absurd (omega arith)) ∙ same_ok b 1 n (length (b ∷ front)) one.1 (omega (arith, ap length one.0))
      | inr top ↦
          let again = read_again more front rest (n / 128) (omega arith) top.2 in
          groups_in-top more b (front ++ rest) (omega arith) (omega arith)
          ∙ ap (with_low b) again
          ∙ with_low-ok b (n / 128) (length front) (omega arith)
          ∙ same_ok (128 * (n / 128) + (b - 128)) (length front + 1) n (length (b ∷ front)) (omega arith) (omega arith)
    ]

-- ---- a front of a spelling

pub record Completes (more : ℕ) (bytes : List ℕ) : Type 0 where
  pub rest : List ℕ
  pub n : ℕ
  pub misses : rest ≢ []
  pub pos : 0 < n
  pub fits : n < limit more
  pub spelled : IsVarint (bytes ++ rest) n

-- the two answers where no number was read
abbrev IsRefusal : WireKind → Type 0
IsRefusal Short = Unit {0}
IsRefusal LongVarint = Unit {0}
IsRefusal BadKey = ⊥
IsRefusal OverEnd = ⊥

with_low-err : (b : ℕ) (read : Result (ℕ × ℕ) WireKind) (kind : WireKind) → with_low b read ≡ err kind → (read ≡ err kind) ⊎ (err LongVarint ≡ err kind)
with_low-err b (Err other) kind e = inl e
with_low-err b (Ok (zero, size)) kind e = inr e
with_low-err b (Ok (suc high, size)) kind e = let bad : ok (128 * suc high + (b - 128), size + 1) ≡ err kind = rw eqb-suc-zero at e in absurd cc

pub cut_found : (more : ℕ) (bytes : List ℕ) → groups_in more bytes ≡ err Short → Completes more bytes
cut_found more [] e = record { rest = 1 ∷ []; n = 1; misses = λ e. cc; pos = omega arith; fits = omega (arith, limit-pos more); spelled = (refl, lit< tt) }
cut_found zero (b ∷ bytes) e =
    elim (cases_lt b 2) [
      | inl lt ↦ let bad : ok (b, 1) ≡ err Short = rw (lt-ltb b 2 lt) at e in absurd cc
      | inr le ↦ let bad : err LongVarint ≡ err Short = rw (le-ltb b 2 le) at e in absurd cc
    ]
cut_found (suc more) (b ∷ bytes) e =
    elim (cases_lt b 128) [
      | inl lt ↦ let bad : ok (b, 1) ≡ err Short = rw (lt-ltb b 128 lt) at e in absurd cc
      | inr le ↦ elim (cases_lt b 256) [
        | inl lt ↦ elim (with_low-err b (groups_in more bytes) Short (sym (groups_in-top more b bytes le lt) ∙ e)) [
          | inl cut ↦
              let c = cut_found more bytes cut in
              record { rest = c.rest; n = 128 * c.n + (b - 128); misses = c.misses; pos = omega (arith, c.pos); fits = omega (arith, c.fits); spelled = IsVarint-top b c.n (bytes ++ c.rest) le lt c.pos c.spelled }
          | inr bad ↦ absurd cc
        ]
        | inr over ↦ let bad : err LongVarint ≡ err Short = rw (le-ltb b 128 le, le-ltb b 256 over) at e in absurd cc
      ]
    ]

no_rest : (bytes rest : List ℕ) → bytes ++ rest ≡ [] → rest ≡ []
no_rest [] rest e = e
no_rest (b ∷ bytes) rest e = absurd cc

pub cut_again : (more : ℕ) (bytes rest : List ℕ) (n : ℕ) → rest ≢ [] → n < limit more → IsVarint (bytes ++ rest) n → groups_in more bytes ≡ err Short
cut_again more [] rest n misses fits h = refl
cut_again zero (b ∷ bytes) rest n misses fits h =
    elim (IsVarint-cases b (bytes ++ rest) n h) [
      | inl one ↦ absurd (misses (no_rest bytes rest one.0))
      | inr top ↦ absurd (omega arith)
    ]
cut_again (suc more) (b ∷ bytes) rest n misses fits h =
    elim (IsVarint-cases b (bytes ++ rest) n h) [
      | inl one ↦ absurd (misses (no_rest bytes rest one.0))
      | inr top ↦
          groups_in-top more b bytes (omega arith) (omega arith)
          ∙ ap (with_low b) (cut_again more bytes rest (n / 128) misses (omega arith) top.2)
    ]

-- ---- no other answer, and none that more bytes would change

err_is : (a b : WireKind) → err a ≡ err b → a ≡ b
err_is a b e = cc

pub refusals : (more : ℕ) (bytes : List ℕ) (kind : WireKind) → groups_in more bytes ≡ err kind → IsRefusal kind
refusals more [] kind e = subst IsRefusal (err_is Short kind e) tt
refusals zero (b ∷ bytes) kind e =
    elim (cases_lt b 2) [
      | inl lt ↦ let bad : ok (b, 1) ≡ err kind = rw (lt-ltb b 2 lt) at e in absurd cc
      | inr le ↦ subst IsRefusal (err_is LongVarint kind (rw (le-ltb b 2 le) at e)) tt
    ]
refusals (suc more) (b ∷ bytes) kind e =
    elim (cases_lt b 128) [
      | inl lt ↦ let bad : ok (b, 1) ≡ err kind = rw (lt-ltb b 128 lt) at e in absurd cc
      | inr le ↦ elim (cases_lt b 256) [
        | inl lt ↦ elim (with_low-err b (groups_in more bytes) kind (sym (groups_in-top more b bytes le lt) ∙ e)) [
          | inl here ↦ refusals more bytes kind here
          | inr long ↦ subst IsRefusal (err_is LongVarint kind long) tt
        ]
        | inr over ↦ subst IsRefusal (err_is LongVarint kind (rw (le-ltb b 128 le, le-ltb b 256 over) at e)) tt
      ]
    ]

-- behind a byte a number is 0, or is LongVarint, however the bytes go on
long_behind : (more b : ℕ) (bytes rest : List ℕ) (read : Result (ℕ × ℕ) WireKind) → groups_in more bytes ≡ read → with_low b read ≡ err LongVarint → (groups_in more bytes ≡ err LongVarint → groups_in more (bytes ++ rest) ≡ err LongVarint) → with_low b (groups_in more (bytes ++ rest)) ≡ err LongVarint
long_behind more b bytes rest (Err kind) e h again = ap (with_low b) (again (e ∙ h))
long_behind more b bytes rest (Ok (zero, size)) e h again =
    let found = read_found more bytes 0 size e in
    let parts : take size bytes ++ (drop size bytes ++ rest) ≡ bytes ++ rest = sym (append_assoc (take size bytes) (drop size bytes) rest) ∙ ap (λ (t : List ℕ). t ++ rest) (take-append-drop size bytes) in
    ap (with_low b) (ap (groups_in more) (sym parts) ∙ read_again more (take size bytes) (drop size bytes ++ rest) 0 found.fits found.spelled)
long_behind more b bytes rest (Ok (suc high, size)) e h again = let bad : ok (128 * suc high + (b - 128), size + 1) ≡ err LongVarint = rw eqb-suc-zero at h in absurd cc

pub long_stays : (more : ℕ) (bytes rest : List ℕ) → groups_in more bytes ≡ err LongVarint → groups_in more (bytes ++ rest) ≡ err LongVarint
long_stays more [] rest e = absurd cc
long_stays zero (b ∷ bytes) rest e =
    elim (cases_lt b 2) [
      | inl lt ↦ let bad : ok (b, 1) ≡ err LongVarint = rw (lt-ltb b 2 lt) at e in absurd cc
      | inr le ↦ rw (le-ltb b 2 le) refl
    ]
long_stays (suc more) (b ∷ bytes) rest e =
    elim (cases_lt b 128) [
      | inl lt ↦ let bad : ok (b, 1) ≡ err LongVarint = rw (lt-ltb b 128 lt) at e in absurd cc
      | inr le ↦ elim (cases_lt b 256) [
        | inl lt ↦ groups_in-top more b (bytes ++ rest) le lt ∙ long_behind more b bytes rest (groups_in more bytes) refl (sym (groups_in-top more b bytes le lt) ∙ e) (λ h. long_stays more bytes rest h)
        | inr over ↦ rw (le-ltb b 128 le, le-ltb b 256 over) refl
      ]
    ]

-- ---- the three cases of the bytes at a place

full : limit 9 ≡ 2 ^ 64
full = refl

pub begins : (bytes : List ℕ) (n len : ℕ) → varint_in bytes ≡ ok (n, len) → BeginsWith bytes n len
unfolding varint_in
begins bytes n len e =
    let r = read_found 9 bytes n len e in
    record { fits = rw full at r.fits; within = r.within; spelled = r.spelled }

pub begins_only : (bytes : List ℕ) (n len : ℕ) → BeginsWith bytes n len → varint_in bytes ≡ ok (n, len)
unfolding varint_in
begins_only bytes n len b =
    let again = read_again 9 (take len bytes) (drop len bytes) n b.fits b.spelled in
    let size : length (take len bytes) ≡ len = omega (arith, length-take len bytes, b.within) in
    ap (groups_in 9) (sym (take-append-drop len bytes)) ∙ again ∙ same_ok n (length (take len bytes)) n len refl size

pub is_cut : (bytes : List ℕ) → varint_in bytes ≡ err Short → IsCut bytes
unfolding varint_in
is_cut bytes e =
    let c = cut_found 9 bytes e in
    record { more = c.rest; n = c.n; misses = c.misses; fits = c.fits; spelled = c.spelled }

pub cut_only : (bytes : List ℕ) → IsCut bytes → varint_in bytes ≡ err Short
unfolding varint_in
cut_only bytes c = cut_again 9 bytes c.more c.n c.misses c.fits c.spelled

pub is_overlong : (bytes : List ℕ) → varint_in bytes ≡ err LongVarint → IsOverlong bytes
unfolding varint_in
is_overlong bytes e more n len b =
    let long = long_stays 9 bytes more e in
    let here = begins_only (bytes ++ more) n len b in
    absurd cc

-- a cut spelling goes on to a whole one
cut_goes_on : (bytes : List ℕ) → IsCut bytes → IsOverlong bytes → ⊥
cut_goes_on bytes c over =
    over c.more c.n (length (bytes ++ c.more)) (record { fits = c.fits; within = omega arith; spelled = rw take-length c.spelled })

begun_goes_on : (bytes : List ℕ) (n len : ℕ) → BeginsWith bytes n len → IsOverlong bytes → ⊥
begun_goes_on bytes n len b over = over [] n len (rw append-nil b)

overlong_read : (bytes : List ℕ) (read : Result (ℕ × ℕ) WireKind) → varint_in bytes ≡ read → IsOverlong bytes → read ≡ err LongVarint
unfolding varint_in
overlong_read bytes (Ok (n, len)) e over = absurd (begun_goes_on bytes n len (begins bytes n len e) over)
overlong_read bytes (Err Short) e over = absurd (cut_goes_on bytes (is_cut bytes e) over)
overlong_read bytes (Err LongVarint) e over = refl
overlong_read bytes (Err BadKey) e over = absurd (refusals 9 bytes BadKey e)
overlong_read bytes (Err OverEnd) e over = absurd (refusals 9 bytes OverEnd e)

pub overlong_only : (bytes : List ℕ) → IsOverlong bytes → varint_in bytes ≡ err LongVarint
overlong_only bytes over = overlong_read bytes (varint_in bytes) refl over

-- exactly one of the three
three_by : (bytes : List ℕ) (read : Result (ℕ × ℕ) WireKind) → varint_in bytes ≡ read → IsOneOfThree (IsSpelled bytes) (IsCut bytes) (IsOverlong bytes)
unfolding varint_in
three_by bytes (Ok (n, len)) e =
    let b = begins bytes n len e in
    inl ((n, len, b), λ cut. (let other = cut_only bytes cut in absurd cc), λ over. begun_goes_on bytes n len b over)
three_by bytes (Err Short) e =
    let cut = is_cut bytes e in
    inr (inl (λ s. (let other = begins_only bytes s.0 s.1 s.2 in absurd cc), cut, λ over. cut_goes_on bytes cut over))
three_by bytes (Err LongVarint) e =
    let over = is_overlong bytes e in
    inr (inr (λ s. begun_goes_on bytes s.0 s.1 s.2 over, λ cut. cut_goes_on bytes cut over, over))
three_by bytes (Err BadKey) e = absurd (refusals 9 bytes BadKey e)
three_by bytes (Err OverEnd) e = absurd (refusals 9 bytes OverEnd e)

pub three : (bytes : List ℕ) → IsOneOfThree (IsSpelled bytes) (IsCut bytes) (IsOverlong bytes)
three bytes = three_by bytes (varint_in bytes) refl

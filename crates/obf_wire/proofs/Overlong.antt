-- When bytes are overlong: by the number that they spell, or by how many they are.
use Rattle.std.proofs.Common.{◌≡◌, ◌≢◌, ℕ, zero, suc, ◌/◌, ◌^◌, ◌<◌, ◌≤◌, List, [], ◌∷◌, ◌++◌, length, take, drop, refl, sym, ap, subst, ◌∙◌, ◌⊎◌, ◌↔◌, inl, inr, append_assoc, arith}
use Rattle.std.specs.List.{AllByRecursion}
use Rattle.std.proofs.lemmas.Bool.{cases_lt, le-ltb}
use Rattle.std.proofs.lemmas.List.{append-nil, length-append, take_at, take-append-drop}
use Rattle.obf_wire.specs.declared.breaks.WireKind.TheVariants.{Short, LongVarint}
use Rattle.obf_wire.specs.Varint.{IsVarint, IsCut, IsOverlong, IsTop, IsGroups, number_of, varint, groups_in, varint_in, with_low}
use Rattle.obf_wire.proofs.Groups.{groups_in-top}
use Rattle.obf_wire.proofs.Spellings.{err, is_cut, cut_only}
use Rattle.obf_wire.proofs.Writing.{varint_spelled, varint_only}

-- ---- bytes with an end

groups_cons : (b : ℕ) (bytes : List ℕ) → IsTop b → IsGroups bytes → IsGroups (b ∷ bytes)
groups_cons b [] top h = absurd h
groups_cons b (c ∷ bytes) top h = (top, h)

-- a spelling spells the number that its bytes stand for
spells : (bytes : List ℕ) (n : ℕ) → IsVarint bytes n → IsGroups bytes × (number_of bytes ≡ n)
spells [] n h = absurd h
spells (b ∷ []) n h = (omega (arith, h.0, h.1), omega (arith, h.0, h.1))
spells (b ∷ c ∷ bytes) n h =
    let behind = spells (c ∷ bytes) (n / 128) h.2 in
    (((omega (arith, h.0), omega (arith, h.0)), behind.0), omega (arith, h.0, h.1, behind.1))

groups_cases : (b : ℕ) (bytes : List ℕ) → IsGroups (b ∷ bytes) → ((bytes ≡ []) × (b < 128)) ⊎ (IsTop b × IsGroups bytes)
groups_cases b [] h = inl (refl, h)
groups_cases b (c ∷ bytes) h = inr h

head_tail : (a b : ℕ) (xs ys : List ℕ) → a ∷ xs ≡ b ∷ ys → (a ≡ b) × (xs ≡ ys)
head_tail a b xs ys e = (cc, cc)

-- bytes end at the first byte without the top bit
same_front : (a b x y : List ℕ) → IsGroups a → IsGroups b → a ++ x ≡ b ++ y → a ≡ b
same_front [] b x y h k e = absurd h
same_front (c ∷ a) [] x y h k e = absurd k
same_front (c ∷ a) (d ∷ b) x y h k e =
    let parts = head_tail c d (a ++ x) (b ++ y) e in
    elim (groups_cases c a h) [
      | inl one ↦ elim (groups_cases d b k) [
        | inl other ↦ ap (λ (t : List ℕ). c ∷ t) (one.0 ∙ sym other.0) ∙ ap (λ (n : ℕ). n ∷ b) parts.0
        | inr top ↦ absurd (omega (arith, parts.0, one.1, top.0.0))
      ]
      | inr top ↦ elim (groups_cases d b k) [
        | inl other ↦ absurd (omega (arith, parts.0, other.1, top.0.0))
        | inr both ↦ ap (λ (t : List ℕ). c ∷ t) (same_front a b x y top.1 both.1 parts.1) ∙ ap (λ (n : ℕ). n ∷ b) parts.0
      ]
    ]

is_refused : (front rest : List ℕ) → IsGroups front → (2 ^ 64 ≤ number_of front) ⊎ (front ≢ varint (number_of front)) → IsOverlong (front ++ rest)
is_refused front rest h why more n len b =
    let whole : List ℕ = (front ++ rest) ++ more in
    let spelled = spells (take len whole) n b.spelled in
    let same : front ≡ take len whole = same_front front (take len whole) (rest ++ more) (drop len whole) h spelled.0 (sym (append_assoc front rest more) ∙ sym (take-append-drop len whole)) in
    let value : number_of front ≡ n = ap number_of same ∙ spelled.1 in
    elim why [
      | inl great ↦ absurd (omega (arith, great, value, b.fits))
      | inr other ↦ other (same ∙ varint_only (take len whole) n b.fits b.spelled ∙ ap varint (sym value))
    ]

why_refused : (front rest : List ℕ) → IsOverlong (front ++ rest) → (2 ^ 64 ≤ number_of front) ⊎ (front ≢ varint (number_of front))
why_refused front rest over =
    elim (cases_lt (number_of front) (2 ^ 64)) [
      | inl fits ↦ inr (λ e.
          over [] (number_of front) (length front) (record {
            fits = fits;
            within = omega (arith, length-append (front ++ rest) [], length-append front rest);
            spelled = rw (append-nil, take_at front rest (length front) refl) (subst (λ (t : List ℕ). IsVarint t (number_of front)) (sym e) (varint_spelled (number_of front) fits));
          }))
      | inr great ↦ inl great
    ]

pub ended : (front rest : List ℕ) → IsGroups front → IsOverlong (front ++ rest) ↔ ((2 ^ 64 ≤ number_of front) ⊎ (front ≢ varint (number_of front)))
ended front rest h = (why_refused front rest, is_refused front rest h)

-- ---- bytes without an end

few_read : (more : ℕ) (bytes : List ℕ) → AllByRecursion IsTop bytes → length bytes ≤ more → groups_in more bytes ≡ err Short
few_read more [] h few = refl
few_read zero (b ∷ bytes) h few = absurd (omega arith)
few_read (suc more) (b ∷ bytes) h few = groups_in-top more b bytes h.0.0 h.0.1 ∙ ap (with_low b) (few_read more bytes h.1 (omega arith))

many_read : (more : ℕ) (bytes : List ℕ) → AllByRecursion IsTop bytes → more < length bytes → groups_in more bytes ≡ err LongVarint
many_read more [] h many = absurd (omega arith)
many_read zero (b ∷ bytes) h many = rw (le-ltb b 2 (omega (arith, h.0.0))) refl
many_read (suc more) (b ∷ bytes) h many = groups_in-top more b bytes h.0.0 h.0.1 ∙ ap (with_low b) (many_read more bytes h.1 (omega arith))

cut_few : (bytes : List ℕ) → AllByRecursion IsTop bytes → IsCut bytes → length bytes < 10
unfolding varint_in
cut_few bytes h cut =
    elim (cases_lt (length bytes) 10) [
      | inl few ↦ few
      | inr many ↦
          let short = cut_only bytes cut in
          let long = many_read 9 bytes h (omega arith) in
          absurd cc
    ]

few_cut : (bytes : List ℕ) → AllByRecursion IsTop bytes → length bytes < 10 → IsCut bytes
unfolding varint_in
few_cut bytes h few = is_cut bytes (few_read 9 bytes h (omega arith))

pub unended : (bytes : List ℕ) → AllByRecursion IsTop bytes → IsCut bytes ↔ (length bytes < 10)
unended bytes h = (cut_few bytes h, few_cut bytes h)

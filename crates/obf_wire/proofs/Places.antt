-- The three cases at a place among bytes.
use Rattle.std.proofs.Common.{◌≡◌, ℕ, suc, ◌+◌, ◌-◌, ◌<◌, ◌≤◌, List, [], ◌∷◌, length, take, drop, get_or, Result, Ok, Err, refl, sym, ap, subst, ◌∙◌, ◌↔◌, arith}
use Rattle.std.specs.Prelude.{IfOk, slice_range}
use Rattle.std.proofs.lemmas.List.{length-drop, length-take, take-take}
use Rattle.std.proofs.Math.Seq.{drop-cons}
use Rattle.obf_wire.specs.declared.breaks.WireKind.{WireKind}
use Rattle.obf_wire.specs.declared.breaks.WireKind.TheVariants.{Short, LongVarint}
use Rattle.obf_wire.specs.declared.breaks.WireBreak.{WireBreak}
use Rattle.obf_wire.specs.Varint.{IsVarint, BeginsWith, IsCut, IsOverlong, IsSpelledAt, varint_in, varint_at, placed_at, short_at, long_at}
use Rattle.obf_wire.proofs.Groups.{groups_in-last}
use Rattle.obf_wire.proofs.Spellings.{begins, begins_only, is_cut, cut_only, is_overlong, overlong_only}

abbrev ok : ℕ × ℕ → Result (ℕ × ℕ) WireBreak
ok x = Ok x

abbrev err : WireBreak → Result (ℕ × ℕ) WireBreak
err b = Err b

abbrev kind_ok : ℕ × ℕ → Result (ℕ × ℕ) WireKind
kind_ok x = Ok x

abbrev kind_err : WireKind → Result (ℕ × ℕ) WireKind
kind_err kind = Err kind

-- a spelling that begins the bytes from a place on stands from that place
pub taken : (bytes : List ℕ) (at end len : ℕ) → at + len ≤ end → take len (slice_range bytes at end) ≡ slice_range bytes at (at + len)
taken bytes at end len h =
    let same : at + len - at ≡ len = omega arith in
    take-take len (end - at) (drop at bytes) (omega arith) ∙ ap (λ (k : ℕ). take k (drop at bytes)) (sym same)

pub length-range : (bytes : List ℕ) (at end : ℕ) → at ≤ end → end ≤ length bytes → length (slice_range bytes at end) ≡ end - at
length-range bytes at end from_in end_in = omega (arith, length-take (end - at) (drop at bytes), length-drop at bytes)

-- what is read at a place
abbrev pub Found : List ℕ → ℕ → ℕ → Result (ℕ × ℕ) WireBreak → Type 0
Found bytes at end read = IfOk read (λ found. IsSpelledAt bytes at end found.0 found.1)

found_by : (bytes : List ℕ) (at end : ℕ) (read : Result (ℕ × ℕ) WireKind) → at ≤ end → end ≤ length bytes → varint_in (slice_range bytes at end) ≡ read → Found bytes at end (placed_at at read)
found_by bytes at end (Err kind) from_in end_in e = tt
found_by bytes at end (Ok (n, len)) from_in end_in e =
    let b = begins (slice_range bytes at end) n len e in
    let inside : at + len ≤ end = omega (arith, b.within, length-range bytes at end from_in end_in) in
    (b.fits, inside, subst (λ (bs : List ℕ). IsVarint bs n) (taken bytes at end len inside) b.spelled)

pub found_at : (bytes : List ℕ) (at end : ℕ) → at ≤ end → end ≤ length bytes → Found bytes at end (varint_at bytes at end)
found_at bytes at end from_in end_in = found_by bytes at end (varint_in (slice_range bytes at end)) from_in end_in refl

-- a spelling has a byte
pub IsVarint-length : (bytes : List ℕ) (n : ℕ) → IsVarint bytes n → 0 < length bytes
IsVarint-length [] n h = absurd h
IsVarint-length (b ∷ bytes) n h = omega arith

pub only_at : (bytes : List ℕ) (at end n next : ℕ) → at ≤ end → end ≤ length bytes → IsSpelledAt bytes at end n next → varint_at bytes at end ≡ ok (n, next)
only_at bytes at end n next from_in end_in s =
    let some : at < next = omega (arith, IsVarint-length (slice_range bytes at next) n s.2, length-take (next - at) (drop at bytes)) in
    let there : at + (next - at) ≡ next = omega arith in
    let spelled : IsVarint (take (next - at) (slice_range bytes at end)) n = rw (taken bytes at end (next - at) (omega arith), there) s.2 in
    let b : BeginsWith (slice_range bytes at end) n (next - at) = record { fits = s.0; within = omega (arith, length-range bytes at end from_in end_in, s.1); spelled = spelled } in
    ap (placed_at at) (begins_only (slice_range bytes at end) n (next - at) b) ∙ ap (λ (k : ℕ). ok (n, k)) there

-- a break tells its kind
kind_of : (at : ℕ) (read : Result (ℕ × ℕ) WireKind) (kind : WireKind) → placed_at at read ≡ err (record { at = at; kind = kind }) → read ≡ kind_err kind
kind_of at (Ok (n, len)) kind e = absurd cc
kind_of at (Err other) kind e =
    let kind_in : Result (ℕ × ℕ) WireBreak → WireKind = λ r. elim r [ Ok x ↦ Short | Err b ↦ b.kind ] in
    ap (λ r. kind_err (kind_in r)) e

pub short_iff : (bytes : List ℕ) (at end : ℕ) → (varint_at bytes at end ≡ err (short_at at)) ↔ IsCut (slice_range bytes at end)
short_iff bytes at end = (λ e. is_cut (slice_range bytes at end) (kind_of at (varint_in (slice_range bytes at end)) Short e), λ c. ap (placed_at at) (cut_only (slice_range bytes at end) c))

pub long_iff : (bytes : List ℕ) (at end : ℕ) → (varint_at bytes at end ≡ err (long_at at)) ↔ IsOverlong (slice_range bytes at end)
long_iff bytes at end = (λ e. is_overlong (slice_range bytes at end) (kind_of at (varint_in (slice_range bytes at end)) LongVarint e), λ c. ap (placed_at at) (overlong_only (slice_range bytes at end) c))

-- a byte below 128 spells itself
pub one_byte_at : (bytes : List ℕ) (at end : ℕ) → at < end → end ≤ length bytes → get_or bytes at 0 < 128 → varint_at bytes at end ≡ ok (get_or bytes at 0, at + 1)
unfolding varint_in
one_byte_at bytes at end from_in end_in low =
    let more : end - at ≡ suc (end - (at + 1)) = omega arith in
    let cons : drop at bytes ≡ get_or bytes at 0 ∷ drop (suc at) bytes = drop-cons bytes at 0 (omega arith) in
    let front : slice_range bytes at end ≡ get_or bytes at 0 ∷ take (end - (at + 1)) (drop (suc at) bytes) = rw (more, cons) refl in
    ap (λ (bs : List ℕ). placed_at at (varint_in bs)) front ∙ ap (placed_at at) (groups_in-last 9 (get_or bytes at 0) (take (end - (at + 1)) (drop (suc at) bytes)) low (λ e. absurd (omega arith)))

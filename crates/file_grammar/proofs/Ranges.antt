-- Parts of bytes, and the field that they begin with.
use Rattle.std.proofs.Common.{◌≡◌, ℕ, ◌+◌, ◌-◌, ◌^◌, ◌<◌, ◌≤◌, Bool, true, List, [], ◌∷◌, ◌++◌, zero, suc, length, take, Some, Ok, sym, ap, ◌∙◌, append_assoc, arith}
use Rattle.std.specs.Prelude.{slice_range}
use Rattle.std.specs.List.{AllByRecursion}
use Rattle.std.proofs.lemmas.List.{length-append, append_cancel_left}
use Rattle.std.proofs.Math.Seq.{take-append_seam}
use Rattle.obf_wire.specs.declared.field.Field.{Field}
use Rattle.obf_wire.specs.Varint.{varint}
use Rattle.obf_wire.specs.Fields.{Window, IsWindow, is_among, content, payload_len, field_spelling, field_of, field_at, left_of}
use Rattle.obf_wire.proofs.NextField.{IsBytes, field_only, next_of_spelled}
use Rattle.obf_wire.proofs.Places.{taken}
use Rattle.coord_delta.proofs.NumberLists.{range-join, length-range}
use Rattle.file_grammar.specs.Readings.{IsInMemory}

-- each byte of memory is one
pub bytes_in : (bytes : List ℕ) → AllByRecursion (λ b. b < 256) bytes → IsBytes bytes
bytes_in [] all i = omega arith
bytes_in (b ∷ bytes) all zero = all.0
bytes_in (b ∷ bytes) all (suc i) = bytes_in bytes all.1 i

-- another part of the same bytes
pub part_in : (w : Window) (place end : ℕ) → IsInMemory w → place ≤ end → end ≤ length w.bytes → IsInMemory (record { bytes = w.bytes; place = place; end = end })
part_in w place end memory ordered within = record { window = record { ordered = ordered; within = within }; bytes = memory.bytes; few = memory.few }

-- what is spelled first, and what behind it
pub range-parts : (bytes : List ℕ) (at end : ℕ) (front rest : List ℕ) → at ≤ end → end ≤ length bytes → slice_range bytes at end ≡ front ++ rest
    → (at + length front ≤ end) × (slice_range bytes at (at + length front) ≡ front) × (slice_range bytes (at + length front) end ≡ rest)
range-parts bytes at end front rest ordered within e =
    let size : end - at ≡ length front + length rest = sym (length-range bytes at end ordered within) ∙ ap length e ∙ length-append front rest in
    let inside : at + length front ≤ end = omega (arith, size, ordered) in
    let first : slice_range bytes at (at + length front) ≡ front = sym (taken bytes at end (length front) inside) ∙ ap (take (length front)) e ∙ take-append_seam front rest in
    let both : front ++ slice_range bytes (at + length front) end ≡ front ++ rest =
    sym (ap (λ (t : List ℕ). t ++ slice_range bytes (at + length front) end) first) ∙ sym (range-join bytes at (at + length front) end (omega arith) inside) ∙ e in
    (inside, first, append_cancel_left front (slice_range bytes (at + length front) end) rest both)

-- a field is read at a place, with its payload, and the rest behind it
pub record Parts (w : Window) (allowed : List ℕ) (may_end : Bool) (f : Field) (payload rest : List ℕ) : Type 0 where
  pub read : field_at w allowed may_end ≡ Ok (Some f)
  pub ordered : f.from ≤ f.to
  pub ends : f.to ≤ w.end
  pub holds : slice_range w.bytes f.from f.to ≡ payload
  pub leaves : slice_range w.bytes f.to w.end ≡ rest

pub field_parts : (w : Window) (allowed : List ℕ) (may_end : Bool) (key value : ℕ) (payload rest : List ℕ) → IsWindow w → is_among allowed key ≡ true → key < 2 ^ 64 → value < 2 ^ 64
    → payload_len key value ≡ length payload → left_of w ≡ field_spelling key value payload ++ rest → Parts w allowed may_end (field_of w.place key value) payload rest
field_parts w allowed may_end key value payload rest window among key_fits value_fits size e =
    let head : List ℕ = varint key ++ content key value in
    let front = range-parts w.bytes w.place w.end head (payload ++ rest) window.ordered window.within (e ∙ append_assoc head payload rest) in
    let back = range-parts w.bytes (w.place + length head) w.end payload rest front.0 window.within front.2 in
    let next = next_of_spelled w allowed key value payload rest window among key_fits value_fits (sym size) e in
    let to_is : w.place + length head + length payload ≡ w.place + length head + payload_len key value = ap (λ (k : ℕ). w.place + length head + k) (sym size) in
    record {
      read = field_only w allowed may_end (field_of w.place key value) window next;
      ordered = omega arith;
      ends = next.inside.1;
      holds = ap (slice_range w.bytes (w.place + length head)) (sym to_is) ∙ back.1;
      leaves = ap (λ (k : ℕ). slice_range w.bytes k w.end) (sym to_is) ∙ back.2;
    }

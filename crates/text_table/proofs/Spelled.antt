-- The bytes of texts.
use Rattle.std.proofs.Common.{◌≡◌, ◌≢◌, ℕ, ◌-◌, ◌<◌, List, [], ◌∷◌, ◌++◌, length, take, drop, true, Result, Ok, Option, Some, refl, sym, ap, subst, ◌∙◌, append_assoc, arith}
use Rattle.std.specs.Prelude.{slice_range}
use Rattle.std.proofs.lemmas.List.{length-append, take_at, drop_at}
use Rattle.std.proofs.Math.Seq.{drop-append_seam, take-length}
use Rattle.obf_wire.specs.declared.breaks.WireBreak.{WireBreak}
use Rattle.obf_wire.specs.declared.field.Field.{Field}
use Rattle.obf_wire.specs.Varint.{varint}
use Rattle.obf_wire.specs.Fields.{Window, IsNextField, field_of, content}
use Rattle.obf_wire.proofs.NextField.{next_of_spelled, field_only}
use Rattle.text_table.specs.Tables.{AreTexts, text_field, table_bytes}

abbrev Text : Type 0
Text = List ℕ

abbrev pub whole : List ℕ → Window
whole bytes = record { bytes = bytes; place = 0; end = length bytes }

-- what stands before the bytes of a text
abbrev head : Text → List ℕ
head t = varint 10 ++ content 10 (length t)

abbrev pub first_field : Text → Field
first_field t = field_of 0 10 (length t)

range-whole : (bytes : List ℕ) → slice_range bytes 0 (length bytes) ≡ bytes
range-whole bytes = let size : length bytes - 0 ≡ length bytes = omega arith in ap (λ (k : ℕ). take k bytes) size ∙ take-length bytes

pub is_next : (bytes : List ℕ) (t : Text) (ts : List Text) → AreTexts bytes (t ∷ ts) → IsNextField (whole bytes) (10 ∷ []) (first_field t)
is_next bytes t ts a =
    next_of_spelled (whole bytes) (10 ∷ []) 10 (length t) t (table_bytes ts) (record { ordered = omega arith; within = omega arith }) refl (omega arith) a.table.each.0.fits refl
    (range-whole bytes ∙ a.spelled)

parts : (bytes : List ℕ) (t : Text) (ts : List Text) → AreTexts bytes (t ∷ ts) → bytes ≡ head t ++ (t ++ table_bytes ts)
parts bytes t ts a = a.spelled ∙ append_assoc (head t) t (table_bytes ts)

-- its payload is the text
pub payload_is : (bytes : List ℕ) (t : Text) (ts : List Text) → AreTexts bytes (t ∷ ts) → slice_range bytes (first_field t).from (first_field t).to ≡ t
payload_is bytes t ts a =
    let from : ℕ = (first_field t).from in
    let to : ℕ = (first_field t).to in
    let there : from ≡ length (head t) = omega arith in
    let size : length t ≡ to - from = omega arith in
    ap (λ (bs : List ℕ). slice_range bs from to) (parts bytes t ts a)
    ∙ ap (λ (k : ℕ). take (to - from) (drop k (head t ++ (t ++ table_bytes ts)))) there
    ∙ ap (take (to - from)) (drop-append_seam (head t) (t ++ table_bytes ts))
    ∙ take_at t (table_bytes ts) (to - from) size

-- behind it are the other texts
pub behind_is : (bytes : List ℕ) (t : Text) (ts : List Text) → AreTexts bytes (t ∷ ts) → AreTexts (drop (first_field t).to bytes) ts
behind_is bytes t ts a =
    let to : ℕ = (first_field t).to in
    let size : length (text_field t) ≡ to = omega (arith, length-append (head t) t) in
    record {
      table = record { each = a.table.each.1; rising = a.table.rising.1 };
      spelled = ap (drop to) a.spelled ∙ drop_at (text_field t) (table_bytes ts) to size;
    }

-- ---- one table

same_fields : (t u : Text) (ts us : List Text) (bytes : List ℕ) → AreTexts bytes (t ∷ ts) → AreTexts bytes (u ∷ us) → first_field t ≡ first_field u
same_fields t u ts us bytes a b =
    let one = field_only (whole bytes) (10 ∷ []) true (first_field t) (record { ordered = omega arith; within = omega arith }) (is_next bytes t ts a) in
    let other = field_only (whole bytes) (10 ∷ []) true (first_field u) (record { ordered = omega arith; within = omega arith }) (is_next bytes u us b) in
    let same : ◌≡◌ {A = Result (Option Field) WireBreak} (Ok (Some (first_field t))) (Ok (Some (first_field u))) = sym one ∙ other in
    cc

some_length : (t : Text) → t ≢ [] → 0 < length t
some_length [] some = absurd (some refl)
some_length (x ∷ t) some = omega arith

pub bytes_some : (bytes : List ℕ) (t : Text) (ts : List Text) → AreTexts bytes (t ∷ ts) → 0 < length bytes
bytes_some bytes t ts a = omega (arith, some_length t a.table.each.0.some, ap length a.spelled, length-append (text_field t) (table_bytes ts), length-append (head t) t)

pub one : (bytes : List ℕ) (a b : List Text) → AreTexts bytes a → AreTexts bytes b → a ≡ b
one bytes [] [] a b = refl
one bytes [] (u ∷ us) a b = absurd (omega (arith, bytes_some bytes u us b, ap length a.spelled))
one bytes (t ∷ ts) [] a b = absurd (omega (arith, bytes_some bytes t ts a, ap length b.spelled))
one bytes (t ∷ ts) (u ∷ us) a b =
    let field = same_fields t u ts us bytes a b in
    let first : t ≡ u = sym (payload_is bytes t ts a) ∙ ap (λ (f : Field). slice_range bytes f.from f.to) field ∙ payload_is bytes u us b in
    let rest : ts ≡ us = one (drop (first_field u).to bytes) ts us (subst (λ (f : Field). AreTexts (drop f.to bytes) ts) field (behind_is bytes t ts a)) (behind_is bytes u us b) in
    ap (λ (x : Text). x ∷ ts) first ∙ ap (λ (xs : List Text). u ∷ xs) rest

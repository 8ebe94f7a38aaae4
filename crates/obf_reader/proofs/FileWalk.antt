-- A file, field by field.
use Rattle.std.proofs.Common.{◌≡◌, ℕ, true, false, List, [], ◌∷◌, length, Option, Some, None, Result, Ok, Err, refl, sym, subst, ◌∙◌, arith}
use Rattle.std.specs.Prelude.{◌==◌, slice_range}
use Rattle.obf_wire.specs.declared.breaks.WireBreak.{WireBreak}
use Rattle.obf_wire.specs.declared.field.Field.{Field}
use Rattle.obf_wire.specs.declared.file.FileBreak.{FileBreak}
use Rattle.obf_wire.specs.Fields.{Window, IsWindow, field_at, behind}
use Rattle.file_grammar.specs.declared.parts.Boxed.TheVariants.{Map}
use Rattle.file_grammar.specs.declared.parts.Content.{Content}
use Rattle.file_grammar.specs.declared.parts.Content.TheVariants.{Number, Version, Bytes, Message}
use Rattle.file_grammar.specs.declared.parts.Part.{Part}
use Rattle.file_grammar.specs.declared.parts.Version.{Version as VersionOf}
use Rattle.file_grammar.specs.declared.parts.Part.TheVariants.{Addresses, Boxes, File, Head, Marks, Pois, Routing}
use Rattle.file_grammar.specs.Files.{version_of, whole}
use Rattle.file_grammar.specs.Messages.{Fields, ends, has_number, has_bytes, has_message}
use Rattle.file_grammar.specs.Readings.{break_in, payload_of, filled, message_from, message_at}
use Rattle.file_grammar.specs.Tables.{version_number, next_keys, may_end, content_of}
use Rattle.file_grammar.proofs.Fuel.{turn}
use Rattle.obf_wire.specs.KnownKeys.{IsInside}
use Rattle.file_grammar.proofs.Built.{ends_there}
use Rattle.obf_reader.specs.Tops.{HasForm}

abbrev at_place : Window → ℕ → Window
at_place w next = record w { place = next }

abbrev fields_ok : Fields → Result Fields FileBreak
fields_ok x = Ok x

abbrev wire_ok : Option Field → Result (Option Field) WireBreak
wire_ok x = Ok x

abbrev held_ok : (Fields → Fields) → Result (Fields → Fields) FileBreak
held_ok x = Ok x

abbrev content : Content → Option Content
content x = Some x

-- the one field that may come there was read
pub record ReadAt (w : Window) (key : ℕ) (f : Field) : Type 0 where
  pub read : field_at w (key ∷ []) false ≡ wire_ok (Some f)
  pub key_is : f.key ≡ key
  pub inside : IsInside w f

module _ (v : VersionOf) where
  abbrev file : Part
  file = File v

  pub record Comes (last : Option ℕ) (key : ℕ) : Type 0 where
    pub keys : next_keys file last ≡ key ∷ []
    pub more : may_end file last ≡ false

  field_then : (last : Option ℕ) (w : Window) (key : ℕ) (f : Field) (held : Fields → Fields) (rest : Fields) → IsWindow w → Comes last key → ReadAt w key f → filled message_at w.bytes f (content_of file f.key) ≡ held_ok held
      → message_from file (Some key) (at_place w f.to) ≡ fields_ok rest → message_from file last w ≡ fields_ok (held rest)
  field_then last w key f held rest window comes r holds others =
      let later : message_from file (Some f.key) (behind w (Some f)) ≡ fields_ok rest = subst (λ (k : ℕ). message_from file (Some k) (at_place w f.to) ≡ fields_ok rest) (sym r.key_is) others in
      turn file last w window ∙ rw (comes.keys, comes.more, r.read, holds, later) refl

  number_held : (w : Window) (key : ℕ) (f : Field) → ReadAt w key f → content_of file key ≡ content Number → filled message_at w.bytes f (content_of file f.key) ≡ held_ok (has_number f.at f.key f.value)
  number_held w key f r row = rw (r.key_is, row) refl

  version_held : (w : Window) (key : ℕ) (f : Field) → ReadAt w key f → content_of file key ≡ content (Version v) → (f.value == version_number v) ≡ true
      → filled message_at w.bytes f (content_of file f.key) ≡ held_ok (has_number f.at f.key f.value)
  version_held w key f r row one = rw (r.key_is, row, one) refl

  bytes_held : (w : Window) (key : ℕ) (f : Field) → ReadAt w key f → content_of file key ≡ content Bytes → filled message_at w.bytes f (content_of file f.key) ≡ held_ok (has_bytes f.at f.key (slice_range w.bytes f.from f.to))
  bytes_held w key f r row = rw (r.key_is, row) refl

  message_held : (w : Window) (key : ℕ) (f : Field) (part : Part) (inner : Fields) → ReadAt w key f → content_of file key ≡ content (Message part) → message_at part (payload_of w.bytes f) ≡ fields_ok inner
      → filled message_at w.bytes f (content_of file f.key) ≡ held_ok (has_message f.at f.key inner)
  message_held w key f part inner r row is = rw (r.key_is, row, is) refl

-- what has no break was read
pub read_some : (r : Result Fields FileBreak) → break_in r ≡ None → (fields : Fields) × (r ≡ Ok fields)
read_some (Ok fields) e = (fields, refl)
read_some (Err b) e = absurd cc

behind_is : (w : Window) (f : Field) → IsWindow w → IsInside w f → IsWindow (at_place w f.to)
behind_is w f window i = record { ordered = i.ends; within = window.within }

pub file_is : (bytes : List ℕ) (f1 f2 f3 f4 f5 f6 f7 f8 f9 : Field) (map addresses pois roads : Fields)
    → ReadAt (whole bytes) 8 f1 → ReadAt (at_place (whole bytes) f1.to) 18 f2 → ReadAt (at_place (whole bytes) f2.to) 26 f3 → ReadAt (at_place (whole bytes) f3.to) 54 f4 → ReadAt (at_place (whole bytes) f4.to) 62 f5
    → ReadAt (at_place (whole bytes) f5.to) 70 f6 → ReadAt (at_place (whole bytes) f6.to) 78 f7 → ReadAt (at_place (whole bytes) f7.to) 134 f8 → ReadAt (at_place (whole bytes) f8.to) 256 f9
    → f9.to ≡ length bytes → (f1.value == version_number (version_of bytes)) ≡ true
    → break_in (message_at Head (payload_of bytes f2)) ≡ None → break_in (message_at Marks (payload_of bytes f8)) ≡ None
    → message_at (Boxes Map) (payload_of bytes f4) ≡ Ok map → message_at (Addresses (version_of bytes)) (payload_of bytes f5) ≡ Ok addresses → message_at Pois (payload_of bytes f6) ≡ Ok pois
    → message_at Routing (payload_of bytes f7) ≡ Ok roads → HasForm bytes map addresses pois roads
file_is bytes f1 f2 f3 f4 f5 f6 f7 f8 f9 map addresses pois roads r1 r2 r3 r4 r5 r6 r7 r8 r9 all one b2 b8 is_map are_addresses are_pois are_roads =
    let v : VersionOf = version_of bytes in
    let w : Window = whole bytes in
    let w0 : IsWindow w = record { ordered = omega arith; within = omega arith } in
    let w1 = behind_is w f1 w0 r1.inside in
    let w2 = behind_is (at_place w f1.to) f2 w1 r2.inside in
    let w3 = behind_is (at_place w f2.to) f3 w2 r3.inside in
    let w4 = behind_is (at_place w f3.to) f4 w3 r4.inside in
    let w5 = behind_is (at_place w f4.to) f5 w4 r5.inside in
    let w6 = behind_is (at_place w f5.to) f6 w5 r6.inside in
    let w7 = behind_is (at_place w f6.to) f7 w6 r7.inside in
    let w8 = behind_is (at_place w f7.to) f8 w7 r8.inside in
    let w9 = behind_is (at_place w f8.to) f9 w8 r9.inside in
    let m2 = read_some (message_at Head (payload_of bytes f2)) b2 in
    let m8 = read_some (message_at Marks (payload_of bytes f8)) b8 in
    let s9 = ends_there (File v) (Some 256) (at_place w f9.to) w9 (omega (arith, all)) refl in
    let s8 = field_then v (Some 134) (at_place w f8.to) 256 f9 (has_number f9.at f9.key f9.value) ends w8 (record { keys = refl; more = refl }) r9 (number_held v (at_place w f8.to) 256 f9 r9 refl) s9 in
    let s7 = field_then v (Some 78) (at_place w f7.to) 134 f8 (has_message f8.at f8.key m8.0) _ w7 (record { keys = refl; more = refl }) r8 (message_held v (at_place w f7.to) 134 f8 Marks m8.0 r8 refl m8.1) s8 in
    let s6 = field_then v (Some 70) (at_place w f6.to) 78 f7 (has_message f7.at f7.key roads) _ w6 (record { keys = refl; more = refl }) r7 (message_held v (at_place w f6.to) 78 f7 Routing roads r7 refl are_roads) s7 in
    let s5 = field_then v (Some 62) (at_place w f5.to) 70 f6 (has_message f6.at f6.key pois) _ w5 (record { keys = refl; more = refl }) r6 (message_held v (at_place w f5.to) 70 f6 Pois pois r6 refl are_pois) s6 in
    let s4 = field_then v (Some 54) (at_place w f4.to) 62 f5 (has_message f5.at f5.key addresses) _ w4 (record { keys = refl; more = refl }) r5 (message_held v (at_place w f4.to) 62 f5 (Addresses v) addresses r5 refl are_addresses) s5 in
    let s3 = field_then v (Some 26) (at_place w f3.to) 54 f4 (has_message f4.at f4.key map) _ w3 (record { keys = refl; more = refl }) r4 (message_held v (at_place w f3.to) 54 f4 (Boxes Map) map r4 refl is_map) s4 in
    let s2 = field_then v (Some 18) (at_place w f2.to) 26 f3 (has_bytes f3.at f3.key (slice_range bytes f3.from f3.to)) _ w2 (record { keys = refl; more = refl }) r3 (bytes_held v (at_place w f2.to) 26 f3 r3 refl) s3 in
    let s1 = field_then v (Some 8) (at_place w f1.to) 18 f2 (has_message f2.at f2.key m2.0) _ w1 (record { keys = refl; more = refl }) r2 (message_held v (at_place w f1.to) 18 f2 Head m2.0 r2 refl m2.1) s2 in
    let s0 = field_then v None w 8 f1 (has_number f1.at f1.key f1.value) _ w0 (record { keys = refl; more = refl }) r1 (version_held v w 8 f1 r1 refl one) s1 in
    record { fields = _; read = s0; parts = _; is = refl; map_is = refl; addresses_are = refl; pois_are = refl; roads_are = refl }

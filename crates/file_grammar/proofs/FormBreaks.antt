-- The break that is read of a message has its cause there.
use Rattle.std.proofs.Common.{◌≡◌, ℕ, zero, suc, ◌-◌, ◌<◌, Option, Some, None, Result, Ok, Err, refl, sym, ap, ◌∙◌, arith}
use Rattle.obf_wire.specs.declared.breaks.WireBreak.{WireBreak}
use Rattle.obf_wire.specs.declared.field.Field.{Field}
use Rattle.obf_wire.specs.declared.file.FileBreak.{FileBreak}
use Rattle.obf_wire.specs.Kinds.{file_break}
use Rattle.obf_wire.specs.Fields.{Window, IsWindow, behind, field_at}
use Rattle.obf_wire.proofs.NextField.{IsBytes, field_found, field_only}
use Rattle.file_grammar.specs.declared.parts.Content.{Content}
use Rattle.file_grammar.specs.declared.parts.Content.TheVariants.{Number, Version, Bytes, Numbers, Message}
use Rattle.file_grammar.specs.declared.parts.Part.{Part}
use Rattle.file_grammar.specs.Messages.{Fields, has_message}
use Rattle.file_grammar.specs.Readings.{◌>>=◌, continued, filled, message_at, message_from, of_file, payload_of}
use Rattle.file_grammar.specs.Tables.{content_of, may_end, next_keys}
use Rattle.file_grammar.specs.Walks.{IsInside}
use Rattle.file_grammar.specs.FormBreaks.{BreaksSo, Comes, FormBreakLaw, IsPlain, Leads, Way, holds_none, past, stops, within}
use Rattle.file_grammar.proofs.FieldBreaks.{field_breaks, field_stops}
use Rattle.file_grammar.proofs.Fuel.{turn}
use Rattle.file_grammar.proofs.Inside.{field_inside}
use Rattle.file_grammar.proofs.Ranges.{bytes_in}

abbrev room : Window → ℕ
room w = w.end - w.place

abbrev fields_err : FileBreak → Result Fields FileBreak
fields_err b = Err b

abbrev held_err : FileBreak → Result (Fields → Fields) FileBreak
held_err b = Err b

abbrev held_ok : (Fields → Fields) → Result (Fields → Fields) FileBreak
held_ok held = Ok held

err_is : (a b : FileBreak) → fields_err a ≡ fields_err b → a ≡ b
err_is a b e = cc

-- a break behind a step that went well is that of what is behind
broke_first : (r : Result Fields FileBreak) (f : Fields → Fields) (b : FileBreak) → (r >>= λ x. Ok (f x)) ≡ fields_err b → r ≡ fields_err b
broke_first (Ok x) f b e = absurd cc
broke_first (Err x) f b e = ap fields_err (err_is x b e)

broke_inside : (r : Result Fields FileBreak) (f : Fields → Fields → Fields) (b : FileBreak) → (r >>= λ x. Ok (f x)) ≡ held_err b → r ≡ fields_err b
broke_inside (Ok x) f b e = absurd cc
broke_inside (Err x) f b e = let same : x ≡ b = cc in ap fields_err same

-- in every shorter window a break has its cause
abbrev Again : ℕ → Type 0
Again m = (p : Part) (l : Option ℕ) (v : Window) (b : FileBreak) → IsWindow v → IsBytes v.bytes → room v < m → message_from p l v ≡ fields_err b → BreaksSo p l v b

module _ (m : ℕ) (again : Again m) (part : Part) (last : Option ℕ) (w : Window) (b : FileBreak) (window : IsWindow w) (fits : IsBytes w.bytes) (less : room w < suc m) where
  plain : (f : Field) (content : Option Content) → Comes part last w f → content_of part f.key ≡ content → IsPlain content → filled message_at w.bytes f content ≡ held_err b → BreaksSo part last w b
  plain f content comes is none e =
      let p : IsPlain (content_of part f.key) = rw is none in
      let q : filled message_at w.bytes f (content_of part f.key) ≡ held_err b = rw is e in
      record { way = holds_none f; leads = (comes, p, q) }

  inside_breaks : (f : Field) (content : Option Content) → IsInside w f → Comes part last w f → content_of part f.key ≡ content → filled message_at w.bytes f content ≡ held_err b → BreaksSo part last w b
  inside_breaks f None i comes is e = plain f None comes is tt e
  inside_breaks f (Some Number) i comes is e = plain f (Some Number) comes is tt e
  inside_breaks f (Some (Version version)) i comes is e = plain f (Some (Version version)) comes is tt e
  inside_breaks f (Some Bytes) i comes is e = plain f (Some Bytes) comes is tt e
  inside_breaks f (Some (Numbers group)) i comes is e = plain f (Some (Numbers group)) comes is tt e
  inside_breaks f (Some (Message sub)) i comes is e =
      let s = again sub None (payload_of w.bytes f) b (record { ordered = i.ordered; within = omega (arith, i.ends, window.within) }) fits (omega (arith, less, i.place, i.starts, i.ordered, i.ends))
      (broke_inside (message_at sub (payload_of w.bytes f)) _ b e) in
      record { way = within f s.way; leads = (comes, (sub, is, s.leads)) }

  field_then : (f : Field) (r : Result (Fields → Fields) FileBreak) → IsInside w f → Comes part last w f → filled message_at w.bytes f (content_of part f.key) ≡ r
      → (r >>= λ held. message_from part (Some f.key) (behind w (Some f)) >>= λ others. Ok (held others)) ≡ fields_err b → BreaksSo part last w b
  field_then f (Err x) i comes is e = inside_breaks f (content_of part f.key) i comes refl (is ∙ ap held_err (err_is x b e))
  field_then f (Ok held) i comes is e =
      let s = again part (Some f.key) (behind w (Some f)) b (record { ordered = i.ends; within = window.within }) fits (omega (arith, less, i.place, i.starts, i.ordered, i.ends))
      (broke_first (message_from part (Some f.key) (behind w (Some f))) held b e) in
      record { way = past f s.way; leads = (comes, record { held = held; is = is }, s.leads) }

  next_breaks : (r : Result (Option Field) WireBreak) → field_at w (next_keys part last) (may_end part last) ≡ r → (of_file r >>= continued message_from part w) ≡ fields_err b → BreaksSo part last w b
  next_breaks (Err x) is e = record { way = stops x; leads = (field_breaks w (next_keys part last) (may_end part last) x window is, sym (err_is (file_break x) b e)) }
  next_breaks (Ok None) is e = absurd cc
  next_breaks (Ok (Some f)) is e =
      field_then f (filled message_at w.bytes f (content_of part f.key)) (field_inside w (next_keys part last) (may_end part last) f window is)
      (field_found w (next_keys part last) (may_end part last) f window fits is) refl e

breaks_by : (m : ℕ) → Again m
breaks_by zero part last w b window fits less e = absurd (omega arith)
breaks_by (suc m) part last w b window fits less e =
    next_breaks m (breaks_by m) part last w b window fits less (field_at w (next_keys part last) (may_end part last)) refl (sym (turn part last w window) ∙ e)

-- ---- the other way: where a way leads to a break, it is read

continued_err : (part : Part) (last : Option ℕ) (w : Window) (f : Field) (b : FileBreak) → IsWindow w → Comes part last w f
    → (filled message_at w.bytes f (content_of part f.key) >>= λ held. message_from part (Some f.key) (behind w (Some f)) >>= λ others. Ok (held others)) ≡ fields_err b → message_from part last w ≡ fields_err b
continued_err part last w f b window comes e =
    let next = field_only w (next_keys part last) (may_end part last) f window comes in
    turn part last w window ∙ ap (λ (r : Result (Option Field) WireBreak). of_file r >>= continued message_from part w) next ∙ e

payload_window : (part : Part) (last : Option ℕ) (w : Window) (f : Field) → IsWindow w → Comes part last w f → IsWindow (payload_of w.bytes f)
payload_window part last w f window comes = record { ordered = omega (arith, comes.payload); within = omega (arith, comes.inside.1, window.within) }

rest_window : (part : Part) (last : Option ℕ) (w : Window) (f : Field) → IsWindow w → Comes part last w f → IsWindow (behind w (Some f))
rest_window part last w f window comes = record { ordered = comes.inside.1; within = window.within }

held_in : (f : Fields → Fields → Fields) (r : Result Fields FileBreak) (b : FileBreak) → r ≡ fields_err b → (r >>= λ x. Ok (f x)) ≡ held_err b
held_in f r b e = rw e refl

leads_read : (way : Way) (part : Part) (last : Option ℕ) (w : Window) (b : FileBreak) → IsWindow w → Leads part last w b way → message_from part last w ≡ fields_err b
leads_read (stops x) part last w b window l =
    let none = field_stops w (next_keys part last) (may_end part last) x window l.0 in
    turn part last w window ∙ ap (λ (r : Result (Option Field) WireBreak). of_file r >>= continued message_from part w) none ∙ ap fields_err (sym l.1)
leads_read (holds_none f) part last w b window l =
    continued_err part last w f b window l.0 (ap (λ (r : Result (Fields → Fields) FileBreak). r >>= λ held. message_from part (Some f.key) (behind w (Some f)) >>= λ others. Ok (held others)) l.2)
leads_read (within f way) part last w b window l =
    let inner = leads_read way l.1.0 None (payload_of w.bytes f) b (payload_window part last w f window l.0) l.1.2 in
    let held : filled message_at w.bytes f (content_of part f.key) ≡ held_err b = ap (filled message_at w.bytes f) l.1.1 ∙ held_in (has_message f.at f.key) (message_at l.1.0 (payload_of w.bytes f)) b inner in
    continued_err part last w f b window l.0 (ap (λ (r : Result (Fields → Fields) FileBreak). r >>= λ held. message_from part (Some f.key) (behind w (Some f)) >>= λ others. Ok (held others)) held)
leads_read (past f way) part last w b window l =
    let rest = leads_read way part (Some f.key) (behind w (Some f)) b (rest_window part last w f window l.0) l.2 in
    continued_err part last w f b window l.0
    (ap (λ (r : Result (Fields → Fields) FileBreak). r >>= λ held. message_from part (Some f.key) (behind w (Some f)) >>= λ others. Ok (held others)) l.1.is
    ∙ ap (λ (r : Result Fields FileBreak). r >>= λ others. Ok (l.1.held others)) rest)

pub form_breaks : FormBreakLaw
form_breaks part w b memory = (
  λ e. breaks_by (suc (room w)) part None w b memory.window (bytes_in w.bytes memory.bytes) (omega arith) e,
  λ so. leads_read so.way part None w b memory.window so.leads,
)

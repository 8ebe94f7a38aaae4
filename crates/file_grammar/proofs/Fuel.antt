-- Any fuel over the length of the bytes is enough, so that what is read is one field and what is read behind it.
use Rattle.std.proofs.Common.{◌≡◌, ℕ, zero, suc, ◌-◌, ◌<◌, Bool, List, Option, Some, None, Result, Ok, Err, refl, arith}
use Rattle.std.specs.Option.{option_or}
use Rattle.obf_wire.specs.declared.breaks.WireBreak.{WireBreak}
use Rattle.obf_wire.specs.declared.field.Field.{Field}
use Rattle.obf_wire.specs.declared.file.FileBreak.{FileBreak}
use Rattle.obf_wire.specs.Fields.{Window, IsWindow, field_at, behind}
use Rattle.file_grammar.specs.declared.parts.Part.{Part}
use Rattle.file_grammar.specs.declared.parts.Content.{Content}
use Rattle.file_grammar.specs.declared.parts.Content.TheVariants.{Number, Version, Bytes, Numbers, Message}
use Rattle.file_grammar.specs.Tables.{next_keys, may_end, content_of}
use Rattle.file_grammar.specs.Messages.{Fields}
use Rattle.file_grammar.specs.Readings.{◌>>=◌, break_in, of_file, payload_of, filled, continued, fields_at, message_from, message_at}
use Rattle.file_grammar.specs.Walks.{IsTurn, break_from}
use Rattle.file_grammar.proofs.Inside.{field_inside}

abbrev room : Window → ℕ
room w = w.end - w.place

abbrev Reader : Type 0
Reader = Part → Option ℕ → Window → Result Fields FileBreak

next_same : (r : Result (Option Field) WireBreak) (f g : Option Field → Result Fields FileBreak) → ((x : Option Field) → r ≡ Ok x → f x ≡ g x) → (of_file r >>= f) ≡ (of_file r >>= g)
next_same (Ok x) f g same = same x refl
next_same (Err b) f g same = refl

filled_same : (f g : Part → Window → Result Fields FileBreak) (all : List ℕ) (field : Field) (content : Option Content) → ((part : Part) → f part (payload_of all field) ≡ g part (payload_of all field)) → filled f all field content ≡ filled g all field content
filled_same f g all field None same = refl
filled_same f g all field (Some Number) same = refl
filled_same f g all field (Some (Version version)) same = refl
filled_same f g all field (Some Bytes) same = refl
filled_same f g all field (Some (Numbers group)) same = refl
filled_same f g all field (Some (Message part)) same = rw (same part) refl

-- two readers that agree on every shorter window go on alike
continued_same : (f g : Reader) (part : Part) (w : Window) (allowed : List ℕ) (may_end : Bool) (x : Option Field) → IsWindow w
    → ((part : Part) (last : Option ℕ) (v : Window) → IsWindow v → room v < room w → f part last v ≡ g part last v)
    → field_at w allowed may_end ≡ Ok x → continued f part w x ≡ continued g part w x
continued_same f g part w allowed may_end None window same e = refl
continued_same f g part w allowed may_end (Some field) window same e =
    let i = field_inside w allowed may_end field window e in
    let inner = filled_same (λ p. f p None) (λ p. g p None) w.bytes field (content_of part field.key)
    (λ p. same p None (payload_of w.bytes field) (record { ordered = i.ordered; within = omega (arith, i.ends, window.within) }) (omega (arith, i.place, i.starts, i.ordered, i.ends))) in
    let others = same part (Some field.key) (behind w (Some field)) (record { ordered = i.ends; within = window.within }) (omega (arith, i.place, i.starts, i.ordered, i.ends)) in
    rw (inner, others) refl

pub fuel_enough : (m n : ℕ) (part : Part) (last : Option ℕ) (w : Window) → IsWindow w → room w < m → room w < n → fields_at m part last w ≡ fields_at n part last w
fuel_enough zero n part last w window lm ln = absurd (omega arith)
fuel_enough (suc m) zero part last w window lm ln = absurd (omega arith)
fuel_enough (suc m) (suc n) part last w window lm ln =
    next_same (field_at w (next_keys part last) (may_end part last)) _ _ λ x e.
    continued_same (fields_at m) (fields_at n) part w (next_keys part last) (may_end part last) x window
    (λ p l v iv less. fuel_enough m n p l v iv (omega (arith, less)) (omega (arith, less))) e

pub turn : (part : Part) (last : Option ℕ) (w : Window) → IsWindow w
    → message_from part last w ≡ (of_file (field_at w (next_keys part last) (may_end part last)) >>= continued message_from part w)
unfolding message_from
turn part last w window =
    next_same (field_at w (next_keys part last) (may_end part last)) _ _ λ x e.
    continued_same (fields_at (room w)) message_from part w (next_keys part last) (may_end part last) x window
    (λ p l v iv less. fuel_enough (room w) (suc (room v)) p l v iv less (omega arith)) e

-- The break of a message from behind a field on: that of the field, or of what stands behind it.

joined : (r : Result (Fields → Fields) FileBreak) (others : Result Fields FileBreak)
    → break_in (r >>= λ field. others >>= λ rest. Ok (field rest)) ≡ option_or (break_in r) (break_in others)
joined (Ok f) (Ok rest) = refl
joined (Ok f) (Err b) = refl
joined (Err b) others = refl

break_of_turn : (part : Part) (w : Window) (r : Result (Option Field) WireBreak) → break_in (of_file r >>= continued message_from part w) ≡ break_from part w r
break_of_turn part w (Err b) = refl
break_of_turn part w (Ok None) = refl
break_of_turn part w (Ok (Some field)) = joined (filled message_at w.bytes field (content_of part field.key)) (message_from part (Some field.key) (behind w (Some field)))

pub turn_break : (part : Part) (last : Option ℕ) (w : Window) → IsWindow w
    → break_in (message_from part last w) ≡ break_from part w (field_at w (next_keys part last) (may_end part last))
turn_break part last w window = rw (turn part last w window) (break_of_turn part w (field_at w (next_keys part last) (may_end part last)))

pub turn_read : (part : Part) (last : Option ℕ) (w : Window) (r : Result (Option Field) WireBreak) → IsTurn part last w r
    → break_in (message_from part last w) ≡ break_from part w r
turn_read part last w r t = rw (t.read) (turn_break part last w t.window)

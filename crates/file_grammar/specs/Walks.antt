-- One turn of a walk over the fields of a message.
use Rattle.std.specs.Prelude.{◌≡◌, ◌<◌, ◌≤◌, ℕ, ◌+◌, slice_range, Option, Some, None, MatchOption, Result, Ok, Err}
use Rattle.std.specs.Option.{option_or}
use Rattle.obf_wire.specs.declared.breaks.WireBreak.{WireBreak}
use Rattle.obf_wire.specs.declared.field.Field.{Field}
use Rattle.obf_wire.specs.declared.file.FileBreak.{FileBreak}
use Rattle.obf_wire.specs.Kinds.{file_break}
use Rattle.obf_wire.specs.Fields.{Window, IsWindow, field_at, behind}
use Rattle.file_grammar.specs.declared.parts.Part.{Part}
use Rattle.file_grammar.specs.declared.parts.Content.TheVariants.{Message}
use Rattle.file_grammar.specs.Messages.{Fields, ends, has_number, has_bytes, has_numbers, has_message}
use Rattle.file_grammar.specs.Tables.{next_keys, may_end, content_of}
use Rattle.file_grammar.specs.Readings.{break_in, filled, payload_of, message_at, message_from, measured, numbers_at}

-- the field begins at the place, takes a byte at least, and ends before the end
pub record IsInside (w : Window) (f : Field) : Type 0 where
  pub place : f.at ≡ w.place
  pub starts : f.at < f.from
  pub ordered : f.from ≤ f.to
  pub ends : f.to ≤ w.end

-- the break of a message from behind a field on: that of the next field, or of what stands behind that
abbrev pub break_from : Part → Window → Result (Option Field) WireBreak → Option FileBreak
break_from part w (Err b) = Some (file_break b)
break_from part w (Ok None) = None
break_from part w (Ok (Some field)) =
    option_or (break_in (filled message_at w.bytes field (content_of part field.key))) (break_in (message_from part (Some field.key) (behind w (Some field))))

-- what comes next was read at a place of this message
pub record IsTurn (part : Part) (last : Option ℕ) (w : Window) (r : Result (Option Field) WireBreak) : Type 0 where
  pub window : IsWindow w
  pub read : r ≡ field_at w (next_keys part last) (may_end part last)

-- one number stands at the place, and the others behind this one
abbrev pub CountsOn : Window → ℕ → Type 0
CountsOn w next = (count : ℕ) → measured count (numbers_at w) ≡ measured (count + 1) (numbers_at (record w { place = next }))

-- none stands there, for this reason
abbrev pub CountsNone : Window → FileBreak → Type 0
CountsNone w b = (count : ℕ) → measured count (numbers_at w) ≡ Err b

-- Fields of a message of good form, one after another.

-- behind a field of a message, or at its beginning
pub record Standing : Type 0 where
  pub part : Part
  pub last : Option ℕ
  pub window : Window

-- the fields that are left
abbrev pub left_in : Standing → Result Fields FileBreak
left_in s = message_from s.part s.last s.window

-- the message that a field holds is this one
pub record HoldsMessage (s : Standing) (f : Field) (inner : Fields) : Type 0 where
  pub part : Part
  pub content : content_of s.part f.key ≡ Some (Message part)
  pub read : message_at part (payload_of s.window.bytes f) ≡ Ok inner

-- the field is the first of these, and the walk now stands behind it
abbrev pub IsNext : Standing → Standing → Field → Fields → Type 0
IsNext s behind f ends = ⊥
IsNext s behind f (has_number at key value rest) = (f.at ≡ at) × (f.key ≡ key) × (f.value ≡ value) × (left_in behind ≡ Ok rest)
IsNext s behind f (has_bytes at key text rest) = (f.at ≡ at) × (f.key ≡ key) × (slice_range s.window.bytes f.from f.to ≡ text) × (left_in behind ≡ Ok rest)
IsNext s behind f (has_numbers at key values rest) = (f.at ≡ at) × (f.key ≡ key) × (numbers_at (payload_of s.window.bytes f) ≡ Ok values) × (left_in behind ≡ Ok rest)
IsNext s behind f (has_message at key inner rest) = (f.at ≡ at) × (f.key ≡ key) × HoldsMessage s f inner × (left_in behind ≡ Ok rest)

-- what came next is the first of the fields that were left, or none was left
abbrev pub ComesNext : Part → Option ℕ → Window → Window → Option Field → Type 0
ComesNext part last w next found =
    (fields : Fields) → message_from part last w ≡ Ok fields
    → MatchOption found (fields ≡ ends) (λ f. IsNext (record { part = part; last = last; window = w }) (record { part = part; last = Some f.key; window = next }) f fields)

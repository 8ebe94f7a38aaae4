-- Laws: a message is read field by field, and a list number by number, each from the offset where the one before it ends. Since each
-- takes a byte at least, nothing else fits these equations: they say what is read, and which break comes first, without counting turns.
use Rattle.std.specs.Prelude.{◌≡◌, ◌∷◌, [], ℕ, ◌==◌, if◌then◌else◌, Option, Some, Ok}
use Rattle.obf_wire.specs.declared.field.Field.{Field}
use Rattle.obf_wire.specs.Varint.{varint_at}
use Rattle.obf_wire.specs.Fields.{Window, IsWindow, field_at}
use Rattle.file_grammar.specs.declared.parts.Part.{Part}
use Rattle.file_grammar.specs.Tables.{next_keys, may_end}
use Rattle.file_grammar.specs.Readings.{◌>>=◌, break_in, continued, message_from, numbers_at, of_file}
use Rattle.file_grammar.specs.Walks.{IsInside, break_from}

-- the fields from an offset on are the next one, with what it holds, and those after it
abbrev pub TurnLaw : Type 0
TurnLaw =
    (part : Part) (last : Option ℕ) (w : Window) → IsWindow w
    → message_from part last w ≡ (of_file (field_at w (next_keys part last) (may_end part last)) >>= continued message_from part w)

-- the first break is that of the next field, else that of what it holds, else the first after it
abbrev pub BreakLaw : Type 0
BreakLaw = (part : Part) (last : Option ℕ) (w : Window) → IsWindow w → break_in (message_from part last w) ≡ break_from part w (field_at w (next_keys part last) (may_end part last))

-- a field takes a byte at least, and ends before the end
abbrev pub ForwardLaw : Type 0
ForwardLaw = (part : Part) (last : Option ℕ) (w : Window) (f : Field) → IsWindow w → field_at w (next_keys part last) (may_end part last) ≡ Ok (Some f) → IsInside w f

-- the numbers from an offset on are the next one and those after it, or none at the end
abbrev pub NumbersLaw : Type 0
NumbersLaw =
    (w : Window) → IsWindow w
    → numbers_at w ≡ (if w.place == w.end then Ok [] else (of_file (varint_at w.bytes w.place w.end) >>= λ n. numbers_at (record w { place = n.1 }) >>= λ ns. Ok (n.0 ∷ ns)))

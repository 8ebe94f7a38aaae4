-- The fields that stand at a place, or the first break of form.
use Rattle.std.specs.Prelude.{◌≡◌, ◌<◌, ◌^◌, ◌↔◌, ℕ, zero, suc, ◌+◌, ◌-◌, ◌%◌, List, [], ◌∷◌, length, ◌==◌, Option, Some, None, Result, Ok, Err, if◌then◌else◌, slice_range}
use Rattle.std.specs.List.{AllByRecursion}
use Rattle.obf_wire.specs.declared.breaks.WireBreak.{WireBreak}
use Rattle.obf_wire.specs.declared.field.Field.{Field}
use Rattle.obf_wire.specs.declared.file.FileBreak.{FileBreak}
use Rattle.obf_wire.specs.declared.file.FileKind.{FileKind}
use Rattle.obf_wire.specs.declared.file.FileKind.TheVariants as kinds
use Rattle.obf_wire.specs.Kinds.{file_break}
use Rattle.obf_wire.specs.Varint.{varint_at}
use Rattle.obf_wire.specs.Fields.{Window, IsWindow, field_at, behind}
use Rattle.file_grammar.specs.Tables.{group_size, version_number, next_keys, may_end, content_of}
use Rattle.file_grammar.specs.Messages.{Fields, ends, has_number, has_bytes, has_numbers, has_message, IsMessage}
use Rattle.file_grammar.specs.declared.parts.Part.{Part}
use Rattle.file_grammar.specs.declared.parts.Group.{Group}
use Rattle.file_grammar.specs.declared.parts.Content.{Content}
use Rattle.file_grammar.specs.declared.parts.Content.TheVariants.{Number, Version, Bytes, Numbers, Message}

infixl 10 ◌>>=◌
abbrev pub ◌>>=◌ : {A B : Type 0} → Result A FileBreak → (A → Result B FileBreak) → Result B FileBreak
(Err b) >>= f = Err b
(Ok x) >>= f = f x

-- a break of the wire form as one of the file
abbrev pub of_file : {A : Type 0} → Result A WireBreak → Result A FileBreak
of_file (Err b) = Err (file_break b)
of_file (Ok x) = Ok x

-- a break at a place
abbrev pub breaks : {A : Type 0} → ℕ → FileKind → Result A FileBreak
breaks at kind = Err (record { at = at; kind = kind })

-- the part of the bytes that is a field's payload
abbrev pub payload_of : List ℕ → Field → Window
payload_of all f = record { bytes = all; place = f.from; end = f.to }

-- the numbers up to the end; the fuel falls by one for each
abbrev pub numbers_up_to : ℕ → Window → Result (List ℕ) FileBreak
numbers_up_to zero w = Ok []
numbers_up_to (suc fuel) w =
    if w.place == w.end then Ok [] else
    (of_file (varint_at w.bytes w.place w.end) >>= λ n. numbers_up_to fuel (record w { place = n.1 }) >>= λ ns. Ok (n.0 ∷ ns))

-- the numbers of a whole list
abbrev pub numbers_at : Window → Result (List ℕ) FileBreak
numbers_at w = numbers_up_to (w.end - w.place) w

-- a list ends with a whole group
abbrev pub in_groups : Group → Window → List ℕ → Result (List ℕ) FileBreak
in_groups group w ns = if length ns % group_size group == 0 then Ok ns else breaks w.end kinds.Short

-- the numbers of a whole list in whole groups
abbrev pub groups_at : Group → Window → Result (List ℕ) FileBreak
groups_at group w = numbers_at w >>= in_groups group w

-- a field with what it holds, to stand before the other fields; `read` reads messages
abbrev pub filled : (Part → Window → Result Fields FileBreak) → List ℕ → Field → Option Content → Result (Fields → Fields) FileBreak
filled read all f None = breaks f.at kinds.BadKey
filled read all f (Some Number) = Ok (has_number f.at f.key f.value)
filled read all f (Some (Version version)) = if f.value == version_number version then Ok (has_number f.at f.key f.value) else breaks f.at kinds.BadVersion
filled read all f (Some Bytes) = Ok (has_bytes f.at f.key (slice_range all f.from f.to))
filled read all f (Some (Numbers group)) = groups_at group (payload_of all f) >>= λ ns. Ok (has_numbers f.at f.key ns)
filled read all f (Some (Message part)) = read part (payload_of all f) >>= λ inner. Ok (has_message f.at f.key inner)

-- a field and the fields behind it, or the end; `read` reads messages from behind a field on
abbrev pub continued : (Part → Option ℕ → Window → Result Fields FileBreak) → Part → Window → Option Field → Result Fields FileBreak
continued read part w None = Ok ends
continued read part w (Some f) =
    filled (λ inner. read inner None) w.bytes f (content_of part f.key) >>= λ field. read part (Some f.key) (behind w (Some f)) >>= λ others. Ok (field others)

-- Field by field, each whole before the next. The fuel falls by one for each, and each takes a byte at least.
abbrev pub fields_at : ℕ → Part → Option ℕ → Window → Result Fields FileBreak
fields_at zero part last w = breaks w.place kinds.Short
fields_at (suc fuel) part last w = of_file (field_at w (next_keys part last) (may_end part last)) >>= continued (fields_at fuel) part w

-- the fields of a message from behind one of them on
unfoldable pub message_from : Part → Option ℕ → Window → Result Fields FileBreak
message_from part last w = fields_at (suc (w.end - w.place)) part last w

-- the fields of a whole message, or the first break of its form
abbrev pub message_at : Part → Window → Result Fields FileBreak
message_at part w = message_from part None w

-- the break of an answer
abbrev pub break_in : {A : Type 0} → Result A FileBreak → Option FileBreak
break_in (Ok x) = None
break_in (Err b) = Some b

-- how many numbers there are, counted on
abbrev pub measured : ℕ → Result (List ℕ) FileBreak → Result ℕ FileBreak
measured count (Ok ns) = Ok (count + length ns)
measured count (Err b) = Err b

-- Law: what is read at a place is the message that its bytes spell, and no other.

-- bytes in memory, fewer than 2^64
pub record IsInMemory (w : Window) : Type 0 where
  pub window : IsWindow w
  pub bytes : AllByRecursion (λ b. b < 256) w.bytes
  pub few : length w.bytes < 2 ^ 64

-- the reading and the relation are one
abbrev pub ReadingLaw : Type 0
ReadingLaw = (part : Part) (w : Window) (fields : Fields) → IsInMemory w → (message_at part w ≡ Ok fields) ↔ IsMessage part w fields

-- What is read where a field of a known key is read, and others stand behind it.
use Rattle.std.proofs.Common.{◌≡◌, ℕ, ◌%◌, ◌≤◌, true, List, length, Option, Some, Result, Ok, refl, sym, ap, subst, ◌∙◌, arith}
use Rattle.std.specs.Prelude.{◌==◌, slice_range}
use Rattle.std.proofs.lemmas.Bool.{eq-eqb}
use Rattle.obf_wire.specs.declared.breaks.WireBreak.{WireBreak}
use Rattle.obf_wire.specs.declared.field.Field.{Field}
use Rattle.obf_wire.specs.declared.file.FileBreak.{FileBreak}
use Rattle.obf_wire.specs.Fields.{Window, IsWindow, field_at, behind, is_among}
use Rattle.file_grammar.specs.declared.parts.Part.{Part}
use Rattle.file_grammar.specs.declared.parts.Group.{Group}
use Rattle.file_grammar.specs.declared.parts.Content.{Content}
use Rattle.file_grammar.specs.declared.parts.Content.TheVariants.{Number, Bytes, Numbers, Message}
use Rattle.file_grammar.specs.Tables.{group_size, next_keys, may_end, content_of}
use Rattle.file_grammar.specs.Messages.{Fields, ends, has_number, has_bytes, has_numbers, has_message}
use Rattle.file_grammar.specs.Readings.{payload_of, numbers_at, filled, message_from, message_at}
use Rattle.file_grammar.proofs.Fuel.{turn}
use Rattle.obf_wire.specs.KnownKeys.{IsExpected, StandsFirst}

abbrev wire_ok : Option Field → Result (Option Field) WireBreak
wire_ok x = Ok x

abbrev fields_ok : Fields → Result Fields FileBreak
fields_ok x = Ok x

abbrev numbers_ok : List ℕ → Result (List ℕ) FileBreak
numbers_ok x = Ok x

abbrev held_ok : (Fields → Fields) → Result (Fields → Fields) FileBreak
held_ok x = Ok x

abbrev content : Content → Option Content
content x = Some x

-- a field that is read, and what is read behind it
field_then : (part : Part) (last : Option ℕ) (w : Window) (key : ℕ) (f : Field) (held : Fields → Fields) (rest : Fields) → IsWindow w → is_among (next_keys part last) key ≡ true → IsExpected w key f
    → filled message_at w.bytes f (content_of part f.key) ≡ held_ok held → message_from part (Some f.key) (behind w (Some f)) ≡ fields_ok rest → message_from part last w ≡ fields_ok (held rest)
field_then part last w key f held rest window among read holds others =
    turn part last w window ∙ rw (read (next_keys part last) (may_end part last) among, holds, others) refl

-- a message ends where no field has to come
pub ends_there : (part : Part) (last : Option ℕ) (w : Window) → IsWindow w → w.end ≤ w.place → may_end part last ≡ true → message_from part last w ≡ fields_ok ends
unfolding field_at
ends_there part last w window none end =
    let here : (w.place == w.end) ≡ true = eq-eqb w.place w.end (omega (arith, none, window.ordered)) in
    turn part last w window ∙ rw (here, end) refl

-- a number of a known key before other fields
pub number_before : (part : Part) (last : Option ℕ) (w : Window) (key : ℕ) (f : Field) (rest : Fields) → IsWindow w → is_among (next_keys part last) key ≡ true → content_of part key ≡ content Number → StandsFirst w key f
    → message_from part (Some key) (behind w (Some f)) ≡ fields_ok rest → message_from part last w ≡ fields_ok (has_number f.at key f.value rest)
number_before part last w key f rest window among row stands others =
    let same = stands.key_is in
    let read = stands.read in
    let held : filled message_at w.bytes f (content_of part f.key) ≡ held_ok (has_number f.at f.key f.value) = rw (same, row) refl in
    field_then part last w key f (has_number f.at f.key f.value) rest window among read held (subst (λ (k : ℕ). message_from part (Some k) (behind w (Some f)) ≡ fields_ok rest) (sym same) others)
    ∙ ap (λ (k : ℕ). fields_ok (has_number f.at k f.value rest)) same

-- bytes of a known key before other fields
pub bytes_before : (part : Part) (last : Option ℕ) (w : Window) (key : ℕ) (f : Field) (rest : Fields) → IsWindow w → is_among (next_keys part last) key ≡ true → content_of part key ≡ content Bytes → StandsFirst w key f
    → message_from part (Some key) (behind w (Some f)) ≡ fields_ok rest → message_from part last w ≡ fields_ok (has_bytes f.at key (slice_range w.bytes f.from f.to) rest)
bytes_before part last w key f rest window among row stands others =
    let same = stands.key_is in
    let read = stands.read in
    let held : filled message_at w.bytes f (content_of part f.key) ≡ held_ok (has_bytes f.at f.key (slice_range w.bytes f.from f.to)) = rw (same, row) refl in
    field_then part last w key f (has_bytes f.at f.key (slice_range w.bytes f.from f.to)) rest window among read held (subst (λ (k : ℕ). message_from part (Some k) (behind w (Some f)) ≡ fields_ok rest) (sym same) others)
    ∙ ap (λ (k : ℕ). fields_ok (has_bytes f.at k (slice_range w.bytes f.from f.to) rest)) same

-- a list of numbers of a known key, in whole groups, before other fields
pub numbers_before : (part : Part) (last : Option ℕ) (w : Window) (key : ℕ) (group : Group) (f : Field) (numbers : List ℕ) (rest : Fields) → IsWindow w → is_among (next_keys part last) key ≡ true → content_of part key ≡ content (Numbers group) → StandsFirst w key f
    → numbers_at (payload_of w.bytes f) ≡ numbers_ok numbers → (length numbers % group_size group == 0) ≡ true
    → message_from part (Some key) (behind w (Some f)) ≡ fields_ok rest → message_from part last w ≡ fields_ok (has_numbers f.at key numbers rest)
numbers_before part last w key group f numbers rest window among row stands all whole others =
    let same = stands.key_is in
    let read = stands.read in
    let held : filled message_at w.bytes f (content_of part f.key) ≡ held_ok (has_numbers f.at f.key numbers) = rw (same, row, all, whole) refl in
    field_then part last w key f (has_numbers f.at f.key numbers) rest window among read held (subst (λ (k : ℕ). message_from part (Some k) (behind w (Some f)) ≡ fields_ok rest) (sym same) others)
    ∙ ap (λ (k : ℕ). fields_ok (has_numbers f.at k numbers rest)) same

-- a message of a known key before other fields
pub message_before : (part : Part) (last : Option ℕ) (w : Window) (key : ℕ) (inner : Part) (f : Field) (fields rest : Fields) → IsWindow w → is_among (next_keys part last) key ≡ true → content_of part key ≡ content (Message inner) → StandsFirst w key f
    → message_at inner (payload_of w.bytes f) ≡ fields_ok fields
    → message_from part (Some key) (behind w (Some f)) ≡ fields_ok rest → message_from part last w ≡ fields_ok (has_message f.at key fields rest)
message_before part last w key inner f fields rest window among row stands is others =
    let same = stands.key_is in
    let read = stands.read in
    let held : filled message_at w.bytes f (content_of part f.key) ≡ held_ok (has_message f.at f.key fields) = rw (same, row, is) refl in
    field_then part last w key f (has_message f.at f.key fields) rest window among read held (subst (λ (k : ℕ). message_from part (Some k) (behind w (Some f)) ≡ fields_ok rest) (sym same) others)
    ∙ ap (λ (k : ℕ). fields_ok (has_message f.at k fields rest)) same

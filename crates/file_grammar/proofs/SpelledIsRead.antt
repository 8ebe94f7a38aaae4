-- A message that the bytes spell is read at its place.
use Rattle.std.proofs.Common.{◌≡◌, ℕ, ◌-◌, ◌%◌, ◌^◌, ◌<◌, ◌≤◌, true, List, [], ◌++◌, length, Option, Some, None, Result, Ok, refl, sym, ap, subst, ◌∙◌, arith}
use Rattle.std.specs.Prelude.{◌==◌, not, slice_range, flat_map, IsTrue}
use Rattle.std.proofs.lemmas.Bool.{eq-eqb}
use Rattle.std.proofs.lemmas.List.{length-append}
use Rattle.obf_wire.specs.declared.breaks.WireBreak.{WireBreak}
use Rattle.obf_wire.specs.declared.field.Field.{Field}
use Rattle.obf_wire.specs.declared.file.FileBreak.{FileBreak}
use Rattle.obf_wire.specs.Varint.{varint}
use Rattle.obf_wire.specs.Fields.{Window, IsWindow, content, field_spelling, field_of, field_at, left_of, behind}
use Rattle.obf_wire.proofs.NextField.{field_end}
use Rattle.coord_delta.proofs.NumberLists.{length-range}
use Rattle.file_grammar.specs.declared.parts.Part.{Part}
use Rattle.file_grammar.specs.declared.parts.Content.{Content}
use Rattle.file_grammar.specs.declared.parts.Content.TheVariants.{Number, Version, Bytes, Numbers, Message}
use Rattle.file_grammar.specs.declared.parts.Version.{Version as VersionOf}
use Rattle.file_grammar.specs.declared.parts.Version.TheVariants.{One, Two}
use Rattle.file_grammar.specs.Tables.{version_number, next_keys, may_end, content_of}
use Rattle.file_grammar.specs.Messages.{Fields, ends, has_number, has_bytes, has_numbers, has_message, spelling, inside, beyond, IsNumberFor, AreNumbersFor, IsMessageFor, MayCome, HaveForm}
use Rattle.file_grammar.specs.Readings.{◌>>=◌, of_file, payload_of, filled, continued, message_from, message_at, IsInMemory}
use Rattle.file_grammar.proofs.Fuel.{turn}
use Rattle.file_grammar.proofs.Ranges.{field_parts, part_in}
use Rattle.file_grammar.proofs.RowKinds.{content_fits, no_payload, has_payload}
use Rattle.file_grammar.proofs.SpelledLists.{list_read}

abbrev fields_ok : Fields → Result Fields FileBreak
fields_ok fields = Ok fields

abbrev held_ok : (Fields → Fields) → Result (Fields → Fields) FileBreak
held_ok f = Ok f

-- a field and those behind it are read
whole_read : (part : Part) (last : Option ℕ) (w : Window) (f : Field) (held : Fields → Fields) (rest : Fields) → IsWindow w → field_at w (next_keys part last) (may_end part last) ≡ Ok (Some f)
    → filled message_at w.bytes f (content_of part f.key) ≡ Ok held → message_from part (Some f.key) (behind w (Some f)) ≡ Ok rest → message_from part last w ≡ Ok (held rest)
whole_read part last w f held rest window read fill others =
    turn part last w window
    ∙ ap (λ (r : Result (Option Field) WireBreak). of_file r >>= continued message_from part w) read
    ∙ ap (λ (r : Result (Fields → Fields) FileBreak). r >>= λ field. message_from part (Some f.key) (behind w (Some f)) >>= λ rest. Ok (field rest)) fill
    ∙ ap (λ (r : Result Fields FileBreak). r >>= λ rest. Ok (held rest)) others

-- a payload within memory has a length of 64 bits
short_payload : (w : Window) (head payload rest : List ℕ) → IsInMemory w → left_of w ≡ head ++ payload ++ rest → length payload < 2 ^ 64
short_payload w head payload rest memory e =
    let size = sym (length-range w.bytes w.place w.end memory.window.ordered memory.window.within) ∙ ap length e ∙ length-append (head ++ payload) rest in
    omega (arith, size, length-append head payload, memory.window.ordered, memory.window.within, memory.few)

-- the number of a version is small
version_small : (version : VersionOf) → version_number version < 2 ^ 64
version_small One = omega arith
version_small Two = omega arith

-- Fields by what they hold. The row of the key says what that is.

number_read : (part : Part) (last : Option ℕ) (w : Window) (key value : ℕ) (rest : Fields) (c : Option Content) → IsInMemory w → content_of part key ≡ c → IsNumberFor c value → MayCome part last key
    → left_of w ≡ field_spelling key value [] ++ spelling rest
    → ((v : Window) → IsInMemory v → v.place ≡ inside w.place key value → left_of v ≡ spelling rest → message_from part (Some key) v ≡ Ok rest)
    → message_from part last w ≡ Ok (has_number w.place key value rest)
number_read part last w key value rest None memory is fits among spelled others = absurd fits
number_read part last w key value rest (Some Number) memory is fits among spelled others =
    let kind = content_fits part key Number is in
    let none = no_payload key value kind.typed in
    let p = field_parts w (next_keys part last) (may_end part last) key value [] (spelling rest) memory.window among kind.key_fits fits none spelled in
    whole_read part last w (field_of w.place key value) (has_number w.place key value) rest memory.window p.read (rw is refl)
    (others (behind w (Some (field_of w.place key value))) (part_in w _ w.end memory p.ends memory.window.within) (omega (arith, none)) p.leaves)
number_read part last w key value rest (Some (Version version)) memory is fits among spelled others =
    let kind = content_fits part key (Version version) is in
    let none = no_payload key value kind.typed in
    let p = field_parts w (next_keys part last) (may_end part last) key value [] (spelling rest) memory.window among kind.key_fits (subst (λ (n : ℕ). n < 2 ^ 64) (sym fits) (version_small version)) none spelled in
    let one : (value == version_number version) ≡ true = eq-eqb value (version_number version) fits in
    whole_read part last w (field_of w.place key value) (has_number w.place key value) rest memory.window p.read (rw (is, one) refl)
    (others (behind w (Some (field_of w.place key value))) (part_in w _ w.end memory p.ends memory.window.within) (omega (arith, none)) p.leaves)
number_read part last w key value rest (Some Bytes) memory is fits among spelled others = absurd fits
number_read part last w key value rest (Some (Numbers group)) memory is fits among spelled others = absurd fits
number_read part last w key value rest (Some (Message sub)) memory is fits among spelled others = absurd fits

-- a field with a payload is read where what it holds is
payload_read : (part : Part) (last : Option ℕ) (w : Window) (key : ℕ) (payload : List ℕ) (c : Content) (held : Fields → Fields) (rest : Fields) → IsInMemory w → content_of part key ≡ Some c → not (key % 8 == 0) ≡ true → MayCome part last key
    → left_of w ≡ field_spelling key (length payload) payload ++ spelling rest
    → ((f : Field) → f.at ≡ w.place → f.key ≡ key → f.from ≡ inside w.place key (length payload) → f.from ≤ f.to → f.to ≤ w.end → slice_range w.bytes f.from f.to ≡ payload → filled message_at w.bytes f (Some c) ≡ held_ok held)
    → ((v : Window) → IsInMemory v → v.place ≡ beyond w.place key (length payload) → left_of v ≡ spelling rest → message_from part (Some key) v ≡ Ok rest)
    → message_from part last w ≡ Ok (held rest)
payload_read part last w key payload c held rest memory is typed among spelled holds others =
    let kind = content_fits part key c is in
    let size = has_payload key (length payload) typed in
    let short = short_payload w (varint key ++ content key (length payload)) payload (spelling rest) memory spelled in
    let p = field_parts w (next_keys part last) (may_end part last) key (length payload) payload (spelling rest) memory.window among kind.key_fits short size spelled in
    let f : Field = field_of w.place key (length payload) in
    let fill : filled message_at w.bytes f (content_of part key) ≡ held_ok held =
    ap (filled message_at w.bytes f) is ∙ holds f refl refl refl p.ordered p.ends p.holds in
    whole_read part last w f held rest memory.window p.read fill (others (behind w (Some f)) (part_in w f.to w.end memory p.ends memory.window.within) (omega (arith, size)) p.leaves)

numbers_read : (part : Part) (last : Option ℕ) (w : Window) (key : ℕ) (values : List ℕ) (rest : Fields) (c : Option Content) → IsInMemory w → content_of part key ≡ c → AreNumbersFor c values → MayCome part last key
    → left_of w ≡ field_spelling key (length (flat_map varint values)) (flat_map varint values) ++ spelling rest
    → ((v : Window) → IsInMemory v → v.place ≡ beyond w.place key (length (flat_map varint values)) → left_of v ≡ spelling rest → message_from part (Some key) v ≡ Ok rest)
    → message_from part last w ≡ Ok (has_numbers w.place key values rest)
numbers_read part last w key values rest None memory is fit among spelled others = absurd fit
numbers_read part last w key values rest (Some Number) memory is fit among spelled others = absurd fit
numbers_read part last w key values rest (Some (Version version)) memory is fit among spelled others = absurd fit
numbers_read part last w key values rest (Some Bytes) memory is fit among spelled others = absurd fit
numbers_read part last w key values rest (Some (Numbers group)) memory is fit among spelled others =
    payload_read part last w key (flat_map varint values) (Numbers group) (has_numbers w.place key values) rest memory is (content_fits part key (Numbers group) is).typed among spelled
    (λ f at_is key_is from_is ordered ends holds.
    let window : IsWindow (payload_of w.bytes f) = record { ordered = ordered; within = omega (arith, ends, memory.window.within) } in
    let read = list_read group (payload_of w.bytes f) values window fit.0 (record { fit = fit.1; spelled = holds }) in
    rw (read, at_is, key_is) refl)
    others
numbers_read part last w key values rest (Some (Message sub)) memory is fit among spelled others = absurd fit

message_read : (part : Part) (last : Option ℕ) (w : Window) (key : ℕ) (inner rest : Fields) (c : Option Content) → IsInMemory w → content_of part key ≡ c
    → IsMessageFor (λ sub. HaveForm sub None (inside w.place key (length (spelling inner))) inner) c → MayCome part last key
    → left_of w ≡ field_spelling key (length (spelling inner)) (spelling inner) ++ spelling rest
    → ((sub : Part) (v : Window) → IsInMemory v → HaveForm sub None v.place inner → left_of v ≡ spelling inner → message_from sub None v ≡ Ok inner)
    → ((v : Window) → IsInMemory v → v.place ≡ beyond w.place key (length (spelling inner)) → left_of v ≡ spelling rest → message_from part (Some key) v ≡ Ok rest)
    → message_from part last w ≡ Ok (has_message w.place key inner rest)
message_read part last w key inner rest None memory is form among spelled messages others = absurd form
message_read part last w key inner rest (Some Number) memory is form among spelled messages others = absurd form
message_read part last w key inner rest (Some (Version version)) memory is form among spelled messages others = absurd form
message_read part last w key inner rest (Some Bytes) memory is form among spelled messages others = absurd form
message_read part last w key inner rest (Some (Numbers group)) memory is form among spelled messages others = absurd form
message_read part last w key inner rest (Some (Message sub)) memory is form among spelled messages others =
    payload_read part last w key (spelling inner) (Message sub) (has_message w.place key inner) rest memory is (content_fits part key (Message sub) is).typed among spelled
    (λ f at_is key_is from_is ordered ends holds.
    let read = messages sub (payload_of w.bytes f) (part_in w f.from f.to memory ordered (omega (arith, ends, memory.window.within))) (subst (λ (k : ℕ). HaveForm sub None k inner) (sym from_is) form) holds in
    rw (read, at_is, key_is) refl)
    others

nothing_read : (part : Part) (last : Option ℕ) (w : Window) → IsInMemory w → IsTrue (may_end part last) → left_of w ≡ [] → message_from part last w ≡ Ok ends
nothing_read part last w memory may e =
    let size : w.end - w.place ≡ 0 = sym (length-range w.bytes w.place w.end memory.window.ordered memory.window.within) ∙ ap length e in
    let here : w.place ≡ w.end = omega (arith, size, memory.window.ordered) in
    turn part last w memory.window
    ∙ ap (λ (r : Result (Option Field) WireBreak). of_file r >>= continued message_from part w) ((field_end w (next_keys part last) (may_end part last)).1 (here, may))

-- at another spelling of the place the same fields
placed : (part : Part) (last : Option ℕ) (w : Window) (at : ℕ) (fields : ℕ → Fields) → at ≡ w.place → message_from part last w ≡ Ok (fields w.place) → message_from part last w ≡ Ok (fields at)
placed part last w at fields e read = read ∙ ap (λ (k : ℕ). fields_ok (fields k)) (sym e)

pub spelled_is_read : (fields : Fields) (part : Part) (last : Option ℕ) (w : Window) → IsInMemory w → HaveForm part last w.place fields → left_of w ≡ spelling fields → message_from part last w ≡ Ok fields
unfolding HaveForm spelling
spelled_is_read ends part last w memory form e = nothing_read part last w memory form e
spelled_is_read (has_number at key value rest) part last w memory form e =
    let behind_at : HaveForm part (Some key) (inside w.place key value) rest = subst (λ (k : ℕ). HaveForm part (Some key) (inside k key value) rest) form.0 form.3 in
    placed part last w at (λ k. has_number k key value rest) form.0
    (number_read part last w key value rest (content_of part key) memory refl form.2 form.1 e
    (λ v inside_memory place spelled. spelled_is_read rest part (Some key) v inside_memory (subst (λ (k : ℕ). HaveForm part (Some key) k rest) (sym place) behind_at) spelled))
spelled_is_read (has_bytes at key payload rest) part last w memory form e =
    let behind_at : HaveForm part (Some key) (beyond w.place key (length payload)) rest = subst (λ (k : ℕ). HaveForm part (Some key) (beyond k key (length payload)) rest) form.0 form.3 in
    placed part last w at (λ k. has_bytes k key payload rest) form.0
    (payload_read part last w key payload Bytes (has_bytes w.place key payload) rest memory form.2 (content_fits part key Bytes form.2).typed form.1 e
    (λ f at_is key_is from_is ordered ends_in holds. rw (holds, at_is, key_is) refl)
    (λ v inside_memory place spelled. spelled_is_read rest part (Some key) v inside_memory (subst (λ (k : ℕ). HaveForm part (Some key) k rest) (sym place) behind_at) spelled))
spelled_is_read (has_numbers at key values rest) part last w memory form e =
    let behind_at : HaveForm part (Some key) (beyond w.place key (length (flat_map varint values))) rest =
    subst (λ (k : ℕ). HaveForm part (Some key) (beyond k key (length (flat_map varint values))) rest) form.0 form.3 in
    placed part last w at (λ k. has_numbers k key values rest) form.0
    (numbers_read part last w key values rest (content_of part key) memory refl form.2 form.1 e
    (λ v inside_memory place spelled. spelled_is_read rest part (Some key) v inside_memory (subst (λ (k : ℕ). HaveForm part (Some key) k rest) (sym place) behind_at) spelled))
spelled_is_read (has_message at key inner rest) part last w memory form e =
    let behind_at : HaveForm part (Some key) (beyond w.place key (length (spelling inner))) rest =
    subst (λ (k : ℕ). HaveForm part (Some key) (beyond k key (length (spelling inner))) rest) form.0 form.3 in
    let inner_form : IsMessageFor (λ sub. HaveForm sub None (inside w.place key (length (spelling inner))) inner) (content_of part key) =
    subst (λ (k : ℕ). IsMessageFor (λ sub. HaveForm sub None (inside k key (length (spelling inner))) inner) (content_of part key)) form.0 form.2 in
    placed part last w at (λ k. has_message k key inner rest) form.0
    (message_read part last w key inner rest (content_of part key) memory refl inner_form form.1 e
    (λ sub v inside_memory has spelled. spelled_is_read inner sub None v inside_memory has spelled)
    (λ v inside_memory place spelled. spelled_is_read rest part (Some key) v inside_memory (subst (λ (k : ℕ). HaveForm part (Some key) k rest) (sym place) behind_at) spelled))

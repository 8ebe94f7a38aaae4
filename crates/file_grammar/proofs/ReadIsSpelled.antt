-- What is read at a place is a message that the bytes spell.
use Rattle.std.proofs.Common.{◌≡◌, ℕ, zero, suc, ◌+◌, ◌-◌, ◌%◌, ◌<◌, ◌≤◌, true, List, [], ◌++◌, length, Option, Some, None, Result, Ok, Err, refl, sym, ap, subst, ◌∙◌, inl, inr, arith}
use Rattle.std.specs.Prelude.{◌==◌, not, slice_range, flat_map}
use Rattle.std.proofs.lemmas.Bool.{eqb-true}
use Rattle.obf_wire.specs.declared.breaks.WireBreak.{WireBreak}
use Rattle.obf_wire.specs.declared.field.Field.{Field}
use Rattle.obf_wire.specs.declared.file.FileBreak.{FileBreak}
use Rattle.obf_wire.specs.Varint.{varint}
use Rattle.obf_wire.specs.Fields.{Window, IsWindow, IsNextField, content, field_spelling, field_at, left_of, behind}
use Rattle.obf_wire.proofs.NextField.{field_found, field_end, spelled_of_next}
use Rattle.coord_delta.proofs.NumberLists.{length-range, range-none}
use Rattle.file_grammar.specs.declared.parts.Part.{Part}
use Rattle.file_grammar.specs.declared.parts.Content.{Content}
use Rattle.file_grammar.specs.declared.parts.Content.TheVariants.{Number, Version, Bytes, Numbers, Message}
use Rattle.file_grammar.specs.Tables.{version_number, next_keys, may_end, content_of}
use Rattle.file_grammar.specs.Messages.{Fields, ends, has_number, has_bytes, has_numbers, has_message, spelling, inside, beyond, IsNumberFor, AreNumbersFor, IsMessageFor, HaveForm}
use Rattle.file_grammar.specs.Readings.{◌>>=◌, of_file, payload_of, groups_at, filled, continued, message_from, message_at, IsInMemory}
use Rattle.file_grammar.proofs.Inside.{chosen}
use Rattle.file_grammar.proofs.Fuel.{turn}
use Rattle.file_grammar.proofs.Ranges.{bytes_in, part_in}
use Rattle.file_grammar.proofs.RowKinds.{content_fits, no_payload, has_payload}
use Rattle.file_grammar.proofs.SpelledLists.{parted, list_spelled}

abbrev room : Window → ℕ
room w = w.end - w.place

-- the fields, from behind a last one on, have the form of the message, and the bytes spell them
pub record Spells (part : Part) (last : Option ℕ) (w : Window) (fields : Fields) : Type 0 where
  pub form : HaveForm part last w.place fields
  pub spelled : left_of w ≡ spelling fields

-- A field that was read, and the fields behind it.

-- the next field at a place of a message
record Reads (part : Part) (last : Option ℕ) (w : Window) (f : Field) : Type 0 where
  pub window : IsWindow w
  pub next : IsNextField w (next_keys part last) f
  pub ordered : f.from ≤ f.to
  pub from : f.from ≡ f.at + length (varint f.key ++ content f.key f.value)
  pub whole : left_of w ≡ field_spelling f.key f.value (slice_range w.bytes f.from f.to) ++ slice_range w.bytes f.to w.end

reads : (part : Part) (last : Option ℕ) (w : Window) (f : Field) → IsWindow w → IsNextField w (next_keys part last) f → Reads part last w f
reads part last w f window next =
    let size = length-range w.bytes f.at f.from (omega (arith, next.inside.0)) (omega (arith, next.payload, next.inside.1, window.within)) in
    record {
      window = window;
      next = next;
      ordered = omega (arith, next.payload);
      from = omega (arith, sym size ∙ ap length next.spelled, next.inside.0);
      whole = spelled_of_next w (next_keys part last) f window next;
    }

number_spelled : (part : Part) (last : Option ℕ) (w : Window) (f : Field) (rest : Fields) → Reads part last w f → (f.key % 8 == 0) ≡ true → IsNumberFor (content_of part f.key) f.value
    → Spells part (Some f.key) (behind w (Some f)) rest → Spells part last w (has_number f.at f.key f.value rest)
unfolding HaveForm spelling
number_spelled part last w f rest r typed fits others =
    let to_is : f.to ≡ f.from = r.next.payload ∙ ap (λ (k : ℕ). f.from + k) (no_payload f.key f.value typed) ∙ omega arith in
    let none : slice_range w.bytes f.from f.to ≡ [] = ap (slice_range w.bytes f.from) to_is ∙ range-none w.bytes f.from in
    record {
      form = (r.next.place, r.next.among, fits, subst (λ (k : ℕ). HaveForm part (Some f.key) k rest) (to_is ∙ r.from) others.form);
      spelled = r.whole ∙ ap (λ (t : List ℕ). field_spelling f.key f.value t ++ slice_range w.bytes f.to w.end) none ∙ ap (λ (t : List ℕ). field_spelling f.key f.value [] ++ t) others.spelled;
    }

-- the payload of a field is of the length that is spelled before it
record Holds (w : Window) (f : Field) (payload rest : List ℕ) : Type 0 where
  pub to : f.to ≡ beyond f.at f.key (length payload)
  pub from : f.from ≡ inside f.at f.key (length payload)
  pub spelled : left_of w ≡ field_spelling f.key (length payload) payload ++ rest

holds : (part : Part) (last : Option ℕ) (w : Window) (f : Field) (payload rest : List ℕ) → Reads part last w f → not (f.key % 8 == 0) ≡ true → slice_range w.bytes f.from f.to ≡ payload → slice_range w.bytes f.to w.end ≡ rest
    → Holds w f payload rest
holds part last w f payload rest r typed is rest_is =
    let to_is : f.to ≡ f.from + f.value = r.next.payload ∙ ap (λ (k : ℕ). f.from + k) (has_payload f.key f.value typed) in
    let size : length payload ≡ f.to - f.from = sym (ap length is) ∙ length-range w.bytes f.from f.to r.ordered (omega (arith, r.next.inside.1, r.window.within)) in
    let value : f.value ≡ length payload = omega (arith, to_is, size) in
    let from : f.from ≡ inside f.at f.key (length payload) = r.from ∙ ap (inside f.at f.key) value in
    record {
      to = to_is ∙ ap (λ (k : ℕ). f.from + k) value ∙ ap (λ (k : ℕ). k + length payload) from;
      from = from;
      spelled = r.whole ∙ ap (λ (n : ℕ). field_spelling f.key n (slice_range w.bytes f.from f.to) ++ slice_range w.bytes f.to w.end) value
          ∙ ap (λ (t : List ℕ). field_spelling f.key (length payload) t ++ slice_range w.bytes f.to w.end) is
          ∙ ap (λ (t : List ℕ). field_spelling f.key (length payload) payload ++ t) rest_is;
    }

bytes_spelled : (part : Part) (last : Option ℕ) (w : Window) (f : Field) (rest : Fields) → Reads part last w f → not (f.key % 8 == 0) ≡ true → content_of part f.key ≡ Some Bytes
    → Spells part (Some f.key) (behind w (Some f)) rest → Spells part last w (has_bytes f.at f.key (slice_range w.bytes f.from f.to) rest)
unfolding HaveForm spelling
bytes_spelled part last w f rest r typed is others =
    let h = holds part last w f (slice_range w.bytes f.from f.to) (spelling rest) r typed refl others.spelled in
    record { form = (r.next.place, r.next.among, is, subst (λ (k : ℕ). HaveForm part (Some f.key) k rest) h.to others.form); spelled = h.spelled }

numbers_spelled : (part : Part) (last : Option ℕ) (w : Window) (f : Field) (values : List ℕ) (rest : Fields) → Reads part last w f → not (f.key % 8 == 0) ≡ true → AreNumbersFor (content_of part f.key) values
    → slice_range w.bytes f.from f.to ≡ flat_map varint values → Spells part (Some f.key) (behind w (Some f)) rest → Spells part last w (has_numbers f.at f.key values rest)
unfolding HaveForm spelling
numbers_spelled part last w f values rest r typed fit is others =
    let h = holds part last w f (flat_map varint values) (spelling rest) r typed is others.spelled in
    record { form = (r.next.place, r.next.among, fit, subst (λ (k : ℕ). HaveForm part (Some f.key) k rest) h.to others.form); spelled = h.spelled }

message_spelled : (part : Part) (last : Option ℕ) (w : Window) (f : Field) (sub : Part) (inner rest : Fields) → Reads part last w f → not (f.key % 8 == 0) ≡ true → content_of part f.key ≡ Some (Message sub)
    → Spells sub None (payload_of w.bytes f) inner → Spells part (Some f.key) (behind w (Some f)) rest → Spells part last w (has_message f.at f.key inner rest)
unfolding HaveForm spelling
message_spelled part last w f sub inner rest r typed is held others =
    let h = holds part last w f (spelling inner) (spelling rest) r typed held.spelled others.spelled in
    let form : HaveForm sub None (inside f.at f.key (length (spelling inner))) inner = subst (λ (k : ℕ). HaveForm sub None k inner) h.from held.form in
    let here : IsMessageFor (λ sub. HaveForm sub None (inside f.at f.key (length (spelling inner))) inner) (content_of part f.key) =
    subst (λ (c : Option Content). IsMessageFor (λ sub. HaveForm sub None (inside f.at f.key (length (spelling inner))) inner) c) (sym is) form in
    record { form = (r.next.place, r.next.among, here, subst (λ (k : ℕ). HaveForm part (Some f.key) k rest) h.to others.form); spelled = h.spelled }

-- By what its row says.

abbrev held_ok : (Fields → Fields) → Result (Fields → Fields) FileBreak
held_ok f = Ok f

held_is : (f g : Fields → Fields) → held_ok f ≡ held_ok g → f ≡ g
held_is f g e = cc

abbrev fields_ok : Fields → Result Fields FileBreak
fields_ok fields = Ok fields

same_fields : (a b : Fields) → fields_ok a ≡ fields_ok b → a ≡ b
same_fields a b e = cc

-- what was read of a field, and of those behind it, is spelled
field_spelled : (part : Part) (last : Option ℕ) (w : Window) (f : Field) (content : Option Content) (held : Fields → Fields) (rest : Fields) → Reads part last w f
    → content_of part f.key ≡ content → filled message_at w.bytes f content ≡ Ok held
    → ((sub : Part) (inner : Fields) → message_at sub (payload_of w.bytes f) ≡ Ok inner → Spells sub None (payload_of w.bytes f) inner)
    → Spells part (Some f.key) (behind w (Some f)) rest → Spells part last w (held rest)
field_spelled part last w f None held rest r is e messages others = absurd cc
field_spelled part last w f (Some Number) held rest r is e messages others =
    let fits = content_fits part f.key Number is in
    let number : IsNumberFor (content_of part f.key) f.value = subst (λ (c : Option Content). IsNumberFor c f.value) (sym is) r.next.value_fits in
    subst (λ (h : Fields → Fields). Spells part last w (h rest)) (held_is _ held e) (number_spelled part last w f rest r fits.typed number others)
field_spelled part last w f (Some (Version version)) held rest r is e messages others =
    let fits = content_fits part f.key (Version version) is in
    elim (chosen (f.value == version_number version) _ _ (Ok held) e) [
      | inl c ↦
          let number : IsNumberFor (content_of part f.key) f.value = subst (λ (c : Option Content). IsNumberFor c f.value) (sym is) (eqb-true f.value (version_number version) c.0) in
          subst (λ (h : Fields → Fields). Spells part last w (h rest)) (held_is _ held c.1) (number_spelled part last w f rest r fits.typed number others)
      | inr c ↦ absurd cc
    ]
field_spelled part last w f (Some Bytes) held rest r is e messages others =
    let fits = content_fits part f.key Bytes is in
    subst (λ (h : Fields → Fields). Spells part last w (h rest)) (held_is _ held e) (bytes_spelled part last w f rest r fits.typed is others)
field_spelled part last w f (Some (Numbers group)) held rest r is e messages others =
    let fits = content_fits part f.key (Numbers group) is in
    let ns = parted (groups_at group (payload_of w.bytes f)) _ held e in
    let window : IsWindow (payload_of w.bytes f) = record { ordered = r.ordered; within = omega (arith, r.next.inside.1, r.window.within) } in
    let list = list_spelled group (payload_of w.bytes f) ns.0 window ns.1 in
    let numbers : AreNumbersFor (content_of part f.key) ns.0 = subst (λ (c : Option Content). AreNumbersFor c ns.0) (sym is) (list.0, list.1.fit) in
    subst (λ (h : Fields → Fields). Spells part last w (h rest)) (held_is _ held ns.2) (numbers_spelled part last w f ns.0 rest r fits.typed numbers list.1.spelled others)
field_spelled part last w f (Some (Message sub)) held rest r is e messages others =
    let fits = content_fits part f.key (Message sub) is in
    let m = parted (message_at sub (payload_of w.bytes f)) _ held e in
    subst (λ (h : Fields → Fields). Spells part last w (h rest)) (held_is _ held m.2) (message_spelled part last w f sub m.0 rest r fits.typed is (messages sub m.0 m.1) others)

-- Field by field.

nothing_spelled : (part : Part) (last : Option ℕ) (w : Window) (fields : Fields) → field_at w (next_keys part last) (may_end part last) ≡ Ok None → fields_ok ends ≡ fields_ok fields → Spells part last w fields
unfolding HaveForm spelling
nothing_spelled part last w fields read e =
    let end = (field_end w (next_keys part last) (may_end part last)).0 read in
    let none : left_of w ≡ [] = ap (slice_range w.bytes w.place) (sym end.0) ∙ range-none w.bytes w.place in
    subst (Spells part last w) (same_fields ends fields e) (record { form = end.1; spelled = none })

-- shorter messages are spelled, so one field more is
turn_spelled : (part : Part) (last : Option ℕ) (w : Window) (fields : Fields) (read : Result (Option Field) WireBreak) → IsInMemory w → field_at w (next_keys part last) (may_end part last) ≡ read
    → (of_file read >>= continued message_from part w) ≡ Ok fields
    → ((p : Part) (l : Option ℕ) (v : Window) (fs : Fields) → IsInMemory v → room v < room w → message_from p l v ≡ Ok fs → Spells p l v fs)
    → Spells part last w fields
turn_spelled part last w fields (Err b) memory is e shorter = absurd cc
turn_spelled part last w fields (Ok None) memory is e shorter = nothing_spelled part last w fields is e
turn_spelled part last w fields (Ok (Some f)) memory is e shorter =
    let next = field_found w (next_keys part last) (may_end part last) f memory.window (bytes_in w.bytes memory.bytes) is in
    let r = reads part last w f memory.window next in
    let held = parted (filled message_at w.bytes f (content_of part f.key)) _ fields e in
    let rest = parted (message_from part (Some f.key) (behind w (Some f))) _ fields held.2 in
    let others = shorter part (Some f.key) (behind w (Some f)) rest.0 (part_in w f.to w.end memory next.inside.1 memory.window.within) (omega (arith, next.place, next.inside, r.ordered)) rest.1 in
    subst (Spells part last w) (same_fields (held.0 rest.0) fields rest.2)
    (field_spelled part last w f (content_of part f.key) held.0 rest.0 r refl held.1
    (λ sub inner read. shorter sub None (payload_of w.bytes f) inner (part_in w f.from f.to memory r.ordered (omega (arith, next.inside, memory.window.within))) (omega (arith, next.place, next.inside, r.ordered)) read)
    others)

read_by : (most : ℕ) (part : Part) (last : Option ℕ) (w : Window) (fields : Fields) → IsInMemory w → room w < most → message_from part last w ≡ Ok fields → Spells part last w fields
read_by zero part last w fields memory less e = absurd (omega (arith, less))
read_by (suc most) part last w fields memory less e =
    turn_spelled part last w fields (field_at w (next_keys part last) (may_end part last)) memory refl (sym (turn part last w memory.window) ∙ e)
    (λ p l v fs inside shorter read. read_by most p l v fs inside (omega (arith, shorter, less)) read)

pub read_is_spelled : (part : Part) (last : Option ℕ) (w : Window) (fields : Fields) → IsInMemory w → message_from part last w ≡ Ok fields → Spells part last w fields
read_is_spelled part last w fields memory e = read_by (suc (room w)) part last w fields memory (omega arith) e

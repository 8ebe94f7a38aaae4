-- Fields that were read come in the order of a table, and each holds what its row says.
use Rattle.std.proofs.Common.{◌≡◌, ℕ, zero, suc, ◌-◌, Bool, true, false, List, [], ◌∷◌, length, Option, Some, None, Result, Ok, Err, refl, sym, ap, subst, ◌∙◌, inl, inr}
use Rattle.std.specs.Prelude.{◌==◌, nat_lt}
use Rattle.std.proofs.lemmas.Bool.{eqb-true, or_cases, both_ways}
use Rattle.obf_wire.specs.declared.breaks.WireBreak.{WireBreak}
use Rattle.obf_wire.specs.declared.field.Field.{Field}
use Rattle.obf_wire.specs.declared.file.FileBreak.{FileBreak}
use Rattle.obf_wire.specs.Varint.{varint_at}
use Rattle.obf_wire.specs.Fields.{Window, field_at, behind, is_among, payload_len, content_at, keyed}
use Rattle.obf_wire.specs.Fields.{◌>>=◌ as ◌>=>◌, filled as filled_at}
use Rattle.file_grammar.specs.declared.parts.Part.{Part}
use Rattle.file_grammar.specs.declared.parts.Content.{Content}
use Rattle.file_grammar.specs.declared.parts.Content.TheVariants.{Number, Version, Bytes, Numbers, Message}
use Rattle.file_grammar.specs.Tables.{version_number, next_keys, may_end, content_of}
use Rattle.file_grammar.specs.Messages.{Fields, ends, has_number, has_bytes, has_numbers, has_message}
use Rattle.file_grammar.specs.Readings.{◌>>=◌, of_file, payload_of, groups_at, filled, continued, fields_at, message_from, message_at}
use Rattle.file_grammar.proofs.Inside.{chosen}

abbrev pub HoldsNumber : Option Content → Type 0
HoldsNumber (Some Number) = Unit {0}
HoldsNumber (Some (Version version)) = Unit {0}
HoldsNumber content = ⊥

abbrev pub HoldsNumbers : Option Content → Type 0
HoldsNumbers (Some (Numbers group)) = Unit {0}
HoldsNumbers content = ⊥

-- a field of this key may come
abbrev pub Comes : Part → Option ℕ → ℕ → Type 0
Comes part last key = is_among (next_keys part last) key ≡ true

unfoldable pub IsShaped : Part → Option ℕ → Fields → Type 0
IsShaped part last ends = may_end part last ≡ true
IsShaped part last (has_number at key value rest) = Comes part last key × HoldsNumber (content_of part key) × IsShaped part (Some key) rest
IsShaped part last (has_bytes at key text rest) = Comes part last key × (content_of part key ≡ Some Bytes) × IsShaped part (Some key) rest
IsShaped part last (has_numbers at key values rest) = Comes part last key × HoldsNumbers (content_of part key) × IsShaped part (Some key) rest
IsShaped part last (has_message at key inner rest) =
    Comes part last key × ((sub : Part) × (content_of part key ≡ Some (Message sub)) × IsShaped sub None inner) × IsShaped part (Some key) rest

-- ---- the key of what is read may come

wire_parted : {A B : Type 0} (r : Result A WireBreak) (f : A → Result B WireBreak) (y : B) → (r >=> f) ≡ Ok y → (x : A) × (r ≡ Ok x) × (f x ≡ Ok y)
wire_parted (Ok x) f y e = (x, refl, e)
wire_parted (Err b) f y e = absurd cc

abbrev read_to : Option Field → Result (Option Field) WireBreak
read_to x = Ok x

same_field : (f g : Field) → read_to (Some f) ≡ read_to (Some g) → f ≡ g
same_field f g e = cc

filled_key : (at key end value from : ℕ) (f : Field) → filled_at at key end (value, from) ≡ read_to (Some f) → key ≡ f.key
filled_key at key end value from f e =
    elim (chosen (nat_lt (end - from) (payload_len key value)) _ _ (read_to (Some f)) e) [
      | inl c ↦ absurd cc
      | inr c ↦ ap (λ (g : Field). g.key) (same_field _ f c.1)
    ]

keyed_among : (bytes : List ℕ) (at end : ℕ) (allowed : List ℕ) (f : Field) → (varint_at bytes at end >=> keyed bytes at end allowed) ≡ read_to (Some f) → is_among allowed f.key ≡ true
keyed_among bytes at end allowed f e =
    let k = wire_parted (varint_at bytes at end) (keyed bytes at end allowed) (Some f) e in
    elim (chosen (is_among allowed k.0.0) _ _ (read_to (Some f)) k.2) [
      | inl c ↦
          let v = wire_parted (content_at bytes k.0.0 k.0.1 end) (filled_at at k.0.0 end) (Some f) c.1 in
          subst (λ (key : ℕ). is_among allowed key ≡ true) (filled_key at k.0.0 end v.0.0 v.0.1 f v.2) c.0
      | inr c ↦ absurd cc
    ]

read_among : (w : Window) (allowed : List ℕ) (may_end : Bool) (f : Field) → field_at w allowed may_end ≡ read_to (Some f) → is_among allowed f.key ≡ true
unfolding field_at
read_among w allowed may_end f e =
    elim (chosen (w.place == w.end) _ _ (read_to (Some f)) e) [
      | inl c ↦ elim (chosen may_end _ _ (read_to (Some f)) c.1) [ inl d ↦ absurd cc | inr d ↦ absurd cc ]
      | inr c ↦ elim (chosen (length allowed == 0) _ _ (read_to (Some f)) c.1) [
        | inl d ↦ absurd cc
        | inr d ↦ keyed_among w.bytes w.place w.end allowed f d.1
      ]
    ]

filled_some : (at key end value from : ℕ) → filled_at at key end (value, from) ≡ read_to None → ⊥
filled_some at key end value from e =
    elim (chosen (nat_lt (end - from) (payload_len key value)) _ _ (read_to None) e) [ inl c ↦ absurd cc | inr c ↦ absurd cc ]

keyed_some : (bytes : List ℕ) (at end : ℕ) (allowed : List ℕ) → (varint_at bytes at end >=> keyed bytes at end allowed) ≡ read_to None → ⊥
keyed_some bytes at end allowed e =
    let k = wire_parted (varint_at bytes at end) (keyed bytes at end allowed) None e in
    elim (chosen (is_among allowed k.0.0) _ _ (read_to None) k.2) [
      | inl c ↦
          let v = wire_parted (content_at bytes k.0.0 k.0.1 end) (filled_at at k.0.0 end) None c.1 in
          filled_some at k.0.0 end v.0.0 v.0.1 v.2
      | inr c ↦ absurd cc
    ]

read_end : (w : Window) (allowed : List ℕ) (may_end : Bool) → field_at w allowed may_end ≡ read_to None → may_end ≡ true
unfolding field_at
read_end w allowed may_end e =
    elim (chosen (w.place == w.end) _ _ (read_to None) e) [
      | inl c ↦ elim (chosen may_end _ _ (read_to None) c.1) [ inl d ↦ d.0 | inr d ↦ absurd cc ]
      | inr c ↦ elim (chosen (length allowed == 0) _ _ (read_to None) c.1) [
        | inl d ↦ absurd cc
        | inr d ↦ absurd (keyed_some w.bytes w.place w.end allowed d.1)
      ]
    ]

-- ---- each field holds what its row says

parted : {A B : Type 0} (r : Result A FileBreak) (f : A → Result B FileBreak) (y : B) → (r >>= f) ≡ Ok y → (x : A) × (r ≡ Ok x) × (f x ≡ Ok y)
parted (Ok x) f y e = (x, refl, e)
parted (Err b) f y e = absurd cc

wire_ok : {B : Type 0} (r : Result (Option Field) WireBreak) (f : Option Field → Result B FileBreak) (y : B) → (of_file r >>= f) ≡ Ok y → (x : Option Field) × (r ≡ Ok x) × (f x ≡ Ok y)
wire_ok (Ok x) f y e = (x, refl, e)
wire_ok (Err b) f y e = absurd cc

abbrev held_ok : (Fields → Fields) → Result (Fields → Fields) FileBreak
held_ok f = Ok f

ok_is : (f g : Fields → Fields) → held_ok f ≡ held_ok g → f ≡ g
ok_is f g e = cc

abbrev fields_ok : Fields → Result Fields FileBreak
fields_ok fields = Ok fields

same_fields : (a b : Fields) → fields_ok a ≡ fields_ok b → a ≡ b
same_fields a b e = cc

abbrev MessageReader : Type 0
MessageReader = Part → Window → Result Fields FileBreak

-- what a message reader gives is shaped
abbrev ReadsShaped : MessageReader → Type 0
ReadsShaped read = (part : Part) (w : Window) (fields : Fields) → read part w ≡ Ok fields → IsShaped part None fields

held_shaped : (read : MessageReader) → ReadsShaped read → (part : Part) (last : Option ℕ) (bytes : List ℕ) (f : Field) (content : Option Content) (held : Fields → Fields) (rest : Fields)
    → content_of part f.key ≡ content → Comes part last f.key → filled read bytes f content ≡ Ok held → IsShaped part (Some f.key) rest → IsShaped part last (held rest)
unfolding IsShaped
held_shaped read shaped part last bytes f None held rest is comes e left = absurd cc
held_shaped read shaped part last bytes f (Some Number) held rest is comes e left =
    subst (λ (h : Fields → Fields). IsShaped part last (h rest)) (ok_is _ held e) (comes, subst HoldsNumber (sym is) tt, left)
held_shaped read shaped part last bytes f (Some (Version version)) held rest is comes e left =
    elim (chosen (f.value == version_number version) _ _ (Ok held) e) [
      | inl c ↦ subst (λ (h : Fields → Fields). IsShaped part last (h rest)) (ok_is _ held c.1) (comes, subst HoldsNumber (sym is) tt, left)
      | inr c ↦ absurd cc
    ]
held_shaped read shaped part last bytes f (Some Bytes) held rest is comes e left =
    subst (λ (h : Fields → Fields). IsShaped part last (h rest)) (ok_is _ held e) (comes, is, left)
held_shaped read shaped part last bytes f (Some (Numbers group)) held rest is comes e left =
    let ns = parted (groups_at group (payload_of bytes f)) _ held e in
    subst (λ (h : Fields → Fields). IsShaped part last (h rest)) (ok_is _ held ns.2) (comes, subst HoldsNumbers (sym is) tt, left)
held_shaped read shaped part last bytes f (Some (Message inner)) held rest is comes e left =
    let m = parted (read inner (payload_of bytes f)) _ held e in
    subst (λ (h : Fields → Fields). IsShaped part last (h rest)) (ok_is _ held m.2) (comes, (inner, is, shaped inner (payload_of bytes f) m.0 m.1), left)

went_on : (read : Part → Option ℕ → Window → Result Fields FileBreak) → ((part : Part) (last : Option ℕ) (w : Window) (fields : Fields) → read part last w ≡ Ok fields → IsShaped part last fields)
    → (part : Part) (last : Option ℕ) (w : Window) (x : Option Field) (fields : Fields) → field_at w (next_keys part last) (may_end part last) ≡ Ok x → continued read part w x ≡ Ok fields
    → IsShaped part last fields
unfolding IsShaped
went_on read shaped part last w None fields r e = subst (IsShaped part last) (same_fields ends fields e) (read_end w (next_keys part last) (may_end part last) r)
went_on read shaped part last w (Some f) fields r e =
    let held = parted (filled (λ p. read p None) w.bytes f (content_of part f.key)) _ fields e in
    let rest = parted (read part (Some f.key) (behind w (Some f))) _ fields held.2 in
    subst (IsShaped part last) (same_fields (held.0 rest.0) fields rest.2)
    (held_shaped (λ p. read p None) (λ p. shaped p None) part last w.bytes f (content_of part f.key) held.0 rest.0 refl (read_among w (next_keys part last) (may_end part last) f r) held.1
    (shaped part (Some f.key) (behind w (Some f)) rest.0 rest.1))

fields_shaped : (fuel : ℕ) (part : Part) (last : Option ℕ) (w : Window) (fields : Fields) → fields_at fuel part last w ≡ Ok fields → IsShaped part last fields
fields_shaped zero part last w fields e = absurd cc
fields_shaped (suc fuel) part last w fields e =
    let x = wire_ok (field_at w (next_keys part last) (may_end part last)) _ fields e in
    went_on (fields_at fuel) (fields_shaped fuel) part last w x.0 fields x.1 x.2

pub shaped : (part : Part) (w : Window) (fields : Fields) → message_at part w ≡ Ok fields → IsShaped part None fields
unfolding message_from
shaped part w fields e = fields_shaped (suc (w.end - w.place)) part None w fields e

-- ---- the first of fields, where one key alone may come

pub only_key : (part : Part) (last : Option ℕ) (k key : ℕ) → next_keys part last ≡ k ∷ [] → Comes part last key → k ≡ key
only_key part last k key only comes =
    let h : is_among (k ∷ []) key ≡ true = subst (λ (keys : List ℕ). is_among keys key ≡ true) only comes in
    elim (or_cases (k == key) false h) [ inl e ↦ eqb-true k key e | inr e ↦ absurd (both_ways false refl e) ]

pub record BeginsNumber (part : Part) (k : ℕ) (fields : Fields) : Type 0 where
  pub at : ℕ
  pub value : ℕ
  pub rest : Fields
  pub is : fields ≡ has_number at k value rest
  pub shaped : IsShaped part (Some k) rest

pub record BeginsNumbers (part : Part) (k : ℕ) (fields : Fields) : Type 0 where
  pub at : ℕ
  pub values : List ℕ
  pub rest : Fields
  pub is : fields ≡ has_numbers at k values rest
  pub shaped : IsShaped part (Some k) rest

pub record BeginsMessage (part : Part) (k : ℕ) (sub : Part) (fields : Fields) : Type 0 where
  pub at : ℕ
  pub inner : Fields
  pub rest : Fields
  pub is : fields ≡ has_message at k inner rest
  pub inside : IsShaped sub None inner
  pub shaped : IsShaped part (Some k) rest

abbrev holds : Content → Option Content
holds content = Some content

same_part : (a b : Part) → holds (Message a) ≡ holds (Message b) → a ≡ b
same_part a b e = cc

pub begins_number : (part : Part) (last : Option ℕ) (k : ℕ) (fields : Fields) → next_keys part last ≡ k ∷ [] → may_end part last ≡ false → content_of part k ≡ holds Number
    → IsShaped part last fields → BeginsNumber part k fields
unfolding IsShaped
begins_number part last k ends only more is s = absurd (both_ways (may_end part last) more s)
begins_number part last k (has_number at key value rest) only more is s =
    let same = only_key part last k key only s.0 in
    record { at = at; value = value; rest = rest; is = ap (λ (key : ℕ). has_number at key value rest) (sym same); shaped = subst (λ (key : ℕ). IsShaped part (Some key) rest) (sym same) s.2 }
begins_number part last k (has_bytes at key text rest) only more is s =
    let same = only_key part last k key only s.0 in
    let a : holds Number ≡ holds Bytes = sym is ∙ ap (content_of part) same ∙ s.1 in absurd cc
begins_number part last k (has_numbers at key values rest) only more is s =
    let same = only_key part last k key only s.0 in absurd (subst HoldsNumbers (ap (content_of part) (sym same) ∙ is) s.1)
begins_number part last k (has_message at key inner rest) only more is s =
    let same = only_key part last k key only s.0 in
    let a : holds Number ≡ holds (Message s.1.0) = sym is ∙ ap (content_of part) same ∙ s.1.1 in absurd cc

no_both : (content : Option Content) → HoldsNumber content → HoldsNumbers content → ⊥
no_both None a b = a
no_both (Some Number) a b = b
no_both (Some (Version version)) a b = b
no_both (Some Bytes) a b = b
no_both (Some (Numbers group)) a b = a
no_both (Some (Message part)) a b = b

pub begins_numbers : (part : Part) (last : Option ℕ) (k : ℕ) (fields : Fields) → next_keys part last ≡ k ∷ [] → may_end part last ≡ false → HoldsNumbers (content_of part k)
    → IsShaped part last fields → BeginsNumbers part k fields
unfolding IsShaped
begins_numbers part last k ends only more is s = absurd (both_ways (may_end part last) more s)
begins_numbers part last k (has_numbers at key values rest) only more is s =
    let same = only_key part last k key only s.0 in
    record { at = at; values = values; rest = rest; is = ap (λ (key : ℕ). has_numbers at key values rest) (sym same); shaped = subst (λ (key : ℕ). IsShaped part (Some key) rest) (sym same) s.2 }
begins_numbers part last k (has_bytes at key text rest) only more is s =
    let same = only_key part last k key only s.0 in
    absurd (subst HoldsNumbers (ap (content_of part) same ∙ s.1) is)
begins_numbers part last k (has_number at key value rest) only more is s =
    let same = only_key part last k key only s.0 in
    absurd (no_both (content_of part key) s.1 (subst HoldsNumbers (ap (content_of part) same) is))
begins_numbers part last k (has_message at key inner rest) only more is s =
    let same = only_key part last k key only s.0 in
    absurd (subst HoldsNumbers (ap (content_of part) same ∙ s.1.1) is)

pub begins_message : (part : Part) (last : Option ℕ) (k : ℕ) (sub : Part) (fields : Fields) → next_keys part last ≡ k ∷ [] → may_end part last ≡ false → content_of part k ≡ holds (Message sub)
    → IsShaped part last fields → BeginsMessage part k sub fields
unfolding IsShaped
begins_message part last k sub ends only more is s = absurd (both_ways (may_end part last) more s)
begins_message part last k sub (has_number at key value rest) only more is s =
    let same = only_key part last k key only s.0 in absurd (subst HoldsNumber (ap (content_of part) (sym same) ∙ is) s.1)
begins_message part last k sub (has_bytes at key text rest) only more is s =
    let same = only_key part last k key only s.0 in
    let a : holds (Message sub) ≡ holds Bytes = sym is ∙ ap (content_of part) same ∙ s.1 in absurd cc
begins_message part last k sub (has_numbers at key values rest) only more is s =
    let same = only_key part last k key only s.0 in absurd (subst HoldsNumbers (ap (content_of part) (sym same) ∙ is) s.1)
begins_message part last k sub (has_message at key inner rest) only more is s =
    let same = only_key part last k key only s.0 in
    let a : holds (Message s.1.0) ≡ holds (Message sub) = sym s.1.1 ∙ ap (content_of part) (sym same) ∙ is in
    record {
      at = at;
      inner = inner;
      rest = rest;
      is = ap (λ (key : ℕ). has_message at key inner rest) (sym same);
      inside = subst (λ (p : Part). IsShaped p None inner) (same_part s.1.0 sub a) s.1.2;
      shaped = subst (λ (key : ℕ). IsShaped part (Some key) rest) (sym same) s.2;
    }

-- ---- fields of one key

-- bytes behind this key
abbrev pub AreTexts : ℕ → Fields → Type 0
AreTexts k ends = Unit {0}
AreTexts k (has_bytes at key text rest) = (key ≡ k) × AreTexts k rest
AreTexts k fields = ⊥

-- such messages behind this key
abbrev pub AreMessages : ℕ → Part → Fields → Type 0
AreMessages k sub ends = Unit {0}
AreMessages k sub (has_message at key inner rest) = (key ≡ k) × IsShaped sub None inner × AreMessages k sub rest
AreMessages k sub fields = ⊥

pub are_texts : (part : Part) (last : Option ℕ) (k : ℕ) (fields : Fields) → next_keys part last ≡ k ∷ [] → next_keys part (Some k) ≡ k ∷ [] → content_of part k ≡ holds Bytes
    → IsShaped part last fields → AreTexts k fields
unfolding IsShaped
are_texts part last k ends only again is s = tt
are_texts part last k (has_bytes at key text rest) only again is s =
    let same = only_key part last k key only s.0 in
    (sym same, are_texts part (Some k) k rest again again is (subst (λ (key : ℕ). IsShaped part (Some key) rest) (sym same) s.2))
are_texts part last k (has_number at key value rest) only again is s =
    let same = only_key part last k key only s.0 in subst HoldsNumber (ap (content_of part) (sym same) ∙ is) s.1
are_texts part last k (has_numbers at key values rest) only again is s =
    let same = only_key part last k key only s.0 in subst HoldsNumbers (ap (content_of part) (sym same) ∙ is) s.1
are_texts part last k (has_message at key inner rest) only again is s =
    let same = only_key part last k key only s.0 in
    let a : holds Bytes ≡ holds (Message s.1.0) = sym is ∙ ap (content_of part) same ∙ s.1.1 in absurd cc

pub are_messages : (part : Part) (last : Option ℕ) (k : ℕ) (sub : Part) (fields : Fields) → next_keys part last ≡ k ∷ [] → next_keys part (Some k) ≡ k ∷ [] → content_of part k ≡ holds (Message sub)
    → IsShaped part last fields → AreMessages k sub fields
unfolding IsShaped
are_messages part last k sub ends only again is s = tt
are_messages part last k sub (has_message at key inner rest) only again is s =
    let same = only_key part last k key only s.0 in
    let a : holds (Message s.1.0) ≡ holds (Message sub) = sym s.1.1 ∙ ap (content_of part) (sym same) ∙ is in
    (sym same, subst (λ (p : Part). IsShaped p None inner) (same_part s.1.0 sub a) s.1.2, are_messages part (Some k) k sub rest again again is (subst (λ (key : ℕ). IsShaped part (Some key) rest) (sym same) s.2))
are_messages part last k sub (has_number at key value rest) only again is s =
    let same = only_key part last k key only s.0 in subst HoldsNumber (ap (content_of part) (sym same) ∙ is) s.1
are_messages part last k sub (has_numbers at key values rest) only again is s =
    let same = only_key part last k key only s.0 in subst HoldsNumbers (ap (content_of part) (sym same) ∙ is) s.1
are_messages part last k sub (has_bytes at key text rest) only again is s =
    let same = only_key part last k key only s.0 in
    let a : holds (Message sub) ≡ holds Bytes = sym is ∙ ap (content_of part) same ∙ s.1 in absurd cc

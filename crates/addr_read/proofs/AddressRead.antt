-- An address where it stands, field by field.
use Rattle.std.proofs.Common.{◌≡◌, ◌<◌, ℕ, true, List, [], ◌∷◌, length, Option, Some, None, Ok, refl, sym, ap, subst, ◌∙◌, inl, inr, arith}
use Rattle.std.specs.Prelude.{Bool, ◌&&◌, ◌||◌, ◌⊎◌, bytes_eq, not, nat_le, slice_range, IsUtf8}
use Rattle.std.specs.List.{AllByRecursion, list_all}
use Rattle.std.specs.Str.{is_utf8}
use Rattle.std.proofs.lemmas.Bool.{and_parts, eqb-true, or_cases}
use Rattle.std.proofs.lemmas.Bool.Decides.{nat_tests}
use Rattle.std.proofs.lemmas.Str.{IsUtf8-from_is_utf8, IsUtf8-nil}
use Rattle.std.proofs.lemmas.Slice.Eq.{bytes_eq-Decides}
use Rattle.name_fold.specs.Keys.{key}
use Rattle.live_model.specs.Records.{is_empty, is_language, is_language_byte}
use Rattle.live_model.proofs.CanonicalBytes.{ascii_utf8}
use Rattle.obf_wire.specs.Fields.{part_of}
use Rattle.file_grammar.specs.AddressRules.{Address, address_with, is_house_kind, is_key_of, lang_facts, lang_in}
use Rattle.file_grammar.specs.Facts.{AllHold}
use Rattle.file_grammar.specs.Messages.{Fields, ends, has_number, has_bytes, has_numbers, has_message}
use Rattle.file_grammar.specs.Readings.{numbers_at}
use Rattle.file_grammar.specs.Sections.{Placed, placed}
use Rattle.boxed_exact.specs.declared.fields.Payload.{Payload}
use Rattle.addr_section.specs.Straight.{MayBeLang}
use Rattle.addr_section.proofs.AddressShape.{IsAddressMessage}
use Rattle.addr_read.specs.declared.fields.AddressFields.{AddressFields}
use Rattle.addr_read.specs.Sound.{HoldsAddress, IsSoundAddress, IsTextLeft, lang_text}

-- ---- the fields

-- the language is the text that is left after the points
pub text_left : (bytes : List ℕ) (span : Payload) (rest : Fields) → MayBeLang rest → (rest ≡ ends → IsTextLeft bytes span ends)
    → ((at key : ℕ) (text : List ℕ) (more : Fields) → rest ≡ has_bytes at key text more → IsTextLeft bytes span (has_bytes at key text more)) → IsTextLeft bytes span rest
text_left bytes span ends may none some = none refl
text_left bytes span (has_bytes at key text rest) may none some = some at key text rest refl
text_left bytes span (has_number at key value rest) may none some = absurd may
text_left bytes span (has_numbers at key values rest) may none some = absurd may
text_left bytes span (has_message at key inner rest) may none some = absurd may

-- an address by its fields
abbrev pub address_by : (at : ℕ) (fields : Fields) → IsAddressMessage fields → Address
address_by at fields m = record {
  at = at;
  ordinal = placed m.a m.ordinal;
  kind = placed m.b m.kind;
  key = placed m.c m.key;
  name = placed m.d m.name;
  number = placed m.e m.number;
  points = placed m.f m.points;
  lang = lang_in m.rest;
}

-- fields that stand so are those of the address
pub fields_hold : (at : ℕ) (fields : Fields) (m : IsAddressMessage fields) (a : Address) (bytes : List ℕ) (seen : AddressFields) → address_with at fields ≡ Some a → seen.ordinal ≡ m.ordinal → seen.kind ≡ m.kind
    → slice_range bytes seen.key.from seen.key.to ≡ m.key → slice_range bytes seen.name.from seen.name.to ≡ m.name → slice_range bytes seen.number.from seen.number.to ≡ m.number → numbers_at (part_of bytes seen.points.from seen.points.to) ≡ Ok m.points → IsTextLeft bytes seen.lang m.rest
    → HoldsAddress bytes seen a
fields_hold at fields m a bytes seen is ordinal kind key name number points lang =
    let made : address_with at fields ≡ Some (address_by at fields m) = ap (address_with at) m.is in
    let same : address_by at fields m ≡ a = let both = sym made ∙ is in cc in
    subst (HoldsAddress bytes seen) same (record { ordinal = ordinal; kind = kind; key = key; name = name; number = number; points = points; lang = lang })

-- ---- its texts

low_byte : (b : ℕ) → is_language_byte b ≡ true → b < 128
low_byte b e = grind (arith, nat_tests)

low_bytes : (bytes : List ℕ) → list_all is_language_byte bytes ≡ true → AllByRecursion (λ b. b < 128) bytes
low_bytes [] all = tt
low_bytes (b ∷ bs) all = let p = and_parts (is_language_byte b) (list_all is_language_byte bs) all in (low_byte b p.0, low_bytes bs p.1)

empty_utf8 : (text : List ℕ) → is_empty text ≡ true → IsUtf8 text
empty_utf8 [] e = IsUtf8-nil
empty_utf8 (c ∷ cs) e = let none = eqb-true (length (c ∷ cs)) 0 e in absurd (omega (arith, none))

language_utf8 : (text : List ℕ) → is_language text ≡ true → IsUtf8 text
language_utf8 text e =
    let p = and_parts (nat_le 2 (length text)) (nat_le (length text) 10 && list_all is_language_byte text) e in
    ascii_utf8 text (low_bytes text (and_parts (nat_le (length text) 10) (list_all is_language_byte text) p.1).1)

-- a language is UTF-8
lang_utf8 : (kind : ℕ) (lang : Option (Placed (List ℕ))) → AllHold (lang_facts kind lang) → IsUtf8 (lang_text lang)
lang_utf8 kind None all = IsUtf8-nil
lang_utf8 kind (Some lang) all = elim (or_cases (is_empty lang.value) (is_language lang.value && not (is_house_kind kind)) all.0) [
  | inl none ↦ empty_utf8 lang.value none
  | inr some ↦ language_utf8 lang.value (and_parts (is_language lang.value) (not (is_house_kind kind)) some).0
]

-- a text beside a name that is UTF-8 is its key
pub key_found : (name k : List ℕ) → is_utf8 name ≡ true → is_key_of name k ≡ true → k ≡ key name
key_found name k utf8 e = one (or_cases (bytes_eq k (key name)) (not (is_utf8 name)) (and_parts (is_utf8 k) (bytes_eq k (key name) || not (is_utf8 name)) e).1)
  where
    one : (bytes_eq k (key name) ≡ true) ⊎ (not (is_utf8 name) ≡ true) → k ≡ key name
    one (inl same) = (bytes_eq-Decides k (key name)).0 same
    one (inr bad) = absurd (let f : not true ≡ true = subst (λ (b : Bool). not b ≡ true) utf8 bad in cc)

-- all texts of a sound address are
pub record AreTexts (a : Address) : Type 0 where
  pub key : IsUtf8 a.key.value
  pub lang : IsUtf8 (lang_text a.lang)
  pub name : IsUtf8 a.name.value
  pub number : IsUtf8 a.number.value

pub texts_of : (a : Address) → IsSoundAddress a → AreTexts a
texts_of a s = record {
  key = IsUtf8-from_is_utf8 a.key.value (and_parts (is_utf8 a.key.value) _ s.facts.1.1.1.1.0).0;
  lang = lang_utf8 a.kind.value a.lang s.facts.1.1.1.1.1.1.1.1;
  name = IsUtf8-from_is_utf8 a.name.value (and_parts (is_utf8 a.name.value) (not (is_empty a.name.value)) s.facts.1.1.1.1.1.0).0;
  number = IsUtf8-from_is_utf8 a.number.value (and_parts (is_utf8 a.number.value) _ s.facts.1.1.1.1.1.1.0).0;
}

-- its key is that of its name
pub key_of : (a : Address) → IsSoundAddress a → a.key.value ≡ key a.name.value
key_of a s =
    let utf8 = (and_parts (is_utf8 a.name.value) (not (is_empty a.name.value)) s.facts.1.1.1.1.1.0).0 in
    key_found a.name.value a.key.value utf8 s.facts.1.1.1.1.0

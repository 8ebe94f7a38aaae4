-- The fields of an address: two numbers, three texts, the steps to its point, and in the second version a language.
use Rattle.std.proofs.Common.{◌≡◌, ℕ, List, Option, Some, None, refl, sym, ap, ◌∙◌, length}
use Rattle.std.specs.List.{list_all}
use Rattle.coord_delta.specs.Steps.{places}
use Rattle.file_grammar.specs.declared.parts.Part.TheVariants.{Address as AddressPart}
use Rattle.file_grammar.specs.declared.parts.Version.{Version}
use Rattle.file_grammar.specs.declared.parts.Version.TheVariants.{One, Two}
use Rattle.file_grammar.specs.AddressRules.{Address, address_with, lang_in}
use Rattle.file_grammar.specs.BoxRules.{is_on_grid}
use Rattle.file_grammar.specs.Messages.{Fields, ends, has_number, has_bytes, has_numbers, has_message}
use Rattle.file_grammar.specs.Sections.{Placed, placed}
use Rattle.file_grammar.proofs.FileShape.{BeginsBytes, begins_bytes}
use Rattle.file_grammar.proofs.Shaped.{BeginsNumber, BeginsNumbers, IsShaped, begins_number, begins_numbers}
use Rattle.addr_section.specs.declared.addresses.AddressSeen.{AddressSeen}
use Rattle.addr_section.specs.Straight.{MayBeLang}
use Rattle.addr_section.specs.Seen.{IsRead, lang_of}

pub record IsAddressMessage (fields : Fields) : Type 0 where
  pub a : ℕ
  pub ordinal : ℕ
  pub b : ℕ
  pub kind : ℕ
  pub c : ℕ
  pub key : List ℕ
  pub d : ℕ
  pub name : List ℕ
  pub e : ℕ
  pub number : List ℕ
  pub f : ℕ
  pub points : List ℕ
  pub rest : Fields
  pub is : fields ≡ has_number a 8 ordinal (has_number b 16 kind (has_bytes c 26 key (has_bytes d 34 name (has_bytes e 42 number (has_numbers f 50 points rest)))))
  pub lang : MayBeLang rest

-- no field comes after the points in the first version
nothing_left : (fields : Fields) → IsShaped (AddressPart One) (Some 50) fields → MayBeLang fields
unfolding IsShaped
nothing_left ends s = tt
nothing_left (has_number at key value rest) s = absurd cc
nothing_left (has_bytes at key text rest) s = absurd cc
nothing_left (has_numbers at key values rest) s = absurd cc
nothing_left (has_message at key inner rest) s = absurd cc

first_version : (fields : Fields) → IsShaped (AddressPart One) None fields → IsAddressMessage fields
first_version fields s =
    let one : BeginsNumber (AddressPart One) 8 fields = begins_number (AddressPart One) None 8 fields refl refl refl s in
    let two : BeginsNumber (AddressPart One) 16 one.rest = begins_number (AddressPart One) (Some 8) 16 one.rest refl refl refl one.shaped in
    let three : BeginsBytes (AddressPart One) 26 two.rest = begins_bytes (AddressPart One) (Some 16) 26 two.rest refl refl refl two.shaped in
    let four : BeginsBytes (AddressPart One) 34 three.rest = begins_bytes (AddressPart One) (Some 26) 34 three.rest refl refl refl three.shaped in
    let five : BeginsBytes (AddressPart One) 42 four.rest = begins_bytes (AddressPart One) (Some 34) 42 four.rest refl refl refl four.shaped in
    let six : BeginsNumbers (AddressPart One) 50 five.rest = begins_numbers (AddressPart One) (Some 42) 50 five.rest refl refl tt five.shaped in
    record {
      a = one.at;
      ordinal = one.value;
      b = two.at;
      kind = two.value;
      c = three.at;
      key = three.text;
      d = four.at;
      name = four.text;
      e = five.at;
      number = five.text;
      f = six.at;
      points = six.values;
      rest = six.rest;
      is =
          one.is ∙ ap (has_number one.at 8 one.value) (two.is ∙ ap (has_number two.at 16 two.value) (three.is ∙ ap (has_bytes three.at 26 three.text)
          (four.is ∙ ap (has_bytes four.at 34 four.text) (five.is ∙ ap (has_bytes five.at 42 five.text) six.is))));
      lang = nothing_left six.rest six.shaped;
    }

second_version : (fields : Fields) → IsShaped (AddressPart Two) None fields → IsAddressMessage fields
second_version fields s =
    let one : BeginsNumber (AddressPart Two) 8 fields = begins_number (AddressPart Two) None 8 fields refl refl refl s in
    let two : BeginsNumber (AddressPart Two) 16 one.rest = begins_number (AddressPart Two) (Some 8) 16 one.rest refl refl refl one.shaped in
    let three : BeginsBytes (AddressPart Two) 26 two.rest = begins_bytes (AddressPart Two) (Some 16) 26 two.rest refl refl refl two.shaped in
    let four : BeginsBytes (AddressPart Two) 34 three.rest = begins_bytes (AddressPart Two) (Some 26) 34 three.rest refl refl refl three.shaped in
    let five : BeginsBytes (AddressPart Two) 42 four.rest = begins_bytes (AddressPart Two) (Some 34) 42 four.rest refl refl refl four.shaped in
    let six : BeginsNumbers (AddressPart Two) 50 five.rest = begins_numbers (AddressPart Two) (Some 42) 50 five.rest refl refl tt five.shaped in
    let seven : BeginsBytes (AddressPart Two) 58 six.rest = begins_bytes (AddressPart Two) (Some 50) 58 six.rest refl refl refl six.shaped in
    record {
      a = one.at;
      ordinal = one.value;
      b = two.at;
      kind = two.value;
      c = three.at;
      key = three.text;
      d = four.at;
      name = four.text;
      e = five.at;
      number = five.text;
      f = six.at;
      points = six.values;
      rest = has_bytes seven.at 58 seven.text seven.rest;
      is =
          one.is ∙ ap (has_number one.at 8 one.value) (two.is ∙ ap (has_number two.at 16 two.value) (three.is ∙ ap (has_bytes three.at 26 three.text)
          (four.is ∙ ap (has_bytes four.at 34 four.text) (five.is ∙ ap (has_bytes five.at 42 five.text) (six.is ∙ ap (has_numbers six.at 50 six.values) seven.is)))));
      lang = tt;
    }

pub address_message : (version : Version) (fields : Fields) → IsShaped (AddressPart version) None fields → IsAddressMessage fields
address_message One fields s = first_version fields s
address_message Two fields s = second_version fields s

-- the language is that which is left
pub lang_left : (rest : Fields) (found : Option (Placed (List ℕ))) → MayBeLang rest → (rest ≡ ends → found ≡ None) → ((at key : ℕ) (text : List ℕ) (more : Fields) → rest ≡ has_bytes at key text more → found ≡ Some (placed at text)) → found ≡ lang_in rest
lang_left ends found may none some = none refl
lang_left (has_bytes at key text rest) found may none some = some at key text rest refl
lang_left (has_number at key value rest) found may none some = absurd may
lang_left (has_numbers at key values rest) found may none some = absurd may
lang_left (has_message at key inner rest) found may none some = absurd may

-- an address by its parts
abbrev made : ℕ → ℕ → ℕ → ℕ → ℕ → ℕ → List ℕ → ℕ → List ℕ → ℕ → List ℕ → ℕ → List ℕ → Option (Placed (List ℕ)) → Option Address
made at a ordinal b kind c key d name e number f points lang = Some (record {
  at = at;
  ordinal = placed a ordinal;
  kind = placed b kind;
  key = placed c key;
  name = placed d name;
  number = placed e number;
  points = placed f points;
  lang = lang;
})

-- what was read of an address is it
pub address_read : (at : ℕ) (fields : Fields) (m : IsAddressMessage fields) (s : AddressSeen) → s.at ≡ at → (s.ordinal.at ≡ m.a) × (s.ordinal.value ≡ m.ordinal) → (s.kind.at ≡ m.b) × (s.kind.value ≡ m.kind)
    → (s.key.at ≡ m.c) × (s.key.text.now ≡ m.key) → (s.name.at ≡ m.d) × (s.name.text.now ≡ m.name) → (s.number.at ≡ m.e) × (s.number.text.now ≡ m.number) → s.points_at ≡ m.f
    → lang_of s.lang ≡ lang_in m.rest → s.points.count ≡ length (places m.points) → s.points.on_grid ≡ list_all is_on_grid (places m.points) → IsRead at fields s
address_read at fields m s at_is o k y n u p l count on_grid = record {
  points = m.points;
  is = ap (address_with at) m.is ∙ sym same;
  count = count;
  on_grid = on_grid;
}
  where
    same : made s.at s.ordinal.at s.ordinal.value s.kind.at s.kind.value s.key.at s.key.text.now s.name.at s.name.text.now s.number.at s.number.text.now s.points_at m.points (lang_of s.lang)
        ≡ made at m.a m.ordinal m.b m.kind m.c m.key m.d m.name m.e m.number m.f m.points (lang_in m.rest)
    same = rw (at_is, o.0, o.1, k.0, k.1, y.0, y.1, n.0, n.1, u.0, u.1, p, l) refl

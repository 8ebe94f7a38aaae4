-- The fields of a file, of its head and of its marks.
use Rattle.std.proofs.Common.{◌≡◌, ℕ, List, Some, None, refl, ap, ◌∙◌}
use Rattle.file_grammar.specs.declared.parts.Boxed.TheVariants.{Map}
use Rattle.file_grammar.specs.declared.parts.Version.{Version}
use Rattle.file_grammar.specs.declared.parts.Part.{Part}
use Rattle.file_grammar.specs.declared.parts.Part.TheVariants.{Addresses, Boxes, File, Head, Marks, Pois, Routing}
use Rattle.file_grammar.specs.Files.{HeadNumbers}
use Rattle.file_grammar.specs.Messages.{Fields, has_number, has_bytes, has_message}
use Rattle.file_grammar.proofs.FileShape.{BeginsBytes, begins_bytes, begins_version}
use Rattle.file_grammar.proofs.Shaped.{BeginsMessage, BeginsNumber, BeginsNumbers, IsShaped, begins_message, begins_number, begins_numbers}

-- ---- the file

pub record IsFileShape (fields : Fields) : Type 0 where
  pub a : ℕ
  pub version : ℕ
  pub b : ℕ
  pub head : Fields
  pub c : ℕ
  pub rules : List ℕ
  pub d : ℕ
  pub map : Fields
  pub e : ℕ
  pub addresses : Fields
  pub f : ℕ
  pub pois : Fields
  pub g : ℕ
  pub roads : Fields
  pub h : ℕ
  pub marks : Fields
  pub i : ℕ
  pub again : ℕ
  pub rest : Fields
  pub is : fields ≡ has_number a 8 version (has_message b 18 head (has_bytes c 26 rules (has_message d 54 map (has_message e 62 addresses
      (has_message f 70 pois (has_message g 78 roads (has_message h 134 marks (has_number i 256 again rest))))))))
  pub head_shaped : IsShaped Head None head
  pub marks_shaped : IsShaped Marks None marks

pub file_shape : (v : Version) (fields : Fields) → IsShaped (File v) None fields → IsFileShape fields
file_shape v fields s =
    let file : Part = File v in
    let one : BeginsNumber file 8 fields = begins_version v file None 8 fields refl refl refl s in
    let two : BeginsMessage file 18 Head one.rest = begins_message file (Some 8) 18 Head one.rest refl refl refl one.shaped in
    let three : BeginsBytes file 26 two.rest = begins_bytes file (Some 18) 26 two.rest refl refl refl two.shaped in
    let four : BeginsMessage file 54 (Boxes Map) three.rest = begins_message file (Some 26) 54 (Boxes Map) three.rest refl refl refl three.shaped in
    let five : BeginsMessage file 62 (Addresses v) four.rest = begins_message file (Some 54) 62 (Addresses v) four.rest refl refl refl four.shaped in
    let six : BeginsMessage file 70 Pois five.rest = begins_message file (Some 62) 70 Pois five.rest refl refl refl five.shaped in
    let seven : BeginsMessage file 78 Routing six.rest = begins_message file (Some 70) 78 Routing six.rest refl refl refl six.shaped in
    let eight : BeginsMessage file 134 Marks seven.rest = begins_message file (Some 78) 134 Marks seven.rest refl refl refl seven.shaped in
    let nine : BeginsNumber file 256 eight.rest = begins_number file (Some 134) 256 eight.rest refl refl refl eight.shaped in
    record {
      a = one.at;
      version = one.value;
      b = two.at;
      head = two.inner;
      c = three.at;
      rules = three.text;
      d = four.at;
      map = four.inner;
      e = five.at;
      addresses = five.inner;
      f = six.at;
      pois = six.inner;
      g = seven.at;
      roads = seven.inner;
      h = eight.at;
      marks = eight.inner;
      i = nine.at;
      again = nine.value;
      rest = nine.rest;
      is =
          one.is ∙ ap (has_number one.at 8 one.value)
          (two.is ∙ ap (has_message two.at 18 two.inner)
          (three.is ∙ ap (has_bytes three.at 26 three.text)
          (four.is ∙ ap (has_message four.at 54 four.inner)
          (five.is ∙ ap (has_message five.at 62 five.inner)
          (six.is ∙ ap (has_message six.at 70 six.inner)
          (seven.is ∙ ap (has_message seven.at 78 seven.inner)
          (eight.is ∙ ap (has_message eight.at 134 eight.inner) nine.is)))))));
      head_shaped = two.inside;
      marks_shaped = eight.inside;
    }

-- ---- the head

pub record IsHeadShape (fields : Fields) : Type 0 where
  pub a : ℕ
  pub level : ℕ
  pub b : ℕ
  pub first : ℕ
  pub c : ℕ
  pub last : ℕ
  pub rest : Fields
  pub is : fields ≡ has_number a 8 level (has_number b 16 first (has_number c 24 last rest))

pub head_shape : (fields : Fields) → IsShaped Head None fields → IsHeadShape fields
head_shape fields s =
    let one : BeginsNumber Head 8 fields = begins_number Head None 8 fields refl refl refl s in
    let two : BeginsNumber Head 16 one.rest = begins_number Head (Some 8) 16 one.rest refl refl refl one.shaped in
    let three : BeginsNumber Head 24 two.rest = begins_number Head (Some 16) 24 two.rest refl refl refl two.shaped in
    record {
      a = one.at;
      level = one.value;
      b = two.at;
      first = two.value;
      c = three.at;
      last = three.value;
      rest = three.rest;
      is = one.is ∙ ap (has_number one.at 8 one.value) (two.is ∙ ap (has_number two.at 16 two.value) three.is);
    }

-- the numbers of a head by its parts
abbrev pub head : ℕ → ℕ → ℕ → HeadNumbers
head level first last = record { level = level; first = first; last = last }

-- ---- the marks

pub marks_shape : (fields : Fields) → IsShaped Marks None fields → BeginsNumbers Marks 10 fields
marks_shape fields s = begins_numbers Marks None 10 fields refl refl tt s

pub same_head : (a b c level first last : ℕ) → a ≡ level → b ≡ first → c ≡ last → head a b c ≡ head level first last
same_head a b c level first last e f g = ap (λ (n : ℕ). head n b c) e ∙ ap (λ (n : ℕ). head level n c) f ∙ ap (λ (n : ℕ). head level first n) g

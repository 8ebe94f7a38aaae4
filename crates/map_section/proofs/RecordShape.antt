-- The fields of a map record: four numbers, and the steps between its points.
use Rattle.std.proofs.Common.{◌≡◌, ℕ, List, Some, None, refl, ap, ◌∙◌}
use Rattle.file_grammar.specs.declared.parts.Boxed.TheVariants.{Map}
use Rattle.file_grammar.specs.declared.parts.Part.TheVariants.{Record}
use Rattle.file_grammar.specs.Messages.{Fields, has_number, has_numbers}
use Rattle.file_grammar.proofs.Shaped.{IsShaped, BeginsNumber, BeginsNumbers, begins_number, begins_numbers}

pub record IsMapRecord (fields : Fields) : Type 0 where
  pub a : ℕ
  pub step : ℕ
  pub b : ℕ
  pub rule : ℕ
  pub c : ℕ
  pub shape : ℕ
  pub d : ℕ
  pub name : ℕ
  pub e : ℕ
  pub points : List ℕ
  pub rest : Fields
  pub is : fields ≡ has_number a 8 step (has_number b 16 rule (has_number c 24 shape (has_number d 32 name (has_numbers e 42 points rest))))

pub map_record : (fields : Fields) → IsShaped (Record Map) None fields → IsMapRecord fields
map_record fields s =
    let one : BeginsNumber (Record Map) 8 fields = begins_number (Record Map) None 8 fields refl refl refl s in
    let two : BeginsNumber (Record Map) 16 one.rest = begins_number (Record Map) (Some 8) 16 one.rest refl refl refl one.shaped in
    let three : BeginsNumber (Record Map) 24 two.rest = begins_number (Record Map) (Some 16) 24 two.rest refl refl refl two.shaped in
    let four : BeginsNumber (Record Map) 32 three.rest = begins_number (Record Map) (Some 24) 32 three.rest refl refl refl three.shaped in
    let five : BeginsNumbers (Record Map) 42 four.rest = begins_numbers (Record Map) (Some 32) 42 four.rest refl refl tt four.shaped in
    record {
      a = one.at;
      step = one.value;
      b = two.at;
      rule = two.value;
      c = three.at;
      shape = three.value;
      d = four.at;
      name = four.value;
      e = five.at;
      points = five.values;
      rest = five.rest;
      is =
          one.is ∙ ap (has_number one.at 8 one.value)
          (two.is ∙ ap (has_number two.at 16 two.value) (three.is ∙ ap (has_number three.at 24 three.value) (four.is ∙ ap (has_number four.at 32 four.value) five.is)));
    }

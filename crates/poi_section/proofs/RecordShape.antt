-- The fields of a point of interest: two numbers, and the steps to its point.
use Rattle.std.proofs.Common.{◌≡◌, ℕ, List, Some, None, refl, ap, ◌∙◌}
use Rattle.file_grammar.specs.declared.parts.Boxed.TheVariants.{Poi}
use Rattle.file_grammar.specs.declared.parts.Part.TheVariants.{Record}
use Rattle.file_grammar.specs.Messages.{Fields, has_number, has_numbers}
use Rattle.file_grammar.proofs.Shaped.{IsShaped, BeginsNumber, BeginsNumbers, begins_number, begins_numbers}

pub record IsPoiRecord (fields : Fields) : Type 0 where
  pub a : ℕ
  pub step : ℕ
  pub b : ℕ
  pub name : ℕ
  pub c : ℕ
  pub points : List ℕ
  pub rest : Fields
  pub is : fields ≡ has_number a 8 step (has_number b 16 name (has_numbers c 26 points rest))

pub poi_record : (fields : Fields) → IsShaped (Record Poi) None fields → IsPoiRecord fields
poi_record fields s =
    let one : BeginsNumber (Record Poi) 8 fields = begins_number (Record Poi) None 8 fields refl refl refl s in
    let two : BeginsNumber (Record Poi) 16 one.rest = begins_number (Record Poi) (Some 8) 16 one.rest refl refl refl one.shaped in
    let three : BeginsNumbers (Record Poi) 26 two.rest = begins_numbers (Record Poi) (Some 16) 26 two.rest refl refl tt two.shaped in
    record {
      a = one.at;
      step = one.value;
      b = two.at;
      name = two.value;
      c = three.at;
      points = three.values;
      rest = three.rest;
      is = one.is ∙ ap (has_number one.at 8 one.value) (two.is ∙ ap (has_number two.at 16 two.value) three.is);
    }

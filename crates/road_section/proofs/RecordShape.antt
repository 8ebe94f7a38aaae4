-- The fields of a road: four numbers, and steps between nodes. Those of a restriction: five numbers, and the steps to its point.
use Rattle.std.proofs.Common.{◌≡◌, ℕ, List, Some, None, refl, ap, ◌∙◌}
use Rattle.file_grammar.specs.declared.parts.Boxed.TheVariants.{Restriction, Road}
use Rattle.file_grammar.specs.declared.parts.Part.TheVariants.{Record}
use Rattle.file_grammar.specs.Messages.{Fields, has_number, has_numbers}
use Rattle.file_grammar.proofs.Shaped.{IsShaped, BeginsNumber, BeginsNumbers, begins_number, begins_numbers}

pub record IsRoadRecord (fields : Fields) : Type 0 where
  pub a : ℕ
  pub step : ℕ
  pub b : ℕ
  pub rule : ℕ
  pub c : ℕ
  pub value : ℕ
  pub d : ℕ
  pub direction : ℕ
  pub e : ℕ
  pub nodes : List ℕ
  pub rest : Fields
  pub is : fields ≡ has_number a 8 step (has_number b 16 rule (has_number c 24 value (has_number d 32 direction (has_numbers e 42 nodes rest))))

pub road_record : (fields : Fields) → IsShaped (Record Road) None fields → IsRoadRecord fields
road_record fields s =
    let one : BeginsNumber (Record Road) 8 fields = begins_number (Record Road) None 8 fields refl refl refl s in
    let two : BeginsNumber (Record Road) 16 one.rest = begins_number (Record Road) (Some 8) 16 one.rest refl refl refl one.shaped in
    let three : BeginsNumber (Record Road) 24 two.rest = begins_number (Record Road) (Some 16) 24 two.rest refl refl refl two.shaped in
    let four : BeginsNumber (Record Road) 32 three.rest = begins_number (Record Road) (Some 24) 32 three.rest refl refl refl three.shaped in
    let five : BeginsNumbers (Record Road) 42 four.rest = begins_numbers (Record Road) (Some 32) 42 four.rest refl refl tt four.shaped in
    record {
      a = one.at;
      step = one.value;
      b = two.at;
      rule = two.value;
      c = three.at;
      value = three.value;
      d = four.at;
      direction = four.value;
      e = five.at;
      nodes = five.values;
      rest = five.rest;
      is =
          one.is ∙ ap (has_number one.at 8 one.value)
          (two.is ∙ ap (has_number two.at 16 two.value) (three.is ∙ ap (has_number three.at 24 three.value) (four.is ∙ ap (has_number four.at 32 four.value) five.is)));
    }

pub record IsBanRecord (fields : Fields) : Type 0 where
  pub a : ℕ
  pub step : ℕ
  pub b : ℕ
  pub value : ℕ
  pub c : ℕ
  pub from : ℕ
  pub d : ℕ
  pub via : ℕ
  pub e : ℕ
  pub to : ℕ
  pub f : ℕ
  pub points : List ℕ
  pub rest : Fields
  pub is : fields ≡ has_number a 8 step (has_number b 16 value (has_number c 24 from (has_number d 32 via (has_number e 40 to (has_numbers f 50 points rest)))))

pub ban_record : (fields : Fields) → IsShaped (Record Restriction) None fields → IsBanRecord fields
ban_record fields s =
    let one : BeginsNumber (Record Restriction) 8 fields = begins_number (Record Restriction) None 8 fields refl refl refl s in
    let two : BeginsNumber (Record Restriction) 16 one.rest = begins_number (Record Restriction) (Some 8) 16 one.rest refl refl refl one.shaped in
    let three : BeginsNumber (Record Restriction) 24 two.rest = begins_number (Record Restriction) (Some 16) 24 two.rest refl refl refl two.shaped in
    let four : BeginsNumber (Record Restriction) 32 three.rest = begins_number (Record Restriction) (Some 24) 32 three.rest refl refl refl three.shaped in
    let five : BeginsNumber (Record Restriction) 40 four.rest = begins_number (Record Restriction) (Some 32) 40 four.rest refl refl refl four.shaped in
    let six : BeginsNumbers (Record Restriction) 50 five.rest = begins_numbers (Record Restriction) (Some 40) 50 five.rest refl refl tt five.shaped in
    record {
      a = one.at;
      step = one.value;
      b = two.at;
      value = two.value;
      c = three.at;
      from = three.value;
      d = four.at;
      via = four.value;
      e = five.at;
      to = five.value;
      f = six.at;
      points = six.values;
      rest = six.rest;
      is =
          one.is ∙ ap (has_number one.at 8 one.value)
          (two.is ∙ ap (has_number two.at 16 two.value)
          (three.is ∙ ap (has_number three.at 24 three.value) (four.is ∙ ap (has_number four.at 32 four.value) (five.is ∙ ap (has_number five.at 40 five.value) six.is))));
    }

use Rattle.std.proofs.Common.{[], refl, subst, arith}
use Rattle.tag_rules.proofs.Texts.{AreTexts, fields_are_texts}
use Rattle.tag_rules.proofs.RowReadings.{five_found, not_five, one_left, two_left, three_left, four_left, five_left}
use Rattle.tag_rules.proofs.rows.five_fields.Goals as goal

pub returns-in_default : goal.returns-in_default
returns-in_default c = not_five c.args.row.now [] c.in_default.ensures.fields refl

pub returns-in_default-next_field : goal.returns-in_default-next_field
returns-in_default-next_field c = not_five c.args.row.now _ (one_left _ _ _ _ c.in-Some.ensures.fields c.in_default-next_field.ensures.fields) refl

pub returns-in_default-next_field-2 : goal.returns-in_default-next_field-2
returns-in_default-next_field-2 c = not_five c.args.row.now _ (two_left _ _ _ _ _ _ c.in-Some.ensures.fields c.in-Some-next_field.ensures.fields c.in_default-next_field-2.ensures.fields) refl

pub returns-in_default-next_field-3 : goal.returns-in_default-next_field-3
returns-in_default-next_field-3 c = not_five c.args.row.now _ (three_left _ _ _ _ _ _ _ _ c.in-Some.ensures.fields c.in-Some-next_field.ensures.fields c.in-Some-next_field-2.ensures.fields c.in_default-next_field-3.ensures.fields) refl

pub returns-in_default-next_field-4 : goal.returns-in_default-next_field-4
returns-in_default-next_field-4 c = not_five c.args.row.now _ (four_left _ _ _ _ _ _ _ _ _ _ c.in-Some.ensures.fields c.in-Some-next_field.ensures.fields c.in-Some-next_field-2.ensures.fields c.in-Some-next_field-3.ensures.fields c.in_default-next_field-4.ensures.fields) refl

pub returns-in_default-next_field-5 : goal.returns-in_default-next_field-5
returns-in_default-next_field-5 c = not_five c.args.row.now _ (five_left _ _ _ _ _ _ _ _ _ _ _ _ c.in-Some.ensures.fields c.in-Some-next_field.ensures.fields c.in-Some-next_field-2.ensures.fields c.in-Some-next_field-3.ensures.fields c.in-Some-next_field-4.ensures.fields c.in_default-next_field-5.ensures.fields) refl

pub returns : goal.returns
returns c =
    let a = c.in-Some.ensures in
    let b = c.in-Some-next_field.ensures in
    let d = c.in-Some-next_field-2.ensures in
    let e = c.in-Some-next_field-3.ensures in
    let f = c.in-Some-next_field-4.ensures in
    let all = five_left _ _ _ _ _ _ _ _ _ _ _ _ a.fields b.fields d.fields e.fields f.fields c.in-None.ensures.fields in
    let texts = subst AreTexts all (fields_are_texts 0 c.args.row.now c.requires.text) in record {
      are = five_found c.args.row.now _ _ _ _ _ all;
      pieces = record {
        key = record { some = b.some; text = texts.1.0 };
        value = record { some = d.some; text = texts.1.1.0 };
        within = (omega (arith, a.within), omega (arith, a.rest, b.within), omega (arith, a.rest, b.rest, d.within), omega (arith, a.rest, b.rest, d.rest, e.within), omega (arith, a.rest, b.rest, d.rest, e.rest, f.within));
      };
    }

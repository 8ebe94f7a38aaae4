use Rattle.std.proofs.Common.{ap, ◌∙◌, subst, arith}
use Rattle.text_pieces.specs.Lines.{fields_from}
use Rattle.opl_reader.specs.declared.OplError.TheVariants.{Broken}
use Rattle.opl_reader.specs.Readings.{FailsWith}
use Rattle.opl_reader.specs.FoundFields.{field_failure}
use Rattle.opl_reader.proofs.FieldsFound.{begins, breaks, goes_on, first_text, all_good, all_found, fields_cause}
use Rattle.opl_reader.proofs.rows.fields.Goals as goal

pub loop-field-init : goal.loop-field-init
loop-field-init c = record {
  goes = begins c.args.kind (fields_from c.args.at c.args.bytes.now) c.new-found.result c.new-found.ensures c.requires.texts;
  within = omega arith;
}

pub add_field-requires : goal.add_field-requires
add_field-requires c =
    first_text c.args.kind c.loop-field.found (c.in-Some.field.at, c.in-Some.field.bytes.now) (fields_from c.in-Some.field.next c.in-Some.field.rest.now) (fields_from c.args.at c.args.bytes.now)
    (fields_from c.loop-field.at c.loop-field.rest.now) c.loop-field.invariant.goes c.in-Some.ensures.fields

pub returns-in-Err-Bad-clause-broken : goal.returns-in-Err-Bad-clause-broken
returns-in-Err-Bad-clause-broken c =
    let near = c.in-Some.ensures.within in
    let within = c.loop-field.invariant.within in
    fields_cause c.args.kind (fields_from c.args.at c.args.bytes.now) _ c.in-Some.field.at c.in-Err-Bad.break_kind c.broken.result (c.broken.ensures ∙ ap (λ k. Broken (record { at = c.in-Some.field.at; kind = k })) c.in-Err-Bad.break_kind-is)
    (breaks c.args.kind c.loop-field.found (c.in-Some.field.at, c.in-Some.field.bytes.now) (fields_from c.in-Some.field.next c.in-Some.field.rest.now) (fields_from c.args.at c.args.bytes.now)
    (fields_from c.loop-field.at c.loop-field.rest.now) c.in-Err-Bad.break_kind c.loop-field.invariant.goes c.in-Some.ensures.fields
    (subst (FailsWith (field_failure c.args.kind c.in-Some.field.bytes.now c.loop-field.found)) c.in-Err-Bad.field-0-is c.in-Err-Bad.ensures.bad)) (omega arith)

pub loop-field-preserved : goal.loop-field-preserved
loop-field-preserved c =
    let near = c.in-Some.ensures.rest in
    let within = c.loop-field.invariant.within in record {
      goes =
          goes_on c.args.kind c.loop-field.found c.add_field.new.found (c.in-Some.field.at, c.in-Some.field.bytes.now) (fields_from c.in-Some.field.next c.in-Some.field.rest.now)
          (fields_from c.args.at c.args.bytes.now) (fields_from c.loop-field.at c.loop-field.rest.now) c.loop-field.invariant.goes c.in-Some.ensures.fields c.in-Ok.ensures.ok c.in-Ok.ensures.found;
      within = omega arith;
    }

pub returns-clause-fields : goal.returns-clause-fields
returns-clause-fields c =
    all_good c.args.kind c.loop-field.found (fields_from c.args.at c.args.bytes.now) (fields_from c.loop-field.at c.loop-field.rest.now) c.loop-field.invariant.goes c.in_default.ensures.fields

pub returns-clause-found : goal.returns-clause-found
returns-clause-found c =
    all_found c.args.kind c.loop-field.found (fields_from c.args.at c.args.bytes.now) (fields_from c.loop-field.at c.loop-field.rest.now) c.loop-field.invariant.goes c.in_default.ensures.fields

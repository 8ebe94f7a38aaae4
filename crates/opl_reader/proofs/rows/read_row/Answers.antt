use Rattle.std.proofs.Common.{◌≡◌, ◌+◌, ◌∷◌, [], true, None, Some, length, rules, ap, ◌∙◌, sym, subst, arith}
use Rattle.std.specs.Str.{is_utf8}
use Rattle.text_pieces.specs.Lines.{fields_from}
use Rattle.live_model.specs.LineTests.{fields_tests, failure_in}
use Rattle.live_model.specs.declared.opl.OplKind.TheVariants.{NotUtf8, BadId}
use Rattle.opl_reader.specs.Readings.{AreTexts, IsRowCause, IsFieldsCause}
use Rattle.opl_reader.proofs.RowReadings.{not_text, no_head, late_head, bad_head, bad_fields, good_row, row_cause}
use Rattle.opl_reader.proofs.Texts.{fields_are_texts}
use Rattle.opl_reader.proofs.rows.read_row.Goals as goal

pub returns-then-not-is_text-clause-broken : goal.returns-then-not-is_text-clause-broken
returns-then-not-is_text-clause-broken c = row_cause c.args.row.now c.broken.result NotUtf8 c.broken.ensures (not_text c.args.row.now (sym c.is_text.ensures ∙ c.if-not-is_text.true))

pub returns-in_default-clause-broken : goal.returns-in_default-clause-broken
returns-in_default-clause-broken c =
    let utf8 : is_utf8 c.args.row.now ≡ true = sym c.is_text.ensures ∙ c.if-not-is_text.false in
    row_cause c.args.row.now c.broken-in_default.result BadId c.broken-in_default.ensures (no_head c.args.row.now utf8 c.in_default.ensures.fields)

pub returns-then-head-ne0-clause-broken : goal.returns-then-head-ne0-clause-broken
returns-then-head-ne0-clause-broken c =
    let utf8 : is_utf8 c.args.row.now ≡ true = sym c.is_text.ensures ∙ c.if-not-is_text.false in
    row_cause c.args.row.now c.broken-then-head-ne0.result BadId c.broken-then-head-ne0.ensures (late_head c.args.row.now _ _ utf8 c.in-Some.ensures.fields c.if-head-ne0.true)

pub returns-in_default-object-clause-broken : goal.returns-in_default-object-clause-broken
returns-in_default-object-clause-broken c =
    let utf8 : is_utf8 c.args.row.now ≡ true = sym c.is_text.ensures ∙ c.if-not-is_text.false in
    row_cause c.args.row.now c.broken-in_default-object.result BadId c.broken-in_default-object.ensures
    (bad_head c.args.row.now _ _ utf8 c.in-Some.ensures.fields (sym c.object.ensures ∙ c.in_default-object.is))

pub fields-requires-clause-texts : goal.fields-requires-clause-texts
fields-requires-clause-texts c =
    let utf8 : is_utf8 c.args.row.now ≡ true = sym c.is_text.ensures ∙ c.if-not-is_text.false in
    let all : AreTexts ((c.in-Some.head.at, c.in-Some.head.bytes.now) ∷ fields_from c.in-Some.head.next c.in-Some.head.rest.now) = subst AreTexts c.in-Some.ensures.fields (fields_are_texts 0 c.args.row.now utf8) in
    all.1

pub returns-in_err-found-clause-broken : goal.returns-in_err-found-clause-broken
returns-in_err-found-clause-broken c =
    let utf8 : is_utf8 c.args.row.now ≡ true = sym c.is_text.ensures ∙ c.if-not-is_text.false in
    let near = c.in-Some.ensures.rest in
    let broken : IsFieldsCause c.in-Some-object.id.kind (fields_from c.in-Some.head.next c.in-Some.head.rest.now) (c.in-Some.head.next + length c.in-Some.head.rest.now) c.in_err-found.field-0.0 =
    rw c.kind.ensures at c.in_err-found.ensures.broken
    in
    let cause : IsRowCause c.args.row.now c.in_err-found.field-0.0 =
    bad_fields c.args.row.now _ _ c.in-Some-object.id _ c.in_err-found.field-0.0 utf8 c.in-Some.ensures.fields c.if-head-ne0.false (sym c.in-Some-object.ensures) (omega arith) broken
    in
    search rules

pub returns-clause-line : goal.returns-clause-line
returns-clause-line c =
    let utf8 : is_utf8 c.args.row.now ≡ true = sym c.is_text.ensures ∙ c.if-not-is_text.false in
    let none : failure_in (fields_tests c.in-Some-object.id.kind [] (fields_from c.in-Some.head.next c.in-Some.head.rest.now)) ≡ None = rw c.kind.ensures at c.in_ok-found.ensures.fields in
    good_row c.args.row.now _ _ c.in-Some-object.id c.in_ok-found.found utf8 c.in-Some.ensures.fields c.if-head-ne0.false (sym c.in-Some-object.ensures) none c.in_ok-found.ensures.found
    ∙ ap Some (sym c.line.ensures)

use Rattle.std.proofs.Common.{◌∙◌, ◌≡◌, ◌-◌, length, take, drop, sym, subst, arith}
use Rattle.std.proofs.lemmas.List.{length-drop, take_all}
use Rattle.text_table.specs.Tables.{IsFront}
use Rattle.text_table.proofs.Walk.{answered, ended, none_left, err_other, none_other, front_of, payload_utf8, found_is}
use Rattle.text_table.proofs.reading.first_text.Goals as goal

pub returns-in_default : goal.returns-in_default
returns-in_default c texts a =
    let r = c.next_field.result in
    none_left c.args.bytes.now texts r (answered c.args.bytes.now c.new-cursor.result r (c.new-cursor.ensures ∙ c.whole.ensures.range) c.next_field.ensures.only) (err_other r c.in_default.field-0 c.in_default.is) a

pub returns-in_err-field : goal.returns-in_err-field
returns-in_err-field c texts a =
    let r = c.next_field.result in
    rw c.from_residual.ensures
    (none_left c.args.bytes.now texts r (answered c.args.bytes.now c.new-cursor.result r (c.new-cursor.ensures ∙ c.whole.ensures.range) c.next_field.ensures.only) (none_other r (found_is r _ _ c.in-Ok.is c.in_err-field.was)) a)

pub returns-in_default-from_utf8 : goal.returns-in_default-from_utf8
returns-in_default-from_utf8 c texts a =
    let r = c.next_field.result in
    let only = answered c.args.bytes.now c.new-cursor.result r (c.new-cursor.ensures ∙ c.whole.ensures.range) c.next_field.ensures.only in
    let end = ended c.args.bytes.now c.new-cursor.result r (c.new-cursor.ensures ∙ c.whole.ensures.range) c.next_field.ensures.end in
    absurd (c.in_default-from_utf8.ensures.cases.0 (payload_utf8 c.args.bytes.now r c.in_ok-field.field only end (found_is r _ _ c.in-Ok.is c.in_ok-field.was) c.requires))

pub returns : goal.returns
returns c texts a =
    let r = c.next_field.result in
    let bytes = c.args.bytes.now in
    let only = answered bytes c.new-cursor.result r (c.new-cursor.ensures ∙ c.whole.ensures.range) c.next_field.ensures.only in
    let end = ended bytes c.new-cursor.result r (c.new-cursor.ensures ∙ c.whole.ensures.range) c.next_field.ensures.end in
    let to = c.in_ok-field.field.to in
    let all : take (length bytes - to) (drop to bytes) ≡ drop to bytes = take_all (length bytes - to) (drop to bytes) (omega (arith, length-drop to bytes)) in
    subst (IsFront texts c.in-Ok-from_utf8.text.now) (sym all)
    (front_of bytes texts r c.in_ok-field.field c.in-Ok-from_utf8.text.now only end (found_is r _ _ c.in-Ok.is c.in_ok-field.was) c.in-Ok-from_utf8.ensures.cases.0 a)

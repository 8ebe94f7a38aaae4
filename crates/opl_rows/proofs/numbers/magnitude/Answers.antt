use Rattle.std.proofs.Common.{◌≡◌, ◌-◌, ◌*◌, ◌^◌, length, ap, ◌∙◌, arith}
use Rattle.text_pieces.specs.Numbers.{decimal_after}
use Rattle.opl_rows.specs.Fronts.{digits_of}
use Rattle.opl_rows.proofs.Degrees.{text_parted}
use Rattle.opl_rows.proofs.numbers.magnitude.Goals as goal

pub returns-in-Some-units-clause-value : goal.returns-in-Some-units-clause-value
returns-in-Some-units-clause-value c =
    let first = c.in-Some.ensures.shorter in
    let second = c.in-Some-digits.ensures.shorter in
    let places : 7 - (length c.in-Some-behind_point.behind.now - length c.in-Some-digits.fraction.rest.now) ≡ 7 - length (digits_of c.in-Some-behind_point.behind.now) = omega arith in
    text_parted c.args.most _ c.args.bytes.now c.in-Some.whole.rest.now c.in-Some-behind_point.behind.now c.in-Some.ensures.rest c.in-Some-behind_point.ensures.point (omega arith) (omega arith) (omega arith) (omega arith)
    (c.in-Some-units.ensures.value ∙ ap (λ p. c.in-Some-digits.fraction.value * 10 ^ p) places
    ∙ ap (λ x. x * 10 ^ (7 - length (digits_of c.in-Some-behind_point.behind.now))) (c.in-Some-digits.ensures.value ∙ ap (λ x. decimal_after x (digits_of c.in-Some-behind_point.behind.now)) c.in-Some.ensures.value))
    c.in-Some-units.ensures.within

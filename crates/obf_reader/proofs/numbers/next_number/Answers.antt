use Rattle.std.proofs.Common.{◌∙◌, ℕ, List, ap, sym}
use Rattle.obf_wire.specs.Varint.{varint_at}
use Rattle.boxed_exact.proofs.NumberWalk.{number_next}
use Rattle.obf_reader.proofs.numbers.next_number.Goals as goal

pub returns-in-Ok-clause-number : goal.returns-in-Ok-clause-number
returns-in-Ok-clause-number c numbers e =
    let is = c.read_varint.ensures.exact ∙ ap (λ (bytes : List ℕ). varint_at bytes c.args.at c.to-2.result) c.all.ensures ∙ ap (λ (to : ℕ). varint_at c.args.window.bytes.now c.args.at to) c.to-2.ensures in
    number_next (record { bytes = c.args.window.bytes.now; place = c.args.at; end = c.args.window.to }) numbers c.read_varint.result c.in-Ok.number.0 c.in-Ok.number.1
    (record { ordered = c.requires; within = c.args.window.within }) (λ here. c.if-at-to.false (here ∙ sym c.to.ensures)) is c.in-Ok.is e

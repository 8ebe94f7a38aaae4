use Rattle.std.proofs.Common.{◌++◌, ◌-◌, ℕ, List, ap, length, ◌∙◌}
use Rattle.std.proofs.lemmas.Result.{on_ok_weaker}
use Rattle.obf_wire.specs.Fields.{number_field, begun_short}
use Rattle.boxed_write.proofs.Filled.{two_put}
use Rattle.boxed_write.proofs.blocks.put_record.Goals as goal

pub returns : goal.returns
returns g c =
    let m = g.C.WriteClass in
    let begun = c.in_ok-start.ensures in
    let out : List ℕ = c.args.out.now in
    let step : ℕ = m.packing.ordinal c.args.item.now - c.args.before in
    let fields : List ℕ = m.packing.fields c.args.texts.now c.args.item.now in
    on_ok_weaker c.end_short.result
    (λ ended. ended 2 out (number_field 1 step ++ fields)
    (two_put (out ++ begun_short 2) (number_field 1 step) fields c.begin_short.new.self c.put_number.new.self c.put_fields.new.out begun.ok
    (c.in_ok-put_number.ensures.ok ∙ ap (λ (n : ℕ). c.begin_short.new.self ++ number_field 1 n) (c.saturating_sub.ensures ∙ ap (λ (n : ℕ). n - c.args.before) c.ordinal.ensures)) c.in_ok-put_fields.ensures)
    (begun.start ∙ ap length begun.ok))
    c.end_short.ensures.ok

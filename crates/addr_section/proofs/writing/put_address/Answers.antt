use Rattle.std.proofs.Common.{◌++◌, ℕ, List, ap, length, ◌∙◌}
use Rattle.std.proofs.lemmas.Result.{on_ok_weaker}
use Rattle.addr_section.specs.Packed.{address_bytes}
use Rattle.addr_section.proofs.writing.put_address.Goals as goal

pub returns : goal.returns
returns c =
    let begun = c.in_ok-start.ensures in
    on_ok_weaker c.end_short.result
    (λ ended. ended 1 c.args.out.now (address_bytes c.args.keyed.now.address.now)
    (c.in_ok-put_fields.ensures ∙ ap (λ (bytes : List ℕ). bytes ++ address_bytes c.args.keyed.now.address.now) begun.ok)
    (begun.start ∙ ap length begun.ok))
    c.end_short.ensures.ok

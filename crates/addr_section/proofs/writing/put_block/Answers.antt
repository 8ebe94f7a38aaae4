use Rattle.std.proofs.Common.{◌++◌, ℕ, List, ap, length, ◌∙◌}
use Rattle.std.specs.Prelude.{flat_map}
use Rattle.obf_wire.specs.Fields.{short_field}
use Rattle.addr_section.specs.Packed.{address_bytes}
use Rattle.addr_section.specs.Keyed.{addresses_of}
use Rattle.addr_section.proofs.writing.put_block.Goals as goal

pub returns : goal.returns
returns c =
    let begun = c.in_ok-start.ensures in
    let payload : List ℕ = flat_map (λ a. short_field 1 (address_bytes a)) (addresses_of c.args.keyed.now) in
    c.end_section.ensures 2 c.args.out.now payload (c.in_ok-put_addresses.ensures ∙ ap (λ (bytes : List ℕ). bytes ++ payload) begun.ok) (begun.start ∙ ap length begun.ok)

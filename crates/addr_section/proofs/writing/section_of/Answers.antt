use Rattle.std.proofs.Common.{◌≡◌, ◌++◌, ℕ, List, ap, ◌∙◌}
use Rattle.std.specs.Prelude.{filter, false, true}
use Rattle.obf_wire.specs.Fields.{section}
use Rattle.live_model.specs.declared.addresses.AddrRec.{AddrRec}
use Rattle.boxed_write.specs.Packed.{cuts}
use Rattle.boxed_write.specs.Classes.{held}
use Rattle.addr_section.specs.Packed.{is_listed, keyed_blocks, packed_addresses, packed_list}
use Rattle.addr_section.specs.Keyed.{addresses_of}
use Rattle.addr_section.proofs.writing.section_of.Goals as goal

pub returns : goal.returns
unfolding packed_addresses
returns c =
    let records : List AddrRec = held c.args.records.now in
    let list : List AddrRec → List ℕ = λ rs. keyed_blocks (cuts 64 rs) in
    let names : List ℕ = packed_list (filter (is_listed false) records) in
    let first : c.put_list.new.out ≡ section 1 names =
    c.in_ok-put_list.ensures ∙ ap (λ (rs : List AddrRec). c.new-out.result ++ section 1 (list rs)) (ap addresses_of c.deref.ensures.value ∙ c.in_ok-ordered.ensures.addresses)
    ∙ ap (λ (bytes : List ℕ). bytes ++ section 1 names) c.new-out.ensures in
    c.finish.ensures ∙ c.in_ok-put_list-2.ensures
    ∙ ap (λ (rs : List AddrRec). c.put_list.new.out ++ section 2 (list rs)) (ap addresses_of c.deref-2.ensures.value ∙ c.in_ok-ordered-2.ensures.addresses)
    ∙ ap (λ (bytes : List ℕ). bytes ++ section 2 (packed_list (filter (is_listed true) records))) first

use Rattle.std.proofs.Common.{ap, sym, subst, ◌++◌, ◌∙◌}
use Rattle.std.specs.List.{AllByRecursion}
use Rattle.obf_wire.specs.Fields.{section}
use Rattle.boxed_write.specs.Packed.{packing_cmp}
use Rattle.boxed_write.specs.Classes.{IsPlaced, held, items_of}
use Rattle.boxed_write.proofs.Sorting.{all_sorted}
use Rattle.boxed_write.proofs.Orders.{packing_total}
use Rattle.boxed_write.proofs.Sections.{whole_section}
use Rattle.boxed_write.proofs.writing.section_of.Goals as goal

pub put_blocks-requires-clause-fits : goal.put_blocks-requires-clause-fits
put_blocks-requires-clause-fits g c =
    let m = g.C.WriteClass in
    subst (AllByRecursion m.fits) (sym (ap items_of c.deref.ensures.value ∙ c.in_ok-order.ensures.order)) (all_sorted (packing_cmp m.packing) (packing_total g.met.C.WriteClass.laws) m.fits (held c.args.records.now) c.requires)

pub put_blocks-requires-clause-placed : goal.put_blocks-requires-clause-placed
put_blocks-requires-clause-placed g c = subst (AllByRecursion (IsPlaced g.C.WriteClass.packing)) (sym c.deref.ensures.value) c.in_ok-order.ensures.placed

pub returns : goal.returns
returns g c =
    let m = g.C.WriteClass in
    whole_section m.packing (held c.args.records.now) c.deref.result.now c.new-blocks.result c.finish-2.result.items c.finish.result.items c.as_slice.result.now c.in_ok-leaves.leaves.items
    (ap items_of c.deref.ensures.value ∙ c.in_ok-order.ensures.order) c.new-blocks.ensures c.in_ok-leaves.ensures.leaves (c.finish-2.ensures ∙ c.in_ok-leaves.ensures.bytes)
    (c.as_slice.ensures ∙ c.in_ok-tree.ensures)
    (c.finish.ensures ∙ c.in_ok-put_section.ensures.ok ∙ ap (λ bytes. bytes ++ section 1 c.as_slice.result.now) c.new-head.ensures)

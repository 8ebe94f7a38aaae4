use Rattle.std.proofs.Common.{◌≡◌, ◌++◌, sym, ap, subst, ◌∙◌}
use Rattle.std.specs.List.{AllByRecursion}
use Rattle.boxed_write.specs.Packed.{block, sorted_by}
use Rattle.boxed_write.specs.Classes.{items_of}
use Rattle.boxed_write.proofs.Sorting.{all_sorted}
use Rattle.boxed_write.proofs.Sections.{leaf_of_placed}
use Rattle.boxed_write.proofs.writing.put_sorted.Goals as goal

pub put_block-requires : goal.put_block-requires
put_block-requires g c =
    let m = g.C.WriteClass in
    let is : items_of c.deref-2.result.now ≡ sorted_by m.packing.cmp (items_of c.args.records.now) = ap items_of c.deref-2.ensures.value ∙ c.in_ok-records.ensures.order in
    subst (AllByRecursion m.fits) (sym is) (all_sorted m.packing.cmp g.met.C.WriteClass.laws.total m.fits (items_of c.args.records.now) c.requires.fits)

pub returns-clause-leaf : goal.returns-clause-leaf
returns-clause-leaf g c =
    let m = g.C.WriteClass in
    c.in_ok-node.ensures ∙ leaf_of_placed m.packing c.args.out.now c.len.result c.around_placed.result c.in_ok-records.records.items c.deref.result.now (sorted_by m.packing.cmp (items_of c.args.records.now))
    c.len.ensures c.around_placed.ensures c.deref.ensures.value c.in_ok-records.ensures.placed c.in_ok-records.ensures.order

pub returns-clause-bytes : goal.returns-clause-bytes
returns-clause-bytes g c =
    let m = g.C.WriteClass in
    c.in_ok-put_block.ensures ∙ ap (λ items. c.args.out.now ++ block m.packing items) (ap items_of c.deref-2.ensures.value ∙ c.in_ok-records.ensures.order)

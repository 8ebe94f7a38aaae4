use Rattle.std.proofs.Common.{◌++◌, List, ℕ, length, ap, ◌∙◌}
use Rattle.obf_wire.specs.Fields.{begun_section, section, short_field}
use Rattle.boxed_write.specs.Packed.{packed}
use Rattle.boxed_write.specs.Classes.{held}
use Rattle.boxed_write.proofs.Filled.{two_put}
use Rattle.poi_section.specs.Packed.{poi_packing}
use Rattle.poi_section.proofs.writing.put_group.Goals as goal

pub returns : goal.returns
returns c =
    let begun = c.in_ok-start.ensures in
    let out : List ℕ = c.args.out.now in
    let category : List ℕ = short_field 1 c.args.category.now in
    let records : List ℕ = section 2 (packed poi_packing (held c.args.records.now)) in
    c.end_section.ensures 1 out (category ++ records)
    (two_put (out ++ begun_section 1) category records c.begin_section.new.self c.put_short.new.self c.put_section.new.self begun.ok c.in_ok-put_short.ensures.ok
    (c.in_ok-put_section.ensures.ok ∙ ap (λ (bytes : List ℕ). c.put_short.new.self ++ section 2 bytes) (c.deref.ensures.value ∙ c.in_ok-write.ensures.ok ∙ ap (λ (bytes : List ℕ). bytes ++ packed poi_packing (held c.args.records.now)) c.new-boxes.ensures.items)))
    (begun.start ∙ ap length begun.ok)

use Rattle.std.proofs.Common.{◌++◌, List, ℕ, length, sym, subst, ap, ◌∙◌}
use Rattle.std.specs.List.{AllByRecursion}
use Rattle.obf_wire.specs.Fields.{section, begun_section}
use Rattle.text_table.specs.Tables.{table_bytes}
use Rattle.boxed_write.specs.Packed.{records_behind, texts_of}
use Rattle.boxed_write.specs.Classes.{items_of, IsNamedIn}
use Rattle.boxed_write.proofs.Filled.{two_put}
use Rattle.boxed_write.proofs.UsedTexts.{all_named}
use Rattle.boxed_write.proofs.blocks.put_block.Goals as goal

pub put_records-requires-clause-known : goal.put_records-requires-clause-known
put_records-requires-clause-known g c =
    let m = g.C.WriteClass in
    subst (λ (texts : List (List ℕ)). AllByRecursion (IsNamedIn m.packing texts) (items_of c.args.records.now)) (sym c.in_ok-texts.ensures) (all_named m.packing (items_of c.args.records.now))

pub returns : goal.returns
returns g c =
    let m = g.C.WriteClass in
    let begun = c.in_ok-start.ensures in
    let out : List ℕ = c.args.out.now in
    let items = items_of c.args.records.now in
    let texts : List (List ℕ) = texts_of m.packing items in
    let table : List ℕ = section 1 (table_bytes texts) in
    let records : List ℕ = records_behind m.packing texts 0 items in
    c.end_section.ensures 2 out (table ++ records)
    (two_put (out ++ begun_section 2) table records c.begin_section.new.self c.put_texts.new.out c.put_records.new.out begun.ok
    (c.in_ok-put_texts.ensures ∙ ap (λ (ts : List (List ℕ)). c.begin_section.new.self ++ section 1 (table_bytes ts)) c.in_ok-texts.ensures)
    (c.in_ok-put_records.ensures ∙ ap (λ (ts : List (List ℕ)). c.put_texts.new.out ++ records_behind m.packing ts 0 items) c.in_ok-texts.ensures))
    (begun.start ∙ ap length begun.ok)

use Rattle.std.proofs.Common.{◌++◌, ℕ, List, ap, length, ◌∙◌}
use Rattle.std.proofs.lemmas.Result.{on_ok_weaker}
use Rattle.obf_wire.specs.Fields.{begun_short, number_field, short_field}
use Rattle.file_grammar.specs.AddressRules.{first_of, last_of}
use Rattle.addr_section.specs.Packed.{key_or_empty}
use Rattle.addr_section.specs.Keyed.{addresses_of}
use Rattle.addr_section.proofs.Steps.{three_put}
use Rattle.addr_section.proofs.writing.put_entry.Goals as goal

pub returns : goal.returns
returns c =
    let begun = c.in_ok-start.ensures in
    let out : List ℕ = c.args.out.now in
    let first : List ℕ = key_or_empty (first_of (addresses_of c.args.keyed.now)) in
    let last : List ℕ = key_or_empty (last_of (addresses_of c.args.keyed.now)) in
    on_ok_weaker c.end_short.result
    (λ ended. ended 1 out (short_field 1 first ++ short_field 2 last ++ number_field 3 c.args.offset)
    (three_put (out ++ begun_short 1) (short_field 1 first) (short_field 2 last) (number_field 3 c.args.offset) c.begin_short.new.self c.put_short.new.self c.put_short-2.new.self c.put_number.new.self begun.ok
    (c.in_ok-put_short.ensures.ok ∙ ap (λ (k : List ℕ). c.begin_short.new.self ++ short_field 1 k) c.first_key.ensures)
    (c.in_ok-put_short-2.ensures.ok ∙ ap (λ (k : List ℕ). c.put_short.new.self ++ short_field 2 k) c.last_key.ensures)
    c.in_ok-put_number.ensures.ok)
    (begun.start ∙ ap length begun.ok))
    c.end_short.ensures.ok

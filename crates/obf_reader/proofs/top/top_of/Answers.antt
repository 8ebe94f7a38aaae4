use Rattle.std.proofs.Common.{◌≡◌, ◌∙◌, ap, arith, rules}
use Rattle.std.specs.Prelude.{◌==◌, true}
use Rattle.std.proofs.lemmas.Bool.{eq-eqb}
use Rattle.file_grammar.specs.Files.{version_of}
use Rattle.file_grammar.specs.Tables.{version_number}
use Rattle.obf_reader.proofs.FileWalk.{file_is}
use Rattle.obf_reader.proofs.top.top_of.Goals as goal

pub returns : goal.returns
returns c map addresses pois roads is_map are_addresses are_pois are_roads =
    let bytes = c.args.bytes.now in
    let number = c.number.ensures ∙ ap version_number c.of.ensures in
    let one : (c.in-Some.version.value == version_number (version_of bytes)) ≡ true = eq-eqb c.in-Some.version.value (version_number (version_of bytes)) (omega (arith, number)) in
    file_is c.args.bytes.now c.in-Some.version c.in-Some-keyed.head c.in-Some-keyed-2.rules c.in-Some-keyed-3.map c.in-Some-keyed-4.addresses c.in-Some-keyed-5.pois c.in-Some-keyed-6.roads c.in-Some-keyed-7.marks c.in-Some-keyed-8.again map addresses pois roads
    (record { read = c.in-Some.ensures.read; key_is = c.in-Some.ensures.key; inside = c.in-Some.ensures.inside })
    (record { read = c.in-Some-keyed.ensures.read; key_is = c.in-Some-keyed.ensures.key; inside = c.in-Some-keyed.ensures.inside })
    (record { read = c.in-Some-keyed-2.ensures.read; key_is = c.in-Some-keyed-2.ensures.key; inside = c.in-Some-keyed-2.ensures.inside })
    (record { read = c.in-Some-keyed-3.ensures.read; key_is = c.in-Some-keyed-3.ensures.key; inside = c.in-Some-keyed-3.ensures.inside })
    (record { read = c.in-Some-keyed-4.ensures.read; key_is = c.in-Some-keyed-4.ensures.key; inside = c.in-Some-keyed-4.ensures.inside })
    (record { read = c.in-Some-keyed-5.ensures.read; key_is = c.in-Some-keyed-5.ensures.key; inside = c.in-Some-keyed-5.ensures.inside })
    (record { read = c.in-Some-keyed-6.ensures.read; key_is = c.in-Some-keyed-6.ensures.key; inside = c.in-Some-keyed-6.ensures.inside })
    (record { read = c.in-Some-keyed-7.ensures.read; key_is = c.in-Some-keyed-7.ensures.key; inside = c.in-Some-keyed-7.ensures.inside })
    (record { read = c.in-Some-keyed-8.ensures.read; key_is = c.in-Some-keyed-8.ensures.key; inside = c.in-Some-keyed-8.ensures.inside })
    (omega arith) one
    (let h = c.if-not-is_form.ensures in search rules) (let h = c.if-not-is_form-2.ensures in search rules) is_map are_addresses are_pois are_roads

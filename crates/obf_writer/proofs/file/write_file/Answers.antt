use Rattle.std.proofs.Common.{◌≡◌, ◌^◌, ◌<◌, ◌++◌, ℕ, List, length, map, ap, sym, subst, ◌∙◌, arith}
use Rattle.live_model.specs.Ids.{ordinal}
use Rattle.live_model.specs.Rules.{rules_text}
use Rattle.file_grammar.specs.Files.{head_numbers}
use Rattle.obf_wire.specs.Fields.{section, number_field, short_field}
use Rattle.map_section.specs.Packed.{packed_map}
use Rattle.addr_section.specs.Packed.{packed_addresses}
use Rattle.poi_section.specs.Packed.{packed_pois}
use Rattle.road_section.specs.Routing.{packed_routing}
use Rattle.obf_writer.specs.Classes.{addresses_in, bans_in, maps_in, pois_in, roads_in}
use Rattle.obf_writer.specs.PackedFile.{IsPackedFile, head_bytes, marks_bytes, packed_file}
use Rattle.obf_writer.proofs.Given.{given_parts}
use Rattle.obf_writer.proofs.PackedFiles.{packed_file_law}
use Rattle.obf_writer.proofs.Parts.{file_is, four_put}
use Rattle.obf_writer.proofs.file.write_file.Goals as goal

pub returns : goal.returns
unfolding packed_file
returns c =
    let records = c.args.records.now in
    let numbers : List ℕ = head_bytes (head_numbers c.args.head.now) in
    let head_is : c.deref.result.now ≡ numbers = c.deref.ensures.value ∙ c.in_ok-head.ensures.bytes in
    let marks_are : c.deref-2.result.now ≡ marks_bytes (map ordinal c.args.marks.now) = c.deref-2.ensures.value ∙ c.in_ok-marks.ensures.bytes in
    let front : List ℕ = c.new-out.result ++ number_field 1 2 in
    let s = c.in_ok-sections.ensures in
    let packed : c.finish.result.items ≡ packed_file (head_numbers c.args.head.now) c.args.rules.now (map ordinal c.args.marks.now) records =
    c.finish.ensures
    ∙ file_is (number_field 1 2) (short_field 2 numbers) (short_field 3 (rules_text c.args.rules.now)) (section 6 (packed_map (maps_in records)))
    (section 7 (packed_addresses (addresses_in records))) (section 8 (packed_pois (pois_in records))) (section 9 (packed_routing (roads_in records) (bans_in records)))
    (section 16 (marks_bytes (map ordinal c.args.marks.now))) (number_field 32 2)
    c.new-out.result c.put_front.new.out c.put_sections.new.out c.put_section.new.self c.put_number.new.self
    c.new-out.ensures
    (c.in_ok-put_front.ensures
    ∙ ap (λ (bytes : List ℕ). front ++ short_field 2 bytes ++ short_field 3 c.text.result.now) head_is
    ∙ ap (λ (bytes : List ℕ). front ++ short_field 2 numbers ++ short_field 3 bytes) c.text.ensures.text)
    (c.in_ok-put_sections.ensures ∙ four_put c.put_front.new.out s.map s.addresses s.pois s.roads)
    (c.in_ok-put_section.ensures.ok ∙ ap (λ (bytes : List ℕ). c.put_sections.new.out ++ section 16 bytes) marks_are)
    c.in_ok-put_number.ensures.ok in
    let parts = given_parts c.args.head.now c.args.rules.now c.args.marks.now records (c.in_ok-head.ensures.good.1 c.requires.good) (c.text.ensures.rules, c.text.ensures.few)
    c.requires.rise c.in_ok-marks.ensures.ids c.requires.base c.requires.sorted c.requires.fit c.requires.marked in
    let short : length (packed_file (head_numbers c.args.head.now) c.args.rules.now (map ordinal c.args.marks.now) records) < 2 ^ 64 =
    subst (λ (bytes : List ℕ). length bytes < 2 ^ 64) packed (omega (arith, c.finish.result.small)) in
    subst (λ (bytes : List ℕ). IsPackedFile bytes (head_numbers c.args.head.now) c.args.rules.now (map ordinal c.args.marks.now) records) (sym packed)
    (packed_file_law (head_numbers c.args.head.now) c.args.rules.now (map ordinal c.args.marks.now) records parts short)

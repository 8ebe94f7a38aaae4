use Rattle.std.proofs.Common.{◌≡◌, ◌∙◌, ap}
use Rattle.file_grammar.specs.declared.parts.Boxed.TheVariants.{Map}
use Rattle.file_grammar.specs.declared.parts.Version.{Version}
use Rattle.file_grammar.specs.BoxRules.{Beside}
use Rattle.file_grammar.specs.Facts.{earlier}
use Rattle.file_grammar.specs.Files.{version_of}
use Rattle.file_grammar.specs.MapRules.{map_boxing}
use Rattle.boxed_exact.specs.Breaks.{section_break}
use Rattle.boxed_exact.specs.Sides.{beside}
use Rattle.addr_section.specs.Breaks.{addresses_break}
use Rattle.poi_section.specs.Groups.{pois_break}
use Rattle.road_section.specs.Routing.{routing_break}
use Rattle.obf_reader.specs.Spread.{window_of}
use Rattle.obf_reader.proofs.Checked.{four_asked}
use Rattle.obf_reader.proofs.sections.ask_sections.Goals as goal

pub returns : goal.returns
returns c =
    let side : Beside = beside c.args.around.now in
    let bytes = c.args.bytes.now in
    let s = c.args.sections.now in
    let of_map : c.in_ok-found.found ≡ section_break Map map_boxing side (window_of bytes s.map) =
    c.in_ok-found.ensures ∙ ap (section_break Map map_boxing side) c.window_at.ensures in
    let of_addresses : c.in_ok-found-2.found ≡ addresses_break (version_of bytes) side (window_of bytes s.addresses) =
    c.in_ok-found-2.ensures ∙ ap (addresses_break c.of-version.result side) c.window_at-2.ensures
    ∙ ap (λ (v : Version). addresses_break v side (window_of bytes s.addresses)) c.of-version.ensures in
    let of_pois : c.in_ok-found-3.found ≡ pois_break side (window_of bytes s.pois) = c.in_ok-found-3.ensures ∙ ap (pois_break side) c.window_at-3.ensures in
    let of_roads : c.in_ok-found-4.found ≡ routing_break side (window_of bytes s.roads) = c.in_ok-found-4.ensures ∙ ap (routing_break side) c.window_at-4.ensures in
    four_asked c.args.first.now _ _ _ _ c.ask_found.new.first c.ask_found-2.new.first c.ask_found-3.new.first c.ask_found-4.new.first
    (c.ask_found.ensures ∙ ap (earlier c.args.first.now) of_map) (c.ask_found-2.ensures ∙ ap (earlier c.ask_found.new.first) of_addresses)
    (c.ask_found-3.ensures ∙ ap (earlier c.ask_found-2.new.first) of_pois) (c.ask_found-4.ensures ∙ ap (earlier c.ask_found-3.new.first) of_roads)

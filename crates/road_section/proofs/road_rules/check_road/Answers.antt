use Rattle.std.proofs.Common.{false}
use Rattle.std.specs.Prelude.{◌&&◌, nat_le, slice_get}
use Rattle.std.specs.Option.{option_map_or}
use Rattle.obf_wire.specs.declared.file.FileKind.TheVariants.{BadOrder, BadId, BadRef, BadPoint, BadMark}
use Rattle.file_grammar.specs.BoxRules.{is_marked, is_ordinal, is_way}
use Rattle.file_grammar.specs.Facts.{fact}
use Rattle.file_grammar.specs.RoadRules.{makes_roads}
use Rattle.boxed_exact.specs.Sides.{beside}
use Rattle.boxed_exact.proofs.RecordWalk.{asked_is}
use Rattle.road_section.specs.SeenFacts.{may_follow, names_value}
use Rattle.road_section.proofs.Checked.{asked_eight}
use Rattle.road_section.proofs.road_rules.check_road.Goals as goal

pub returns : goal.returns
returns c there held =
    let seen = c.args.road.now in
    let f = seen.fields in
    let around = beside c.args.around.now in
    let one = asked_is c.args.first.now c.ask.new.self seen.at BadOrder c.may_follow.result (may_follow c.args.before seen.ordinal) c.ask.ensures c.may_follow.ensures in
    let two = asked_is c.ask.new.self c.ask-2.new.self f.step.at BadId c.is_id.result (is_ordinal seen.ordinal && is_way seen.ordinal) c.ask-2.ensures c.is_id.ensures in
    let three = asked_is c.ask-2.new.self c.ask-3.new.self f.step.at BadMark c.is_marked.result (is_marked around.marks seen.ordinal) c.ask-3.ensures c.is_marked.ensures in
    let four = asked_is c.ask-3.new.self c.ask-4.new.self f.rule.at BadRef c.is_made_by.result (option_map_or makes_roads (slice_get around.rules f.rule.value) false) c.ask-4.ensures c.is_made_by.ensures in
    let five = asked_is c.ask-4.new.self c.ask-5.new.self f.value.at BadRef c.names_value.result (names_value around.rules there f.rule.value f.value.value) c.ask-5.ensures (c.names_value.ensures there held) in
    let eight = asked_is c.ask-7.new.self c.ask-8.new.self f.nodes.at BadPoint c.are_nodes.result (seen.nodes.on_grid && nat_le 2 seen.nodes.count) c.ask-8.ensures c.are_nodes.ensures in
    asked_eight c.args.first.now c.ask.new.self c.ask-2.new.self c.ask-3.new.self c.ask-4.new.self c.ask-5.new.self c.ask-6.new.self c.ask-7.new.self c.ask-8.new.self
    (fact seen.at BadOrder (may_follow c.args.before seen.ordinal))
    (fact f.step.at BadId (is_ordinal seen.ordinal && is_way seen.ordinal))
    (fact f.step.at BadMark (is_marked around.marks seen.ordinal))
    (fact f.rule.at BadRef (option_map_or makes_roads (slice_get around.rules f.rule.value) false))
    (fact f.value.at BadRef (names_value around.rules there f.rule.value f.value.value))
    (fact f.direction.at BadRef (nat_le f.direction.value 2))
    (fact f.nodes.at BadId seen.nodes.numbered)
    (fact f.nodes.at BadPoint (seen.nodes.on_grid && nat_le 2 seen.nodes.count))
    one two three four five c.ask-6.ensures c.ask-7.ensures eight

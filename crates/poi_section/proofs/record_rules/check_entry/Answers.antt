use Rattle.std.specs.Prelude.{◌&&◌, ◌==◌, nat_le}
use Rattle.obf_wire.specs.declared.file.FileKind.TheVariants.{BadOrder, BadId, BadRef, BadPoint, BadMark}
use Rattle.file_grammar.specs.BoxRules.{is_marked, is_ordinal}
use Rattle.file_grammar.specs.Facts.{fact}
use Rattle.file_grammar.specs.RecordRules.{is_node_or_way}
use Rattle.boxed_exact.specs.Sides.{beside}
use Rattle.boxed_exact.proofs.RecordWalk.{asked_is}
use Rattle.poi_section.specs.EntryFacts.{may_follow}
use Rattle.poi_section.proofs.RecordFacts.{asked_five}
use Rattle.poi_section.proofs.record_rules.check_entry.Goals as goal

pub returns : goal.returns
returns c =
    let seen = c.args.entry.now in
    let around = beside c.args.around.now in
    let one = asked_is c.args.first.now c.ask.new.self seen.at BadOrder c.may_follow.result (may_follow c.args.before seen.ordinal) c.ask.ensures c.may_follow.ensures in
    let two = asked_is c.ask.new.self c.ask-2.new.self seen.fields.step.at BadId c.is_id.result (is_ordinal seen.ordinal && is_node_or_way seen.ordinal) c.ask-2.ensures c.is_id.ensures in
    let three = asked_is c.ask-2.new.self c.ask-3.new.self seen.fields.step.at BadMark c.is_marked.result (is_marked around.marks seen.ordinal) c.ask-3.ensures c.is_marked.ensures in
    let five = asked_is c.ask-4.new.self c.ask-5.new.self seen.fields.points.at BadPoint c.is_one_location.result (seen.points.on_grid && (seen.points.count == 1)) c.ask-5.ensures c.is_one_location.ensures in
    asked_five c.args.first.now c.ask.new.self c.ask-2.new.self c.ask-3.new.self c.ask-4.new.self c.ask-5.new.self
    (fact seen.at BadOrder (may_follow c.args.before seen.ordinal))
    (fact seen.fields.step.at BadId (is_ordinal seen.ordinal && is_node_or_way seen.ordinal))
    (fact seen.fields.step.at BadMark (is_marked around.marks seen.ordinal))
    (fact seen.fields.name.at BadRef (nat_le seen.fields.name.value c.args.texts))
    (fact seen.fields.points.at BadPoint (seen.points.on_grid && (seen.points.count == 1)))
    one two three c.ask-4.ensures five

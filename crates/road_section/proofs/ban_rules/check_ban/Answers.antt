use Rattle.std.specs.Prelude.{◌&&◌, ◌==◌, nat_le}
use Rattle.obf_wire.specs.Zigzag.{unzigzag}
use Rattle.obf_wire.specs.declared.file.FileKind.TheVariants.{BadOrder, BadId, BadRef, BadPoint, BadMark}
use Rattle.file_grammar.specs.BoxRules.{is_marked, is_ordinal}
use Rattle.file_grammar.specs.Facts.{fact}
use Rattle.file_grammar.specs.RecordRules.{is_object_number, is_relation}
use Rattle.boxed_exact.specs.Sides.{beside}
use Rattle.boxed_exact.proofs.RecordWalk.{asked_is}
use Rattle.road_section.specs.SeenFacts.{may_follow}
use Rattle.road_section.proofs.Checked.{asked_eight}
use Rattle.road_section.proofs.ban_rules.check_ban.Goals as goal

pub returns : goal.returns
returns c =
    let seen = c.args.ban.now in
    let f = seen.fields in
    let around = beside c.args.around.now in
    let one = asked_is c.args.first.now c.ask.new.self seen.at BadOrder c.may_follow.result (may_follow c.args.before seen.ordinal) c.ask.ensures c.may_follow.ensures in
    let two = asked_is c.ask.new.self c.ask-2.new.self f.step.at BadId c.is_id.result (is_ordinal seen.ordinal && is_relation seen.ordinal) c.ask-2.ensures c.is_id.ensures in
    let three = asked_is c.ask-2.new.self c.ask-3.new.self f.step.at BadMark c.is_marked.result (is_marked around.marks seen.ordinal) c.ask-3.ensures c.is_marked.ensures in
    let five = asked_is c.ask-4.new.self c.ask-5.new.self f.from.at BadId c.is_number.result (is_object_number (unzigzag f.from.value)) c.ask-5.ensures c.is_number.ensures in
    let six = asked_is c.ask-5.new.self c.ask-6.new.self f.via.at BadId c.is_number-2.result (is_object_number (unzigzag f.via.value)) c.ask-6.ensures c.is_number-2.ensures in
    let seven = asked_is c.ask-6.new.self c.ask-7.new.self f.to.at BadId c.is_number-3.result (is_object_number (unzigzag f.to.value)) c.ask-7.ensures c.is_number-3.ensures in
    let eight = asked_is c.ask-7.new.self c.ask-8.new.self f.points.at BadPoint c.is_one_point.result (seen.points.on_grid && (seen.points.count == 1)) c.ask-8.ensures c.is_one_point.ensures in
    asked_eight c.args.first.now c.ask.new.self c.ask-2.new.self c.ask-3.new.self c.ask-4.new.self c.ask-5.new.self c.ask-6.new.self c.ask-7.new.self c.ask-8.new.self
    (fact seen.at BadOrder (may_follow c.args.before seen.ordinal))
    (fact f.step.at BadId (is_ordinal seen.ordinal && is_relation seen.ordinal))
    (fact f.step.at BadMark (is_marked around.marks seen.ordinal))
    (fact f.value.at BadRef (nat_le f.value.value c.args.texts))
    (fact f.from.at BadId (is_object_number (unzigzag f.from.value)))
    (fact f.via.at BadId (is_object_number (unzigzag f.via.value)))
    (fact f.to.at BadId (is_object_number (unzigzag f.to.value)))
    (fact f.points.at BadPoint (seen.points.on_grid && (seen.points.count == 1)))
    one two three c.ask-4.ensures five six seven eight

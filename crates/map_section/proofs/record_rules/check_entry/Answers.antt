use Rattle.std.proofs.Common.{false}
use Rattle.std.specs.Prelude.{◌&&◌, nat_le, slice_get}
use Rattle.std.specs.Option.{option_map_or}
use Rattle.obf_wire.specs.declared.file.FileKind.TheVariants.{BadOrder, BadId, BadRef, BadPoint, BadMark}
use Rattle.file_grammar.specs.BoxRules.{is_marked, is_ordinal}
use Rattle.file_grammar.specs.Facts.{fact}
use Rattle.file_grammar.specs.MapRules.{draws, is_count_for, is_drawn_of}
use Rattle.map_section.specs.EntryFacts.{may_follow}
use Rattle.boxed_exact.specs.Sides.{beside}
use Rattle.boxed_exact.proofs.RecordWalk.{asked_is}
use Rattle.map_section.proofs.RecordFacts.{asked_seven}
use Rattle.map_section.proofs.record_rules.check_entry.Goals as goal

pub returns : goal.returns
returns c =
    let seen = c.args.entry.now in
    let around = beside c.args.around.now in
    let shape = seen.fields.shape.value in
    let one = asked_is c.args.first.now c.ask.new.self seen.at BadOrder c.may_follow.result (may_follow c.args.before (record { ordinal = seen.ordinal; rule = seen.fields.rule.value })) c.ask.ensures c.may_follow.ensures in
    let two = asked_is c.ask.new.self c.ask-2.new.self seen.fields.step.at BadId c.is_id.result (is_ordinal seen.ordinal && is_drawn_of shape seen.ordinal) c.ask-2.ensures c.is_id.ensures in
    let three = asked_is c.ask-2.new.self c.ask-3.new.self seen.fields.step.at BadMark c.is_marked.result (is_marked around.marks seen.ordinal) c.ask-3.ensures c.is_marked.ensures in
    let four = asked_is c.ask-3.new.self c.ask-4.new.self seen.fields.rule.at BadRef c.is_drawn_by.result (option_map_or (draws shape) (slice_get around.rules seen.fields.rule.value) false) c.ask-4.ensures c.is_drawn_by.ensures in
    let seven = asked_is c.ask-6.new.self c.ask-7.new.self seen.fields.points.at BadPoint c.are_points.result (seen.points.on_grid && is_count_for shape seen.points.count) c.ask-7.ensures c.are_points.ensures in
    asked_seven c.args.first.now c.ask.new.self c.ask-2.new.self c.ask-3.new.self c.ask-4.new.self c.ask-5.new.self c.ask-6.new.self c.ask-7.new.self
    (fact seen.at BadOrder (may_follow c.args.before (record { ordinal = seen.ordinal; rule = seen.fields.rule.value })))
    (fact seen.fields.step.at BadId (is_ordinal seen.ordinal && is_drawn_of shape seen.ordinal))
    (fact seen.fields.step.at BadMark (is_marked around.marks seen.ordinal))
    (fact seen.fields.rule.at BadRef (option_map_or (draws shape) (slice_get around.rules seen.fields.rule.value) false))
    (fact seen.fields.shape.at BadRef (nat_le shape 2))
    (fact seen.fields.name.at BadRef (nat_le seen.fields.name.value c.args.texts))
    (fact seen.fields.points.at BadPoint (seen.points.on_grid && is_count_for shape seen.points.count))
    one two three four c.ask-5.ensures c.ask-6.ensures seven

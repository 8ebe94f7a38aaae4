use Rattle.std.proofs.Common.{ℕ, ap, ◌∙◌}
use Rattle.std.specs.Prelude.{◌&&◌, ◌==◌, not}
use Rattle.std.specs.Str.{is_utf8}
use Rattle.live_model.specs.Records.{is_empty}
use Rattle.obf_wire.specs.declared.file.FileKind.TheVariants.{BadText, BadOrder, BadId, BadRef, BadPoint, BadMark}
use Rattle.file_grammar.specs.AddressRules.{is_addressed, is_key_of, is_kind_in, is_number_for}
use Rattle.file_grammar.specs.BoxRules.{is_marked, is_ordinal}
use Rattle.file_grammar.specs.Facts.{fact}
use Rattle.boxed_exact.specs.Sides.{beside}
use Rattle.boxed_exact.proofs.RecordWalk.{asked_is}
use Rattle.addr_section.specs.Seen.{lang_seen, may_follow, sort_key}
use Rattle.addr_section.proofs.AddressAsking.{asked_nine, follows_same}
use Rattle.addr_section.proofs.address_rules.check_address.Goals as goal

pub returns : goal.returns
returns c =
    let s = c.args.seen.now in
    let side = beside c.args.around.now in
    let kind = s.kind.value in
    let ordinal = s.ordinal.value in
    let named = is_key_of s.name.text.now s.key.text.now in
    let name = is_utf8 s.name.text.now && not (is_empty s.name.text.now) in
    let order = may_follow c.args.before (sort_key s) in
    let id = is_ordinal ordinal && is_addressed kind ordinal in
    let mark = is_marked side.marks ordinal in
    let listed = is_kind_in c.args.houses kind in
    let number = is_number_for kind s.number.text.now in
    let point = s.points.on_grid && (s.points.count == 1) in
    asked_nine c.args.first.now c.ask.new.self c.ask-2.new.self c.ask-3.new.self c.ask-4.new.self c.ask-5.new.self c.ask-6.new.self c.ask-7.new.self c.ask-8.new.self c.ask_lang.new.first
    (fact s.at BadOrder order) (fact s.ordinal.at BadId id) (fact s.ordinal.at BadMark mark) (fact s.kind.at BadRef listed) (fact s.key.at BadText named) (fact s.name.at BadText name) (fact s.number.at BadText number) (fact s.points_at BadPoint point)
    (lang_seen kind s.lang)
    (asked_is c.args.first.now c.ask.new.self s.at BadOrder c.may_follow.result order c.ask.ensures (c.may_follow.ensures ∙ follows_same c.args.before c.sort_key.result (sort_key s) c.sort_key.ensures))
    (asked_is c.ask.new.self c.ask-2.new.self s.ordinal.at BadId c.is_id.result id c.ask-2.ensures c.is_id.ensures)
    (asked_is c.ask-2.new.self c.ask-3.new.self s.ordinal.at BadMark c.is_marked.result mark c.ask-3.ensures (c.is_marked.ensures ∙ ap (λ (n : ℕ). is_marked side.marks n) c.from.ensures))
    (asked_is c.ask-3.new.self c.ask-4.new.self s.kind.at BadRef c.is_kind_in.result listed c.ask-4.ensures c.is_kind_in.ensures)
    (asked_is c.ask-4.new.self c.ask-5.new.self s.key.at BadText c.in_ok-named.named named c.ask-5.ensures c.in_ok-named.ensures)
    (asked_is c.ask-5.new.self c.ask-6.new.self s.name.at BadText c.is_name.result name c.ask-6.ensures c.is_name.ensures)
    (asked_is c.ask-6.new.self c.ask-7.new.self s.number.at BadText c.is_number_for.result number c.ask-7.ensures c.is_number_for.ensures)
    (asked_is c.ask-7.new.self c.ask-8.new.self s.points_at BadPoint c.is_one_location.result point c.ask-8.ensures c.is_one_location.ensures)
    c.ask_lang.ensures

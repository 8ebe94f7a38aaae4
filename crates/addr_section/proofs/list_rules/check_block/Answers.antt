use Rattle.std.proofs.Common.{◌≡◌, List, Ok, sym, subst}
use Rattle.obf_wire.specs.Fields.{Window}
use Rattle.file_grammar.specs.declared.parts.Part.TheVariants.{KeyedBlock as BlockPart}
use Rattle.file_grammar.specs.AddressRules.{Address}
use Rattle.file_grammar.specs.Readings.{message_at}
use Rattle.boxed_exact.specs.Sides.{beside}
use Rattle.addr_section.specs.Asked.{IsBlockAsked}
use Rattle.addr_section.proofs.ListAsking.{pair_asked}
use Rattle.addr_section.proofs.list_rules.check_block.Goals as goal

pub returns : goal.returns
returns c keys it prev keys_are kept was =
    let side = beside c.args.around.now in
    let start = c.args.first.now in
    let mid = c.check_addresses.new.first in
    let seen = c.in_ok-seen.seen in
    let read = subst (λ (w : Window). message_at (BlockPart c.args.version) w ≡ Ok kept.fields) (sym (c.window_at-window.ensures.range kept.inside)) kept.read in
    let asked : IsBlockAsked c.args.houses side prev it.addresses start mid seen =
    subst (λ (xs : List Address). IsBlockAsked c.args.houses side prev xs start mid seen) (sym kept.is) (c.in_ok-seen.ensures kept.fields prev read was) in
    let named = c.ask_block.ensures keys it keys_are (sym kept.at_is) asked.count asked.first asked.last in
    pair_asked c.args.houses side c.args.start keys prev it start mid named.mid c.ask_block.new.first seen asked named.count named.pair

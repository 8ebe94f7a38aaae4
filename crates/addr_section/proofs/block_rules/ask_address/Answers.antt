use Rattle.boxed_exact.specs.Sides.{beside}
use Rattle.addr_section.proofs.AddressAsking.{address_asked}
use Rattle.addr_section.proofs.block_rules.ask_address.Goals as goal

pub returns : goal.returns
returns c fields prev read is =
    address_asked c.args.houses (beside c.args.around.now) prev c.args.before c.args.at fields c.args.first.now c.check_address.new.first c.read_address-seen.result c.sort_key.result
    (c.read_address-seen.ensures fields read) is c.in_ok-check_address.ensures c.sort_key.ensures

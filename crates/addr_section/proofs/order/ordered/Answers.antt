use Rattle.std.specs.Prelude.{filter}
use Rattle.live_model.specs.Fits.{FitsAddress}
use Rattle.ordered_lists.proofs.PutAll.{all_filter}
use Rattle.boxed_write.specs.Classes.{held}
use Rattle.boxed_write.proofs.Sorting.{all_moved}
use Rattle.addr_section.specs.Packed.{is_listed}
use Rattle.addr_section.specs.Keyed.{IsKeyed}
use Rattle.addr_section.proofs.Orders.{keyed_sorted}
use Rattle.addr_section.proofs.order.ordered.Goals as goal

pub returns-clause-addresses : goal.returns-clause-addresses
returns-clause-addresses c =
    let records = held c.args.records.now in
    keyed_sorted (filter (is_listed c.args.houses) records) c.in_ok-keyed.keyed.items c.sort_keyed.new.keyed.items (all_filter FitsAddress (is_listed c.args.houses) records c.requires) c.in_ok-keyed.ensures.addresses c.in_ok-keyed.ensures.keys
    c.sort_keyed.ensures.all c.sort_keyed.ensures.sorted

pub returns-clause-keys : goal.returns-clause-keys
returns-clause-keys c = all_moved IsKeyed c.in_ok-keyed.keyed.items c.sort_keyed.new.keyed.items c.sort_keyed.ensures.all c.in_ok-keyed.ensures.keys

use Rattle.change_diff.proofs.Joining.{put_in_turn}
use Rattle.change_diff.proofs.records.put_records.Goals as goal

pub returns-clause-records : goal.returns-clause-records
returns-clause-records g c =
    put_in_turn c.args.rules.now c.args.look.now c.args.id.now c.args.records.now.items c.put_maps.new.records.items c.put_pois.new.records.items c.put_addresses.new.records.items c.append.new.self.items c.in_ok-roads.roads.items
    c.in_ok-derive.field-0.items c.in_ok-derive-2.field-0.items c.in_ok-derive-3.field-0.items
    c.in_ok-derive.ensures.records c.in_ok-derive-2.ensures.records c.in_ok-derive-3.ensures.records c.in_ok-roads.ensures.records
    c.in_ok-put_maps.ensures c.in_ok-put_pois.ensures c.in_ok-put_addresses.ensures c.in_ok-append.ensures.items

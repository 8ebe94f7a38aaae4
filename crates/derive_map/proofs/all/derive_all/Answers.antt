use Rattle.std.proofs.Common.{ap, length, arith}
use Rattle.std.specs.List.{flat_map}
use Rattle.derive_map.proofs.WholeMaps.{drawn_whole, made, one_more}
use Rattle.derive_map.proofs.RecordOrder.{drawn_sorted}
use Rattle.derive_map.proofs.FittingRecords.{drawn_fit}
use Rattle.derive_map.proofs.all.derive_all.Goals as goal

pub returns-clause-records : goal.returns-clause-records
returns-clause-records g c =
    drawn_whole c.args.rules.now c.args.store.now.entities c.loop-entity.entity-iterator c.loop-entity.records.items c.entities-entity-items.ensures.rising c.in-None.ensures.steps.0 c.loop-entity.invariant.records

pub returns-clause-sorted : goal.returns-clause-sorted
returns-clause-sorted g c =
    drawn_sorted c.args.rules.now c.args.store.now.entities c.entities-entity-items.ensures.rising c.loop-entity.records.items (returns-clause-records g c)

pub returns-clause-fit : goal.returns-clause-fit
returns-clause-fit g c = λ good. drawn_fit c.args.rules.now c.args.store.now.entities good c.loop-entity.records.items (returns-clause-records g c) c.loop-entity.invariant.named

pub loop-entity-preserved : goal.loop-entity-preserved
loop-entity-preserved g c = record {
  records =
      one_more c.args.rules.now c.args.store.now.entities c.now-look.result c.loop-entity.entity-iterator c.next.new.self c.in-Some.entity.now c.loop-entity.records.items c.put_records.new.records.items
      (flat_map (made c.args.rules.now c.args.store.now.entities) c.args.store.now.entities) c.now-look.ensures c.in-Some.ensures.steps c.in_ok-put_records.ensures.records c.loop-entity.invariant.records;
  named = c.in_ok-put_records.ensures.named c.loop-entity.invariant.named;
  counted = let one = ap length c.in-Some.ensures.steps in omega (arith, one, c.tick.ensures, c.loop-entity.invariant.counted);
}

use Rattle.boxed_write.specs.Classes.{held}
use Rattle.map_laws.specs.Laws.{untouched_by}
use Rattle.fold_merge.specs.Folds.{overlays_of}
use Rattle.fold_merge.proofs.Sectioned.{image_kept}
use Rattle.fold_merge.proofs.records.put_image.Goals as goal

pub returns : goal.returns
returns g c =
    image_kept c.args.image.now c.bytes.ensures.file (untouched_by (overlays_of (held c.args.later.now)))
    c.args.records.now.items c.put_boxed.new.records.items c.put_addresses.new.records.items c.put_pois.new.records.items c.put_boxed-2.new.records.items c.put_boxed-3.new.records.items
    c.map.result c.addresses.result c.pois.result c.roads.result c.restrictions.result
    c.map.ensures c.addresses.ensures.records c.pois.ensures c.roads.ensures c.restrictions.ensures
    c.in_ok-put_boxed.ensures c.in_ok-put_addresses.ensures c.in_ok-put_pois.ensures c.in_ok-put_boxed-2.ensures c.in_ok-put_boxed-3.ensures

use Rattle.change_image.proofs.MarkedRecords.{marked_again}
use Rattle.change_image.proofs.hour.hour_image.Goals as goal

pub pack-requires-clause-marked : goal.pack-requires-clause-marked
pack-requires-clause-marked c = λ above.
    marked_again c.args.change.now.marks.items c.deref.result.now c.args.change.now.records.items c.deref-2.result.now c.deref.ensures.value c.deref-2.ensures.value c.requires.marked

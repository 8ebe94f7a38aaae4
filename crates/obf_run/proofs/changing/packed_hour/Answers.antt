use Rattle.obf_run.proofs.Changes.{marked_records}
use Rattle.obf_run.proofs.changing.packed_hour.Goals as goal

pub packed-requires-clause-marked : goal.packed-requires-clause-marked
packed-requires-clause-marked g c = λ above.
    marked_records c.in_ok-change.change.marks.items c.deref.result.now c.in_ok-change.change.records.items c.deref-2.result.now c.deref.ensures.value c.deref-2.ensures.value
    (c.in_ok-change.ensures.written (record { good = c.requires.good; indexed = c.in_ok-index.ensures.index; good_lines = c.requires.good_lines })).marked

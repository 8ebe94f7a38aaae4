use Rattle.obf_run.proofs.Outcomes.{image_checked}
use Rattle.obf_run.proofs.jobs.image_line.Goals as goal

pub returns : goal.returns
returns c =
    image_checked c.args.image.now c.head.result.now c.mark_count.result c.record_count.result c.in_ok-line.line.items c.images_are_files.ensures c.head.ensures.good
    c.head.ensures.head c.in_ok-line.ensures.civil c.mark_count.ensures c.record_count.ensures c.in_ok-line.ensures.line

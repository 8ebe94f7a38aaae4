use Rattle.live_session.proofs.Counts.{counted}
use Rattle.live_session.proofs.printing.images_count_their_records.Goals as goal

pub returns : goal.returns
returns c = counted c.args.image.now c.bytes.ensures.file

use Rattle.std.proofs.Common.{map}
use Rattle.std.specs.Arc.{arc_value}
use Rattle.run_model.specs.Endings.{name_bytes}
use Rattle.obf_run.proofs.HeldImages.{image_read}
use Rattle.obf_run.proofs.images.read_next.Goals as goal

pub returns-in-Ok-clause-read : goal.returns-in-Ok-clause-read
returns-in-Ok-clause-read g c =
    image_read _ _ (name_bytes c.args.file) c.in_ok-image.image (map arc_value c.args.images.now.items) (map arc_value c.put_image.new.images.items) c.in_ok-image.ensures.image c.is_held.ensures
    c.in-Ok.ensures

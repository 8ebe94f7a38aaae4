use Rattle.std.proofs.Common.{subst}
use Rattle.std.specs.Prelude.{IfSome}
use Rattle.stamp_core.specs.Hours.{IsCivilHour}
use Rattle.stamp_core.specs.declared.head.Head.{Head}
use Rattle.obf_run.proofs.HeldImages.{image_held}
use Rattle.run_history.proofs.shown.is_told.Goals as goal

pub returns : goal.returns
returns c =
    image_held c.args.image.now c.bytes.ensures.file (subst (λ (h : Head). IfSome h.first IsCivilHour) c.head-head.ensures.head c.is_hour.ensures)
    (subst (λ (h : Head). IfSome h.last IsCivilHour) c.head-head.ensures.head c.is_hour-2.ensures)
